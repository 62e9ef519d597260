-- Messages and answers as the numbers by which they cross to other languages.
use Rattle.std.specs.Prelude.{ℕ, ◌+◌, ◌*◌, ◌-◌, ◌≡◌}
use Rattle.std.proofs.Common.{◌∙◌}
use Rattle.frames.specs.declared.Message.{Message}
use Rattle.frames.specs.declared.Message.TheVariants.{Set, SetDone, Enter, Entered, WhichKeys, Keys, Get, Got, GetAll, All, GetLog, Log}
use Rattle.frames.specs.Reading.{Reading}
use Rattle.frames.specs.Reading as reading
use Rattle.frames.specs.Written.{Written}
use Rattle.frames.specs.Written as written
use Rattle.frame_exports.specs.declared.Parts.{Parts}

-- 2^64 - 1 less the number of the refusal
abbrev pub refused_number : ℕ → ℕ
refused_number n = 18446744073709551615 - n

-- kind, client, server, tag, and the key's count and client, as digits to the base 256, and behind them the badge, which has two digits
abbrev pub digits_of : ℕ → ℕ → ℕ → ℕ → ℕ → ℕ → ℕ → ℕ
digits_of kind client server tag count owner badge =
    (((((kind * 256 + client) * 256 + server) * 256 + tag) * 256 + count) * 256 + owner) * 65536 + badge

abbrev pub pair_of : ℕ → ℕ → ℕ
pair_of entries number = entries * 4294967296 + number

-- what is fixed in a message but its number; what its kind lacks is 0
abbrev pub head_of : Message → ℕ
head_of (Set client server key badge setpoint) = digits_of 1 client server 0 key.count key.client badge
head_of (SetDone client server) = digits_of 2 client server 0 0 0 0
head_of (Enter client key mask) = digits_of 3 client 0 0 key.count key.client 0
head_of (Entered client tag) = digits_of 4 client 0 tag 0 0 0
head_of (WhichKeys client) = digits_of 5 client 0 0 0 0 0
head_of (Keys client tag entries) = digits_of 6 client 0 tag 0 0 0
head_of (Get client server key) = digits_of 7 client server 0 key.count key.client 0
head_of (Got client server badge setpoint) = digits_of 8 client server 0 0 0 badge
head_of (GetAll client server) = digits_of 9 client server 0 0 0 0
head_of (All client server entries) = digits_of 10 client server 0 0 0 0
head_of (GetLog client) = digits_of 11 client 0 0 0 0 0
head_of (Log client entries) = digits_of 12 client 0 0 0 0 0

-- how many entries, and the setpoint or mask
abbrev pub tail_of : Message → ℕ
tail_of (Set client server key badge setpoint) = pair_of 0 setpoint
tail_of (SetDone client server) = pair_of 0 0
tail_of (Enter client key mask) = pair_of 0 mask
tail_of (Entered client tag) = pair_of 0 0
tail_of (WhichKeys client) = pair_of 0 0
tail_of (Keys client tag entries) = pair_of entries 0
tail_of (Get client server key) = pair_of 0 0
tail_of (Got client server badge setpoint) = pair_of 0 setpoint
tail_of (GetAll client server) = pair_of 0 0
tail_of (All client server entries) = pair_of entries 0
tail_of (GetLog client) = pair_of 0 0
tail_of (Log client entries) = pair_of entries 0

-- what reading a frame answers: the two of its message, or the refusal in both
abbrev pub parts_of : Reading → Parts
parts_of (reading.Read m) = record { head = head_of m; tail = tail_of m }
parts_of (reading.Refused n) = record { head = refused_number n; tail = refused_number n }

pub parts_same : {head tail h l : ℕ} {p : Parts} → p ≡ record { head = h; tail = l } → h ≡ head → l ≡ tail → p ≡ record { head = head; tail = tail }
parts_same e d f = e ∙ (λ i. record { head = d i; tail = f i })

-- the frame's length, or the refusal
abbrev pub written_number : Written → ℕ
written_number (written.Length n) = n
written_number (written.Refused n) = refused_number n
