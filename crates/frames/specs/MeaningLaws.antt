-- Answers that mean the same are the same; and what the reader's and the writer's promises say, in these meanings.
use Rattle.std.specs.Prelude.{ℕ, ◌≡◌, refl, Bool, true, false, cond, List, [], ◌∷◌, length, get_or}
use Rattle.std.proofs.Common.{sym, ap, ◌∙◌}
use Rattle.keys.specs.Keys.{key_of}
use Rattle.formats.specs.Grammar.{got, fault}
use Rattle.frames.specs.declared.Message.{Message}
use Rattle.frames.specs.declared.Message.TheVariants.{Set, SetDone, Enter, Entered, WhichKeys, Keys, Get, Got, GetAll, All, GetLog, Log}
use Rattle.frames.specs.declared.Fixed.{Fixed}
use Rattle.frames.specs.Reading.{Reading}
use Rattle.frames.specs.Reading as reading
use Rattle.frames.specs.Written.{Written}
use Rattle.frames.specs.Written as written
use Rattle.frames.specs.Messages.{message_at, message_of}
use Rattle.frames.specs.Frames.{has_places, writable, frame_of, fits, written_of, reading_of}
use Rattle.frames.specs.Meanings.{Meaning, accepted, refused_by, written_meaning, message_values, reading_meaning}

-- ---- nothing else means the same

-- the answer of a meaning: where it has no values, a refusal
abbrev written_back : ℕ → List ℕ → Written
written_back refusal [] = written.Refused refusal
written_back refusal (n ∷ more) = written.Length n

written_back_lem : (w : Written) → written_back (written_meaning w).refusal (written_meaning w).values ≡ w
written_back_lem (written.Length n) = refl
written_back_lem (written.Refused n) = refl

pub written_means-once : (a b : Written) → written_meaning a ≡ written_meaning b → a ≡ b
written_means-once a b e = sym (written_back_lem a) ∙ ap (λ (m : Meaning). written_back m.refusal m.values) e ∙ written_back_lem b

-- the message of its values
abbrev fixed_back : ℕ → List ℕ → Fixed
fixed_back n vs =
    record {
      client = get_or vs 1 0;
      server = get_or vs 2 0;
      tag = get_or vs 3 0;
      key = key_of (get_or vs 4 0) (get_or vs 5 0);
      badge = get_or vs 6 0;
      number = get_or vs 7 0;
      entries = n;
    }

abbrev message_back : ℕ → List ℕ → Message
message_back n vs = message_at (get_or vs 0 0) (fixed_back n vs)

abbrev reading_back : ℕ → List ℕ → Reading
reading_back refusal [] = reading.Refused refusal
reading_back refusal (n ∷ vs) = reading.Read (message_back n vs)

reading_back_lem : (r : Reading) → reading_back (reading_meaning r).refusal (reading_meaning r).values ≡ r
unfolding message_at
reading_back_lem (reading.Refused n) = refl
reading_back_lem (reading.Read (Set client server key badge setpoint)) = refl
reading_back_lem (reading.Read (SetDone client server)) = refl
reading_back_lem (reading.Read (Enter client key mask)) = refl
reading_back_lem (reading.Read (Entered client tag)) = refl
reading_back_lem (reading.Read (WhichKeys client)) = refl
reading_back_lem (reading.Read (Keys client tag entries)) = refl
reading_back_lem (reading.Read (Get client server key)) = refl
reading_back_lem (reading.Read (Got client server badge setpoint)) = refl
reading_back_lem (reading.Read (GetAll client server)) = refl
reading_back_lem (reading.Read (All client server entries)) = refl
reading_back_lem (reading.Read (GetLog client)) = refl
reading_back_lem (reading.Read (Log client entries)) = refl

pub reading_means-once : (a b : Reading) → reading_meaning a ≡ reading_meaning b → a ≡ b
reading_means-once a b e = sym (reading_back_lem a) ∙ ap (λ (m : Meaning). reading_back m.refusal m.values) e ∙ reading_back_lem b

-- ---- what the promises say

by_both : (a b : Bool) (l : ℕ) →
    written_meaning (cond a (cond b (written.Length l) (written.Refused 12)) (written.Refused 11))
    ≡ cond a (cond b (accepted (l ∷ [])) (refused_by 12)) (refused_by 11)
by_both true true l = refl
by_both true false l = refl
by_both false b l = refl

-- writing: 11, then 12, else the frame's length
pub written_means : (m : Message) (keys badges numbers bytes : List ℕ) →
    written_meaning (written_of m keys badges numbers bytes)
    ≡ cond (writable m keys badges numbers)
    (cond (fits m keys badges numbers bytes) (accepted (length (frame_of m keys badges numbers) ∷ [])) (refused_by 12))
    (refused_by 11)
unfolding written_of
written_means m keys badges numbers bytes =
    by_both (writable m keys badges numbers) (fits m keys badges numbers bytes) (length (frame_of m keys badges numbers))

by_places : (b : Bool) (m : Message) →
    reading_meaning (cond b (reading.Read m) (reading.Refused 12)) ≡ cond b (accepted (message_values m)) (refused_by 12)
by_places true m = refl
by_places false m = refl

-- reading: the fault's number; of good bytes 12 where places are missing, else the message's values
pub faulty_means : (n : ℕ) (keys badges numbers : List ℕ) → reading_meaning (reading_of (fault n) keys badges numbers) ≡ refused_by n
unfolding reading_of
faulty_means n keys badges numbers = refl

pub good_means : (vs keys badges numbers : List ℕ) →
    reading_meaning (reading_of (got vs) keys badges numbers)
    ≡ cond (has_places (message_of vs) keys badges numbers) (accepted (message_values (message_of vs))) (refused_by 12)
unfolding reading_of
good_means vs keys badges numbers = by_places (has_places (message_of vs) keys badges numbers) (message_of vs)
