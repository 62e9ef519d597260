-- Answers as the numbers by which they cross to other languages.
use Rattle.std.specs.Prelude.{ℕ, ◌-◌, List}
use Rattle.frames.specs.Written.{Written}
use Rattle.frames.specs.Written as written
use Rattle.listing.specs.Listed.{Listed}
use Rattle.listing.specs.Listed as listed
use Rattle.listing.specs.Register.{Listing}
use Rattle.wire.specs.Sending.{Sent}

-- 2^64 - 1 less the number of the refusal
abbrev pub refused_number : ℕ → ℕ
refused_number n = 18446744073709551615 - n

-- the frame's length, or the refusal
abbrev pub written_number : Written → ℕ
written_number (written.Length n) = n
written_number (written.Refused n) = refused_number n

-- how many rows were laid, or the refusal
abbrev pub listed_number : Listed → ℕ
listed_number (listed.Rows n) = n
listed_number (listed.Refused n) = refused_number n

-- a number, and what the lent bytes or the lent list hold then
pub record Numbered : Type 0 where
  pub number : ℕ
  pub lent : List ℕ

abbrev pub numbered : ℕ → List ℕ → Numbered
numbered n lent = record { number = n; lent = lent }

abbrev pub frame_numbered : Sent → Numbered
frame_numbered s = numbered (written_number s.answer) s.bytes

abbrev pub list_numbered : Listing → Numbered
list_numbered l = numbered (listed_number l.answer) l.list
