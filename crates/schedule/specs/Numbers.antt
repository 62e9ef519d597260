-- "Decimal to 4,294,967,295, no leading zero but 0 itself, one space between": the numbers that a part of a line holds.
use Rattle.std.specs.Prelude.{ℕ, zero, suc, ◌+◌, ◌*◌, ◌-◌, Bool, true, false, cond, ◌&&◌, List, [], ◌∷◌, eqb, leb, ltb, length}
use Rattle.schedule.specs.Number.{Number, Not, Value, Numbers, Broken, All}

-- a digit's worth, 10 for any other byte
unfoldable pub digit_of : ℕ → ℕ
digit_of byte = cond (leb 48 byte) (cond (leb byte 57) (byte - 48) 10) 10

-- what is read at a place: the digit there, 10 where the text ends
unfoldable pub digit_head : List ℕ → ℕ
digit_head [] = 10
digit_head (byte ∷ rest) = digit_of byte

-- a digit may stand behind the digits worth value: no leading zero, and not above 4,294,967,295
abbrev pub may_follow : ℕ → ℕ → Bool
may_follow value digit = ltb 0 value && leb (value * 10 + digit) 4294967295

-- the number whose first digits, so many, are worth value, read on to the first byte that is no digit
unfoldable pub read_on : ℕ → ℕ → List ℕ → Number
read_on value size [] = Value value size
read_on value size (byte ∷ rest) =
    cond (ltb (digit_of byte) 10)
    (cond (may_follow value (digit_of byte)) (read_on (value * 10 + digit_of byte) (size + 1) rest) Not)
    (Value value size)

-- the number at the front of a text, and how many bytes it takes
unfoldable pub number_of : List ℕ → Number
number_of [] = Not
number_of (byte ∷ rest) = cond (ltb (digit_of byte) 10) (read_on (digit_of byte) 1 rest) Not

-- a space, and a number behind it
unfoldable pub spaced_of : List ℕ → Number
spaced_of [] = Not
spaced_of (byte ∷ rest) = cond (eqb byte 32) (number_of rest) Not

-- The numbers up to the end of a text or up to the first fault, and whether the end was reached.
pub record Read : Type 0 where
  pub whole : Bool
  pub numbers : List ℕ

-- a number, and those read behind its bytes
abbrev pub read_then : Number → (ℕ → Read) → Read
read_then Not more = record { whole = false; numbers = [] }
read_then (Value value size) more = record { whole = (more size).whole; numbers = value ∷ (more size).numbers }

-- the numbers of a text, each behind one space; the first bytes, so many, belong to a number that was read
unfoldable pub numbers_behind : ℕ → List ℕ → Read
numbers_behind skip [] = record { whole = true; numbers = [] }
numbers_behind (suc skip) (byte ∷ rest) = numbers_behind skip rest
numbers_behind zero (byte ∷ rest) = read_then (spaced_of (byte ∷ rest)) (λ size. numbers_behind size rest)

abbrev pub numbers_of : List ℕ → Read
numbers_of text = numbers_behind 0 text

-- how many numbers there are, where the end was reached
abbrev pub count_of : Read → Numbers
count_of read = cond read.whole (All (length read.numbers)) Broken
