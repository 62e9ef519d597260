-- "lines of at most 200 bytes before byte 10: `O method k p setpoints`, `W panel mask setpoints`, `R panel mask`, `> panel target`
-- (request), `< panel target` (reply)"; document 02: "In the yard's input W line it stands after the mask", the badge; of a frame that is
-- lost and of one that is sent again: "In the yard these are `! panel target` and `+ panel target`"
use Rattle.std.specs.Prelude.{ℕ, ◌-◌, ◌/◌, ◌≡◌, cond, List, [], ◌∷◌, ◌++◌, eqb, leb, length, drop}
use Rattle.schedule.specs.declared.Step.{Step}
use Rattle.schedule.specs.declared.Step.TheVariants.{Unreadable, Open, BeginWrite, BeginRead, Request, Reply, Lose, Resend}
use Rattle.schedule.specs.declared.Reading.{Reading}
use Rattle.schedule.specs.Decimal.{spaced_all}
use Rattle.schedule.specs.Numbers.{Read, numbers_of}

-- "lines of at most 200 bytes"; behind a line's first byte each number takes two or more, its space and a digit;
-- three numbers stand before its setpoints
abbrev pub line_most : ℕ
line_most = 200

abbrev pub numbers_most : ℕ
numbers_most = (line_most - 1) / 2

abbrev pub setpoints_most : ℕ
setpoints_most = numbers_most - 3

-- "a 16-bit badge number, 0 allowed"
abbrev pub badge_most : ℕ
badge_most = 65535

-- A step and the setpoints on its line.
pub record Named : Type 0 where
  pub step : Step
  pub setpoints : List ℕ

abbrev pub alone : Step → Named
alone step = record { step = step; setpoints = [] }

-- "A line of any other shape, an empty or longer one too, is no step and gives 13."
abbrev pub unreadable : Named
unreadable = alone Unreadable

-- "setpoints are none or more numbers"
abbrev pub named_open : List ℕ → Named
named_open [] = unreadable
named_open (method ∷ []) = unreadable
named_open (method ∷ servers ∷ []) = unreadable
named_open (method ∷ servers ∷ clients ∷ setpoints) = record { step = Open method servers clients; setpoints = setpoints }

-- "In the yard's input W line it stands after the mask, above 65,535 giving 13"
abbrev pub named_write : List ℕ → Named
named_write [] = unreadable
named_write (client ∷ []) = unreadable
named_write (client ∷ mask ∷ []) = unreadable
named_write (client ∷ mask ∷ badge ∷ setpoints) =
    cond (leb badge badge_most) (record { step = BeginWrite client mask badge; setpoints = setpoints }) unreadable

-- the step of a first byte and just two numbers: R, > and < are 82, 62 and 60;
-- "In the yard these are `! panel target` and `+ panel target`": ! and + are 33 and 43
abbrev pub pair_named : ℕ → ℕ → ℕ → Named
pair_named byte client second =
    cond (eqb byte 82) (alone (BeginRead client second))
    (cond (eqb byte 62) (alone (Request client second))
    (cond (eqb byte 60) (alone (Reply client second))
    (cond (eqb byte 33) (alone (Lose client second))
    (cond (eqb byte 43) (alone (Resend client second)) unreadable))))

abbrev pub named_pair : ℕ → List ℕ → Named
named_pair byte [] = unreadable
named_pair byte (client ∷ []) = unreadable
named_pair byte (client ∷ second ∷ []) = pair_named byte client second
named_pair byte (client ∷ second ∷ third ∷ more) = unreadable

-- the step of a first byte and the numbers behind it: O and W are 79 and 87
abbrev pub named : ℕ → List ℕ → Named
named byte numbers = cond (eqb byte 79) (named_open numbers) (cond (eqb byte 87) (named_write numbers) (named_pair byte numbers))

abbrev pub named_by : ℕ → Read → Named
named_by byte read = cond read.whole (named byte read.numbers) unreadable

-- the step that a line names
unfoldable pub step_of : List ℕ → Named
step_of [] = unreadable
step_of (byte ∷ rest) = cond (leb (length (byte ∷ rest)) line_most) (named_by byte (numbers_of rest)) unreadable

-- the answer of the reader: the step, and how many setpoints its line has
abbrev pub reading_of : Named → Reading
reading_of n = record { step = n.step; setpoints = length n.setpoints }

-- what the lent place for setpoints holds then: those of the line, and behind them what it held
abbrev pub stored : List ℕ → List ℕ → List ℕ
stored setpoints held = setpoints ++ drop (length setpoints) held

-- What a reader of lines answers and leaves in the lent place.
pub record Names (names : Named) (held : List ℕ) (answer : Reading) (left : List ℕ) : Type 0 where
  pub reading : answer ≡ reading_of names
  pub place : left ≡ stored names.setpoints held

-- A step as a line: its first byte, and its numbers, each behind one space.
abbrev pub line_byte : Step → ℕ
line_byte Unreadable = 0
line_byte (Open method servers clients) = 79
line_byte (BeginWrite client mask badge) = 87
line_byte (BeginRead client mask) = 82
line_byte (Request client target) = 62
line_byte (Reply client target) = 60
line_byte (Lose client target) = 33
line_byte (Resend client target) = 43

abbrev pub line_numbers : Step → List ℕ → List ℕ
line_numbers Unreadable setpoints = []
line_numbers (Open method servers clients) setpoints = method ∷ servers ∷ clients ∷ setpoints
line_numbers (BeginWrite client mask badge) setpoints = client ∷ mask ∷ badge ∷ setpoints
line_numbers (BeginRead client mask) setpoints = client ∷ mask ∷ []
line_numbers (Request client target) setpoints = client ∷ target ∷ []
line_numbers (Reply client target) setpoints = client ∷ target ∷ []
line_numbers (Lose client target) setpoints = client ∷ target ∷ []
line_numbers (Resend client target) setpoints = client ∷ target ∷ []

abbrev pub step_text : Named → List ℕ
step_text n = line_byte n.step ∷ spaced_all (line_numbers n.step n.setpoints)
