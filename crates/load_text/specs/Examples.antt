-- Lines that ask for a load, and lines that do not, worked out by the definition; and the texts that are printed.
use Rattle.std.specs.Prelude.{◌≡◌, refl, [], ◌∷◌}
use Rattle.schedule.specs.declared.Step.TheVariants.{Open, BeginWrite, Request}
use Rattle.schedule.specs.Decimal.{digits, spaced_all}
use Rattle.schedule.specs.Numbers.{digit_of, read_on, number_of, spaced_of, numbers_behind}
use Rattle.printing.specs.StepTexts.{step_line, refusal_text}
use Rattle.load_text.specs.Asked.{Unreadable, Load}
use Rattle.load_text.specs.Asked.{asked_of}

pub record Readable : Type 0 where
  -- `0 12 2 2 2`: seed 0, 12 steps, by B, 2 servers, 2 clients
  pub plain : asked_of (48 ∷ 32 ∷ 49 ∷ 50 ∷ 32 ∷ 50 ∷ 32 ∷ 50 ∷ 32 ∷ 50 ∷ [])
      ≡ Load (record { seed = 0; steps = 12; method = 2; servers = 2; clients = 2 })
  -- `4294967295 0 9 0 17`: the largest seed; what no press can have is readable
  pub largest : asked_of (52 ∷ 50 ∷ 57 ∷ 52 ∷ 57 ∷ 54 ∷ 55 ∷ 50 ∷ 57 ∷ 53 ∷ 32 ∷ 48 ∷ 32 ∷ 57 ∷ 32 ∷ 48 ∷ 32 ∷ 49 ∷ 55 ∷ [])
      ≡ Load (record { seed = 4294967295; steps = 0; method = 9; servers = 0; clients = 17 })

readable : Readable
unfolding asked_of numbers_behind spaced_of number_of read_on digit_of
readable = record { plain = refl; largest = refl }

pub record NotReadable : Type 0 where
  -- ``: the empty line
  pub empty : asked_of ([]) ≡ Unreadable
  -- `0 12 2 2`: too few numbers
  pub four : asked_of (48 ∷ 32 ∷ 49 ∷ 50 ∷ 32 ∷ 50 ∷ 32 ∷ 50 ∷ []) ≡ Unreadable
  -- `0 12 2 2 2 2`: too many
  pub six : asked_of (48 ∷ 32 ∷ 49 ∷ 50 ∷ 32 ∷ 50 ∷ 32 ∷ 50 ∷ 32 ∷ 50 ∷ 32 ∷ 50 ∷ []) ≡ Unreadable
  -- ` 0 12 2 2 2`: a space in front
  pub front : asked_of (32 ∷ 48 ∷ 32 ∷ 49 ∷ 50 ∷ 32 ∷ 50 ∷ 32 ∷ 50 ∷ 32 ∷ 50 ∷ []) ≡ Unreadable
  -- `0 12 2 2 2 `: a space at the end
  pub behind : asked_of (48 ∷ 32 ∷ 49 ∷ 50 ∷ 32 ∷ 50 ∷ 32 ∷ 50 ∷ 32 ∷ 50 ∷ 32 ∷ []) ≡ Unreadable
  -- `0  12 2 2 2`: two spaces
  pub two_spaces : asked_of (48 ∷ 32 ∷ 32 ∷ 49 ∷ 50 ∷ 32 ∷ 50 ∷ 32 ∷ 50 ∷ 32 ∷ 50 ∷ []) ≡ Unreadable
  -- `0 012 2 2 2`: a leading zero
  pub zero : asked_of (48 ∷ 32 ∷ 48 ∷ 49 ∷ 50 ∷ 32 ∷ 50 ∷ 32 ∷ 50 ∷ 32 ∷ 50 ∷ []) ≡ Unreadable
  -- `-1 12 2 2 2`: a sign
  pub sign : asked_of (45 ∷ 49 ∷ 32 ∷ 49 ∷ 50 ∷ 32 ∷ 50 ∷ 32 ∷ 50 ∷ 32 ∷ 50 ∷ []) ≡ Unreadable
  -- `4294967296 12 2 2 2`: too large
  pub large : asked_of (52 ∷ 50 ∷ 57 ∷ 52 ∷ 57 ∷ 54 ∷ 55 ∷ 50 ∷ 57 ∷ 54 ∷ 32 ∷ 49 ∷ 50 ∷ 32 ∷ 50 ∷ 32 ∷ 50 ∷ 32 ∷ 50 ∷ []) ≡ Unreadable
  -- `0 12 2 2 2\r`: byte 13 at the end
  pub return : asked_of (48 ∷ 32 ∷ 49 ∷ 50 ∷ 32 ∷ 50 ∷ 32 ∷ 50 ∷ 32 ∷ 50 ∷ 13 ∷ []) ≡ Unreadable

not-readable : NotReadable
unfolding asked_of numbers_behind spaced_of number_of read_on digit_of
not-readable = record {
  empty = refl;
  four = refl;
  six = refl;
  front = refl;
  behind = refl;
  two_spaces = refl;
  zero = refl;
  sign = refl;
  large = refl;
  return = refl;
}

pub record Printed : Type 0 where
  -- `O 2 2 2 0 0`
  pub opens : step_line (Open 2 2 2) (0 ∷ 0 ∷ []) ≡ 79 ∷ 32 ∷ 50 ∷ 32 ∷ 50 ∷ 32 ∷ 50 ∷ 32 ∷ 48 ∷ 32 ∷ 48 ∷ 10 ∷ []
  -- `W 0 3 0 1 1`
  pub writes : step_line (BeginWrite 0 3 0) (1 ∷ 1 ∷ []) ≡ 87 ∷ 32 ∷ 48 ∷ 32 ∷ 51 ∷ 32 ∷ 48 ∷ 32 ∷ 49 ∷ 32 ∷ 49 ∷ 10 ∷ []
  -- `> 1 16`: a delivery has no setpoints
  pub requests : step_line (Request 1 16) (0 ∷ 0 ∷ []) ≡ 62 ∷ 32 ∷ 49 ∷ 32 ∷ 49 ∷ 54 ∷ 10 ∷ []
  -- `no 13`
  pub refuses : refusal_text 13 ≡ 110 ∷ 111 ∷ 32 ∷ 49 ∷ 51 ∷ 10 ∷ []

printed : Printed
unfolding spaced_all digits
printed = record { opens = refl; writes = refl; requests = refl; refuses = refl }
