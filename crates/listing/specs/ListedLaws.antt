-- Answers of a listing that say the same are the same.
use Rattle.std.specs.Prelude.{ℕ, ◌≡◌, refl}
use Rattle.rules.specs.Answers.{Word, ok, wait, next, write, read, no'}
use Rattle.rules.specs.AnswersLaws.{said-once, said_number}
use Rattle.listing.specs.Listed.{Listed}
use Rattle.listing.specs.Listed.Listed.{Rows, Refused}
use Rattle.listing.specs.Register.{listed_said}

abbrev listed_of : Word → ℕ → Listed
listed_of ok n = Rows n
listed_of wait n = Refused n
listed_of next n = Refused n
listed_of write n = Refused n
listed_of read n = Refused n
listed_of no' n = Refused n

listed_back : (a : Listed) → listed_of (listed_said a).word (said_number (listed_said a)) ≡ a
listed_back (Rows n) = refl
listed_back (Refused n) = refl

pub listed-said-once : (a b : Listed) → listed_said a ≡ listed_said b → a ≡ b
listed-said-once = said-once listed_said (λ s. listed_of s.word (said_number s)) listed_back
