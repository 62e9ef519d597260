-- Answers of a played text that say the same are the same.
use Rattle.std.specs.Prelude.{ℕ, ◌≡◌, refl}
use Rattle.rules.specs.Answers.{Word, ok, wait, next, write, read, no'}
use Rattle.rules.specs.AnswersLaws.{said-once, said_number}
use Rattle.texts.specs.TextPlayed.{TextPlayed}
use Rattle.texts.specs.TextPlayed.TextPlayed.{Printed, Refused}
use Rattle.texts.specs.Text.{text_said}

abbrev answer_of : Word → ℕ → TextPlayed
answer_of ok n = Printed n
answer_of wait n = Refused n
answer_of next n = Refused n
answer_of write n = Refused n
answer_of read n = Refused n
answer_of no' n = Refused n

answer_back : (a : TextPlayed) → answer_of (text_said a).word (said_number (text_said a)) ≡ a
answer_back (Printed n) = refl
answer_back (Refused n) = refl

pub text-said-once : (a b : TextPlayed) → text_said a ≡ text_said b → a ≡ b
text-said-once = said-once text_said (λ s. answer_of s.word (said_number s)) answer_back
