-- Answers that say the same are the same: nothing is lost where a promise goes by what is said.
use Rattle.std.specs.Prelude.{ℕ, ◌≡◌, refl, get_or}
use Rattle.std.proofs.Common.{sym, ap, ◌∙◌}
use Rattle.rules.specs.Answer.{Answer}
use Rattle.rules.specs.Answer as answer
use Rattle.rules.specs.declared.Arrival.{Arrival}
use Rattle.rules.specs.declared.Arrival.TheVariants as arrival
use Rattle.rules.specs.Answers.{Word, ok, wait, next, write, read, no', Said, answer_said, arrival_said}

-- what can be had back from what it says is said by nothing else
pub said-once : {A B : Type 0} (say : A → B) (back : B → A) → ((a : A) → back (say a) ≡ a) → (a b : A) → say a ≡ say b → a ≡ b
said-once say back same a b e = sym (same a) ∙ ap back e ∙ same b

-- the number behind a word
abbrev pub said_number : Said → ℕ
said_number s = get_or s.numbers 0 0

abbrev answer_of : Word → ℕ → Answer
answer_of ok n = answer.Ok
answer_of wait n = answer.Refused n
answer_of next n = answer.Refused n
answer_of write n = answer.Refused n
answer_of read n = answer.Refused n
answer_of no' n = answer.Refused n

answer_back : (a : Answer) → answer_of (answer_said a).word (said_number (answer_said a)) ≡ a
answer_back answer.Ok = refl
answer_back (answer.Refused n) = refl

pub answer-said-once : (a b : Answer) → answer_said a ≡ answer_said b → a ≡ b
answer-said-once = said-once answer_said (λ s. answer_of s.word (said_number s)) answer_back

abbrev arrival_of : Word → ℕ → Arrival
arrival_of ok n = arrival.Wait
arrival_of wait n = arrival.Wait
arrival_of next n = arrival.Next
arrival_of write n = arrival.Write n
arrival_of read n = arrival.Read n
arrival_of no' n = arrival.Refused n

arrival_back : (a : Arrival) → arrival_of (arrival_said a).word (said_number (arrival_said a)) ≡ a
arrival_back arrival.Wait = refl
arrival_back arrival.Next = refl
arrival_back (arrival.Write tag) = refl
arrival_back (arrival.Read tag) = refl
arrival_back (arrival.Refused n) = refl

pub arrival-said-once : (a b : Arrival) → arrival_said a ≡ arrival_said b → a ≡ b
arrival-said-once = said-once arrival_said (λ s. arrival_of s.word (said_number s)) arrival_back
