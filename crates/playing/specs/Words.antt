-- The printed word of each answer is the word and the numbers that `rules` gives for it, by document 01.
use Rattle.std.specs.Prelude.{◌≡◌, refl, [], ◌∷◌}
use Rattle.rules.specs.Answer.{Answer}
use Rattle.rules.specs.Answer as answer
use Rattle.rules.specs.declared.Arrival.{Arrival}
use Rattle.rules.specs.declared.Arrival.TheVariants as arrival
use Rattle.rules.specs.Answers.{Said, answer_said, arrival_said}
use Rattle.rules.specs.Answers.Word.{ok, wait, next, write, read, no'}
use Rattle.printing.specs.declared.Word.{Word}
use Rattle.printing.specs.declared.Word.TheVariants as print
use Rattle.playing.specs.Played.{answer_word, arrival_word}

abbrev pub word_said : Word → Said
word_said print.Ok = record { word = ok; numbers = [] }
word_said print.Wait = record { word = wait; numbers = [] }
word_said print.Next = record { word = next; numbers = [] }
word_said (print.Write tag) = record { word = write; numbers = tag ∷ [] }
word_said (print.Read tag) = record { word = read; numbers = tag ∷ [] }
word_said (print.No number) = record { word = no'; numbers = number ∷ [] }

pub answer-said : (a : Answer) → word_said (answer_word a) ≡ answer_said a
answer-said answer.Ok = refl
answer-said (answer.Refused number) = refl

pub arrival-said : (a : Arrival) → word_said (arrival_word a) ≡ arrival_said a
arrival-said arrival.Wait = refl
arrival-said arrival.Next = refl
arrival-said (arrival.Write tag) = refl
arrival-said (arrival.Read tag) = refl
arrival-said (arrival.Refused number) = refl
