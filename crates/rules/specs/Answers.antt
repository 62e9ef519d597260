-- The answers, and document 01's word and numbers for each: what is printed goes by these.
use Rattle.std.specs.Prelude.{ℕ, List, [], ◌∷◌, replicate}
use Rattle.tables.specs.Tables.{Tables}
use Rattle.rules.specs.Answer.{Answer}
use Rattle.rules.specs.Answer as answer
use Rattle.rules.specs.declared.Arrival.{Arrival}
use Rattle.rules.specs.declared.Arrival.TheVariants as arrival
use Rattle.rules.specs.declared.Delivered.{Delivered}

-- the words of document 01, in the order of the answers
pub data Word : Type 0 where
  ok wait next write read no' : Word

-- a word and the numbers behind it: the tag, or the number of the refusal
pub record Said : Type 0 where
  pub word : Word
  pub numbers : List ℕ

abbrev pub saying : Word → List ℕ → Said
saying w ns = record { word = w; numbers = ns }

-- "Other accepted steps answer *ok*", "`no` and the number when refused"
abbrev pub answer_said : Answer → Said
answer_said answer.Ok = saying ok []
answer_said (answer.Refused n) = saying no' (n ∷ [])

-- "A delivered reply answers *wait*, *next* (second round sent), *write* with tag, or *read* with tag and setpoints."
abbrev pub arrival_said : Arrival → Said
arrival_said arrival.Wait = saying wait []
arrival_said arrival.Next = saying next []
arrival_said (arrival.Write tag) = saying write (tag ∷ [])
arrival_said (arrival.Read tag) = saying read (tag ∷ [])
arrival_said (arrival.Refused n) = saying no' (n ∷ [])

-- an answer that shows nothing
abbrev pub nothing_shown : Arrival → Delivered
nothing_shown a = record { arrival = a; setpoints = replicate 16 0; tags = replicate 16 0; badges = replicate 16 0 }

-- what a step leaves: its answer, what that says in document 01's words, and the tables
pub record Left : Type 0 where
  pub answer : Answer
  pub said : Said
  pub tables : Tables

abbrev pub left : Answer → Tables → Left
left a t = record { answer = a; said = answer_said a; tables = t }

-- the same of a delivered reply
pub record Arrived : Type 0 where
  pub delivered : Delivered
  pub said : Said
  pub tables : Tables

abbrev pub arrived : Delivered → Tables → Arrived
arrived d t = record { delivered = d; said = arrival_said d.arrival; tables = t }
