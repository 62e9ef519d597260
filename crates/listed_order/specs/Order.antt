-- The register's order is the row's order: what a line of the register and a transaction of the row must agree in, and the claim over every list of steps.
use Rattle.std.specs.Prelude.{ℕ, ◌≡◌, Bool, true, false, cond, List, [], ◌∷◌, ◌++◌, map, get_or}
use Rattle.std.proofs.Math.Option.{Option, none, some}
use Rattle.tables.specs.Layout.{record_word, client_of_record, number_of_record, tag_of_record, begin_of_record, end_of_record}
use Rattle.tables.specs.Tables.{Tables}
use Rattle.rules.specs.Answer.{Ok, Refused}
use Rattle.listing.specs.Register.{Line, write, read}
use Rattle.claim.specs.Steps.{Event, opened, begun-write, begun-read, requested, replied, lost, resent, Played, Machine, left_by}
use Rattle.claim.specs.History.{Transaction, history, BehindOpenings}
use Rattle.claim.specs.Row.{row}
use Rattle.claim.specs.Consequences.{accepted}

-- "each WRITE's panel, count, tag, begin and end step; each READ's panel, mask, tag, begin, end": what the register and the row both say of a transaction.
-- A WRITE's mask is in no line of the register and its count in no answer, so its mask is left as 0; an end that is not yet is 0.
pub record Particulars : Type 0 where
  pub is_write : Bool
  pub tag : ℕ
  pub client : ℕ
  pub mask : ℕ
  pub begin : ℕ
  pub end : ℕ

abbrev pub particulars : Bool → ℕ → ℕ → ℕ → ℕ → ℕ → Particulars
particulars is_write tag client mask begin end = record { is_write = is_write; tag = tag; client = client; mask = mask; begin = begin; end = end }

-- ---- the register: "The register lists by tag: the WRITE of a tag, finished or not, then finished READs of that tag"

-- a record's words
abbrev pub of_record : Bool → ℕ → List ℕ → ℕ → Particulars
of_record is_write mask records place =
    particulars is_write (record_word records place tag_of_record) (record_word records place client_of_record) mask (record_word records place begin_of_record) (record_word records place end_of_record)

-- a line's: "each WRITE's panel, …, tag, begin and end step; each READ's panel, mask, tag, begin, end"
abbrev pub described : Tables → Line → Particulars
described t (write place) = of_record true 0 t.writes place
described t (read place) = of_record false (record_word t.reads place number_of_record) t.reads place

-- ---- the row: "Its words go by steps and answers"

-- "The opening is step 1; each accepted step adds 1." The history counts all steps behind the last accepted opening, refused ones too: the step number
-- as each of them left it, in order. An accepted opening starts anew.
abbrev pub numbered : Event → List ℕ → ℕ → List ℕ
numbered (opened method k p setpoints Ok) numbers n = []
numbered (opened method k p setpoints (Refused m)) numbers n = numbers ++ (n ∷ [])
numbered (begun-write q mask badge setpoints a) numbers n = numbers ++ (accepted (begun-write q mask badge setpoints a) n ∷ [])
numbered (begun-read q mask a) numbers n = numbers ++ (accepted (begun-read q mask a) n ∷ [])
numbered (requested q i a) numbers n = numbers ++ (accepted (requested q i a) n ∷ [])
numbered (replied q i d) numbers n = numbers ++ (accepted (replied q i d) n ∷ [])
numbered (lost q i a) numbers n = numbers ++ (accepted (lost q i a) n ∷ [])
numbered (resent q i a) numbers n = numbers ++ (accepted (resent q i a) n ∷ [])

-- of a list of steps, behind `numbers` and step number n
abbrev pub step_numbers : List Played → List ℕ → ℕ → List ℕ
step_numbers [] numbers n = numbers
step_numbers (x ∷ xs) numbers n = step_numbers xs (numbered x.event numbers n) (accepted x.event n)

-- the number of the step at which the history's clock stood at a time
abbrev pub number_at : List ℕ → ℕ → ℕ
number_at numbers clock = get_or numbers clock 0

-- an end that is not yet has none
abbrev pub end_number : List ℕ → Option ℕ → ℕ
end_number numbers none = 0
end_number numbers (some clock) = number_at numbers clock

-- "A transaction begins at an accepted begin and finishes at the next reply delivered to its panel that answers *write* or *read*." "*write* answers this
-- tag. A READ's tag and the setpoints it shows are those in its *read*."
abbrev pub told : List ℕ → Transaction → Particulars
told numbers x = particulars x.is_write x.tag x.client (cond x.is_write 0 x.mask) (number_at numbers x.begin) (end_number numbers x.end)

-- ---- the claim

-- Behind every accepted opening and every list of steps, "in any order and with any arguments, … refused ones and refused openings too": a
-- listing of the tables then left lists the transactions of the row, all of them and no other, in the row's order, with the same kinds,
-- tags, panels, begins and ends, and READs with the same masks. Every list is meant, so this is so after each step.
abbrev pub SameOrder : {S : Type 0} → (Tables → List Line) → Machine S → Type 0
SameOrder listing machine =
    BehindOpenings machine (λ start played h.
    let left = left_by played start in
    map (described left) (listing left) ≡ map (told (step_numbers played [] 1)) (row (history played h)))
