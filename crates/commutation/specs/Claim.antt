-- "Two neighbouring accepted steps of a schedule that deliver requests at different targets must give exactly equal tables in either order,
-- and both orders must be accepted. This is shown for all methods, with losses elsewhere in the run."
use Rattle.std.specs.Prelude.{ℕ, ◌≡◌, List}
use Rattle.tables.specs.Tables.{Tables}
use Rattle.rules.specs.Answer.{Ok}
use Rattle.claim.specs.Steps.{Event, requested, Machine, run, left_by}
use Rattle.claim.specs.History.{BehindOpenings}

-- "accepted steps … that deliver requests at different targets": of one client or of two
pub record AtDifferentTargets (x y : Event) : Type 0 where
  pub client : ℕ
  pub target : ℕ
  pub client' : ℕ
  pub target' : ℕ
  pub one : x ≡ requested client target Ok
  pub other : y ≡ requested client' target' Ok
  pub apart : target ≡ target' → ⊥

-- the tables that two steps leave, one behind the other
abbrev pub in_order : {S : Type 0} → Machine S → S → S → Tables → Tables
in_order machine a b t = (machine b (machine a t).tables).tables

-- Of step a and then step b, on tables t: what they are in the other order.
pub record Swapped {S : Type 0} (machine : Machine S) (t : Tables) (a b : S) : Type 0 where
  -- "both orders must be accepted": each has the answer that it had
  pub sooner : (machine b t).event ≡ (machine b (machine a t).tables).event
  pub later : (machine a (machine b t).tables).event ≡ (machine a t).event
  -- "exactly equal tables in either order": every word of every table
  pub tables : in_order machine b a t ≡ in_order machine a b t
  -- "does the press still behave alike?": whatever steps come behind the two, all answers and all tables are as they were
  pub behind : (rest : List S) → run machine rest (in_order machine b a t) ≡ run machine rest (in_order machine a b t)

-- Of a machine: behind every accepted opening and every list of its steps, two neighbouring steps with such events.
abbrev pub SwapsWhere : {S : Type 0} → (Event → Event → Type 0) → Machine S → Type 0
SwapsWhere {S} Such machine = BehindOpenings machine (λ start played h.
    let t = left_by played start in
    (a b : S) → Such (machine a t).event (machine b (machine a t).tables).event → Swapped machine t a b)

abbrev pub Swaps : {S : Type 0} → Machine S → Type 0
Swaps machine = SwapsWhere AtDifferentTargets machine
