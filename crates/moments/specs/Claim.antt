-- "In a run from an opening the count is of all WRITEs in progress at some moment of the READ": the moments are the tables that the
-- opening and each step behind it left, and what is in progress at a moment is told by those tables. No begin and no end is compared here.
use Rattle.std.specs.Prelude.{ℕ, ◌<◌, ◌≡◌, Bool, true, false, ◌&&◌, ◌||◌, List, [], ◌∷◌, get_or, eqb}
use Rattle.ranges.specs.All.{any_below}
use Rattle.ranges.specs.Sum.{count_below}
use Rattle.tables.specs.Tables.{Tables, clients_of, writes_of, reads_of, state_of, record_of}
use Rattle.rules.specs.Answer.{Ok, Refused}
use Rattle.soundness.specs.Sound.{is_writing, is_reading}
use Rattle.listing.specs.Register.{is_finished, read, line_words}
use Rattle.claim.specs.Steps.{Event, opened, begun-write, begun-read, requested, replied, lost, resent, Played, Machine, left_by}
use Rattle.claim.specs.History.{BehindOpenings}

-- A transaction, by the place of its record, is in progress where a client is at it: its state is of that kind, and that is its record.
abbrev pub at_work : (ℕ → Bool) → Tables → ℕ → Bool
at_work kind t place = any_below (λ q. kind (state_of t q) && eqb (record_of t q) place) (clients_of t)

-- The moments, the latest first: an accepted opening starts anew.
abbrev pub with' : Event → Tables → List Tables → List Tables
with' (opened method k p setpoints Ok) t past = t ∷ []
with' (opened method k p setpoints (Refused n)) t past = t ∷ past
with' (begun-write q mask badge setpoints answer) t past = t ∷ past
with' (begun-read q mask answer) t past = t ∷ past
with' (requested q i answer) t past = t ∷ past
with' (replied q i d) t past = t ∷ past
with' (lost q i answer) t past = t ∷ past
with' (resent q i answer) t past = t ∷ past

abbrev pub moments_of : List Played → List Tables → List Tables
moments_of [] past = past
moments_of (x ∷ xs) past = moments_of xs (with' x.event x.tables past)

-- a WRITE was in progress at some moment of a READ
abbrev pub together : List Tables → ℕ → ℕ → Bool
together [] read' write = false
together (t ∷ past) read' write = (at_work is_reading t read' && at_work is_writing t write) || together past read' write

-- "all WRITEs in progress at some moment of the READ", among the first n
abbrev pub in_progress : List Tables → ℕ → ℕ → ℕ
in_progress moments read' n = count_below (together moments read') n

-- the overlap that the register gives a READ
abbrev pub overlap_of : Tables → ℕ → ℕ
overlap_of t place = get_or (line_words t (read place)) 6 0

-- Of a machine: behind every accepted opening and every list of its steps, for every finished READ.
abbrev pub ByMoments : {S : Type 0} → Machine S → Type 0
ByMoments machine = BehindOpenings machine (λ start played h.
    let left = left_by played start in
    (place : ℕ) → place < reads_of left → is_finished left.reads place ≡ true →
    overlap_of left place ≡ in_progress (moments_of played (start ∷ [])) place (writes_of left))
