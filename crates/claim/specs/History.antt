-- What steps and answers tell of transactions: folded from the events alone, one event at a time. Nothing here knows a method, but for the number of a READ's deliveries.
use Rattle.std.specs.Prelude.{ℕ, suc, ◌≡◌, Bool, true, false, cond, List, [], ◌∷◌, get_or, eqb}
use Rattle.std.proofs.Math.Option.{Option, none, some}
use Rattle.ranges.specs.Inserted.{inserted}
use Rattle.tables.specs.Tables.{Tables}
use Rattle.rules.specs.Answer.{Ok, Refused}
use Rattle.rules.specs.declared.Arrival.{Arrival}
use Rattle.rules.specs.declared.Arrival.TheVariants as arrival
use Rattle.rules.specs.declared.Delivered.{Delivered}
use Rattle.rules.specs.Common.{coordinator}
use Rattle.refusals.specs.Steps.{badge_of}
use Rattle.claim.specs.Steps.{Event, opened, begun-write, begun-read, requested, replied, lost, resent, Played, Machine, run}

-- a function changed at one place
unfoldable pub changed : {A : Type 0} → (ℕ → A) → ℕ → A → ℕ → A
changed f i a j = cond (eqb j i) a (f j)

-- What a station has at a place of the row: a setpoint, and tag and badge of the WRITE that put it there.
pub record Value : Type 0 where
  pub setpoint : ℕ
  pub tag : ℕ
  pub badge : ℕ

abbrev pub value_of : ℕ → ℕ → ℕ → Value
value_of setpoint tag badge = record { setpoint = setpoint; tag = tag; badge = badge }

-- "at first the opening's", whose tag is 0; "the opening has badge 0"
abbrev pub value_opened : List ℕ → ℕ → Value
value_opened setpoints i = value_of (get_or setpoints i 0) 0 0

-- "A WRITE sets the value of each station in its mask to the setpoint that its begin gave for that station", and tag and badge
-- to its own: "Every WRITE carries a 16-bit badge number"
abbrev pub value_written : ℕ → ℕ → List ℕ → ℕ → Value
value_written tag badge setpoints i = value_of (get_or setpoints i 0) tag badge

-- "A READ's tag and the setpoints it shows are those in its *read*", and so are the tags and
-- badges that it shows with them
abbrev pub value_shown : Delivered → ℕ → Value
value_shown d i = value_of (get_or d.setpoints i 0) (get_or d.tags i 0) (get_or d.badges i 0)

-- A transaction that stands in the row. Steps are numbered from 0 behind the opening, refused ones too.
pub record Transaction : Type 0 where
  pub is_write : Bool
  pub client : ℕ
  pub mask : ℕ
  -- what a WRITE writes, what a READ shows, by station
  pub value : ℕ → Value
  pub tag : ℕ
  pub begin : ℕ
  pub end : Option ℕ
  -- of a READ: its deliveries, and those of its replies that were lost
  pub deliveries : ℕ
  pub losses : ℕ

abbrev pub transaction_of : Bool → ℕ → ℕ → (ℕ → Value) → ℕ → ℕ → Option ℕ → ℕ → ℕ → Transaction
transaction_of is_write q mask value tag begin end deliveries losses =
    record {
      is_write = is_write;
      client = q;
      mask = mask;
      value = value;
      tag = tag;
      begin = begin;
      end = end;
      deliveries = deliveries;
      losses = losses;
    }

-- What a client is at: no transaction; a WRITE that has no tag yet; a WRITE of a tag; a READ, its deliveries and its lost replies so far.
pub data Doing : Type 0 where
  nothing : Doing
  writing : (mask badge : ℕ) → List ℕ → (begin : ℕ) → Doing
  tagged : (tag : ℕ) → Doing
  reading : (mask begin deliveries losses : ℕ) → Doing

pub record History : Type 0 where
  -- the opening's values, and the deliveries at which a READ ends beyond two for each of its stations
  pub initial : ℕ → Value
  pub extra : ℕ
  -- steps so far
  pub clock : ℕ
  -- WRITEs tagged so far; the WRITE of each tag; the tag that its *write* answered
  pub tags : ℕ
  pub write : ℕ → Transaction
  pub said : ℕ → Option ℕ
  -- finished READs, "in order of begin step"
  pub reads : List Transaction
  pub doing : ℕ → Doing
  -- whether the last accepted step on a client's link to a target was the delivery of a request: then the link holds the reply
  pub answered : ℕ → ℕ → Bool
  -- accepted steps that fit no transaction: a begin of a client that is at one, a delivery to a client that is at none, an end of another kind
  pub astray : ℕ

abbrev pub history_of : (ℕ → Value) → ℕ → ℕ → ℕ → (ℕ → Transaction) → (ℕ → Option ℕ) → List Transaction → (ℕ → Doing) →
    (ℕ → ℕ → Bool) → ℕ → History
history_of initial extra clock tags write said reads doing answered astray =
    record {
      initial = initial;
      extra = extra;
      clock = clock;
      tags = tags;
      write = write;
      said = said;
      reads = reads;
      doing = doing;
      answered = answered;
      astray = astray;
    }

-- a step that the row does not see
abbrev pub passed : History → History
passed h = history_of h.initial h.extra (suc h.clock) h.tags h.write h.said h.reads h.doing h.answered h.astray

abbrev pub strayed : History → History
strayed h = history_of h.initial h.extra (suc h.clock) h.tags h.write h.said h.reads h.doing h.answered (suc h.astray)

-- a step after which the client is at something else
abbrev pub turned : ℕ → Doing → History → History
turned q doing h =
    history_of h.initial h.extra (suc h.clock) h.tags h.write h.said h.reads (changed h.doing q doing)
    h.answered h.astray

-- "A transaction begins at an accepted begin"
abbrev pub begun : Doing → ℕ → Doing → History → History
begun nothing q doing h = turned q doing h
begun (writing mask badge setpoints begin) q doing h = strayed h
begun (tagged tag) q doing h = strayed h
begun (reading mask begin deliveries losses) q doing h = strayed h

-- "A READ's deliveries are the accepted ones, of requests and replies, on its panel's links from its begin to its end"
abbrev pub delivered : Doing → ℕ → History → History
delivered nothing q h = strayed h
delivered (writing mask badge setpoints begin) q h = passed h
delivered (tagged tag) q h = passed h
delivered (reading mask begin deliveries losses) q h = turned q (reading mask begin (suc deliveries) losses) h

-- "WRITEs are tagged 1, 2, 3 and so on in the order in which their requests at target 16 were first delivered"
abbrev pub write_of : ℕ → ℕ → (ℕ → Value) → ℕ → ℕ → Option ℕ → Transaction
write_of q mask value tag begin end = transaction_of true q mask value tag begin end 0 0

abbrev pub given : ℕ → ℕ → ℕ → List ℕ → ℕ → History → History
given q mask badge setpoints begin h =
    history_of h.initial h.extra (suc h.clock) (suc h.tags)
    (changed h.write (suc h.tags) (write_of q mask (value_written (suc h.tags) badge setpoints) (suc h.tags) begin none))
    (changed h.said (suc h.tags) none)
    h.reads (changed h.doing q (tagged (suc h.tags))) h.answered h.astray

abbrev pub entered : Doing → ℕ → History → History
entered nothing q h = strayed h
entered (writing mask badge setpoints begin) q h = given q mask badge setpoints begin h
entered (tagged tag) q h = passed h
entered (reading mask begin deliveries losses) q h = turned q (reading mask begin (suc deliveries) losses) h

-- "and finishes at the next reply delivered to its panel that answers *write* or *read*"; "*write* answers this tag"
abbrev pub ended : ℕ → Transaction → Transaction
ended end x = transaction_of x.is_write x.client x.mask x.value x.tag x.begin (some end) x.deliveries x.losses

abbrev pub wrote : ℕ → Doing → ℕ → History → History
wrote answer nothing q h = strayed h
wrote answer (writing mask badge setpoints begin) q h = strayed h
wrote answer (tagged tag) q h =
    history_of h.initial h.extra (suc h.clock) h.tags
    (changed h.write tag (ended h.clock (h.write tag)))
    (changed h.said tag (some answer))
    h.reads (changed h.doing q nothing) h.answered h.astray
wrote answer (reading mask begin deliveries losses) q h = strayed h

abbrev pub read_of : ℕ → ℕ → (ℕ → Value) → ℕ → ℕ → ℕ → ℕ → ℕ → Transaction
read_of q mask value tag begin end deliveries losses = transaction_of false q mask value tag begin (some end) deliveries losses

abbrev pub showed : ℕ → Delivered → Doing → ℕ → History → History
showed tag d nothing q h = strayed h
showed tag d (writing mask badge setpoints begin) q h = strayed h
showed tag d (tagged t) q h = strayed h
showed tag d (reading mask begin deliveries losses) q h =
    history_of h.initial h.extra (suc h.clock) h.tags h.write h.said
    (inserted (λ x. x.begin) (read_of q mask (value_shown d) tag begin h.clock (suc deliveries) losses) h.reads)
    (changed h.doing q nothing) h.answered h.astray

-- the last accepted step on a link is the delivery of a request, or another
abbrev pub marked : ℕ → ℕ → Bool → History → History
marked q i request h =
    history_of h.initial h.extra h.clock h.tags h.write h.said h.reads h.doing
    (changed h.answered q (changed (h.answered q) i request)) h.astray

abbrev pub arrived : Arrival → Delivered → ℕ → ℕ → History → History
arrived arrival.Wait d q i h = marked q i false (delivered (h.doing q) q h)
arrived arrival.Next d q i h = marked q i false (delivered (h.doing q) q h)
arrived (arrival.Write tag) d q i h = marked q i false (wrote tag (h.doing q) q h)
arrived (arrival.Read tag) d q i h = marked q i false (showed tag d (h.doing q) q h)
arrived (arrival.Refused n) d q i h = passed h

-- "one delivery more for each of its lost replies": a loss is of a reply where the last accepted step on its link delivered a request
abbrev pub lost_of : Bool → ℕ → ℕ
lost_of true losses = suc losses
lost_of false losses = losses

abbrev pub missed : Bool → Doing → ℕ → History → History
missed reply nothing q h = strayed h
missed reply (writing mask badge setpoints begin) q h = passed h
missed reply (tagged tag) q h = passed h
missed reply (reading mask begin deliveries losses) q h = turned q (reading mask begin deliveries (lost_of reply losses)) h

-- a request sent again is its transaction's, and no delivery
abbrev pub repeated : Doing → History → History
repeated nothing h = strayed h
repeated (writing mask badge setpoints begin) h = passed h
repeated (tagged tag) h = passed h
repeated (reading mask begin deliveries losses) h = passed h

-- Behind an accepted opening there is nothing yet. A READ of m stations ends at its 2m-th delivery under A, its (2m + 2)-th under B and C.
abbrev pub no_write : Transaction
no_write = write_of 0 0 (value_written 0 0 []) 0 0 none

abbrev pub fresh : (ℕ → Value) → ℕ → History
fresh initial extra = history_of initial extra 0 0 (λ tag. no_write) (λ tag. none) [] (λ q. nothing) (λ q i. false) 0

abbrev pub extra_of : ℕ → ℕ
extra_of method = cond (eqb method 1) 0 2

abbrev pub opened_with : ℕ → List ℕ → History
opened_with method setpoints = fresh (value_opened setpoints) (extra_of method)

-- "their requests at target 16"
abbrev pub at_coordinator : ℕ → Bool
at_coordinator i = eqb i coordinator

-- one event more; an accepted opening starts anew
abbrev pub after : Event → History → History
after (opened method k p setpoints Ok) h = opened_with method setpoints
after (opened method k p setpoints (Refused n)) h = passed h
after (begun-write q mask badge setpoints Ok) h = begun (h.doing q) q (writing mask (badge_of badge) setpoints h.clock) h
after (begun-write q mask badge setpoints (Refused n)) h = passed h
after (begun-read q mask Ok) h = begun (h.doing q) q (reading mask h.clock 0 0) h
after (begun-read q mask (Refused n)) h = passed h
after (requested q i Ok) h = marked q i true (cond (at_coordinator i) (entered (h.doing q) q h) (delivered (h.doing q) q h))
after (requested q i (Refused n)) h = passed h
after (replied q i d) h = arrived d.arrival d q i h
after (lost q i Ok) h = marked q i false (missed (h.answered q i) (h.doing q) q h)
after (lost q i (Refused n)) h = passed h
after (resent q i Ok) h = marked q i false (repeated (h.doing q) h)
after (resent q i (Refused n)) h = passed h

abbrev pub history : List Played → History → History
history [] h = h
history (x ∷ xs) h = history xs (after x.event h)

-- What is claimed of a machine: for every opening that it accepts, with any method, k, p, setpoints and tables, and every list of its
-- steps behind it. The claim is of the tables that the opening left, what was played behind it, and the history that the opening begins.
-- An accepted opening in the list starts the history anew, so that the claim is of the steps behind the last one.
abbrev pub BehindOpenings : {S : Type 0} → Machine S → (Tables → List Played → History → Type 0) → Type 0
BehindOpenings {S} machine Holds =
    (first : S) (t : Tables) (method k p : ℕ) (setpoints : List ℕ) →
    (machine first t).event ≡ opened method k p setpoints Ok →
    (steps : List S) →
    let start = (machine first t).tables in
    Holds start (run machine steps start) (opened_with method setpoints)
