-- The laws of the step: one for each way in which a step changes the records. Whatever else it changes is the step's client's own.
use Rattle.std.specs.Prelude.{ℕ, suc, ◌+◌, ◌≤◌, ◌<◌, ◌≡◌, refl, Bool, true, List, [], ◌∷◌, length, get_or, eqb, ltb}
use Rattle.std.proofs.Common.{sym, ap, ◌∙◌, subst, arith, add-one, eqb-true}
use Rattle.std.proofs.Math.Option.{none}
use Rattle.ranges.specs.Tests.{by_equal, both_right}
use Rattle.tables.specs.Rows.{HasRow, word_same, word-length}
use Rattle.tables.specs.Layout.{record_places, record_width, record_word, client_of_record, number_of_record, tag_of_record, begin_of_record}
use Rattle.tables.specs.Layout.{end_of_record, put_begun, state_field, record_field}
use Rattle.tables.specs.Tables.{Tables, clients_of, step_of, entries_of, writes_of, reads_of, state_of, record_of}
use Rattle.rules.specs.Common.{idle, ended_record, tagged_record}
use Rattle.rules.specs.Common as rules
use Rattle.rules.specs.declared.Delivered.{Delivered}
use Rattle.soundness.specs.Sound.{is_writing, is_reading, is_open}
use Rattle.soundness.specs.Facts as underway
use Rattle.soundness.specs.Room.{write_open, read_open, write-row, read-row, next-write, next-read}
use Rattle.keeping.specs.Records.{open-client, begun-here, tagged-here, tagged-word, ended-word}
use Rattle.keeping.specs.Frame.{Kept}
use Rattle.listing.specs.Register.{begin_in}
use Rattle.listing.specs.Changes.{ByBegin, begins_on, begins-more}
use Rattle.claim.specs.History.{value_written, value_shown, changed, Transaction, Doing, nothing, writing, tagged, reading, History}
use Rattle.claim.specs.History.{history_of, passed, turned, delivered, entered, missed, lost_of, repeated, marked, write_of, read_of, given}
use Rattle.claim.specs.History.{wrote, showed, ended}
use Rattle.serial.proofs.Places.{changed_other, changed-all}
use Rattle.listed_order.specs.Order.{Particulars, particulars, of_record, number_at}
use Rattle.register_order.specs.Agreement.{Numbered, Tells, OneWrite, of_read, ReadsTold, Untagged, Tagged, Reading, Activity, Agrees}
use Rattle.register_order.specs.Grown.{more, more-length, number_more, number-last, numbered_more, begun-before, tells_more, tells_as}
use Rattle.register_order.specs.Grown.{But, Alike, begun_but, tagged_but, ended_but, one_but, one_more, reads_more, reads-begun}
use Rattle.register_order.specs.Grown.{reads-ended, GoesOn, goes_same, activity_on}

-- what a step of client q leaves of the others' records in progress
pub record Leaves (q : ℕ) (t t' : Tables) : Type 0 where
  pub writes : (p : ℕ) → p < clients_of t → (p ≡ q → ⊥) → is_writing (state_of t p) ≡ true → Alike t.writes t'.writes (record_of t p)
  pub reads : (p : ℕ) → p < clients_of t → (p ≡ q → ⊥) → is_reading (state_of t p) ≡ true → Alike t.reads t'.reads (record_of t p)

-- the counts afterwards
pub record Counts (t t' : Tables) (logged begunWrites begunReads : ℕ) : Type 0 where
  pub entries : entries_of t' ≡ logged
  pub writes : writes_of t' ≡ begunWrites
  pub reads : reads_of t' ≡ begunReads
  pub step : step_of t' ≡ step_of t + 1

-- a record in progress has no end
open-end : (records : List ℕ) (q place : ℕ) → is_open records q place ≡ true → record_word records place end_of_record ≡ 0
open-end records q place e = eqb-true _ _ (both_right (eqb (record_word records place client_of_record) q) (eqb (record_word records place end_of_record) 0) e)

-- what changes in a client's own record in progress is no other client's
others_alike : (records records' : List ℕ) (begun p q place place' : ℕ) → underway.Doing records begun p place → underway.Doing records begun q place' → But records records' place' → (p ≡ q → ⊥) → Alike records records' place
others_alike records records' begun p q place place' other own but d f h =
    but place f h (λ e. d (sym (open-client records p place other.here) ∙ ap (λ (n : ℕ). record_word records n client_of_record) e ∙ open-client records q place' own.here))

-- a history in which only what the clients are at has changed, and how many steps fit none of it
abbrev pub moved_on : History → (ℕ → Doing) → ℕ → History
moved_on h doing astray =
    history_of h.initial h.extra (suc h.clock) h.tags h.write h.said h.reads doing h.answered astray

-- a delivered request at target 16 gives a tag to a WRITE that has none, and to nothing else
abbrev pub NoTagDue : Doing → Type 0
NoTagDue nothing = Unit {0}
NoTagDue (writing mask badge setpoints begin) = ⊥
NoTagDue (tagged tag) = Unit {0}
NoTagDue (reading mask begin deliveries losses) = Unit {0}

-- a step refused leaves all as before
module _ (t : Tables) (h : History) (numbers : List ℕ) (a : Agrees t h numbers) where
  pub passed_agrees : Agrees t (passed h) (more numbers (step_of t))
  passed_agrees = record {
    sound = a.sound;
    clock = more-length numbers (step_of t) ∙ ap suc a.clock;
    numbered = numbered_more numbers (step_of t) (step_of t) (omega arith) a.numbered;
    entries = a.entries;
    begins = a.begins;
    writes = λ tag l u. one_more t.writes (writes_of t) numbers tag (h.write tag) (step_of t) (a.writes tag l u);
    reads = reads_more t.reads (reads_of t) numbers h.reads (step_of t) a.reads;
    clients = λ q l.
        activity_on t t numbers (step_of t) q (goes_same refl refl) (λ w f g. refl) (λ w f g. refl) (h.doing q) (a.clients q l);
  }

  -- what the last step on a link was is in no record
  pub marked_agrees : (q i : ℕ) (request : Bool) → Agrees t (marked q i request h) numbers
  marked_agrees q i request = record {
    sound = a.sound;
    clock = a.clock;
    numbered = a.numbered;
    entries = a.entries;
    begins = a.begins;
    writes = a.writes;
    reads = a.reads;
    clients = a.clients;
  }

  -- the rules' step + 1 is the count's next
  pub as-next : (t' : Tables) (h' : History) → Agrees t' h' (more numbers (step_of t + 1)) → Agrees t' h' (more numbers (suc (step_of t)))
  as-next t' h' b = subst (λ (n : ℕ). Agrees t' h' (more numbers n)) (add-one (step_of t)) b

module _ (t t' : Tables) (h : History) (numbers : List ℕ) (a : Agrees t h numbers) (q : ℕ) (client : q < clients_of t) (k : Kept q t t') where
  abbrev step' : ℕ
  step' = step_of t + 1

  abbrev numbers' : List ℕ
  numbers' = more numbers step'

  -- where the client's record in progress stands
  abbrev own-place : ℕ
  own-place = record_of t q

  clock_on : length numbers' ≡ suc h.clock
  clock_on = more-length numbers step' ∙ ap suc a.clock

  -- the step now taken has its number
  pub number_now : number_at numbers' h.clock ≡ step'
  number_now = rw a.clock at (number-last numbers step')

  pub now_known : h.clock < length numbers'
  now_known = omega (arith, clock_on)

  clients_on : Leaves q t t' → (d : Doing) → Activity t' numbers' q d → (p : ℕ) → p < clients_of t' → Activity t' numbers' p (changed h.doing q d p)
  clients_on leaves d own p l =
      changed-all h.doing q d (λ r x. r < clients_of t → Activity t' numbers' r x) (λ z. own)
      (λ r apart z.
      let row = k.grows.row r in
      let on : GoesOn t t' r = goes_same (row record_field apart (omega arith)) (row state_field apart (omega arith)) in
      activity_on t t' numbers step' r on (leaves.writes r z apart) (leaves.reads r z apart) (h.doing r) (a.clients r z))
      p (rw k.grows.numbers.clients at l)

  numbered_now : Numbered numbers' step'
  numbered_now = numbered_more numbers step' (step_of t) (omega arith) a.numbered

  numbered_on : step_of t' ≡ step' → Numbered numbers' (step_of t')
  numbered_on step = rw step numbered_now

  -- no READ began meanwhile
  begins_stay : ((place : ℕ) → begin_in t'.reads place ≡ begin_in t.reads place) → reads_of t' ≡ reads_of t → step_of t' ≡ step' →
      ByBegin t'.reads (reads_of t') (step_of t')
  begins_stay same begun step =
      rw begun (begins_on t.reads t'.reads (reads_of t) (step_of t) (step_of t') (λ i l. same i) a.begins (omega arith))

  reads_on : ReadsTold t.reads (reads_of t) numbers' h.reads
  reads_on = reads_more t.reads (reads_of t) numbers h.reads step' a.reads

  -- no record changes
  module _ (same_writes : t'.writes ≡ t.writes) (same_Reads : t'.reads ≡ t.reads) (c : Counts t t' (entries_of t) (writes_of t) (reads_of t)) where
    pub all_stay : Leaves q t t'
    all_stay = record { writes = λ p l d w f g. rw same_writes; reads = λ p l d w f g. rw same_Reads }

    quiet : (doing : ℕ → Doing) (astray : ℕ) → ((p : ℕ) → p < clients_of t' → Activity t' numbers' p (doing p)) →
        Agrees t' (moved_on h doing astray) numbers'
    quiet doing astray clients = record {
      sound = k.sound;
      clock = clock_on;
      numbered = numbered_on c.step;
      entries = c.entries ∙ a.entries;
      begins = begins_stay (λ place. rw same_Reads) c.reads c.step;
      writes = λ tag l u. rw (same_writes, c.writes) (one_more t.writes (writes_of t) numbers tag (h.write tag) step' (a.writes tag l u));
      reads = rw (same_Reads, c.reads) reads_on;
      clients = clients;
    }

    -- The client goes on with what it is at.
    module _ (on : GoesOn t t' q) where
      own-stays : (d : Doing) → Activity t numbers q d → Activity t' numbers' q d
      own-stays = activity_on t t' numbers step' q on (λ w f g. rw same_writes) (λ w f g. rw same_Reads)

      -- with nothing else, though a step may fit no transaction
      still : (astray : ℕ) → Agrees t' (moved_on h h.doing astray) numbers'
      still astray =
          quiet h.doing astray
          (λ p l. by_equal p q
          (λ e. rw e (own-stays (h.doing q) (a.clients q client)))
          (λ d.
          let others = clients_on all_stay (h.doing q) (own-stays (h.doing q) (a.clients q client)) p l in
          rw (changed_other h.doing q (h.doing q) p d) at others))

      -- or with one delivery more, or one lost reply
      counts_on : (mask begin deliveries losses deliveries' losses' : ℕ) → h.doing q ≡ reading mask begin deliveries losses →
          Agrees t' (turned q (reading mask begin deliveries' losses') h) numbers'
      counts_on mask begin deliveries losses deliveries' losses' e =
          let own : Reading t' numbers' q mask begin = own-stays (reading mask begin deliveries losses) (rw e at (a.clients q client)) in
          quiet (changed h.doing q (reading mask begin deliveries' losses')) h.astray
          (clients_on all_stay (reading mask begin deliveries' losses') own)

      pub quiet-delivered : (d : Doing) → h.doing q ≡ d → Agrees t' (delivered d q h) numbers'
      quiet-delivered nothing e = still (suc h.astray)
      quiet-delivered (writing mask badge setpoints begin) e = still h.astray
      quiet-delivered (tagged tag) e = still h.astray
      quiet-delivered (reading mask begin deliveries losses) e = counts_on mask begin deliveries losses (suc deliveries) losses e

      pub quiet-entered : (d : Doing) → h.doing q ≡ d → NoTagDue d → Agrees t' (entered d q h) numbers'
      quiet-entered nothing e n = still (suc h.astray)
      quiet-entered (writing mask badge setpoints begin) e n = absurd n
      quiet-entered (tagged tag) e n = still h.astray
      quiet-entered (reading mask begin deliveries losses) e n = counts_on mask begin deliveries losses (suc deliveries) losses e

      -- a loss, of a request or of a reply
      pub quiet-missed : (reply : Bool) (d : Doing) → h.doing q ≡ d → Agrees t' (missed reply d q h) numbers'
      quiet-missed reply nothing e = still (suc h.astray)
      quiet-missed reply (writing mask badge setpoints begin) e = still h.astray
      quiet-missed reply (tagged tag) e = still h.astray
      quiet-missed reply (reading mask begin deliveries losses) e =
          counts_on mask begin deliveries losses deliveries (lost_of reply losses) e

      -- and a request sent again
      pub quiet-repeated : (d : Doing) → Agrees t' (repeated d h) numbers'
      quiet-repeated nothing = still (suc h.astray)
      quiet-repeated (writing mask badge setpoints begin) = still h.astray
      quiet-repeated (tagged tag) = still h.astray
      quiet-repeated (reading mask begin deliveries losses) = still h.astray

  -- a WRITE begins
  module _ (number badge : ℕ) (begins : t'.writes ≡ put_begun t.writes (writes_of t) q number step' badge)
      (same_Reads : t'.reads ≡ t.reads) (c : Counts t t' (entries_of t) (writes_of t + 1) (reads_of t))
      (few : writes_of t < record_places) (state : state_of t' q ≡ rules.writing) (here : record_of t' q ≡ writes_of t) (mask : ℕ) (setpoints : List ℕ) where
    write_word : (f : ℕ) → f < record_width → record_word t'.writes (writes_of t) f ≡ get_or (q ∷ number ∷ 0 ∷ step' ∷ 0 ∷ badge ∷ []) f 0
    write_word f g = rw begins (begun-here t.writes (writes_of t) q number step' badge f g (next-write t a.sound few))

    write_but : But t.writes t'.writes (writes_of t)
    write_but place f g d = rw begins (begun_but t.writes (writes_of t) q number step' badge place f g d)

    pub write-begins : Agrees t' (turned q (writing mask badge setpoints h.clock) h) numbers'
    write-begins = record {
      sound = k.sound;
      clock = clock_on;
      numbered = numbered_on c.step;
      entries = c.entries ∙ a.entries;
      begins = begins_stay (λ place. rw same_Reads) c.reads c.step;
      writes = λ tag l u.
          let o = one_more t.writes (writes_of t) numbers tag (h.write tag) step' (a.writes tag l u) in
          one_but t.writes t'.writes (writes_of t) (writes_of t') numbers' tag (h.write tag) (writes_of t) o write_but
          (λ e. omega (arith, o.within)) (λ e. omega (arith, write_word tag_of_record (omega arith))) (omega (arith, c.writes)) (λ i m d. omega (arith, c.writes));
      reads = rw (same_Reads, c.reads) reads_on;
      clients = clients_on (record {
        writes = λ p l d w f g. write_but (record_of t p) f g (λ e. omega (arith, (write_open t a.sound p l w).within));
        reads = λ p l d w f g. rw same_Reads;
      })
          (writing mask badge setpoints h.clock)
          (record {
            writes = rw state;
            tag = rw here (write_word tag_of_record (omega arith));
            start = rw here (write_word begin_of_record (omega arith) ∙ sym number_now);
            known = now_known;
          });
    }

  -- a READ begins
  module _ (mask : ℕ) (begins : t'.reads ≡ put_begun t.reads (reads_of t) q mask step' 0) (same_writes : t'.writes ≡ t.writes)
      (c : Counts t t' (entries_of t) (writes_of t) (reads_of t + 1))
      (few : reads_of t < record_places) (state : is_reading (state_of t' q) ≡ true) (here : record_of t' q ≡ reads_of t) where
    read_word : (f : ℕ) → f < record_width → record_word t'.reads (reads_of t) f ≡ get_or (q ∷ mask ∷ 0 ∷ step' ∷ 0 ∷ 0 ∷ []) f 0
    read_word f g = rw begins (begun-here t.reads (reads_of t) q mask step' 0 f g (next-read t a.sound few))

    read_but : But t.reads t'.reads (reads_of t)
    read_but place f g d = rw begins (begun_but t.reads (reads_of t) q mask step' 0 place f g d)

    pub read-begins : Agrees t' (turned q (reading mask h.clock 0 0) h) numbers'
    read-begins = record {
      sound = k.sound;
      clock = clock_on;
      numbered = numbered_on c.step;
      entries = c.entries ∙ a.entries;
      begins = rw c.reads (begins-more t.reads t'.reads (reads_of t) (step_of t) (step_of t')
          (λ i l. read_but i begin_of_record (omega arith) (λ e. omega arith)) a.begins
          (omega (arith, read_word begin_of_record (omega arith))) (omega (arith, read_word begin_of_record (omega arith), c.step)));
      writes = λ tag l u. rw (same_writes, c.writes) (one_more t.writes (writes_of t) numbers tag (h.write tag) step' (a.writes tag l u));
      reads = rw c.reads
          (reads-begun t.reads t'.reads (reads_of t) read_but numbers' h.reads (read_word end_of_record (omega arith)) reads_on);
      clients = clients_on (record {
        writes = λ p l d w f g. rw same_writes;
        reads = λ p l d w f g. read_but (record_of t p) f g (λ e. omega (arith, (read_open t a.sound p l w).within));
      })
          (reading mask h.clock 0 0)
          (record {
            reads = state;
            masked = rw here (read_word number_of_record (omega arith));
            start = rw here (read_word begin_of_record (omega arith) ∙ sym number_now);
            known = now_known;
          });
    }

  -- a WRITE gets its tag
  module _ (mask badge : ℕ) (setpoints : List ℕ) (begin : ℕ) (u : Untagged t numbers q begin)
      (tags : t'.writes ≡ tagged_record (record_of t q) (entries_of t) t.writes) (same_Reads : t'.reads ≡ t.reads)
      (c : Counts t t' (entries_of t + 1) (writes_of t) (reads_of t)) (on : GoesOn t t' q) where
    open-here : underway.Doing t.writes (writes_of t) q own-place
    open-here = write_open t a.sound q client u.writes

    tag_but : But t.writes t'.writes own-place
    tag_but place f g d = rw tags (tagged_but t.writes own-place (entries_of t) place f g d)

    tag-here : record_word t'.writes own-place tag_of_record ≡ suc h.tags
    tag-here = rw tags (tagged-here t.writes own-place (entries_of t) (write-row t a.sound q client u.writes)) ∙ a.entries

    tag_beside : (f : ℕ) → f < record_width → (f ≡ tag_of_record → ⊥) → record_word t'.writes own-place f ≡ record_word t.writes own-place f
    tag_beside f g d = rw tags (tagged-word t.writes own-place (entries_of t) own-place f g d)

    abbrev new : Transaction
    new = write_of q mask (value_written (suc h.tags) badge setpoints) (suc h.tags) begin none

    new_tells : Tells numbers' new (of_record true 0 t'.writes own-place)
    new_tells = record {
      is = sym (rw (
        tag-here,
        tag_beside client_of_record (omega arith) (λ e. omega arith) ∙ open-client t.writes q own-place open-here.here,
        tag_beside begin_of_record (omega arith) (λ e. omega arith) ∙ u.start ∙ sym (number_more numbers step' begin u.known),
        tag_beside end_of_record (omega arith) (λ e. omega arith) ∙ open-end t.writes q own-place open-here.here,
      ));
      begun = omega (arith, u.known, clock_on, a.clock);
      ended = tt;
    }

    new-one : OneWrite t'.writes (writes_of t) numbers' (suc h.tags) new
    new-one = record {
      place = own-place;
      within = open-here.within;
      bears = tag-here;
      unique = λ i l e. by_equal i own-place (λ z. z) (λ d. let z : ⊥ = omega (arith, sym (tag_but i tag_of_record (omega arith) d) ∙ e, (a.sound.write i l).tag, a.entries) in absurd z);
      tells = new_tells;
    }

    pub write-tags : Agrees t' (given q mask badge setpoints begin h) numbers'
    write-tags = record {
      sound = k.sound;
      clock = clock_on;
      numbered = numbered_on c.step;
      entries = omega (arith, c.entries, a.entries);
      begins = begins_stay (λ place. rw same_Reads) c.reads c.step;
      writes = rw c.writes (changed-all h.write (suc h.tags) new (λ tag x. 1 ≤ tag → tag ≤ suc h.tags → OneWrite t'.writes (writes_of t) numbers' tag x)
          (λ l m. new-one)
          (λ tag d l m.
          let o = one_more t.writes (writes_of t) numbers tag (h.write tag) step' (a.writes tag l (omega arith)) in
          one_but t.writes t'.writes (writes_of t) (writes_of t) numbers' tag (h.write tag) own-place o tag_but
          (λ e. omega (arith, ap (λ (n : ℕ). record_word t.writes n tag_of_record) e, o.bears, u.tag)) (λ e. d (sym e ∙ tag-here)) (omega arith) (λ i y z. y)));
      reads = rw (same_Reads, c.reads) reads_on;
      clients = clients_on (record { writes = λ p l d v. others_alike t.writes t'.writes (writes_of t) p q (record_of t p) own-place (write_open t a.sound p l v) open-here tag_but d; reads = λ p l d v f g. rw same_Reads })
          (tagged (suc h.tags))
          (record { writes = on.writes u.writes; tag = rw on.place tag-here });
    }

  -- a WRITE ends
  module _ (tag answer : ℕ) (some-tag : 1 ≤ tag) (logged : tag ≤ h.tags) (g : Tagged t numbers q tag)
      (ends : t'.writes ≡ ended_record (record_of t q) step' t.writes) (same_Reads : t'.reads ≡ t.reads) (c : Counts t t' (entries_of t) (writes_of t) (reads_of t)) (state : state_of t' q ≡ idle) where
    abbrev w : is_writing (state_of t q) ≡ true
    w = g.writes

    abbrev bears-tag : record_word t.writes own-place tag_of_record ≡ tag
    bears-tag = g.tag

    abbrev ending : Particulars → Particulars
    ending e = particulars e.is_write e.tag e.client e.mask e.begin step'

    end_but : But t.writes t'.writes own-place
    end_but place f g d = rw ends (ended_but t.writes own-place step' place f g d)

    end_beside : (place f : ℕ) → f < record_width → (f ≡ end_of_record → ⊥) → record_word t'.writes place f ≡ record_word t.writes place f
    end_beside place f g d = rw ends (ended-word t.writes own-place step' place f g d)

    end-here : record_word t'.writes own-place end_of_record ≡ step'
    end-here = rw ends (word_same record_width t.writes own-place end_of_record step' (write-row t a.sound q client w) (omega arith))

    abbrev was : OneWrite t.writes (writes_of t) numbers tag (h.write tag)
    was = a.writes tag some-tag logged

    was-here : own-place ≡ was.place
    was-here = was.unique own-place (write_open t a.sound q client w).within bears-tag

    end-particulars : of_record true 0 t'.writes own-place ≡ ending (of_record true 0 t.writes own-place)
    end-particulars = rw (end-here, end_beside own-place tag_of_record (omega arith) (λ e. omega arith), end_beside own-place client_of_record (omega arith) (λ e. omega arith), end_beside own-place begin_of_record (omega arith) (λ e. omega arith))

    end_tells : Tells numbers' (ended h.clock (h.write tag)) (of_record true 0 t'.writes own-place)
    end_tells =
        let before = tells_more numbers step' (h.write tag) _ (tells_as numbers (h.write tag) (ap (of_record true 0 t.writes) was-here) was.tells) in
        record { is = rw number_now (ap ending before.is) ∙ sym end-particulars; begun = before.begun; ended = now_known }

    end-one : OneWrite t'.writes (writes_of t) numbers' tag (ended h.clock (h.write tag))
    end-one = record {
      place = own-place;
      within = (write_open t a.sound q client w).within;
      bears = end_beside own-place tag_of_record (omega arith) (λ e. omega arith) ∙ bears-tag;
      unique = λ i l e. was.unique i l (sym (end_beside i tag_of_record (omega arith) (λ z. omega arith)) ∙ e) ∙ sym was-here;
      tells = end_tells;
    }

    pub write-ends : Agrees t' (wrote answer (tagged tag) q h) numbers'
    write-ends = record {
      sound = k.sound;
      clock = clock_on;
      numbered = numbered_on c.step;
      entries = c.entries ∙ a.entries;
      begins = begins_stay (λ place. rw same_Reads) c.reads c.step;
      writes = rw c.writes (changed-all h.write tag (ended h.clock (h.write tag)) (λ n x. 1 ≤ n → n ≤ h.tags → OneWrite t'.writes (writes_of t) numbers' n x)
          (λ l m. end-one)
          (λ n d l m.
          let o = one_more t.writes (writes_of t) numbers n (h.write n) step' (a.writes n l m) in
          one_but t.writes t'.writes (writes_of t) (writes_of t) numbers' n (h.write n) own-place o end_but
          (λ e. d (sym o.bears ∙ ap (λ (i : ℕ). record_word t.writes i tag_of_record) e ∙ bears-tag))
          (λ e. d (sym e ∙ end_beside own-place tag_of_record (omega arith) (λ z. omega arith) ∙ bears-tag)) (omega arith) (λ i y z. y)));
      reads = rw (same_Reads, c.reads) reads_on;
      clients = clients_on (record {
        writes = λ p l d v.
            others_alike t.writes t'.writes (writes_of t) p q (record_of t p) own-place (write_open t a.sound p l v)
            (write_open t a.sound q client w) end_but d;
        reads = λ p l d v f g. rw same_Reads;
      })
          nothing state;
    }

  -- a READ ends
  module _ (mask begin deliveries losses : ℕ) (r : Reading t numbers q mask begin) (tag : ℕ) (shown : Delivered)
      (ends : t'.reads ≡ ended_record (record_of t q) step' (tagged_record (record_of t q) tag t.reads)) (same_writes : t'.writes ≡ t.writes) (c : Counts t t' (entries_of t) (writes_of t) (reads_of t)) (state : state_of t' q ≡ idle) where
    abbrev with_tag : List ℕ
    with_tag = tagged_record own-place tag t.reads

    open-read : underway.Doing t.reads (reads_of t) q own-place
    open-read = read_open t a.sound q client r.reads

    room : HasRow record_width t.reads own-place
    room = read-row t a.sound q client r.reads

    over_but : But t.reads t'.reads own-place
    over_but place f g d = rw ends (ended_but with_tag own-place step' place f g d ∙ tagged_but t.reads own-place tag place f g d)

    over-end : record_word t'.reads own-place end_of_record ≡ step'
    over-end = rw ends (word_same record_width with_tag own-place end_of_record step' (rw (word-length record_width t.reads own-place tag_of_record tag) room) (omega arith))

    over-tag : record_word t'.reads own-place tag_of_record ≡ tag
    over-tag = rw ends (ended-word with_tag own-place step' own-place tag_of_record (omega arith) (λ e. omega arith) ∙ tagged-here t.reads own-place tag room)

    over_beside : (place f : ℕ) → f < record_width → (f ≡ end_of_record → ⊥) → (f ≡ tag_of_record → ⊥) →
        record_word t'.reads place f ≡ record_word t.reads place f
    over_beside place f g d e =
        rw ends (ended-word with_tag own-place step' place f g d ∙ tagged-word t.reads own-place tag place f g e)

    over-begin : (place : ℕ) → begin_in t'.reads place ≡ begin_in t.reads place
    over-begin place = over_beside place begin_of_record (omega arith) (λ e. omega arith) (λ e. omega arith)

    -- the step at which it began
    over-start : number_at numbers' begin ≡ begin_in t.reads own-place
    over-start = number_more numbers step' begin r.known ∙ sym r.start

    abbrev finished : Transaction
    finished = read_of q mask (value_shown shown) tag begin h.clock (suc deliveries) losses

    begun_known : begin < length numbers'
    begun_known = omega (arith, r.known, clock_on, a.clock)

    over_tells : Tells numbers' finished (of_read t'.reads own-place)
    over_tells = record {
      is = sym (rw (
        over-tag,
        over-end,
        over_beside own-place client_of_record (omega arith) (λ e. omega arith) (λ e. omega arith)
            ∙ open-client t.reads q own-place open-read.here,
        over_beside own-place number_of_record (omega arith) (λ e. omega arith) (λ e. omega arith) ∙ r.masked,
        over-begin own-place ∙ sym over-start,
        number_now,
      ));
      begun = begun_known;
      ended = now_known;
    }

    -- it began before another READ exactly where its record stands before the other's
    over_order : (p : ℕ) (y : Transaction) → p < reads_of t → (p ≡ own-place → ⊥) → Tells numbers' y (of_read t.reads p) →
        ltb own-place p ≡ ltb begin y.begin
    over_order p y l d told =
        begun-before t.reads (reads_of t) (step_of t) a.begins numbers' step' numbered_now own-place p open-read.within l d
        begin y.begin begun_known told.begun over-start (ap (λ (e : Particulars). e.begin) told.is)

    pub read-ends : Agrees t' (showed tag shown (reading mask begin deliveries losses) q h) numbers'
    read-ends = record {
      sound = k.sound;
      clock = clock_on;
      numbered = numbered_on c.step;
      entries = c.entries ∙ a.entries;
      begins = begins_stay over-begin c.reads c.step;
      writes = λ n l u. rw (same_writes, c.writes) (one_more t.writes (writes_of t) numbers n (h.write n) step' (a.writes n l u));
      reads = rw c.reads
          (reads-ended t.reads t'.reads own-place over_but numbers' h.reads (reads_of t) open-read.within
          (open-end t.reads q own-place open-read.here) (λ e. omega (arith, over-end)) finished over_tells over_order reads_on);
      clients = clients_on (record {
        writes = λ p l d v f g. rw same_writes;
        reads = λ p l d v.
            others_alike t.reads t'.reads (reads_of t) p q (record_of t p) own-place (read_open t a.sound p l v) open-read
            over_but d;
      })
          nothing state;
    }
