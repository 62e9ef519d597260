-- What ties the records of the tables to the history told, and that it gives the register the row's order.
use Prim.Native.Nat.{ℕ, zero, suc, ◌-◌, ◌≤◌, ◌<◌}
use Rattle.std.specs.Prelude.{◌≡◌, refl, true, false, length, eqb}
use Rattle.std.proofs.Math.Path.{sym, ap₂}
use Rattle.std.proofs.Common.{ap, ◌∙◌, arith, eq-eqb, ne_eqb}
use Rattle.std.proofs.Math.Option.{Option, none, some}
use mathlib.Core.List.{List, [], ◌∷◌, ◌++◌, map, map-map, map-append}
use Rattle.ranges.specs.Each.{Each}
use Rattle.ranges.specs.Tests.{not-both}
use Rattle.tables.specs.Layout.{record_word, number_of_record, tag_of_record, begin_of_record}
use Rattle.tables.specs.Tables.{Tables, clients_of, step_of, entries_of, writes_of, reads_of, state_of, record_of}
use Rattle.rules.specs.Common.{idle}
use Rattle.soundness.specs.Sound.{is_writing, is_reading}
use Rattle.soundness.specs.Facts.{Sound}
use Rattle.listing.specs.Register.{has_tag, finished_below, write, read, reads_of_tag, writes_of_tag, listed_to, register}
use Rattle.listing.specs.Changes.{places-one, ByBegin, by-begin_sorted}
use Rattle.claim.specs.History.{Transaction, Doing, nothing, writing, tagged, reading, History}
use Rattle.claim.specs.Row.{row_to, row}
use Rattle.claim.specs.Row as row'
use Rattle.serial.proofs.Lists.{Pairs}
use Rattle.listed_order.specs.Order.{Particulars, of_record, described, number_at, told}
use Rattle.register_order.specs.Lists.{Both, both_of-tag}

-- step numbers rise, up to the tables' own
pub record Numbered (numbers : List ℕ) (step : ℕ) : Type 0 where
  pub rise : Pairs (λ m n. m ≤ n) numbers
  pub most : Each (λ n. n ≤ step) numbers

-- an end has its step number already
abbrev pub EndKnown : ℕ → Option ℕ → Type 0
EndKnown steps none = Unit {0}
EndKnown steps (some clock) = clock < steps

-- a transaction is told so
pub record Tells (numbers : List ℕ) (x : Transaction) (e : Particulars) : Type 0 where
  pub is : told numbers x ≡ e
  pub begun : x.begin < length numbers
  pub ended : EndKnown (length numbers) x.end

-- one record alone bears the tag, and says what is told of the WRITE
pub record OneWrite (writes : List ℕ) (begun : ℕ) (numbers : List ℕ) (tag : ℕ) (x : Transaction) : Type 0 where
  pub place : ℕ
  pub within : place < begun
  pub bears : record_word writes place tag_of_record ≡ tag
  pub unique : (i : ℕ) → i < begun → record_word writes i tag_of_record ≡ tag → i ≡ place
  pub tells : Tells numbers x (of_record true 0 writes place)

-- what a READ's line says
abbrev pub of_read : List ℕ → ℕ → Particulars
of_read reads place = of_record false (record_word reads place number_of_record) reads place

-- the finished READs in order of records are those told, in that order
abbrev pub ReadsTold : List ℕ → ℕ → List ℕ → List Transaction → Type 0
ReadsTold reads begun numbers xs = Both (λ place x. Tells numbers x (of_read reads place)) (finished_below reads begun) xs

-- What a client is at, and its record in progress.
module _ (t : Tables) (numbers : List ℕ) (q : ℕ) where
  -- a WRITE without a tag
  pub record Untagged (begin : ℕ) : Type 0 where
    pub writes : is_writing (state_of t q) ≡ true
    pub tag : record_word t.writes (record_of t q) tag_of_record ≡ 0
    pub start : record_word t.writes (record_of t q) begin_of_record ≡ number_at numbers begin
    pub known : begin < length numbers

  -- a WRITE that has its tag, whether or not the client knows it
  pub record Tagged (n : ℕ) : Type 0 where
    pub writes : is_writing (state_of t q) ≡ true
    pub tag : record_word t.writes (record_of t q) tag_of_record ≡ n

  pub record Reading (mask begin : ℕ) : Type 0 where
    pub reads : is_reading (state_of t q) ≡ true
    pub masked : record_word t.reads (record_of t q) number_of_record ≡ mask
    pub start : record_word t.reads (record_of t q) begin_of_record ≡ number_at numbers begin
    pub known : begin < length numbers

  -- neither a READ's deliveries nor its lost replies are in its record
  abbrev pub Activity : Doing → Type 0
  Activity nothing = state_of t q ≡ idle
  Activity (writing mask badge setpoints begin) = Untagged begin
  Activity (tagged tag) = Tagged tag
  Activity (reading mask begin deliveries losses) = Reading mask begin

  -- an idle client is at nothing
  pub at_rest : (d : Doing) → Activity d → state_of t q ≡ idle → d ≡ nothing
  at_rest nothing a e = refl
  at_rest (writing mask badge setpoints begin) a e = absurd (not-both a.writes (rw e))
  at_rest (tagged tag) a e = absurd (not-both a.writes (rw e))
  at_rest (reading mask begin deliveries losses) a e = absurd (not-both a.reads (rw e))

pub record Agrees (t : Tables) (h : History) (numbers : List ℕ) : Type 0 where
  pub sound : Sound t
  pub clock : length numbers ≡ h.clock
  pub numbered : Numbered numbers (step_of t)
  pub entries : entries_of t ≡ suc h.tags
  -- "Records stand in order of begin", and so the sort leaves them
  pub begins : ByBegin t.reads (reads_of t) (step_of t)
  pub writes : (tag : ℕ) → 1 ≤ tag → tag ≤ h.tags → OneWrite t.writes (writes_of t) numbers tag (h.write tag)
  pub reads : ReadsTold t.reads (reads_of t) numbers h.reads
  pub clients : (q : ℕ) → q < clients_of t → Activity t numbers q (h.doing q)

-- The register's order is the row's.
module _ (t : Tables) (h : History) (numbers : List ℕ) (a : Agrees t h numbers) where
  reads-listed : (tag : ℕ) → map (described t) (map read (reads_of_tag t tag)) ≡ map (told numbers) (row'.reads_of tag h.reads)
  reads-listed tag =
      map-map (described t) read (reads_of_tag t tag)
      ∙ rw (by-begin_sorted t.reads (reads_of t) (step_of t) a.begins)
      (both_of-tag (λ place x. Tells numbers x (of_read t.reads place)) tag (has_tag t.reads tag)
      (λ place x r. ap (λ (e : Particulars). eqb e.tag tag) (sym r.is))
      (of_read t.reads) (told numbers) (λ place x r. sym r.is) (finished_below t.reads (reads_of t)) h.reads a.reads)

  one-listed : (tag : ℕ) (o : OneWrite t.writes (writes_of t) numbers tag (h.write tag)) → writes_of_tag t tag ≡ o.place ∷ []
  one-listed tag o =
      places-one (has_tag t.writes tag) (writes_of t) o.place o.within (eq-eqb _ tag o.bears)
      (λ i l d. ne_eqb (record_word t.writes i tag_of_record) tag (λ e. d (o.unique i l e)))

  listed_to_lem : (n : ℕ) → n ≤ h.tags → map (described t) (listed_to t n) ≡ map (told numbers) (row_to h n)
  unfolding listed_to row_to
  listed_to_lem zero l = reads-listed 0
  listed_to_lem (suc n) l =
      let o = a.writes (suc n) (omega arith) l in
      let rest : map (described t) (map write (writes_of_tag t (suc n)) ++ map read (reads_of_tag t (suc n))) ≡ map (told numbers) (h.write (suc n) ∷ row'.reads_of (suc n) h.reads) =
      rw (one-listed (suc n) o) (ap₂ {C = List Particulars} (λ (x : Particulars) (xs : List Particulars). x ∷ xs) (sym o.tells.is) (reads-listed (suc n))) in
      map-append (described t) (listed_to t n) (map write (writes_of_tag t (suc n)) ++ map read (reads_of_tag t (suc n)))
      ∙ ap₂ {C = List Particulars} (λ (xs ys : List Particulars). xs ++ ys) (listed_to_lem n (omega arith)) rest
      ∙ sym (map-append (told numbers) (row_to h n) (h.write (suc n) ∷ row'.reads_of (suc n) h.reads))

  pub same_order : map (described t) (register t) ≡ map (told numbers) (row h)
  same_order =
      let last : entries_of t - 1 ≡ h.tags = omega (arith, a.entries) in
      rw last (listed_to_lem h.tags (omega arith))
