-- What the reader finds, field by field, and that it is what the grammar says.
use Rattle.std.specs.Prelude.{◌≡◌, ℕ, ◌+◌, ◌-◌, ◌*◌, ◌/◌, ◌≤◌, ◌<◌, List, [], ◌∷◌, ◌++◌, Bool, ◌&&◌, leb, get_or, take, set}
use Rattle.std.proofs.Math.Path.{refl, sym, ap, ap₂}
use Rattle.std.proofs.Common.{◌∙◌, append_assoc, length-append, length-set, get_or-set_same, get_or-set_other}
use native.Mathlib.Omega.{arith}
use Rattle.std.proofs.Math.Bool.{true, false, cond}
use Rattle.std.proofs.Math.Dec.{eqb}
use Rattle.std.proofs.Math.ListN.{length, get_or-append}
use Rattle.std.proofs.Math.Seq.{get_or-append_seam}
use borrow.Author.Tests.{le-leb, lt-leb, leb-true, eq-eqb, ne_eqb}
use Rattle.ranges.specs.Tests.{by_equal}
use Rattle.fields.specs.Bits.{field_at}
use Rattle.frame_table.specs.declared.Field.{Field}
use Rattle.formats.specs.declared.state.State.{State}
use Rattle.formats.specs.Took.{Took}
use Rattle.formats.specs.Scan.{Scan}
use Rattle.formats.specs.Grammar.{Grammar, end, field, Outcome, got, fault, ahead, judged, ended, read, zeros}
use Rattle.frame_table.specs.Table.{none, many_place, entry_place, fixed_fields, entry_fields, sort_at, bits_of, least_of, most_of, entries_in}
use Rattle.frame_table.specs.TableLaws.{kind_bits}
use Rattle.formats.specs.Format.{sort_of, width_of, field_of, within, allowed, next_of, one, fixed, start, format}
use Rattle.formats.specs.FormatLaws.{Goes, goes-start, goes-next, next_place, next-left, place_inner}
use Rattle.formats.specs.FormatLaws.{left-entries, at_most, Rowed, rowed-next, rest}
use Rattle.formats.specs.FormatLaws.{rest-start, rest-one, field_is}

-- ---- definitions

unfoldable pub fault_at : List ℕ → ℕ → Field → ℕ
fault_at bytes at f =
    cond (leb (at + f.width) (8 * length bytes)) (cond (within f (field_at bytes at f.width)) 0 11) 10

-- a field as it is taken: a value is told of one that is not cut short
abbrev pub took_at : List ℕ → ℕ → Field → Took
took_at bytes at f =
    record {
      fault = fault_at bytes at f;
      width = f.width;
      value = cond (leb (at + f.width) (8 * length bytes)) (field_at bytes at f.width) 0;
    }

unfoldable pub end_fault : List ℕ → ℕ → ℕ
end_fault bytes at = cond (leb (8 * length bytes) (at + 7) && eqb (field_at bytes at (8 * length bytes - at)) 0) 0 11

-- what a scan tells of what was found: how many values and the fixed ones, or the number alone
unfoldable pub scan_of : Outcome → Scan
scan_of (got vs) = record { fault = 0; fields = length vs; fixed = take fixed_fields vs }
scan_of (fault n) = record { fault = n; fields = 0; fixed = zeros fixed_fields }

-- ---- the cases, as the code meets them

module _ (bytes : List ℕ) (at : ℕ) (f : Field) where
  pub took_cut : length bytes < (at + f.width + 7) / 8 → record { fault = 10; width = f.width; value = 0 } ≡ took_at bytes at f
  unfolding fault_at
  took_cut h = rw (lt-leb (at + f.width) (8 * length bytes) (omega arith))

  module _ (h : (at + f.width + 7) / 8 ≤ length bytes) where
    whole : leb (at + f.width) (8 * length bytes) ≡ true
    whole = le-leb (at + f.width) (8 * length bytes) (omega arith)

    pub took_is :
        {n v : ℕ}
        → v ≡ field_at bytes at f.width
        → n ≡ fault_at bytes at f
        → record { fault = n; width = f.width; value = v } ≡ took_at bytes at f
    took_is d e =
        rw whole
        (λ i. record { fault = e i; width = f.width; value = d i })

    pub fault_low : field_at bytes at f.width < f.least → 11 ≡ fault_at bytes at f
    unfolding fault_at within
    fault_low l = rw (whole, lt-leb f.least (field_at bytes at f.width) l)

    module _ (l : f.least ≤ field_at bytes at f.width) where
      pub fault_high : f.most < field_at bytes at f.width → 11 ≡ fault_at bytes at f
      unfolding fault_at within
      fault_high u = rw (whole, le-leb f.least (field_at bytes at f.width) l, lt-leb (field_at bytes at f.width) f.most u)

      pub fault-none : field_at bytes at f.width ≤ f.most → 0 ≡ fault_at bytes at f
      unfolding fault_at within
      fault-none u = rw (whole, le-leb f.least (field_at bytes at f.width) l, le-leb (field_at bytes at f.width) f.most u)

-- a field that the kind lacks has no bits
pub took-nothing :
    (bytes : List ℕ) (at : ℕ) (st : State)
    → sort_of st ≡ none
    → at ≤ 8 * length bytes
    → record { fault = 0; width = 0; value = 0 } ≡ took_at bytes at (field_of st)
unfolding fault_at within field_at bits_of least_of most_of
took-nothing bytes at st e h =
    rw
    (sym (field_is st {s = none} {w = 0} {lo = 0} {hi = 0} (sym e) refl refl refl), le-leb (at + 0) (8 * length bytes) (omega arith))

module _ (bytes : List ℕ) (at : ℕ) where
  pub end_long : (at + 7) / 8 < length bytes → 11 ≡ end_fault bytes at
  unfolding end_fault
  end_long h = rw (lt-leb (8 * length bytes) (at + 7) (omega arith))

  pub end-zero : length bytes ≤ (at + 7) / 8 → field_at bytes at (8 * length bytes - at) ≡ 0 → 0 ≡ end_fault bytes at
  unfolding end_fault
  end-zero h e = rw (le-leb (8 * length bytes) (at + 7) (omega arith), eq-eqb _ 0 e)

  pub end-some : length bytes ≤ (at + 7) / 8 → (field_at bytes at (8 * length bytes - at) ≡ 0 → ⊥) → 11 ≡ end_fault bytes at
  unfolding end_fault
  end-some h d = rw (le-leb (8 * length bytes) (at + 7) (omega arith), ne_eqb _ 0 d)

  pub end_reads : {n : ℕ} → n ≡ end_fault bytes at → (n ≡ 0 → ended bytes at ≡ got []) × ((n ≡ 0 → ⊥) → ended bytes at ≡ fault n)
  unfolding ended end_fault judged
  end_reads {n} e = go (leb (8 * length bytes) (at + 7) && eqb (field_at bytes at (8 * length bytes - at)) 0) e
    where
      go :
          (b : Bool)
          → n ≡ cond b 0 11
          → (n ≡ 0 → cond true (cond b (got []) (fault 11)) (fault 10) ≡ got [])
          × ((n ≡ 0 → ⊥) → cond true (cond b (got []) (fault 11)) (fault 10) ≡ fault n)
      go true e = (λ z. refl, λ d. absurd (d e))
      go false e = (λ z. let f : ⊥ = omega arith in absurd f, λ d. ap fault (sym e))

-- ---- a turn

-- values ahead of what was got
unfoldable pub after : List ℕ → Outcome → Outcome
after us (got vs) = got (us ++ vs)
after us (fault n) = fault n

pub after-ahead : (us : List ℕ) (v : ℕ) (o : Outcome) → after us (ahead v o) ≡ after (us ++ (v ∷ [])) o
unfolding after ahead
after-ahead us v (got vs) = ap got (sym (append_assoc us (v ∷ []) vs))
after-ahead us v (fault n) = refl

pub after_nothing : (o : Outcome) → after [] o ≡ o
unfolding after
after_nothing (got vs) = refl
after_nothing (fault n) = refl

-- what one field's fault makes of reading
pub fault-reads : (whole right : Bool) (o : Outcome) {n : ℕ} → n ≡ cond whole (cond right 0 11) 10 → (n ≡ 0 → ⊥)
    → judged whole right o ≡ fault n
unfolding judged
fault-reads true true o e d = absurd (d e)
fault-reads true false o e d = ap fault (sym e)
fault-reads false right o e d = ap fault (sym e)

pub none_reads : (whole right : Bool) (o : Outcome) {n : ℕ} → n ≡ cond whole (cond right 0 11) 10 → n ≡ 0
    → (whole ≡ true) × (right ≡ true) × (judged whole right o ≡ o)
unfolding judged
none_reads true true o e z = (refl, refl, refl)
none_reads true false o e d = let z : ⊥ = omega arith in absurd z
none_reads false right o e d = let z : ⊥ = omega arith in absurd z

judged-some : (whole right : Bool) (o : Outcome) → (o ≡ fault 0 → ⊥) → judged whole right o ≡ fault 0 → ⊥
unfolding judged
judged-some true true o d e = d e
judged-some true false o d e = let z : ◌≡◌ {A = ℕ} 11 0 = cc in omega arith
judged-some false right o d e = let z : ◌≡◌ {A = ℕ} 10 0 = cc in omega arith

ahead-some : (v : ℕ) (o : Outcome) → (o ≡ fault 0 → ⊥) → ahead v o ≡ fault 0 → ⊥
unfolding ahead
ahead-some v (got vs) d e = let z : ◌≡◌ {A = ℕ} 0 1 = cc in omega arith
ahead-some v (fault n) d e = d e

-- what a scan was of that found no fault
pub record Got (o : Outcome) (fields : ℕ) (fixed : List ℕ) : Type 0 where
  pub values : List ℕ
  pub is-got : o ≡ got values
  pub many : fields ≡ length values
  pub front : fixed ≡ take fixed_fields values

-- A value that may say how many entries a frame of the kind has, and so how many fields are left behind it.
pub record Said (kind v left : ℕ) : Type 0 where
  pub client : ℕ
  pub before : ℕ
  pub right : v ≤ most_of (sort_at kind many_place) client before
  pub many : left ≡ entry_fields * entries_in kind v

-- How far a reader has come among the fixed fields: a value for each place so far, in the row too, and what is left is read from `at` on.
pub record Come (bytes row : List ℕ) (at : ℕ) (st : State) : Type 0 where
  pub values : List ℕ
  pub goes : Goes st
  pub early : st.place ≤ entry_place
  pub near : at ≤ 32 * st.place
  pub inside : at ≤ 8 * length bytes
  pub found : read format bytes 0 ≡ after values (read (rest st) bytes at)
  pub many : length values ≡ st.place
  pub all-fixed : length row ≡ fixed_fields
  pub kept : (j : ℕ) → j < st.place → get_or row j 0 ≡ get_or values j 0

-- no bytes at all
pub come-none : (bytes : List ℕ) → length bytes ≡ 0 → fault 10 ≡ read format bytes 0
unfolding format fixed bits_of sort_at read judged
come-none bytes z = rw (lt-leb 4 (8 * length bytes) (omega arith))

-- no kind
pub come_unknown : (bytes : List ℕ) {kind : ℕ} → (length bytes ≡ 0 → ⊥) → kind ≡ field_at bytes 0 kind_bits → 12 < kind
    → fault 11 ≡ read format bytes 0
unfolding format fixed bits_of sort_at read judged within field_of least_of most_of
come_unknown bytes {kind} some e h =
    let v = field_at bytes 0 kind_bits in
    let l : 12 < v = omega arith in
    rw (le-leb 4 (8 * length bytes) (omega arith), le-leb 1 v (omega arith), lt-leb v 12 l)

pub come-start : (bytes : List ℕ) {row : List ℕ} → length row ≡ fixed_fields → Come bytes row 0 start
come-start bytes l =
    record {
      values = [];
      goes = goes-start;
      early = omega arith;
      near = omega arith;
      inside = omega arith;
      found = ap (λ (g : Grammar). read g bytes 0) rest-start ∙ sym (after_nothing (read (rest start) bytes 0));
      many = refl;
      all-fixed = l;
      kept = λ j h. let z : ⊥ = omega arith in absurd z;
    }

-- A turn of the reader: the field of the state is taken as t.
module _ {bytes row : List ℕ} {at : ℕ} {st : State} (c : Come bytes row at st) (h : st.place < entry_place) {t : Took}
    (et : t ≡ took_at bytes at (field_of st)) where
  some : 0 < st.left
  some = omega (arith, c.goes.counted h)

  opened : read format bytes 0 ≡ after c.values (read (one st (λ v. rest (next_of st v))) bytes at)
  opened = c.found ∙ ap (λ (g : Grammar). after c.values (read g bytes at)) (rest-one st c.goes some)

  is-fault : t.fault ≡ fault_at bytes at (field_of st)
  is-fault = ap (λ (u : Took). u.fault) et

  is_width : t.width ≡ width_of st
  unfolding field_of
  is_width = ap (λ (u : Took). u.width) et

  -- a field with a fault
  pub turn-fault : (t.fault ≡ 0 → ⊥) → fault t.fault ≡ read format bytes 0
  unfolding read fault_at field_of after
  turn-fault d = sym (opened ∙ ap (after c.values) (fault-reads _ _ _ is-fault d))

  -- a field without
  module _ (none : t.fault ≡ 0) where
    field-read :
        let w = width_of st in
        let v = field_at bytes at w in
        (leb (at + w) (8 * length bytes) ≡ true) × (allowed st v ≡ true)
        × (read (one st (λ u. rest (next_of st u))) bytes at ≡ ahead v (read (rest (next_of st v)) bytes (at + w)))
    unfolding read fault_at field_of
    field-read = none_reads _ _ _ is-fault none

    is-value : t.value ≡ field_at bytes at (width_of st)
    unfolding field_of
    is-value = ap (λ (u : Took). u.value) et ∙ rw field-read.0

    turn-allowed : allowed st t.value ≡ true
    turn-allowed = ap (allowed st) is-value ∙ field-read.1

    next_here : (v : ℕ) → (next_of st v).place ≡ st.place + 1
    next_here v = next_place st v ∙ place_inner st.place (λ q. omega arith)

    kept_on : (v j : ℕ) → j < st.place + 1 → get_or (set row st.place v) j 0 ≡ get_or (c.values ++ (v ∷ [])) j 0
    kept_on v j k =
        by_equal j st.place
        (λ q.
        ap (λ (m : ℕ). get_or (set row st.place v) m 0) q
        ∙ get_or-set_same row st.place v 0 (omega (arith, c.all-fixed))
        ∙ sym (ap (λ (m : ℕ). get_or (c.values ++ (v ∷ [])) m 0) (q ∙ sym c.many) ∙ get_or-append_seam c.values v [] 0))
        (λ d.
        get_or-set_other row st.place j v 0 d
        ∙ c.kept j (omega arith)
        ∙ sym (get_or-append c.values (v ∷ []) 0 j (omega (arith, c.many))))

    come_on :
        width_of st ≤ 32
        → (let v = field_at bytes at (width_of st) in Come bytes (set row st.place v) (at + width_of st) (next_of st v))
    come_on w =
        let v = field_at bytes at (width_of st) in
        let us = c.values ++ (v ∷ []) in
        let n : length us ≡ st.place + 1 = length-append c.values (v ∷ []) ∙ omega (arith, c.many) in
        record {
          values = us;
          goes = goes-next st v c.goes some;
          early = omega (arith, next_here v);
          near = omega (arith, c.near, next_here v);
          inside = leb-true _ _ field-read.0;
          found =
              opened
              ∙ ap (after c.values) field-read.2
              ∙ after-ahead c.values v (read (rest (next_of st v)) bytes (at + width_of st));
          many = omega (arith, n, next_here v);
          all-fixed = length-set row st.place v ∙ c.all-fixed;
          kept = λ j k. kept_on v j (omega (arith, next_here v));
        }

    pub turn_on : {next : State} → t.width ≤ 32 → next ≡ next_of st t.value
        → Come bytes (set row st.place t.value) (at + t.width) next
    turn_on w en = rw (en, is-value, is_width) (come_on (omega (arith, is_width)))

    -- with the row of the kind that the first field has
    pub turn-rowed : {next : State} (kind m : ℕ) → Rowed kind at st → kind ≡ field_at bytes 0 kind_bits → next ≡ next_of st t.value → Rowed kind m next
    unfolding bits_of sort_at
    turn-rowed kind m r ek en =
        rw en
        (rowed-next kind at st r m t.value
        (λ e. is-value ∙ ap₂ (field_at bytes) (r.first e) (ap (λ (p : ℕ). bits_of (sort_at st.kind p)) e) ∙ sym ek))

    -- the last fixed field says how many entries there are
    pub turn-said :
        {next : State} {kind : ℕ}
        → Rowed kind at st
        → next ≡ next_of st t.value
        → next.place ≡ entry_place
        → Said kind (get_or (set row st.place t.value) many_place 0) next.left
    turn-said {next} {kind} r en e =
        let v = t.value in
        let p : st.place ≡ many_place = omega (arith, ap (λ (s : State). s.place) en ∙ next_here v) in
        let q : st.kind ≡ kind = r.later (λ z. omega arith) in
        let here : get_or (set row st.place v) many_place 0 ≡ v =
        ap (λ (m : ℕ). get_or (set row st.place v) m 0) (sym p) ∙ get_or-set_same row st.place v 0 (omega (arith, c.all-fixed)) in
        let m : most_of (sort_of st) st.client st.before ≡ most_of (sort_at kind many_place) st.client st.before =
        ap₂ (λ (k place : ℕ). most_of (sort_at k place) st.client st.before) q p in
        rw here
        (record {
          client = st.client;
          before = st.before;
          right = omega (arith, at_most st v turn-allowed, m);
          many = ap (λ (s : State). s.left) en ∙ next-left st v ∙ sym (left-entries st v p refl)
              ∙ ap (λ (k : ℕ). entry_fields * entries_in k v) q;
        })

-- no fault is number 0
pub fault-some : (g : Grammar) (bytes : List ℕ) (at : ℕ) → read g bytes at ≡ fault 0 → ⊥
unfolding read ended
fault-some end bytes at e = judged-some _ _ _ (λ q. let z : ◌≡◌ {A = ℕ} 0 1 = cc in omega arith) e
fault-some (field w ok r) bytes at e =
    let v = field_at bytes at w in
    judged-some _ _ _ (λ q. ahead-some v (read (r v) bytes (at + w)) (fault-some (r v) bytes (at + w)) q) e

-- what a scan that found no fault was of
pub scan-got : (o : Outcome) (s : Scan) → (o ≡ fault 0 → ⊥) → s ≡ scan_of o → s.fault ≡ 0 → Got o s.fields s.fixed
unfolding scan_of
scan-got (got vs) s some e z =
    record { values = vs; is-got = refl; many = ap (λ (t : Scan). t.fields) e; front = ap (λ (t : Scan). t.fixed) e }
scan-got (fault n) s some e z = absurd (some (ap fault (sym (ap (λ (t : Scan). t.fault) e) ∙ z)))
