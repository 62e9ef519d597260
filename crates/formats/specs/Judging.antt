-- The entries of a frame as the reader judges them where they stand, one behind the other, and that the grammar says the same.
use Rattle.std.specs.Prelude.{◌≡◌, true, leb, eqb, get_or}
use Rattle.std.proofs.Math.Path.{refl, sym, ap}
use Rattle.std.proofs.Common.{ap₂, ◌∙◌, suc-mul, mul-le-mul, ext_get_or, get_or-take, length-take-le}
use Prim.Native.Nat.{ℕ, zero, suc, ◌+◌, ◌-◌, ◌*◌, ◌/◌, ◌≤◌, ◌<◌}
use native.Mathlib.Omega.{arith}
use mathlib.Core.List.{List, [], ◌∷◌, ◌++◌}
use Rattle.std.proofs.Math.Bool.{cond}
use Rattle.std.proofs.Math.ListN.{length, take, length-append}
use Rattle.std.proofs.Math.Seq.{take-append-le}
use borrow.Author.Tests.{le-leb, lt-leb, leb-true, leb-false, eq-eqb, ne_eqb}
use Rattle.ranges.specs.Tests.{by-test, by_equal}
use Rattle.fields.specs.Bits.{field_at}
use Rattle.fields.specs.FieldLaws.{field_below, field_join}
use Rattle.frame_table.specs.declared.Field.{Field}
use Rattle.formats.specs.declared.state.State.{State}
use Rattle.frame_table.specs.declared.Behind.{Behind}
use Rattle.formats.specs.Grammar.{Grammar, Outcome, got, fault, ahead, ended, read}
use Rattle.frame_table.specs.Table.{many_place, entry_place, owner_place, badge_place, number_place, fixed_fields}
use Rattle.frame_table.specs.Table.{entry_fields, most_entries, sort_at, bits_of, most_of}
use Rattle.frame_table.specs.Table.{less, limits_of, limit_row, row_of, entries_in}
use Rattle.frame_table.specs.TableLaws.{entries-most, entries_by, row_at}
use Rattle.frame_table.proofs.TableLaws.{few-entries}
use Rattle.formats.specs.Format.{width_of, field_of, within, next_of, one, entries, format}
use Rattle.formats.specs.FormatLaws.{rest_late}
use Rattle.frame_table.specs.Columns.{most_bits}
use Rattle.frame_table.specs.Entry.{count_bits, owner_bits, key_bits, mask_bits, badge_bits, number_bits, number_least, Slim, Plain}
use Rattle.frame_table.proofs.Entry.{is_slim}
use Rattle.frame_table.specs.Entry.{Keyed}
use Rattle.frame_table.specs.Entry.{behind_by, behind_of, behind_bits, entry_bits}
use Rattle.formats.specs.EntryFields.{owner_field, Ahead, ahead-next, ahead-again}
use Rattle.frame_table.specs.Entry.{keyed-some}
use Rattle.formats.specs.EntryFields.{count-field, owner-field, badge-field, number-field}
use Rattle.formats.specs.Reading.{fault_at, end_fault, end_reads, scan_of, after, fault-reads, none_reads, Come, Said}

-- ---- definitions

-- 10 where a key is cut short, 11 where its count is 0 and its client is not; count and client are one number of 12 bits
unfoldable pub key_fault : List ℕ → ℕ → ℕ
key_fault bytes at =
    let key = field_at bytes at key_bits in
    cond (leb (at + key_bits) (8 * length bytes)) (cond (leb 16 key) 0 (cond (eqb key 0) 0 11)) 10

-- what stands behind a key, so many bits: 10 where it is cut short, 11 where it is below its least, which a mask has
unfoldable pub number_fault : List ℕ → ℕ → ℕ → ℕ → ℕ
number_fault bytes at width least = cond (leb (at + width) (8 * length bytes)) (cond (leb least (field_at bytes at width)) 0 11) 10

-- the first of two faults, and of those of n entries; 0 where there is none
abbrev pub first : ℕ → ℕ → ℕ
first a b = cond (eqb a 0) b a

unfoldable pub entry_fault : List ℕ → ℕ → ℕ → ℕ → ℕ
entry_fault bytes at width least = first (key_fault bytes at) (number_fault bytes (at + key_bits) width least)

unfoldable pub entries_fault : List ℕ → ℕ → ℕ → ℕ → ℕ → ℕ
entries_fault bytes at width least zero = 0
entries_fault bytes at width least (suc n) =
    first (entry_fault bytes at width least) (entries_fault bytes (at + (key_bits + width)) width least n)

-- and of what stands behind them
unfoldable pub rest_fault : List ℕ → ℕ → ℕ → ℕ → ℕ → ℕ
rest_fault bytes at width least n =
    first (entries_fault bytes at width least n) (end_fault bytes (at + n * (key_bits + width)))

-- ---- what the functions ask

-- what stands behind the key of an entry, from a bit on: what has a least above 0 is a mask
pub record Number (at width least : ℕ) : Type 0 where
  pub near : at ≤ most_bits
  pub narrow : width ≤ 64
  pub masked : (least ≡ 0 → ⊥) → width ≡ mask_bits

-- so many entries from a bit on
pub record EntriesAt (at width least n : ℕ) : Type 0 where
  pub near : at + n * (key_bits + width) ≤ most_bits
  pub narrow : width ≤ 64
  pub masked : 0 < n → (least ≡ 0 → ⊥) → width ≡ mask_bits

-- ---- the cases, as the code meets them

module _ (bytes : List ℕ) (at : ℕ) where
  pub key_cut : length bytes < (at + key_bits + 7) / 8 → 10 ≡ key_fault bytes at
  unfolding key_fault
  key_cut h = rw (lt-leb (at + key_bits) (8 * length bytes) (omega arith))

  module _ (h : (at + key_bits + 7) / 8 ≤ length bytes) where
    key-whole : leb (at + key_bits) (8 * length bytes) ≡ true
    key-whole = le-leb (at + key_bits) (8 * length bytes) (omega arith)

    pub key-counted : 16 ≤ field_at bytes at key_bits → 0 ≡ key_fault bytes at
    unfolding key_fault
    key-counted l = rw (key-whole, le-leb 16 (field_at bytes at key_bits) l)

    module _ (l : field_at bytes at key_bits < 16) where
      pub key-none : field_at bytes at key_bits ≡ 0 → 0 ≡ key_fault bytes at
      unfolding key_fault
      key-none e = rw (key-whole, lt-leb 16 (field_at bytes at key_bits) l, eq-eqb (field_at bytes at key_bits) 0 e)

      pub key-broken : (field_at bytes at key_bits ≡ 0 → ⊥) → 11 ≡ key_fault bytes at
      unfolding key_fault
      key-broken d = rw (key-whole, lt-leb 16 (field_at bytes at key_bits) l, ne_eqb (field_at bytes at key_bits) 0 d)

  module _ (width least : ℕ) where
    pub number_cut : length bytes < (at + width + 7) / 8 → 10 ≡ number_fault bytes at width least
    unfolding number_fault
    number_cut h = rw (lt-leb (at + width) (8 * length bytes) (omega arith))

    module _ (h : (at + width + 7) / 8 ≤ length bytes) where
      number-whole : leb (at + width) (8 * length bytes) ≡ true
      number-whole = le-leb (at + width) (8 * length bytes) (omega arith)

      pub number_low : field_at bytes at width < least → 11 ≡ number_fault bytes at width least
      unfolding number_fault
      number_low l = rw (number-whole, lt-leb least (field_at bytes at width) l)

      pub number_right : least ≤ field_at bytes at width → 0 ≡ number_fault bytes at width least
      unfolding number_fault
      number_right l = rw (number-whole, le-leb least (field_at bytes at width) l)

    pub entry_first : {f : ℕ} → f ≡ key_fault bytes at → (f ≡ 0 → ⊥) → f ≡ entry_fault bytes at width least
    unfolding entry_fault
    entry_first e d = e ∙ rw (ne_eqb (key_fault bytes at) 0 (λ z. d (e ∙ z)))

    pub entry-second :
        {f g : ℕ} → f ≡ key_fault bytes at → f ≡ 0 → g ≡ number_fault bytes (at + key_bits) width least → g ≡ entry_fault bytes at width least
    unfolding entry_fault
    entry-second e z q = q ∙ rw (eq-eqb (key_fault bytes at) 0 (sym e ∙ z))

    -- a turn of the loop
    module _ (n : ℕ) (some : 0 < n) {f : ℕ} (e : f ≡ entry_fault bytes at width least) where
      more : entries_fault bytes at width least n
          ≡ cond (eqb (entry_fault bytes at width least) 0) (entries_fault bytes (at + (key_bits + width)) width least (n - 1))
          (entry_fault bytes at width least)
      unfolding entries_fault
      more = go n some
        where
          go : (m : ℕ) → 0 < m → entries_fault bytes at width least m
              ≡ cond (eqb (entry_fault bytes at width least) 0) (entries_fault bytes (at + (key_bits + width)) width least (m - 1))
              (entry_fault bytes at width least)
          go zero h = let z : ⊥ = omega arith in absurd z
          go (suc m) h = let q : m ≡ suc m - 1 = omega arith in
              ap (λ (i : ℕ). cond (eqb (entry_fault bytes at width least) 0) (entries_fault bytes (at + (key_bits + width)) width least i)
              (entry_fault bytes at width least)) q

      pub entries_stop : (f ≡ 0 → ⊥) → f ≡ entries_fault bytes at width least n
      entries_stop d = e ∙ sym (more ∙ rw (ne_eqb (entry_fault bytes at width least) 0 (λ z. d (e ∙ z))))

      pub entries_on : f ≡ 0 → entries_fault bytes (at + (key_bits + width)) width least (n - 1) ≡ entries_fault bytes at width least n
      entries_on z = sym (more ∙ rw (eq-eqb (entry_fault bytes at width least) 0 (sym e ∙ z)))

    pub entries-end : (n : ℕ) → n ≡ 0 → 0 ≡ entries_fault bytes at width least n
    unfolding entries_fault
    entries-end n z = rw z

    pub rest-first : (n : ℕ) {f : ℕ} → f ≡ entries_fault bytes at width least n → (f ≡ 0 → ⊥) → f ≡ rest_fault bytes at width least n
    unfolding rest_fault
    rest-first n e d = e ∙ rw (ne_eqb (entries_fault bytes at width least n) 0 (λ z. d (e ∙ z)))

    pub rest-second :
        (n : ℕ) {f g : ℕ}
        → f ≡ entries_fault bytes at width least n
        → f ≡ 0
        → g ≡ end_fault bytes (at + n * (key_bits + width))
        → g ≡ rest_fault bytes at width least n
    unfolding rest_fault
    rest-second n e z q = q ∙ rw (eq-eqb (entries_fault bytes at width least n) 0 (sym e ∙ z))

-- the bits of one entry more
pub entry_more : (n w : ℕ) → 0 < n → n * (key_bits + w) ≡ (key_bits + w) + (n - 1) * (key_bits + w)
entry_more zero w h = let z : ⊥ = omega arith in absurd z
entry_more (suc n) w h = let q : suc n - 1 ≡ n = omega arith in rw (q, suc-mul n (key_bits + w)) (omega arith)

-- ---- one field

module _ (bytes : List ℕ) (at : ℕ) (st : State) (next : ℕ → Grammar) where
  one_wrong : {f : ℕ} → f ≡ fault_at bytes at (field_of st) → (f ≡ 0 → ⊥) → read (one st next) bytes at ≡ fault f
  unfolding read fault_at field_of
  one_wrong e d = fault-reads _ _ _ e d

  one_right :
      fault_at bytes at (field_of st) ≡ 0
      → (let v = field_at bytes at (width_of st) in read (one st next) bytes at ≡ ahead v (read (next v) bytes (at + width_of st)))
  unfolding read fault_at field_of
  one_right e = (none_reads _ _ _ refl e).2

-- ---- a key is two fields

module _ (bytes : List ℕ) (at : ℕ) where
  -- its number, by the two
  pub key-parts :
      let k = field_at bytes at key_bits in
      (k ≡ field_at bytes at count_bits * 16 + field_at bytes (at + count_bits) owner_bits)
      × (field_at bytes at count_bits < 256)
      × (field_at bytes (at + count_bits) owner_bits < 16)
  key-parts = (field_join bytes at count_bits owner_bits, field_below bytes at count_bits, field_below bytes (at + count_bits) owner_bits)

  counted : fault_at bytes at (limit_row count_bits 0 255) ≡ cond (leb (at + count_bits) (8 * length bytes)) 0 10
  unfolding fault_at within
  counted =
      let p = key-parts in
      rw (le-leb 0 (field_at bytes at count_bits) (omega arith), le-leb (field_at bytes at count_bits) 255 (omega (arith, p.1)))

  key-judged :
      first (fault_at bytes at (limit_row count_bits 0 255)) (fault_at bytes (at + count_bits) (owner_field (field_at bytes at count_bits)))
      ≡ key_fault bytes at
  unfolding fault_at within key_fault
  key-judged =
      let p = key-parts in
      let L = 8 * length bytes in
      rw counted
      (by-test (leb (at + key_bits) L)
      (λ t.
      let h = leb-true (at + key_bits) L t in
      rw (t, le-leb (at + count_bits) L (omega arith), le-leb (at + count_bits + owner_bits) L (omega arith))
      (rw (le-leb 0 (field_at bytes (at + count_bits) owner_bits) (omega arith))
      (by_equal (field_at bytes at count_bits) 0
      (λ z.
      rw (eq-eqb (field_at bytes at count_bits) 0 z, lt-leb 16 (field_at bytes at key_bits) (omega (arith, p)))
      (by_equal (field_at bytes (at + count_bits) owner_bits) 0
      (λ y. rw (le-leb (field_at bytes (at + count_bits) owner_bits) 0 (omega arith), eq-eqb (field_at bytes at key_bits) 0 (omega (arith, p))))
      (λ y. rw (
        lt-leb (field_at bytes (at + count_bits) owner_bits) 0 (omega arith),
        ne_eqb (field_at bytes at key_bits) 0 (λ q. y (omega (arith, p))),
      ))))
      (λ z.
      rw (
        ne_eqb (field_at bytes at count_bits) 0 z,
        le-leb 16 (field_at bytes at key_bits) (omega (arith, p)),
        le-leb (field_at bytes (at + count_bits) owner_bits) 15 (omega (arith, p)),
      )))))
      (λ t.
      let h = leb-false (at + key_bits) L t in
      rw (t, lt-leb (at + count_bits + owner_bits) L (omega arith))
      (by-test (leb (at + count_bits) L) (λ s. rw s) (λ s. rw s))))

-- ---- one entry

whole-number : (bytes : List ℕ) (at width least : ℕ) → number_fault bytes at width least ≡ 0 → at + width ≤ 8 * length bytes
unfolding number_fault
whole-number bytes at width least e =
    by-test (leb (at + width) (8 * length bytes))
    (λ t. leb-true _ _ t)
    (λ t. let z : ◌≡◌ {A = ℕ} 10 0 = rw t at e in let f : ⊥ = omega arith in absurd f)

first-none : (a b : ℕ) → first a b ≡ 0 → (a ≡ 0) × (b ≡ 0)
first-none a b e = by_equal a 0 (λ z. (z, rw (eq-eqb a 0 z) at e)) (λ d. absurd (d (rw (ne_eqb a 0 d) at e)))

first-left : (a b : ℕ) → (a ≡ 0 → ⊥) → first a b ≡ a
first-left a b d = rw (ne_eqb a 0 d)

first_right : (a b : ℕ) → a ≡ 0 → first a b ≡ b
first_right a b z = rw (eq-eqb a 0 z)

first_assoc : (a b c : ℕ) → first (first a b) c ≡ first a (first b c)
first_assoc a b c = by_equal a 0 (λ z. rw (eq-eqb a 0 z)) (λ d. rw (ne_eqb a 0 d) (rw (ne_eqb a 0 d)))

-- what was read of n entries without a fault
pub record Passed (bytes : List ℕ) (kind n : ℕ) (st : State) (at : ℕ) : Type 0 where
  pub values : List ℕ
  pub many : length values ≡ entry_fields * n
  pub found : read (entries (entry_fields * n) st) bytes at ≡ after values (ended bytes (at + n * entry_bits (behind_of kind)))

pub none_passed : (bytes : List ℕ) (kind n : ℕ) (st : State) (at : ℕ) → n ≡ 0 → Passed bytes kind n st at
unfolding entries read after
none_passed bytes kind n st at z =
    let e : at ≡ at + 0 * entry_bits (behind_of kind) = omega arith in
    rw z (record {
      values = [];
      many = refl;
      found = ap (ended bytes) e ∙ sym (nothing-after (ended bytes (at + 0 * entry_bits (behind_of kind))));
    })
  where
    nothing-after : (o : Outcome) → after [] o ≡ o
    nothing-after (got vs) = refl
    nothing-after (fault f) = refl

-- a field of which each value is right, or each that is not below its least
module _ (bytes : List ℕ) {sort : ℕ} (p : Plain sort) (at : ℕ) where
  plain-judged : fault_at bytes at (limits_of sort) ≡ number_fault bytes at (bits_of sort) (limits_of sort).least
  unfolding fault_at within number_fault bits_of
  plain-judged =
      let x = field_at bytes at (bits_of sort) in
      let b : x < (limits_of sort).most + 1 = rw p.widest (field_below bytes at (bits_of sort)) in
      rw (le-leb x (limits_of sort).most (omega arith))
      (by-test (leb (limits_of sort).least x) (λ t. rw t) (λ t. rw t))

-- with no least only what is cut short is at fault, so that two such stand as one
any-number : (bytes : List ℕ) (at width : ℕ) → number_fault bytes at width 0 ≡ cond (leb (at + width) (8 * length bytes)) 0 10
unfolding number_fault
any-number bytes at width = rw (le-leb 0 (field_at bytes at width) (omega arith))

cut-once :
    (bytes : List ℕ) (at v w : ℕ)
    → first (number_fault bytes at v 0) (number_fault bytes (at + v) w 0) ≡ number_fault bytes at (v + w) 0
cut-once bytes at v w =
    let L = 8 * length bytes in
    rw (any-number bytes at v, any-number bytes (at + v) w, any-number bytes at (v + w))
    (by-test (leb (at + v) L)
    (λ s. rw s (ap (λ (n : ℕ). cond (leb n L) 0 10) (let e : at + v + w ≡ at + (v + w) = omega arith in e)))
    (λ s. rw (s, lt-leb (at + (v + w)) L (omega (arith, leb-false (at + v) L s)))))

module _ (bytes : List ℕ) {kind : ℕ} (k : Keyed kind) where
  abbrev bb : ℕ
  bb = badge_bits kind

  abbrev w : ℕ
  w = behind_bits (behind_of kind)

  abbrev least : ℕ
  least = number_least kind

  -- a mask has no badge ahead of it
  mask-judged :
      (at : ℕ)
      → bb ≡ 0
      → first (number_fault bytes at bb 0) (number_fault bytes (at + bb) (number_bits kind) least) ≡ number_fault bytes at w least
  unfolding number_fault
  mask-judged at z =
      let L = 8 * length bytes in
      let e : at + bb ≡ at = omega arith in
      let q : w ≡ number_bits kind = omega arith in
      rw (any-number bytes at bb, e, q)
      (by-test (leb at L)
      (λ s. rw s)
      (λ s. rw (s, lt-leb (at + number_bits kind) L (omega (arith, leb-false at L s)))))

  -- a badge and a number behind a key are judged as one
  behind-judged :
      (at : ℕ)
      → first (fault_at bytes at (limits_of (sort_at kind badge_place))) (fault_at bytes (at + bb) (limits_of (sort_at kind number_place)))
      ≡ number_fault bytes at w least
  behind-judged at =
      let f : fault_at bytes at (limits_of (sort_at kind badge_place)) ≡ number_fault bytes at bb 0 =
      plain-judged bytes k.badges at ∙ ap (number_fault bytes at bb) k.any-badge in
      ap₂ first f (plain-judged bytes k.numbers (at + bb))
      ∙ by_equal least 0
      (λ z.
      ap (λ (l : ℕ). first (number_fault bytes at bb 0) (number_fault bytes (at + bb) (number_bits kind) l)) z
      ∙ cut-once bytes at bb (number_bits kind)
      ∙ ap (number_fault bytes at w) (sym z))
      (λ d. mask-judged at (k.masked d).0)

  module _ (n : ℕ) (st : State) (a : Ahead kind entry_place st) (at : ℕ) where
    abbrev c : ℕ
    c = field_at bytes at count_bits

    abbrev o : ℕ
    o = field_at bytes (at + count_bits) owner_bits

    -- where its badge stands, and its number
    abbrev at-badge : ℕ
    at-badge = at + count_bits + owner_bits

    abbrev b : ℕ
    b = field_at bytes at-badge bb

    abbrev x : ℕ
    x = field_at bytes (at-badge + bb) (number_bits kind)

    abbrev second : State
    second = next_of st c

    abbrev third : State
    third = next_of second o

    abbrev fourth : State
    fourth = next_of third b

    -- behind it comes the next entry
    abbrev fifth : State
    fifth = next_of fourth x

    at_second : Ahead kind owner_place second
    at_second = ahead-next a c (omega arith) (omega arith)

    at-third : Ahead kind badge_place third
    at-third = ahead-next at_second o (omega arith) (omega arith)

    at-fourth : Ahead kind number_place fourth
    at-fourth = ahead-next at-third b (omega arith) (omega arith)

    at-fifth : Ahead kind entry_place fifth
    at-fifth = ahead-again at-fourth x

    key_faults : first (fault_at bytes at (field_of st)) (fault_at bytes (at + count_bits) (field_of second)) ≡ key_fault bytes at
    key_faults = rw (count-field k a, owner-field k a c) (key-judged bytes at)

    behind_faults :
        first (fault_at bytes at-badge (field_of third)) (fault_at bytes (at-badge + bb) (field_of fourth))
        ≡ number_fault bytes (at + key_bits) w least
    behind_faults =
        rw (badge-field k at-third, number-field k at-fourth)
        (behind-judged at-badge ∙ ap (λ (p : ℕ). number_fault bytes p w least) (omega arith))

    -- each field, where it is right
    module _ (z : fault_at bytes at (field_of st) ≡ 0) where
      count-read : (next : ℕ → Grammar) → read (one st next) bytes at ≡ ahead c (read (next c) bytes (at + count_bits))
      unfolding field_of
      count-read next =
          one_right bytes at st next z
          ∙ ap (λ (f : Field). let v = field_at bytes at f.width in ahead v (read (next v) bytes (at + f.width))) (count-field k a)

    module _ (z : fault_at bytes (at + count_bits) (field_of second) ≡ 0) where
      owner-read :
          (next : ℕ → Grammar)
          → read (one second next) bytes (at + count_bits) ≡ ahead o (read (next o) bytes at-badge)
      unfolding field_of
      owner-read next =
          one_right bytes (at + count_bits) second next z
          ∙ ap (λ (f : Field). let v = field_at bytes (at + count_bits) f.width in
          ahead v (read (next v) bytes (at + count_bits + f.width)))
          (owner-field k a c)

    module _ (z : fault_at bytes at-badge (field_of third) ≡ 0) where
      badge-read : (next : ℕ → Grammar) → read (one third next) bytes at-badge ≡ ahead b (read (next b) bytes (at-badge + bb))
      unfolding field_of bits_of
      badge-read next =
          one_right bytes at-badge third next z
          ∙ ap (λ (f : Field). let v = field_at bytes at-badge f.width in ahead v (read (next v) bytes (at-badge + f.width)))
          (badge-field k at-third)

    module _ (z : fault_at bytes (at-badge + bb) (field_of fourth) ≡ 0) where
      number_read :
          (next : ℕ → Grammar)
          → read (one fourth next) bytes (at-badge + bb) ≡ ahead x (read (next x) bytes (at-badge + bb + number_bits kind))
      unfolding field_of bits_of
      number_read next =
          let p = at-badge + bb in
          one_right bytes p fourth next z
          ∙ ap (λ (f : Field). let v = field_at bytes p f.width in ahead v (read (next v) bytes (p + f.width)))
          (number-field k at-fourth)

    -- an entry without a fault
    entry_right :
        entry_fault bytes at w least ≡ 0
        → read (entries (suc (suc (suc (suc n)))) st) bytes at
        ≡ ahead c (ahead o (ahead b (ahead x (read (entries n fifth) bytes (at + (key_bits + w))))))
    unfolding entry_fault entries
    entry_right e =
        let p = first-none (key_fault bytes at) (number_fault bytes (at + key_bits) w least) e in
        let q = first-none _ _ (key_faults ∙ p.0) in
        let r = first-none _ _ (behind_faults ∙ p.1) in
        count-read q.0 (λ v. entries (suc (suc (suc n))) (next_of st v))
        ∙ ap (ahead c) (owner-read q.1 (λ v. entries (suc (suc n)) (next_of second v)))
        ∙ ap (λ (u : Outcome). ahead c (ahead o u)) (badge-read r.0 (λ v. entries (suc n) (next_of third v)))
        ∙ ap (λ (u : Outcome). ahead c (ahead o (ahead b u)))
        (number_read r.1 (λ v. entries n (next_of fourth v))
        ∙ ap (λ (p : ℕ). ahead x (read (entries n fifth) bytes p)) (omega arith))

    -- an entry with one
    entry_wrong :
        {f : ℕ} → f ≡ entry_fault bytes at w least → (f ≡ 0 → ⊥) → read (entries (suc (suc (suc (suc n)))) st) bytes at ≡ fault f
    unfolding entry_fault entries ahead
    entry_wrong {f} e d =
        let f₀ = fault_at bytes at (field_of st) in
        let f₁ = fault_at bytes (at + count_bits) (field_of second) in
        let f₂ = fault_at bytes at-badge (field_of third) in
        let f₃ = fault_at bytes (at-badge + bb) (field_of fourth) in
        let all : f ≡ first f₀ (first f₁ (first f₂ f₃)) =
        e ∙ sym (ap₂ first key_faults behind_faults) ∙ first_assoc f₀ f₁ (first f₂ f₃) in
        by_equal f₀ 0
        (λ z₀.
        let r₀ : f ≡ first f₁ (first f₂ f₃) = all ∙ first_right f₀ _ z₀ in
        count-read z₀ (λ v. entries (suc (suc (suc n))) (next_of st v))
        ∙ ap (ahead c)
        (by_equal f₁ 0
        (λ z₁.
        let r₁ : f ≡ first f₂ f₃ = r₀ ∙ first_right f₁ _ z₁ in
        owner-read z₁ (λ v. entries (suc (suc n)) (next_of second v))
        ∙ ap (ahead o)
        (by_equal f₂ 0
        (λ z₂.
        badge-read z₂ (λ v. entries (suc n) (next_of third v))
        ∙ ap (ahead b)
        (one_wrong bytes (at-badge + bb) fourth (λ v. entries n (next_of fourth v)) (r₁ ∙ first_right f₂ f₃ z₂) d))
        (λ d₂. one_wrong bytes at-badge third (λ v. entries (suc n) (next_of third v)) (r₁ ∙ first-left f₂ f₃ d₂) d)))
        (λ d₁. one_wrong bytes (at + count_bits) second (λ v. entries (suc (suc n)) (next_of second v)) (r₀ ∙ first-left f₁ _ d₁) d)))
        (λ d₀. one_wrong bytes at st (λ v. entries (suc (suc (suc n))) (next_of st v)) (all ∙ first-left f₀ _ d₀) d)

  -- ---- all entries

  pub entries-passed : (n : ℕ) (st : State) → Ahead kind entry_place st → (at : ℕ) → entries_fault bytes at w least n ≡ 0
      → Passed bytes kind n st at
  unfolding entries_fault entries read after ahead
  entries-passed zero st a at e = none_passed bytes kind 0 st at refl
  entries-passed (suc n) st a at e =
      let p = first-none (entry_fault bytes at w least) _ e in
      let rest = entries-passed n (fifth n st a at) (at-fifth n st a at) (at + (key_bits + w)) p.1 in
      let vs = c n st a at ∷ o n st a at ∷ b n st a at ∷ x n st a at ∷ rest.values in
      let m : entry_fields * suc n ≡ suc (suc (suc (suc (entry_fields * n)))) = omega arith in
      let q : at + (key_bits + w) + n * (key_bits + w) ≡ at + suc n * (key_bits + w) = rw (suc-mul n (key_bits + w)) (omega arith) in
      record {
        values = vs;
        many = omega (arith, rest.many);
        found =
            ap (λ (i : ℕ). read (entries i st) bytes at) m
            ∙ entry_right (entry_fields * n) st a at p.0
            ∙ ap (λ (r : Outcome). ahead (c n st a at) (ahead (o n st a at) (ahead (b n st a at) (ahead (x n st a at) r))))
            (rest.found ∙ ap (λ (p : ℕ). after rest.values (ended bytes p)) q)
            ∙ four-after (c n st a at) (o n st a at) (b n st a at) (x n st a at) rest.values
            (ended bytes (at + suc n * (key_bits + w)));
      }
    where
      four-after :
          (s t u v : ℕ) (vs : List ℕ) (r : Outcome)
          → ahead s (ahead t (ahead u (ahead v (after vs r)))) ≡ after (s ∷ t ∷ u ∷ v ∷ vs) r
      four-after s t u v vs (got us) = refl
      four-after s t u v vs (fault f) = refl

  pub entries_wrong :
      (n : ℕ) (st : State)
      → Ahead kind entry_place st
      → (at : ℕ) {f : ℕ}
      → f ≡ entries_fault bytes at w least n
      → (f ≡ 0 → ⊥)
      → read (entries (entry_fields * n) st) bytes at ≡ fault f
  unfolding entries_fault ahead
  entries_wrong zero st a at e d = absurd (d e)
  entries_wrong (suc n) st a at {f} e d =
      let m : entry_fields * suc n ≡ suc (suc (suc (suc (entry_fields * n)))) = omega arith in
      ap (λ (i : ℕ). read (entries i st) bytes at) m
      ∙ by_equal (entry_fault bytes at w least) 0
      (λ z.
      let r : f ≡ entries_fault bytes (at + (key_bits + w)) w least n = e ∙ first_right _ _ z in
      entry_right (entry_fields * n) st a at z
      ∙ ap (λ (q : Outcome). ahead (c n st a at) (ahead (o n st a at) (ahead (b n st a at) (ahead (x n st a at) q))))
      (entries_wrong n (fifth n st a at) (at-fifth n st a at) (at + (key_bits + w)) r d))
      (λ d₀. entry_wrong (entry_fields * n) st a at (e ∙ first-left _ _ d₀) d)

-- entries without a fault are not cut short
pub entries_inside :
    (bytes : List ℕ) (width least n at : ℕ)
    → entries_fault bytes at width least n ≡ 0
    → at ≤ 8 * length bytes
    → at + n * (key_bits + width) ≤ 8 * length bytes
unfolding entries_fault entry_fault
entries_inside bytes width least zero at e h = omega arith
entries_inside bytes width least (suc n) at e h =
    let p = first-none (entry_fault bytes at width least) (entries_fault bytes (at + (key_bits + width)) width least n) e in
    let q = first-none (key_fault bytes at) (number_fault bytes (at + key_bits) width least) p.0 in
    let i = whole-number bytes (at + key_bits) width least q.1 in
    rw (suc-mul n (key_bits + width)) (omega (arith, entries_inside bytes width least n (at + (key_bits + width)) p.1 (omega arith)))

-- ---- the whole frame

-- a frame with entries is of a keyed kind
pub said_keyed : {kind v left : ℕ} → Said kind v left → 0 < entries_in kind v → Keyed kind
unfolding entries_in most_of
said_keyed {kind} {v} s h =
    keyed-some kind
    (λ e.
    let l : v ≤ 0 = rw e at s.right in
    let m : 0 < v = rw e at h in
    omega arith)

-- no more entries than there can be
pub said_few : {kind v left : ℕ} → Said kind v left → entries_in kind v ≤ most_entries
said_few {kind} {v} s = omega (arith, s.right, few-entries kind s.client s.before, entries-most kind v)

-- what the table tells of the entries, as the code has it
module _ (kind : ℕ) {row : List ℕ} (er : row ≡ row_of kind) where
  sort_is : (place : ℕ) → get_or row place 0 ≡ sort_at kind place
  sort_is place = ap (λ (r : List ℕ). get_or r place 0) er ∙ row_at kind place

  pub entries-said : (v : ℕ) {n : ℕ} → n ≡ cond (eqb (get_or row many_place 0) less) (v + 1) v → n ≡ entries_in kind v
  entries-said v e = entries_by kind v (sort_is many_place) e

  pub behind_limits : {b : Behind} → b ≡ behind_by (get_or row badge_place 0) (get_or row number_place 0) → (b ≡ behind_of kind) × Slim b
  behind_limits {b} e =
      let is : b ≡ behind_of kind = e ∙ ap₂ behind_by (sort_is badge_place) (sort_is number_place) in (is, rw is (is_slim kind))

-- All fixed fields are read: the entries and what stands behind them decide.
module _ {bytes row : List ℕ} {at kind : ℕ} {st : State} (c : Come bytes row at st) (a : Ahead kind entry_place st) {n : ℕ}
    (s : Said kind (get_or row many_place 0) st.left) (en : n ≡ entries_in kind (get_or row many_place 0)) where
  left-read : read format bytes 0 ≡ after c.values (read (entries (entry_fields * n) st) bytes at)
  left-read =
      let m : st.left ≡ entry_fields * n = s.many ∙ ap (λ (k : ℕ). entry_fields * k) (sym en) in
      c.found
      ∙ ap (λ (g : Grammar). after c.values (read g bytes at))
      (rest_late st (omega (arith, a.its-place)) ∙ ap (λ (k : ℕ). entries k st) m)

  passed : entries_fault bytes at (behind_bits (behind_of kind)) (number_least kind) n ≡ 0 → Passed bytes kind n st at
  passed z =
      by_equal n 0
      (none_passed bytes kind n st at)
      (λ d. entries-passed bytes (said_keyed s (omega (arith, en))) n st a at z)

  wrong :
      {f : ℕ}
      → f ≡ entries_fault bytes at (behind_bits (behind_of kind)) (number_least kind) n
      → (f ≡ 0 → ⊥)
      → read (entries (entry_fields * n) st) bytes at ≡ fault f
  wrong e d =
      by_equal n 0
      (λ z. absurd (d (e ∙ sym (entries-end bytes at (behind_bits (behind_of kind)) (number_least kind) n z))))
      (λ g. entries_wrong bytes (said_keyed s (omega (arith, en))) n st a at e d)

  -- they are few, and near
  pub rest-asked : {b : Behind} → b ≡ behind_of kind → Slim b → EntriesAt at (behind_bits b) b.least n
  rest-asked {b} eb slim =
      let few : n ≤ most_entries = omega (arith, en, said_few s) in
      let wide : entry_bits b ≤ 76 = omega (arith, slim.badge, slim.number) in
      record {
        near = omega (arith, mul-le-mul few wide, c.near, a.its-place);
        narrow = omega (arith, slim.badge, slim.number);
        masked =
            λ k d.
            let m = (said_keyed s (omega (arith, en))).masked (λ z. d (ap (λ (u : Behind). u.least) eb ∙ z)) in
            omega (arith, m, ap (λ (u : Behind). behind_bits u) eb);
      }

  module _ {b : Behind} {f : ℕ} (eb : b ≡ behind_of kind) (ef : f ≡ rest_fault bytes at (behind_bits b) b.least n) where
    e : f ≡ rest_fault bytes at (behind_bits (behind_of kind)) (number_least kind) n
    e = ef ∙ ap (λ (u : Behind). rest_fault bytes at (behind_bits u) u.least n) eb

    pub rest-refused : (f ≡ 0 → ⊥) → fault f ≡ read format bytes 0
    unfolding rest_fault after
    rest-refused d =
        sym
        (left-read
        ∙ ap (after c.values)
        (by_equal (entries_fault bytes at (behind_bits (behind_of kind)) (number_least kind) n) 0
        (λ z.
        let p = passed z in
        p.found ∙ ap (after p.values) ((end_reads bytes (at + n * entry_bits (behind_of kind)) (e ∙ first_right _ _ z)).1 d))
        (λ g. wrong (e ∙ first-left _ _ g) d)))

    -- all fixed values are kept
    row-whole : row ≡ take fixed_fields c.values
    row-whole =
        let l : length c.values ≡ fixed_fields = c.many ∙ a.its-place in
        ext_get_or 0 row (take fixed_fields c.values) (c.all-fixed ∙ sym (length-take-le fixed_fields c.values (omega arith)))
        (λ j k.
        let m : j < fixed_fields = omega (arith, c.all-fixed) in
        c.kept j (omega (arith, a.its-place)) ∙ sym (get_or-take fixed_fields c.values j 0 m))

    pub rest_read : f ≡ 0 → record { fault = 0; fields = fixed_fields + entry_fields * n; fixed = row } ≡ scan_of (read format bytes 0)
    unfolding rest_fault after scan_of
    rest_read z =
        let q = first-none (entries_fault bytes at (behind_bits (behind_of kind)) (number_least kind) n) _ (sym e ∙ z) in
        let p = passed q.0 in
        let us = p.values ++ [] in
        let l : length c.values ≡ fixed_fields = c.many ∙ a.its-place in
        let m : length (c.values ++ us) ≡ fixed_fields + entry_fields * n =
        length-append c.values us ∙ omega (arith, l, length-append p.values [], p.many) in
        let t : take fixed_fields (c.values ++ us) ≡ take fixed_fields c.values =
        take-append-le fixed_fields c.values us (omega arith) in
        let all : read format bytes 0 ≡ got (c.values ++ us) =
        left-read
        ∙ ap (after c.values) (p.found
        ∙ ap (after p.values) ((end_reads bytes (at + n * entry_bits (behind_of kind)) refl).0 q.1)) in
        (λ j. record { fault = 0; fields = sym m j; fixed = (row-whole ∙ sym t) j }) ∙ ap scan_of (sym all)
