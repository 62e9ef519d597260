-- What the code computes on the way, and that it comes to what the definitions say.
use Rattle.std.specs.Prelude.{ℕ, ◌≤◌, ◌<◌, ◌≡◌, refl, Bool, true, false, not, ◌||◌, List, ◌++◌, eqb, leb, length, get_or, drop, Result, Ok, Err}
use Rattle.std.proofs.Math.Path.{sym, ap, ap₂}
use Rattle.std.proofs.Common.{◌∙◌, arith, get_or-take, le-leb, eq-eqb, ne_eqb}
use Rattle.std.proofs.Math.Bool.{cond}
use Rattle.ranges.specs.Tests.{by-test, both_right}
use Rattle.ranges.specs.Laid.{laid}
use Rattle.ranges.specs.LaidLaws.{built-same, laid_none}
use Rattle.causes.specs.declared.Refusal.{Refusal}
use Rattle.causes.specs.Numbers.{number_of}
use Rattle.formats.specs.Results.{number-some}
use Rattle.format_writing.specs.Results.{wrote_by}
use Rattle.formats.specs.Scan.{Scan}
use Rattle.format_writing.specs.Wrote.{Wrote}
use Rattle.formats.specs.Grammar.{Outcome, got, fault, good, frame}
use Rattle.formats.specs.RoundTrip.{read-good}
use Rattle.frame_table.specs.Table.{most_entries, fixed_fields, entries_said, has_badges}
use Rattle.formats.specs.Format.{format}
use Rattle.formats.specs.Entries.{key_in, badge_in, number_in, values_by, enough}
use Rattle.frame_table.specs.Columns.{Packable}
use Rattle.frame_table.specs.Entry.{Keyed, behind_of}
use Rattle.formats.specs.Reading.{scan_of, Got, scan-got, fault-some}
use Rattle.format_writing.specs.Writing.{wrote_of, bytes_after}
use Rattle.formats.specs.Walk.{entries_few}
use Rattle.formats.specs.Found.{entries_bit, key_at, badge_at, number_at, key-found, badge-found, number-found, found_keyed}
use Rattle.formats.specs.Found.{found_unpackable}
use Rattle.frames.specs.declared.Message.{Message}
use Rattle.frames.specs.Reading.{Reading}
use Rattle.frames.specs.Reading as reading
use Rattle.frames.specs.Written.{Written}
use Rattle.frames.specs.Written.{Length, Refused}
use Rattle.frames.specs.Results.{length_by}
use Rattle.frames.specs.Messages.{entries_of, fixed_of, message_of}
use Rattle.frames.specs.MessageLaws.{Narrow, message_by}
use Rattle.frames.specs.Entries.{values_of}
use Rattle.frames.specs.Good.{is_narrow, message-kept, kind_back, entries_back}
use Rattle.frame_entries.specs.Storable.{Storable, are-enough}
use Rattle.frames.specs.Frames.{has_places, writable, frame_of, fits, written_of, bytes_written, reading_of, keys_read}
use Rattle.frames.specs.Frames.{badges_read, numbers_read, found}
use Rattle.frames.specs.RoundTrip.{fixed-length, said}

-- ---- definitions

abbrev pub written_by : Wrote → Written
written_by w = cond (eqb w.fault 0) (Length w.length) (Refused w.fault)

-- ---- the cases, as the code meets them

-- no entries need no places
enough-none : (kind keys badges numbers : ℕ) → enough kind 0 keys badges numbers ≡ true
enough-none kind keys badges numbers =
    rw (le-leb 0 keys (omega arith), le-leb 0 numbers (omega arith), le-leb 0 badges (omega arith)) (go (has_badges kind))
  where
    go : (b : Bool) → (not b || true) ≡ true
    go true = refl
    go false = refl

-- ---- the writer's answer

module _ (m : Message) (keys badges numbers bytes : List ℕ) where
  not_written : writable m keys badges numbers ≡ false
      → (Refused 11 ≡ written_of m keys badges numbers bytes) × (bytes ≡ bytes_written m keys badges numbers bytes)
  unfolding written_of bytes_written
  not_written e = (rw e, rw e)

  -- the entries are not all there
  pub written-missing : has_places m keys badges numbers ≡ false
      → (Refused 11 ≡ written_of m keys badges numbers bytes) × (bytes ≡ bytes_written m keys badges numbers bytes)
  unfolding writable
  written-missing e = not_written (rw e)

  -- more entries than any frame has
  pub written_many : most_entries < entries_of m
      → (Refused 11 ≡ written_of m keys badges numbers bytes) × (bytes ≡ bytes_written m keys badges numbers bytes)
  unfolding writable
  written_many h =
      not_written
      (by-test (writable m keys badges numbers)
      (λ w.
      let few = entries_few (values_of m keys badges numbers) (both_right (has_places m keys badges numbers) _ w) in
      let z : ⊥ = omega (arith, said m keys badges numbers w, few) in
      absurd z)
      (λ w. w))

  written-values :
      has_places m keys badges numbers ≡ true
      → (written_by (wrote_of (values_of m keys badges numbers) bytes) ≡ written_of m keys badges numbers bytes)
      × (bytes_after (values_of m keys badges numbers) bytes ≡ bytes_written m keys badges numbers bytes)
  unfolding written_of bytes_written writable fits frame_of wrote_of bytes_after
  written-values t =
      rw t
      (by-test (good format (values_of m keys badges numbers))
      (λ g.
      rw g
      (by-test (leb (length (frame format (values_of m keys badges numbers))) (length bytes))
      (λ l. rw l (refl, refl))
      (λ l. rw l (refl, refl))))
      (λ g. rw g (refl, refl)))

-- ---- the reader's answer

-- what a reader's answer and the slices that it leaves are, of what was found
abbrev pub Answered : Outcome → List ℕ → List ℕ → List ℕ → Reading → List ℕ → List ℕ → List ℕ → Type 0
Answered o keys badges numbers r k b x =
    (r ≡ reading_of o keys badges numbers)
    × (k ≡ keys_read o keys badges numbers)
    × (b ≡ badges_read o keys badges numbers)
    × (x ≡ numbers_read o keys badges numbers)

module _ (bytes : List ℕ) {fixed : List ℕ} {fields : ℕ} (s : Got (found bytes) fields fixed) (keys badges numbers : List ℕ) where
  good-values : good format s.values ≡ true
  good-values = read-good format bytes 0 s.values s.is-got

  its-kind : get_or fixed 0 0 ≡ get_or s.values 0 0
  its-kind = ap (λ (l : List ℕ). get_or l 0 0) s.front ∙ get_or-take fixed_fields s.values 0 0 (omega arith)

  pub are_narrow : Narrow fixed fields
  are_narrow = rw (s.front, s.many) (is_narrow s.values good-values)

  module _ {m : Message} {n : ℕ} (em : m ≡ message_by fixed fields) (en : n ≡ entries_of m) where
    its_message : m ≡ message_of s.values
    its_message = em ∙ ap₂ message_by s.front s.many ∙ message-kept s.values good-values

    its-entries : n ≡ entries_of (message_of s.values)
    its-entries = en ∙ ap entries_of its_message

    said-entries : n ≡ entries_said s.values
    said-entries = its-entries ∙ entries_back s.values good-values

    found_places :
        has_places (message_of s.values) keys badges numbers ≡ enough (get_or fixed 0 0) n (length keys) (length badges) (length numbers)
    unfolding has_places
    found_places =
        ap₂ (λ (k e : ℕ). enough k e (length keys) (length badges) (length numbers)) (kind_back s.values good-values ∙ sym its-kind)
        (sym its-entries)

    is_keyed : (n ≡ 0 → ⊥) → Keyed (get_or fixed 0 0)
    is_keyed some = rw its-kind (found_keyed bytes s.values s.is-got (omega (arith, said-entries)))

    -- the entries can be stored
    pub are_storable :
        (n ≡ 0 → ⊥)
        → enough (get_or fixed 0 0) n (length keys) (length badges) (length numbers) ≡ true
        → Storable (get_or fixed 0 0) bytes n (length keys) (length badges) (length numbers)
    are_storable some e =
        record {
          held = rw its-kind (found_unpackable bytes s.values s.is-got (rw its-kind at (is_keyed some)) said-entries);
          places = are-enough (get_or fixed 0 0) n (length keys) (length badges) (length numbers) e;
        }

    -- too few places
    pub read_small :
        enough (get_or fixed 0 0) n (length keys) (length badges) (length numbers) ≡ false
        → Answered (found bytes) keys badges numbers (reading.Refused 12) keys badges numbers
    unfolding reading_of keys_read badges_read numbers_read
    read_small e = let t = found_places ∙ e in rw s.is-got (rw t, rw t, rw t, rw t)

    -- the entries are stored
    pub read_done :
        {k b x : List ℕ}
        → enough (get_or fixed 0 0) n (length keys) (length badges) (length numbers) ≡ true
        → k ≡ laid (key_in s.values) n keys
        → b ≡ cond (has_badges (get_or fixed 0 0)) (laid (badge_in s.values) n badges) badges
        → x ≡ laid (number_in s.values) n numbers
        → Answered (found bytes) keys badges numbers (reading.Read m) k b x
    unfolding reading_of keys_read badges_read numbers_read
    read_done e dk db dx =
        let vs = s.values in
        let t = found_places ∙ e in
        let q = its-kind ∙ sym (kind_back vs good-values) in
        rw s.is-got (
          rw t (ap reading.Read its_message),
          rw t (dk ∙ ap (λ (j : ℕ). laid (key_in vs) j keys) its-entries),
          rw t (db ∙ (λ i. cond (has_badges (q i)) (laid (badge_in vs) (its-entries i) badges) badges)),
          rw t (dx ∙ ap (λ (j : ℕ). laid (number_in vs) j numbers) its-entries),
        )

    -- as they stand in the bytes
    pub read-stored :
        {k b x : List ℕ}
        → (n ≡ 0 → ⊥)
        → enough (get_or fixed 0 0) n (length keys) (length badges) (length numbers) ≡ true
        → let kind = get_or fixed 0 0 in k ≡ laid (key_at bytes (entries_bit kind) (behind_of kind)) n keys
        → b ≡ cond (has_badges kind) (laid (badge_at bytes (entries_bit kind) (behind_of kind)) n badges) badges
        → x ≡ laid (number_at bytes (entries_bit kind) (behind_of kind)) n numbers
        → Answered (found bytes) keys badges numbers (reading.Read m) k b x
    read-stored some e dk db dx =
        let vs = s.values in
        let keyed = rw its-kind at (is_keyed some) in
        let same : (f g : ℕ → ℕ) (row : List ℕ) → ((i : ℕ) → i < n → f i ≡ g i) → laid f n row ≡ laid g n row =
        λ f g row h. ap (λ (l : List ℕ). l ++ drop n row) (built-same f g n h) in
        read_done e
        (dk ∙ same _ _ keys (λ i h. rw its-kind (key-found bytes vs s.is-got keyed i (omega (arith, said-entries)))))
        (db ∙ ap (λ (l : List ℕ). cond (has_badges (get_or fixed 0 0)) l badges)
        (same _ _ badges (λ i h. rw its-kind (badge-found bytes vs s.is-got keyed i (omega (arith, said-entries))))))
        (dx ∙ same _ _ numbers (λ i h. rw its-kind (number-found bytes vs s.is-got keyed i (omega (arith, said-entries)))))

    -- there are none
    pub read-bare : n ≡ 0 → Answered (found bytes) keys badges numbers (reading.Read m) keys badges numbers
    read-bare z =
        let k = get_or fixed 0 0 in
        let vs = s.values in
        let none : (f : ℕ → ℕ) (row : List ℕ) → row ≡ laid f n row =
        λ f row. laid_none f row ∙ ap (λ (j : ℕ). laid f j row) (sym z) in
        read_done
        (ap (λ (j : ℕ). enough k j (length keys) (length badges) (length numbers)) z
        ∙ enough-none k (length keys) (length badges) (length numbers))
        (none (key_in vs) keys)
        (by-test (has_badges k) (λ b. rw b (none (badge_in vs) badges)) (λ b. rw b))
        (none (number_in vs) numbers)

-- the bytes are refused
pub read-refused :
    (o : Outcome) {scan : Scan} (keys badges numbers : List ℕ)
    → scan ≡ scan_of o
    → (scan.fault ≡ 0 → ⊥)
    → Answered o keys badges numbers (reading.Refused scan.fault) keys badges numbers
unfolding scan_of reading_of keys_read badges_read numbers_read
read-refused (got vs) keys badges numbers e d = absurd (d (ap (λ (s : Scan). s.fault) e))
read-refused (fault n) keys badges numbers e d = (ap (λ (s : Scan). reading.Refused s.fault) e, refl, refl, refl)

-- the bytes are those of a frame
pub scan-found :
    (bytes : List ℕ) {scan : Scan}
    → scan ≡ scan_of (found bytes)
    → scan.fault ≡ 0
    → Got (found bytes) scan.fields scan.fixed
scan-found bytes {scan} e z = scan-got (found bytes) scan (fault-some format bytes 0) e z

-- what the writer of values returns, as an answer
pub wrote-length : (r : Result ℕ Refusal) → length_by r ≡ written_by (wrote_by r)
wrote-length (Ok n) = refl
wrote-length (Err r) = sym (rw (ne_eqb (number_of r) 0 (number-some r)))

-- a message's own fixed values and number of entries, as the code has them
module _ (m : Message) (keys badges numbers : List ℕ) {fixed : List ℕ} {n : ℕ} (ef : fixed ≡ fixed_of m) (en : n ≡ entries_of m) where
  pub enough_is : enough (get_or fixed 0 0) n (length keys) (length badges) (length numbers) ≡ has_places m keys badges numbers
  unfolding has_places
  enough_is i = enough (get_or (ef i) 0 0) (en i) (length keys) (length badges) (length numbers)

  -- no entries need no places
  pub bare-enough : n ≡ 0 → enough (get_or fixed 0 0) n (length keys) (length badges) (length numbers) ≡ true
  bare-enough z =
      let k = get_or fixed 0 0 in
      ap (λ (e : ℕ). enough k e (length keys) (length badges) (length numbers)) z
      ∙ enough-none k (length keys) (length badges) (length numbers)

  -- what writing the values answers
  pub written-sent : (bytes : List ℕ) → enough (get_or fixed 0 0) n (length keys) (length badges) (length numbers) ≡ true →
      let vs = values_by fixed keys badges numbers n in
      (written_by (wrote_of vs bytes) ≡ written_of m keys badges numbers bytes)
      × (bytes_after vs bytes ≡ bytes_written m keys badges numbers bytes)
  unfolding values_of
  written-sent bytes e =
      let same : values_by fixed keys badges numbers n ≡ values_of m keys badges numbers = λ i. values_by (ef i) keys badges numbers (en i) in
      rw same (written-values m keys badges numbers bytes (sym enough_is ∙ e))

  pub is_packable : enough (get_or fixed 0 0) n (length keys) (length badges) (length numbers) ≡ true → n ≤ most_entries
      → Packable fixed keys badges numbers n
  is_packable e h =
      record {
        all-fixed = ap length ef ∙ fixed-length m;
        few = h;
        places = are-enough (get_or fixed 0 0) n (length keys) (length badges) (length numbers) e;
      }
