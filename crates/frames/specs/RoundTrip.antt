-- On messages with their entries, for all kinds: what was written is read back, and bytes that are read are those that the message is written to.
-- Both follow from the two theorems over every format, and from a message's values being those that it was made of.
use Rattle.std.specs.Prelude.{ℕ, zero, suc, ◌+◌, ◌-◌, ◌*◌, ◌/◌, ◌%◌, ◌≤◌, ◌<◌, ◌≡◌, refl, Bool, true, cond, ltb, take, drop}
use Rattle.std.proofs.Common.{sym, ap₂, ◌∙◌, arith, length-append, ext_get_or, get_or-append-add, ltb-true, ltb-false}
use Rattle.std.proofs.Math.Path.{ap}
use mathlib.Core.List.{List, ◌++◌}
use Rattle.std.proofs.Math.ListN.{length, get_or, get_or-append}
use Rattle.std.proofs.Math.Seq.{get_or-take}
use Rattle.ranges.specs.Tests.{by-test, both, both_left, both_right}
use Rattle.fields.specs.BitLaws.{Bytes}
use Rattle.formats.specs.Grammar.{Outcome, got, fault, good, frame}
use Rattle.formats.specs.RoundTrip as formats
use Rattle.frame_table.specs.Table.{entries_in, entries_said, sort_at, has_badges, entry_place, owner_place, badge_place, number_place, fixed_fields}
use Rattle.frame_table.specs.Table.{entry_fields, values_for}
use Rattle.formats.specs.Format.{format}
use Rattle.formats.specs.Entries.{key_in, badge_in, number_in, entry_value, enough}
use Rattle.formats.specs.EntryLaws.{part_count, part-client, part-badge, part-number}
use Rattle.frame_table.specs.Columns.{Places}
use Rattle.formats.specs.Walk.{values_length}
use Rattle.frames.specs.declared.Message.{Message}
use Rattle.frames.specs.declared.Message.TheVariants.{Set, SetDone, Enter, Entered, WhichKeys, Keys, Get, Got, GetAll, All, GetLog, Log}
use Rattle.frames.specs.Reading.{Read, Refused}
use Rattle.ranges.specs.Laid.{built, laid}
use Rattle.ranges.specs.LaidLaws.{built-length, built_at, built-same, built-take, laid-length, laid_at}
use Rattle.frames.specs.Messages.{entries_of, fixed_of, message_at, message_of}
use Rattle.frames.specs.Entries.{kind_of, values_of}
use Rattle.frames.specs.Good.{fixed_back, entries_back, kind_back, client_byte, no-badge}
use Rattle.frame_entries.specs.Storable.{are-enough}
use Rattle.frames.specs.Frames.{has_places, writable, frame_of, reading_of, keys_read, badges_read, numbers_read, found}

-- ---- from a message to its values and back

pub fixed-length : (m : Message) → length (fixed_of m) ≡ fixed_fields
fixed-length (Set client server key badge setpoint) = refl
fixed-length (SetDone client server) = refl
fixed-length (Enter client key mask) = refl
fixed-length (Entered client tag) = refl
fixed-length (WhichKeys client) = refl
fixed-length (Keys client tag entries) = refl
fixed-length (Get client server key) = refl
fixed-length (Got client server badge setpoint) = refl
fixed-length (GetAll client server) = refl
fixed-length (All client server entries) = refl
fixed-length (GetLog client) = refl
fixed-length (Log client entries) = refl

-- the message of a message's values, whose number of entries they say
message_back : (m : Message) (es : List ℕ) → entries_of m ≡ entries_said (fixed_of m ++ es) → message_of (fixed_of m ++ es) ≡ m
unfolding message_of message_at entries_in sort_at
message_back (Set client server key badge setpoint) es e = refl
message_back (SetDone client server) es e = refl
message_back (Enter client key mask) es e = refl
message_back (Entered client tag) es e = refl
message_back (WhichKeys client) es e = refl
message_back (Keys client tag entries) es e = refl
message_back (Get client server key) es e = refl
message_back (Got client server badge setpoint) es e = refl
message_back (GetAll client server) es e = refl
message_back (All client server entries) es e = ap (All client server) (sym e)
message_back (GetLog client) es e = refl
message_back (Log client entries) es e = ap (Log client) (sym e)

-- the values of its entries
abbrev value_of : Message → List ℕ → List ℕ → List ℕ → ℕ → ℕ
value_of m keys badges numbers = entry_value (has_badges (kind_of m)) keys badges numbers

values_at :
    (m : Message) (keys badges numbers : List ℕ) (j : ℕ)
    → j < entry_fields * entries_of m
    → get_or (values_of m keys badges numbers) (fixed_fields + j) 0 ≡ value_of m keys badges numbers j
unfolding values_of
values_at m keys badges numbers j h =
    let f = value_of m keys badges numbers in
    ap (λ (k : ℕ). get_or (fixed_of m ++ built f (entry_fields * entries_of m)) (k + j) 0) (sym (fixed-length m))
    ∙ get_or-append-add (fixed_of m) (built f (entry_fields * entries_of m)) j 0 ∙ built_at f (entry_fields * entries_of m) j h

values_many : (m : Message) (keys badges numbers : List ℕ) → length (values_of m keys badges numbers) ≡ values_for (entries_of m)
unfolding values_of
values_many m keys badges numbers =
    length-append (fixed_of m) _
    ∙ ap₂ (λ (a b : ℕ). a + b) (fixed-length m) (built-length (value_of m keys badges numbers) (entry_fields * entries_of m))

are_places : (m : Message) (keys badges numbers : List ℕ) → has_places m keys badges numbers ≡ true
    → Places (kind_of m) (entries_of m) (length keys) (length badges) (length numbers)
unfolding has_places
are_places m keys badges numbers e = are-enough (kind_of m) (entries_of m) (length keys) (length badges) (length numbers) e

-- ---- round trip

module _ (m : Message) (keys badges numbers : List ℕ) (w : writable m keys badges numbers ≡ true) where
  abbrev values : List ℕ
  values = values_of m keys badges numbers

  right : good format values ≡ true
  unfolding writable
  right = both_right (has_places m keys badges numbers) _ w

  places : Places (kind_of m) (entries_of m) (length keys) (length badges) (length numbers)
  unfolding writable
  places = are_places m keys badges numbers (both_left _ _ w)

  pub said : entries_of m ≡ entries_said values
  said = omega (arith, values_many m keys badges numbers, values_length values right)

  back : message_of values ≡ m
  unfolding values_of
  back = message_back m _ said

  -- value d of entry i
  value_back : (i d : ℕ) → i < entries_of m → d < entry_fields
      → get_or values (entry_place + d + entry_fields * i) 0 ≡ value_of m keys badges numbers (entry_fields * i + d)
  value_back i d h l =
      let e : entry_place + d + entry_fields * i ≡ fixed_fields + (entry_fields * i + d) = omega arith in
      ap (λ (k : ℕ). get_or values k 0) e ∙ values_at m keys badges numbers (entry_fields * i + d) (omega arith)

  key_back : (i : ℕ) → i < entries_of m → key_in values i ≡ get_or keys i 0
  key_back i h =
      let badged = has_badges (kind_of m) in
      let z : entry_fields * i + 0 ≡ entry_fields * i = omega arith in
      let c : get_or values (entry_place + entry_fields * i) 0 ≡ get_or keys i 0 / 256 =
      value_back i 0 h (omega arith) ∙ ap (value_of m keys badges numbers) z ∙ part_count badged keys badges numbers i in
      let p : get_or values (owner_place + entry_fields * i) 0 ≡ get_or keys i 0 % 256 =
      value_back i 1 h (omega arith) ∙ part-client badged keys badges numbers i in
      omega (arith, c, p)

  badge_back : (i : ℕ) → i < entries_of m → has_badges (kind_of m) ≡ true → badge_in values i ≡ get_or badges i 0
  badge_back i h e = value_back i 2 h (omega arith) ∙ part-badge (has_badges (kind_of m)) keys badges numbers i ∙ rw e

  number_back : (i : ℕ) → i < entries_of m → number_in values i ≡ get_or numbers i 0
  number_back i h = value_back i 3 h (omega arith) ∙ part-number (has_badges (kind_of m)) keys badges numbers i

  found_back : found (frame_of m keys badges numbers) ≡ got values
  unfolding frame_of
  found_back = formats.round_trip format values right

  -- what was written is read back, where the slices lent for its entries have places for them
  module _ (keys' badges' numbers' : List ℕ) (room : has_places m keys' badges' numbers' ≡ true) where
    pub message_round_trip : reading_of (found (frame_of m keys badges numbers)) keys' badges' numbers' ≡ Read m
    unfolding reading_of
    message_round_trip = ap (λ (o : Outcome). reading_of o keys' badges' numbers') found_back ∙ rw (back, room)

    -- the first of a slice are those that were written
    front : (f : ℕ → ℕ) (row row' : List ℕ) → ((i : ℕ) → i < entries_of m → f i ≡ get_or row i 0) → entries_of m ≤ length row
        → laid f (entries_of m) row' ≡ take (entries_of m) row ++ drop (entries_of m) row'
    front f row row' same h =
        ap (λ (l : List ℕ). l ++ drop (entries_of m) row') (built-same _ _ (entries_of m) same ∙ built-take row (entries_of m) h)

    pub keys_round_trip :
        keys_read (found (frame_of m keys badges numbers)) keys' badges' numbers' ≡ take (entries_of m) keys ++ drop (entries_of m) keys'
    unfolding keys_read
    keys_round_trip =
        ap (λ (o : Outcome). keys_read o keys' badges' numbers') found_back
        ∙ rw (back, room) (front (key_in values) keys keys' key_back places.for-keys)

    pub badges_round_trip :
        badges_read (found (frame_of m keys badges numbers)) keys' badges' numbers'
        ≡ cond (has_badges (kind_of m)) (take (entries_of m) badges ++ drop (entries_of m) badges') badges'
    unfolding badges_read
    badges_round_trip =
        ap (λ (o : Outcome). badges_read o keys' badges' numbers') found_back
        ∙ rw (back, room)
        (by-test (has_badges (kind_of m))
        (λ e. rw e (front (badge_in values) badges badges' (λ i h. badge_back i h e) (places.for_badges e)))
        (λ e. rw e))

    pub numbers_round_trip :
        numbers_read (found (frame_of m keys badges numbers)) keys' badges' numbers'
        ≡ take (entries_of m) numbers ++ drop (entries_of m) numbers'
    unfolding numbers_read
    numbers_round_trip =
        ap (λ (o : Outcome). numbers_read o keys' badges' numbers') found_back
        ∙ rw (back, room) (front (number_in values) numbers numbers' number_back places.for-numbers)

-- ---- uniqueness

-- the values of a frame are those of its message with its entries
module _ (vs : List ℕ) (g : good format vs ≡ true) (keys badges numbers : List ℕ) where
  many : length (values_of (message_of vs) keys badges numbers) ≡ length vs
  many = values_many (message_of vs) keys badges numbers ∙ omega (arith, entries_back vs g, values_length vs g)

  fixed-value : (j : ℕ) → j < fixed_fields → get_or (values_of (message_of vs) keys badges numbers) j 0 ≡ get_or vs j 0
  unfolding values_of
  fixed-value j h =
      get_or-append (fixed_of (message_of vs)) _ 0 j (omega (arith, fixed-length (message_of vs)))
      ∙ ap (λ (l : List ℕ). get_or l j 0) (fixed_back vs g) ∙ get_or-take fixed_fields vs j 0 h

  abbrev badged : Bool
  badged = has_badges (get_or vs 0 0)

  module _ (ks : (i : ℕ) → i < entries_said vs → get_or keys i 0 ≡ key_in vs i)
      (bs : (i : ℕ) → i < entries_said vs → badged ≡ true → get_or badges i 0 ≡ badge_in vs i)
      (ns : (i : ℕ) → i < entries_said vs → get_or numbers i 0 ≡ number_in vs i) where
    -- value d of entry i
    entry_is : (i d : ℕ) → i < entries_said vs → d < entry_fields
        → entry_value badged keys badges numbers (entry_fields * i + d) ≡ get_or vs (entry_place + (entry_fields * i + d)) 0
    entry_is i zero h l =
        let p = client_byte vs g i h in
        let e : entry_place + entry_fields * i ≡ entry_place + (entry_fields * i + 0) = omega arith in
        let z : entry_fields * i + 0 ≡ entry_fields * i = omega arith in
        ap (entry_value badged keys badges numbers) z ∙ part_count badged keys badges numbers i ∙ omega (arith, ks i h)
        ∙ ap (λ (k : ℕ). get_or vs k 0) e
    entry_is i (suc zero) h l =
        let p = client_byte vs g i h in
        let e : owner_place + entry_fields * i ≡ entry_place + (entry_fields * i + 1) = omega arith in
        part-client badged keys badges numbers i ∙ omega (arith, ks i h) ∙ ap (λ (k : ℕ). get_or vs k 0) e
    entry_is i (suc (suc zero)) h l =
        let e : badge_place + entry_fields * i ≡ entry_place + (entry_fields * i + 2) = omega arith in
        part-badge badged keys badges numbers i
        ∙ by-test badged (λ t. rw t (bs i h t)) (λ t. rw t (sym (no-badge vs g i h t)))
        ∙ ap (λ (k : ℕ). get_or vs k 0) e
    entry_is i (suc (suc (suc zero))) h l =
        let e : number_place + entry_fields * i ≡ entry_place + (entry_fields * i + 3) = omega arith in
        part-number badged keys badges numbers i ∙ ns i h ∙ ap (λ (k : ℕ). get_or vs k 0) e
    entry_is i (suc (suc (suc (suc d)))) h l = let z : ⊥ = omega arith in absurd z

    late-value : (j : ℕ) → fixed_fields ≤ j → j < length vs → get_or (values_of (message_of vs) keys badges numbers) j 0 ≡ get_or vs j 0
    late-value j l h =
        let i = (j - fixed_fields) / entry_fields in
        let d = (j - fixed_fields) % entry_fields in
        let n = entries_back vs g in
        let q : j ≡ entry_place + (entry_fields * i + d) = omega arith in
        let b : entry_fields * i + d < entry_fields * entries_of (message_of vs) = omega (arith, values_length vs g) in
        ap (λ (k : ℕ). get_or (values_of (message_of vs) keys badges numbers) k 0) q
        ∙ values_at (message_of vs) keys badges numbers (entry_fields * i + d) b
        ∙ ap (λ (k : ℕ). entry_value (has_badges k) keys badges numbers (entry_fields * i + d)) (kind_back vs g)
        ∙ entry_is i d (omega arith) (omega arith)
        ∙ ap (λ (k : ℕ). get_or vs k 0) (sym q)

    all-values : values_of (message_of vs) keys badges numbers ≡ vs
    all-values =
        ext_get_or 0 (values_of (message_of vs) keys badges numbers) vs many
        (λ j h.
        by-test (ltb j fixed_fields)
        (λ b. fixed-value j (ltb-true _ _ b))
        (λ b. late-value j (ltb-false _ _ b) (omega (arith, many))))

-- what a message that was read was made of
pub record WasRead (o : Outcome) (keys badges numbers : List ℕ) (m : Message) : Type 0 where
  pub values : List ℕ
  pub got-values : o ≡ got values
  pub has-places : has_places (message_of values) keys badges numbers ≡ true
  pub is_message : message_of values ≡ m

was_read : (o : Outcome) (keys badges numbers : List ℕ) (m : Message) → reading_of o keys badges numbers ≡ Read m
    → WasRead o keys badges numbers m
unfolding reading_of
was_read (fault n) keys badges numbers m e = absurd (let z : ◌≡◌ {A = ℕ} 0 1 = cc in omega arith)
was_read (got vs) keys badges numbers m e =
    by-test (has_places (message_of vs) keys badges numbers)
    (λ t.
    record { values = vs; got-values = refl; has-places = t; is_message = (let r : Read (message_of vs) ≡ Read m = rw t at e in cc) })
    (λ t. absurd (let r : Refused 12 ≡ Read m = rw t at e in let z : ◌≡◌ {A = ℕ} 0 1 = cc in omega arith))

-- the slices as a message that was read leaves them
module _ (vs : List ℕ) (g : good format vs ≡ true) (keys badges numbers : List ℕ)
    (t : has_places (message_of vs) keys badges numbers ≡ true) where
  abbrev n : ℕ
  n = entries_of (message_of vs)

  abbrev ks : List ℕ
  ks = keys_read (got vs) keys badges numbers

  abbrev bs : List ℕ
  bs = badges_read (got vs) keys badges numbers

  abbrev ns : List ℕ
  ns = numbers_read (got vs) keys badges numbers

  room : Places (kind_of (message_of vs)) n (length keys) (length badges) (length numbers)
  room = are_places (message_of vs) keys badges numbers t

  keys_are : ks ≡ laid (key_in vs) n keys
  unfolding keys_read
  keys_are = rw t

  badges_are : bs ≡ cond (has_badges (kind_of (message_of vs))) (laid (badge_in vs) n badges) badges
  unfolding badges_read
  badges_are = rw t

  numbers_are : ns ≡ laid (number_in vs) n numbers
  unfolding numbers_read
  numbers_are = rw t

  key_is : (i : ℕ) → i < entries_said vs → get_or ks i 0 ≡ key_in vs i
  key_is i h = ap (λ (l : List ℕ). get_or l i 0) keys_are ∙ laid_at (key_in vs) n keys i (omega (arith, entries_back vs g))

  badge_is : (i : ℕ) → i < entries_said vs → has_badges (get_or vs 0 0) ≡ true → get_or bs i 0 ≡ badge_in vs i
  badge_is i h b =
      let b' : has_badges (kind_of (message_of vs)) ≡ true = ap has_badges (kind_back vs g) ∙ b in
      let e : bs ≡ laid (badge_in vs) n badges = badges_are ∙ rw b' in
      ap (λ (l : List ℕ). get_or l i 0) e ∙ laid_at (badge_in vs) n badges i (omega (arith, entries_back vs g))

  number_is : (i : ℕ) → i < entries_said vs → get_or ns i 0 ≡ number_in vs i
  number_is i h = ap (λ (l : List ℕ). get_or l i 0) numbers_are ∙ laid_at (number_in vs) n numbers i (omega (arith, entries_back vs g))

  values_are : values_of (message_of vs) ks bs ns ≡ vs
  values_are = all-values vs g ks bs ns key_is badge_is number_is

  -- they are as long as they were, and places go by lengths
  same_places : has_places (message_of vs) ks bs ns ≡ true
  unfolding has_places
  same_places =
      let k : length ks ≡ length keys = ap length keys_are ∙ laid-length (key_in vs) n keys room.for-keys in
      let x : length ns ≡ length numbers = ap length numbers_are ∙ laid-length (number_in vs) n numbers room.for-numbers in
      let b : length bs ≡ length badges =
      ap length badges_are
      ∙ by-test (has_badges (kind_of (message_of vs)))
      (λ d. rw d (laid-length (badge_in vs) n badges (room.for_badges d)))
      (λ d. rw d) in
      (λ i. enough (kind_of (message_of vs)) n (k i) (b i) (x i)) ∙ t

-- bytes that are read as a message are the frame of that message, with the entries as they were stored
module _ (bytes keys badges numbers : List ℕ) (m : Message) (h : Bytes bytes)
    (e : reading_of (found bytes) keys badges numbers ≡ Read m) where
  abbrev k : List ℕ
  k = keys_read (found bytes) keys badges numbers

  abbrev b : List ℕ
  b = badges_read (found bytes) keys badges numbers

  abbrev x : List ℕ
  x = numbers_read (found bytes) keys badges numbers

  was : WasRead (found bytes) keys badges numbers m
  was = was_read (found bytes) keys badges numbers m e

  its-good : good format was.values ≡ true
  its-good = formats.read-good format bytes 0 was.values was.got-values

  same-values : values_of m k b x ≡ was.values
  same-values =
      let o = was.got-values in
      (λ i.
      values_of (sym was.is_message i) (keys_read (o i) keys badges numbers) (badges_read (o i) keys badges numbers)
      (numbers_read (o i) keys badges numbers))
      ∙ values_are was.values its-good keys badges numbers was.has-places

  pub message_only : bytes ≡ frame_of m k b x
  unfolding frame_of
  message_only = formats.only-frame format bytes was.values h was.got-values ∙ ap (frame format) (sym same-values)

  pub message-writable : writable m k b x ≡ true
  unfolding writable
  message-writable =
      let o = was.got-values in
      both _ _
      ((λ i.
      has_places (sym was.is_message i) (keys_read (o i) keys badges numbers) (badges_read (o i) keys badges numbers)
      (numbers_read (o i) keys badges numbers))
      ∙ same_places was.values its-good keys badges numbers was.has-places)
      (ap (good format) same-values ∙ its-good)
