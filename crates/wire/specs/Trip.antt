-- Round trip and uniqueness on tables: the frame of a link is read back as the message and the entries that the link holds, and no other bytes are.
use Rattle.std.specs.Prelude.{ℕ, ◌*◌, ◌/◌, ◌%◌, ◌<◌, refl, Bool, true, false, eqb, get_or}
use Rattle.std.proofs.Math.Path.{◌≡◌, sym, ap, subst}
use Rattle.std.proofs.Common.{◌∙◌}
use Rattle.std.proofs.Math.Bool.{cond}
use mathlib.Core.List.{List, [], ◌∷◌, ◌++◌}
use native.Mathlib.Omega.{arith}
use Rattle.std.proofs.Math.ListN.{length, take, drop, get_or-append}
use Rattle.std.proofs.Math.Seq.{take_at, take-length}
use borrow.Author.Tests.{lt-leb}
use Rattle.ranges.specs.Tests.{either, by-test}
use Rattle.fields.specs.BitLaws.{Bytes}
use Rattle.formats.specs.Grammar.{frame}
use Rattle.frame_table.specs.Table.{sort_at, has_badges, entry_fields}
use Rattle.formats.specs.Format.{format}
use Rattle.tables.specs.Tables.{Tables, state_of, content_at}
use Rattle.tables.specs.declared.links.Contents.{Contents}
use Rattle.tables.specs.declared.links.Content.{Content}
use Rattle.tables.specs.declared.links.Content.TheVariants.{Nothing, Request, Reply, Lost}
use Rattle.soundness.specs.Facts.{Sound, facts-sound}
use Rattle.frames.specs.declared.Message.{Message}
use Rattle.frames.specs.Reading.{Read}
use Rattle.frames.specs.Written.{Length, Refused}
use Rattle.ranges.specs.LaidLaws.{built-length, built-same}
use Rattle.frames.specs.Messages.{entries_of, fixed_of}
use Rattle.formats.specs.Entries.{entry_value}
use Rattle.frames.specs.Entries.{kind_of, values_of}
use Rattle.frames.specs.Frames.{has_places, writable, frame_of, fits, reading_of, keys_read, badges_read, numbers_read, found}
use Rattle.frames.specs.RoundTrip.{message_round_trip, keys_round_trip, badges_round_trip, numbers_round_trip, message_only}
use Rattle.wire.specs.OnLink.{OnLink, empty, carries, alone, request_in, reply_in, on_link_by, on_link}
use Rattle.wire.specs.Sending.{Sent, sent, sent_from, link_frame}
use Rattle.wire.specs.Known.{Present}
use Rattle.wire.specs.Always.{Words, CanBeWritten}

-- ---- a link holds as many entries as its message says

pub record Exact (m : Message) (keys badges numbers : List ℕ) : Type 0 where
  pub all-keys : length keys ≡ entries_of m
  pub all_badges : length badges ≡ cond (has_badges (kind_of m)) (entries_of m) 0
  pub all-numbers : length numbers ≡ entries_of m

unfoldable pub ExactOn : OnLink → Type 0
ExactOn empty = Unit {0}
ExactOn (carries m keys badges numbers) = Exact m keys badges numbers

pub request_exact : (state : ℕ) (w : Contents) (q i : ℕ) → ExactOn (alone (request_in state w q i))
unfolding ExactOn request_in has_badges sort_at
request_exact state w q i =
    either (λ m. ExactOn (alone m)) (eqb state 1) (record { all-keys = refl; all_badges = refl; all-numbers = refl })
    (either (λ m. ExactOn (alone m)) (eqb state 2) (record { all-keys = refl; all_badges = refl; all-numbers = refl })
    (either (λ m. ExactOn (alone m)) (eqb state 3) (record { all-keys = refl; all_badges = refl; all-numbers = refl })
    (either (λ m. ExactOn (alone m)) (eqb state 4) (record { all-keys = refl; all_badges = refl; all-numbers = refl })
    (either (λ m. ExactOn (alone m)) (eqb i 16) (record { all-keys = refl; all_badges = refl; all-numbers = refl })
    (record { all-keys = refl; all_badges = refl; all-numbers = refl })))))

pub reply_exact : (state : ℕ) (w : Contents) (q i : ℕ) (t : Tables) → ExactOn (reply_in state w q i t)
unfolding ExactOn reply_in has_badges sort_at
reply_exact state w q i t =
    let n = w.number in
    either ExactOn (eqb state 1) (record { all-keys = refl; all_badges = refl; all-numbers = refl })
    (either ExactOn (eqb state 2) (record { all-keys = refl; all_badges = refl; all-numbers = refl })
    (either ExactOn (eqb state 3) (record { all-keys = built-length _ _; all_badges = refl; all-numbers = built-length _ _ })
    (either ExactOn (eqb state 4) (record { all-keys = refl; all_badges = refl; all-numbers = refl })
    (either ExactOn (eqb i 16) (record { all-keys = built-length _ n; all_badges = refl; all-numbers = built-length _ n })
    (record { all-keys = built-length _ n; all_badges = built-length _ n; all-numbers = built-length _ n })))))

module _ (m : Message) (keys badges numbers : List ℕ) (e : Exact m keys badges numbers) (keys' badges' numbers' : List ℕ) where
  badge-same : (b : Bool) (j : ℕ) → j < entries_of m → length badges ≡ cond b (entries_of m) 0
      → cond b (get_or (badges ++ badges') j 0) 0 ≡ cond b (get_or badges j 0) 0
  badge-same true j h l = get_or-append badges badges' 0 j (omega arith)
  badge-same false j h l = refl

  value_same :
      (j : ℕ) → j < entry_fields * entries_of m
      → entry_value (has_badges (kind_of m)) (keys ++ keys') (badges ++ badges') (numbers ++ numbers') j
      ≡ entry_value (has_badges (kind_of m)) keys badges numbers j
  unfolding entry_value
  value_same j h =
      let f = j / entry_fields in
      let d = j % entry_fields in
      let l : f < entries_of m = omega arith in
      let k = get_or-append keys keys' 0 f (omega (arith, e.all-keys)) in
      let b = badge-same (has_badges (kind_of m)) f l e.all_badges in
      let n = get_or-append numbers numbers' 0 f (omega (arith, e.all-numbers)) in
      (λ i. cond (eqb d 0) (k i / 256) (cond (eqb d 1) (k i % 256) (cond (eqb d 2) (b i) (n i))))

  pub frame-first : frame_of m (keys ++ keys') (badges ++ badges') (numbers ++ numbers') ≡ frame_of m keys badges numbers
  unfolding frame_of values_of
  frame-first = ap (λ (vs : List ℕ). frame format (fixed_of m ++ vs)) (built-same _ _ (entry_fields * entries_of m) value_same)

-- the first n of a list of n, with what stood behind
pub front : (n : ℕ) (row row' : List ℕ) → length row ≡ n → take n row ++ drop n row' ≡ row ++ drop (length row) row'
front n row row' e = (λ j. take (sym e j) row ++ drop (sym e j) row') ∙ ap (λ (l : List ℕ). l ++ drop (length row) row') (take-length row)

pub front_if : (b : Bool) (n : ℕ) (row row' : List ℕ) → length row ≡ cond b n 0 → cond b (take n row ++ drop n row') row' ≡ row ++ drop (length row) row'
front_if true n row row' e = front n row row' e
front_if false n [] row' e = refl
front_if false n (x ∷ row) row' e = let z : ⊥ = omega arith in absurd z

-- ---- on tables

-- bytes are read as a message, and its entries stand at the front of the lent slices, with what stood behind as before
pub record ReadAs (frame : List ℕ) (m : Message) (keys badges numbers keys' badges' numbers' : List ℕ) : Type 0 where
  pub message : reading_of (found frame) keys' badges' numbers' ≡ Read m
  pub keys-stored : keys_read (found frame) keys' badges' numbers' ≡ keys ++ drop (length keys) keys'
  pub badges-stored : badges_read (found frame) keys' badges' numbers' ≡ badges ++ drop (length badges) badges'
  pub numbers-stored : numbers_read (found frame) keys' badges' numbers' ≡ numbers ++ drop (length numbers) numbers'

module _ (q i : ℕ) (t : Tables) (s : Sound t) (words : Words t.links t.values) (a : Present q i t) (m : Message)
    (keys badges numbers : List ℕ) (held : on_link q i t ≡ carries m keys badges numbers) where
  abbrev its-frame : List ℕ
  its-frame = frame_of m keys badges numbers

  module _ (bytes : List ℕ) where
    sent_is : link_frame q i t bytes ≡ sent_from (carries m keys badges numbers) bytes
    unfolding link_frame
    sent_is = rw (facts-sound t s, lt-leb _ _ a.client, a.target, held)

    -- accepted: the answer is the frame's length, and the frame stands at the front
    module _ (n : ℕ) (accepted : (link_frame q i t bytes).answer ≡ Length n) where
      pub written-frame : take n (link_frame q i t bytes).bytes ≡ frame_of m keys badges numbers
      unfolding sent_from
      written-frame =
          by-test (fits m keys badges numbers bytes)
          (λ f.
          let e : link_frame q i t bytes ≡ sent (Length (length its-frame)) (its-frame ++ drop (length its-frame) bytes) = sent_is ∙ rw f in
          let l : Length (length its-frame) ≡ Length n = sym (ap (λ (x : Sent). x.answer) e) ∙ accepted in
          let k : length its-frame ≡ n = cc in
          ap (λ (x : Sent). take n x.bytes) e ∙ take_at its-frame (drop (length its-frame) bytes) n k)
          (λ f.
          let e : link_frame q i t bytes ≡ sent (Refused 12) bytes = sent_is ∙ rw f in
          let l : Refused 12 ≡ Length n = sym (ap (λ (x : Sent). x.answer) e) ∙ accepted in
          absurd (let z : ◌≡◌ {A = ℕ} 0 1 = cc in omega arith))
