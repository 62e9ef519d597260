-- How a recording is followed, from a frame and the byte where it begins.
use Rattle.std.specs.Prelude.{◌≡◌, refl, ℕ, ◌+◌, ◌-◌, ◌≤◌, ◌<◌, Bool, true, false, not, ◌&&◌, eqb, get_or, take, drop}
use Rattle.std.proofs.Math.Path.{sym, ap}
use Rattle.std.proofs.Common.{◌∙◌, arith, add-one, drop_of_length-le, drop-cons, drop-drop, length-take-le}
use mathlib.Core.List.{List, [], ◌∷◌}
use Rattle.std.proofs.Math.Dec.{leb}
use Rattle.std.proofs.Math.ListN.{length, length-drop}
use borrow.Author.Tests.{le-leb, lt-leb, leb-true, leb-false, eq-eqb, ne_eqb}
use Rattle.ranges.specs.Tests.{by-test, by_equal, both_left, both_right, fails, holds}
use Rattle.recordings.specs.declared.Cursor.{Cursor}
use Rattle.recordings.specs.Recording.{frames_of, most_frames, total, readable, all_readable, well_made, is_on}
use Rattle.recordings.specs.Comparing.{frames_on}
use Rattle.recordings.specs.ReadableLaws.{readable-two}

-- ---- definitions

-- the lengths are used up by the bytes, and each frame is readable, one behind the other: no sum of lengths is needed
unfoldable pub whole : List ℕ → List ℕ → Bool
whole [] bytes = eqb (length bytes) 0
whole (n ∷ lengths) bytes = leb n (length bytes) && (readable (take n bytes) && whole lengths (drop n bytes))

-- the frames from a frame on, which begins at a byte
abbrev pub frames_from : List ℕ → List ℕ → ℕ → ℕ → List (List ℕ)
frames_from lengths bytes frame at = frames_of (drop frame lengths) (drop at bytes)

-- that frame
abbrev pub frame_at : List ℕ → List ℕ → ℕ → ℕ → List ℕ
frame_at lengths bytes frame at = take (get_or lengths frame 0) (drop at bytes)

-- what is left of a recording is whole
pub record Standing (lengths bytes : List ℕ) (frame at : ℕ) : Type 0 where
  pub left : whole (drop frame lengths) (drop at bytes) ≡ true
  pub there : frame ≤ length lengths
  pub inside : at ≤ length bytes

-- and its next frame is of a link, unless it has none
pub record Stopped (lengths bytes : List ℕ) (client target frame at : ℕ) : Type 0 where
  pub stands : Standing lengths bytes frame at
  pub here : frame < length lengths → is_on client target (frame_at lengths bytes frame at) ≡ true

-- what the search for a link's next frame finds: no frame of the link was passed
pub record Reached (lengths bytes : List ℕ) (client target frame at : ℕ) (r : Cursor) : Type 0 where
  pub stopped : Stopped lengths bytes client target r.frame r.at
  pub later : frame ≤ r.frame
  pub passed :
      frames_on client target (frames_from lengths bytes r.frame r.at) ≡ frames_on client target (frames_from lengths bytes frame at)

-- the same while it searches
pub record Passing (lengths bytes : List ℕ) (client target frame at i place : ℕ) : Type 0 where
  pub stands : Standing lengths bytes i place
  pub later : frame ≤ i
  pub passed : frames_on client target (frames_from lengths bytes i place) ≡ frames_on client target (frames_from lengths bytes frame at)

-- what is left of a recording decides whether it is whole
pub record Walked (lengths bytes : List ℕ) (frame at : ℕ) : Type 0 where
  pub decides : whole (drop frame lengths) (drop at bytes) ≡ whole lengths bytes
  pub there : frame ≤ length lengths
  pub inside : at ≤ length bytes

-- a cursor at a frame
pub record Here (lengths bytes : List ℕ) (frame at : ℕ) : Type 0 where
  pub stands : Standing lengths bytes frame at
  pub before : frame < length lengths

-- what comparing asks
pub record Paired (lengths bytes lengths' bytes' : List ℕ) : Type 0 where
  pub one : Standing lengths bytes 0 0
  pub other : Standing lengths' bytes' 0 0
  pub few : length lengths ≤ most_frames

-- ---- whole recordings are those that are well made, as far as their frames are few enough

swap-tests : (r e a : Bool) → (r && (e && a)) ≡ (e && (r && a))
swap-tests true e a = refl
swap-tests false true a = refl
swap-tests false false a = refl

pub whole_is : (lengths bytes : List ℕ) → whole lengths bytes ≡ (eqb (length bytes) (total lengths) && all_readable (frames_of lengths bytes))
unfolding whole total all_readable frames_of
whole_is [] bytes = by-test (eqb (length bytes) 0) (λ e. rw e) (λ e. rw e)
whole_is (n ∷ lengths) bytes =
    by-test (leb n (length bytes))
    (λ e.
    let h = leb-true n (length bytes) e in
    let rest = drop n bytes in
    let l : length rest ≡ length bytes - n = length-drop n bytes in
    let same : eqb (length rest) (total lengths) ≡ eqb (length bytes) (n + total lengths) =
    by_equal (length rest) (total lengths)
    (λ d. eq-eqb _ _ d ∙ sym (eq-eqb (length bytes) (n + total lengths) (omega arith)))
    (λ d. ne_eqb _ _ d ∙ sym (ne_eqb (length bytes) (n + total lengths) (λ q. d (omega arith)))) in
    rw e
    (ap (λ (b : Bool). readable (take n bytes) && b)
    (whole_is lengths rest ∙ ap (λ (b : Bool). b && all_readable (frames_of lengths rest)) same)
    ∙ swap-tests (readable (take n bytes)) (eqb (length bytes) (n + total lengths)) (all_readable (frames_of lengths rest))))
    (λ e.
    let h = leb-false n (length bytes) e in
    rw (e, ne_eqb (length bytes) (n + total lengths) (λ q. omega arith)))

pub well-made_few : (lengths bytes : List ℕ) → length lengths ≤ most_frames → whole lengths bytes ≡ well_made lengths bytes
unfolding well_made
well-made_few lengths bytes h = whole_is lengths bytes ∙ sym (rw (le-leb (length lengths) most_frames h))

pub well-made_many : (lengths bytes : List ℕ) → most_frames < length lengths → false ≡ well_made lengths bytes
unfolding well_made
well-made_many lengths bytes h = sym (rw (lt-leb (length lengths) most_frames h))

pub well-made-least : (lengths bytes : List ℕ) → well_made lengths bytes ≡ true → length lengths ≤ most_frames
unfolding well_made
well-made-least lengths bytes e = leb-true (length lengths) most_frames (both_left _ _ e)

pub well-made_stands : (lengths bytes : List ℕ) → well_made lengths bytes ≡ true → Standing lengths bytes 0 0
well-made_stands lengths bytes e =
    record {
      left = well-made_few lengths bytes (well-made-least lengths bytes e) ∙ e;
      there = omega arith;
      inside = omega arith;
    }

-- ---- a step along a recording

cut : (lengths : List ℕ) (frame : ℕ) → frame < length lengths → drop frame lengths ≡ get_or lengths frame 0 ∷ drop (frame + 1) lengths
cut lengths frame h = drop-cons lengths frame 0 h ∙ ap (λ (i : ℕ). get_or lengths frame 0 ∷ drop i lengths) (sym (add-one frame))

-- behind the last frame
module _ (lengths bytes : List ℕ) (frame at : ℕ) (h : length lengths ≤ frame) where
  pub frames-end : frames_from lengths bytes frame at ≡ []
  unfolding frames_of
  frames-end = ap (λ (l : List ℕ). frames_of l (drop at bytes)) (drop_of_length-le lengths h)

  pub whole-end : at ≤ length bytes → eqb at (length bytes) ≡ whole (drop frame lengths) (drop at bytes)
  unfolding whole
  whole-end i =
      let l : length (drop at bytes) ≡ length bytes - at = length-drop at bytes in
      sym
      (ap (λ (l : List ℕ). whole l (drop at bytes)) (drop_of_length-le lengths h)
      ∙ by_equal at (length bytes)
      (λ e. eq-eqb (length (drop at bytes)) 0 (omega arith) ∙ sym (eq-eqb at (length bytes) e))
      (λ d. ne_eqb (length (drop at bytes)) 0 (λ e. d (omega arith)) ∙ sym (ne_eqb at (length bytes) d)))

-- at a frame
module _ (lengths bytes : List ℕ) (frame at : ℕ) (h : frame < length lengths) where
  abbrev size : ℕ
  size = get_or lengths frame 0

  pub frames_cut : frames_from lengths bytes frame at ≡ frame_at lengths bytes frame at ∷ frames_from lengths bytes (frame + 1) (at + size)
  unfolding frames_of
  frames_cut =
      ap (λ (l : List ℕ). frames_of l (drop at bytes)) (cut lengths frame h)
      ∙ ap (λ (b : List ℕ). frame_at lengths bytes frame at ∷ frames_of (drop (frame + 1) lengths) b) (drop-drop size at bytes)

  whole_cut :
      whole (drop frame lengths) (drop at bytes)
      ≡ (leb size (length (drop at bytes))
      && (readable (frame_at lengths bytes frame at) && whole (drop (frame + 1) lengths) (drop (at + size) bytes)))
  unfolding whole
  whole_cut =
      ap (λ (l : List ℕ). whole l (drop at bytes)) (cut lengths frame h)
      ∙ ap
      (λ (b : List ℕ).
      leb size (length (drop at bytes)) && (readable (frame_at lengths bytes frame at) && whole (drop (frame + 1) lengths) b))
      (drop-drop size at bytes)

  -- as the walk of a whole recording meets it: too long, not readable, or passed
  pub whole_short : length bytes - at < size → false ≡ whole (drop frame lengths) (drop at bytes)
  whole_short l = sym (whole_cut ∙ rw (lt-leb size (length (drop at bytes)) (omega (arith, length-drop at bytes))))

  module _ (i : at ≤ length bytes) (l : size ≤ length bytes - at) where
    fits : leb size (length (drop at bytes)) ≡ true
    fits = le-leb size (length (drop at bytes)) (omega (arith, length-drop at bytes))

    pub whole-broken : readable (frame_at lengths bytes frame at) ≡ false → false ≡ whole (drop frame lengths) (drop at bytes)
    whole-broken e = sym (whole_cut ∙ rw (fits, e))

    pub whole-next : readable (frame_at lengths bytes frame at) ≡ true
        → whole (drop (frame + 1) lengths) (drop (at + size) bytes) ≡ whole (drop frame lengths) (drop at bytes)
    whole-next e = sym (whole_cut ∙ rw (fits, e))

  -- as one who knows that it is whole meets it
  module _ (s : Standing lengths bytes frame at) where
    tests :
        (leb size (length (drop at bytes))
        && (readable (frame_at lengths bytes frame at) && whole (drop (frame + 1) lengths) (drop (at + size) bytes)))
        ≡ true
    tests = sym whole_cut ∙ s.left

    pub frame_inside : at + size ≤ length bytes
    frame_inside =
        omega (arith, leb-true size (length (drop at bytes)) (both_left _ _ tests), length-drop at bytes, s.inside)

    pub frame-readable : readable (frame_at lengths bytes frame at) ≡ true
    frame-readable = both_left _ _ (both_right (leb size (length (drop at bytes))) _ tests)

    pub frame-two : 2 ≤ size
    frame-two =
        let f = frame_at lengths bytes frame at in
        let l : length f ≡ size = length-take-le size (drop at bytes) (leb-true size (length (drop at bytes)) (both_left _ _ tests)) in
        omega (arith, readable-two f frame-readable)

    pub stands-next : Standing lengths bytes (frame + 1) (at + size)
    stands-next =
        record {
          left = both_right (readable (frame_at lengths bytes frame at)) _ (both_right (leb size (length (drop at bytes))) _ tests);
          there = omega arith;
          inside = frame_inside;
        }

-- ---- the walk of a whole recording, as the code meets it

pub walked_start : (lengths bytes : List ℕ) → Walked lengths bytes 0 0
walked_start lengths bytes = record { decides = refl; there = omega arith; inside = omega arith }

module _ (lengths bytes : List ℕ) (frame at : ℕ) (w : Walked lengths bytes frame at) where
  pub walked_end : length lengths ≤ frame → eqb at (length bytes) ≡ whole lengths bytes
  walked_end h = whole-end lengths bytes frame at h w.inside ∙ w.decides

  module _ (h : frame < length lengths) {n : ℕ} (e : n ≡ get_or lengths frame 0) where
    pub walked_short : length bytes - at < n → false ≡ whole lengths bytes
    walked_short l = whole_short lengths bytes frame at h (omega arith) ∙ w.decides

    module _ (l : n ≤ length bytes - at) {r : Bool} (d : r ≡ readable (take (at + n - at) (drop at bytes))) where
      is-frame : r ≡ readable (frame_at lengths bytes frame at)
      is-frame = let q : at + n - at ≡ get_or lengths frame 0 = omega arith in d ∙ ap (λ (m : ℕ). readable (take m (drop at bytes))) q

      pub walked-broken : not r ≡ true → false ≡ whole lengths bytes
      walked-broken t = whole-broken lengths bytes frame at h w.inside (omega arith) (fails is-frame t) ∙ w.decides

      pub walked_on : not r ≡ false → Walked lengths bytes (frame + 1) (at + n)
      walked_on t =
          record {
            decides =
                ap (λ (m : ℕ). whole (drop (frame + 1) lengths) (drop (at + m) bytes)) e
                ∙ whole-next lengths bytes frame at h w.inside (omega arith) (holds is-frame t)
                ∙ w.decides;
            there = omega arith;
            inside = omega (arith, w.inside);
          }

-- the part that a frame takes up
pub part_is : (lengths bytes : List ℕ) (frame at : ℕ) {n : ℕ} → n ≡ get_or lengths frame 0
    → take (at + n - at) (drop at bytes) ≡ frame_at lengths bytes frame at
part_is lengths bytes frame at {n} e =
    let q : at + n - at ≡ get_or lengths frame 0 = omega arith in
    ap (λ (m : ℕ). take m (drop at bytes)) q
