-- A readable frame's link is the one that the reader finds in its header, and one of the 272.
use Rattle.std.specs.Prelude.{◌≡◌, refl, ℕ, ◌≤◌, ◌<◌, List, ◌∷◌, Bool, true, ◌&&◌, eqb, leb, get_or}
use Rattle.std.proofs.Common.{ap, ◌∙◌, arith, eqb-true, leb-true}
use Rattle.ranges.specs.Tests.{both_left, both_right}
use Rattle.ranges.specs.All.{all_below}
use Rattle.ranges.specs.AllLaws.{all_at}
use Rattle.fields.specs.Bits.{field_at}
use Rattle.fields.specs.FieldLaws.{field_below}
use Rattle.formats.specs.Grammar.{got, read}
use Rattle.frame_table.specs.Table.{kinds, sort_at, bits_of, most_of, shape_of}
use Rattle.formats.specs.Format.{next_of, start, place_after, fixed, format}
use Rattle.formats.specs.FormatLaws.{at_most}
use Rattle.formats.specs.RoundTrip.{field-got, read-good}
use Rattle.formats.specs.Walk.{kind-below}
use Rattle.frames.specs.Frames.{found}
use Rattle.recordings.specs.Recording.{readable, client_of, target_of}
use Rattle.recordings.specs.ReadableLaws.{readable-got}

-- every kind's target has 5 bits and is at most 16, by one computed test; whatever client and value stand before it
target_fits : ℕ → ℕ → ℕ → Bool
target_fits client before kind = eqb (bits_of (shape_of kind).target) 5 && leb (most_of (shape_of kind).target client before) 16

all_fit : (client before : ℕ) → all_below (target_fits client before) kinds ≡ true
unfolding all_below target_fits bits_of most_of
all_fit client before = refl

-- what the reader finds
pub record Header (frame vs : List ℕ) : Type 0 where
  pub client : get_or vs 1 0 ≡ client_of frame
  pub target : get_or vs 2 0 ≡ target_of frame
  pub target_there : target_of frame < 17

pub header_read : (frame vs : List ℕ) → found frame ≡ got vs → Header frame vs
unfolding read fixed format next_of place_after sort_at bits_of target_fits
header_read frame vs e =
    let k = field_at frame 0 4 in
    let c = field_at frame 4 4 in
    let w = bits_of (shape_of k).target in
    let t = field_at frame 8 w in
    let f₀ = field-got _ _ k _ vs e in
    let f₁ = field-got _ _ c _ f₀.others f₀.rest-got in
    let f₂ = field-got _ _ t _ f₁.others f₁.rest-got in
    let q : vs ≡ k ∷ c ∷ t ∷ f₂.others = f₀.values ∙ ap (λ (l : List ℕ). k ∷ l) (f₁.values ∙ ap (λ (l : List ℕ). c ∷ l) f₂.values) in
    let h : get_or vs 0 0 < kinds = kind-below vs (read-good format frame 0 vs e) in
    let z : get_or vs 0 0 ≡ k = ap (λ (l : List ℕ). get_or l 0 0) q in
    let fit = all_at (target_fits c c) kinds (all_fit c c) k (omega arith) in
    let five : w ≡ 5 = eqb-true _ _ (both_left _ _ fit) in
    let st = next_of (next_of start k) c in
    let same : t ≡ target_of frame = ap (field_at frame 8) five in
    let most : most_of (shape_of k).target c c ≤ 16 = leb-true _ _ (both_right (eqb w 5) _ fit) in
    record {
      client = ap (λ (l : List ℕ). get_or l 1 0) q;
      target = ap (λ (l : List ℕ). get_or l 2 0) q ∙ same;
      target_there = omega (arith, at_most st t f₂.is_right, most, same);
    }

-- so each readable frame is of one of the links
pub readable-linked : (frame : List ℕ) → readable frame ≡ true → (client_of frame < 16) × (target_of frame < 17)
readable-linked frame e =
    let v = readable-got frame e in
    (field_below frame 4 4, (header_read frame v.values v.is-got).target_there)
