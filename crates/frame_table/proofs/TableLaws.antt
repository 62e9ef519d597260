-- Of specs/TableLaws: what cites a theorem there that a changed definition can make fail.
use Rattle.std.specs.Prelude.{ℕ, zero, suc, ◌+◌, ◌*◌, ◌≤◌, ◌<◌, ◌≡◌, refl, Bool, true, false, cond, not, ◌&&◌, ◌||◌, List, [], eqb, leb, ltb, length, get_or}
use Rattle.std.proofs.Common.{sym, ap, ◌∙◌, mul-le-mul, arith}
use Rattle.std.proofs.Math.ListN.{get_or-eq_default}
use borrow.Author.Tests.{eqb-true, eq-eqb, ne_eqb, leb-true, ltb-true, ltb-false, not-true}
use Rattle.ranges.specs.Tests.{either, by-test, both_left, both_right}
use Rattle.ranges.specs.All.{all_below}
use Rattle.ranges.specs.AllLaws.{all_at}
use Rattle.frame_table.specs.declared.Field.{Field}
use Rattle.frame_table.specs.declared.Shape.{Shape}
use Rattle.frame_table.specs.Table.{none, server, coord, own, of, badge, less, many_place, entry_place, badge_place}
use Rattle.frame_table.specs.Table.{entry_fields, kinds, sorts, header_bits, most_entries}
use Rattle.frame_table.specs.Table.{shape, by_kind, shape_of, bare, bodies, row_with, row_of, sort_at, bits_of, least_of, most_of, limits_of}
use Rattle.frame_table.specs.Table.{entries_in, has_badges}
use Rattle.frame_table.specs.TableLaws.{Row, bits_from, body_fields, body_place, many-none, row-none, row_places, row_right, sort_in, sort_is, table_right}

pub row-right : (kind : ℕ) → kind < kinds → Row kind
unfolding row_right
row-right kind h =
    let e₀ = all_at row_right kinds table_right kind h in
    let e₁ = both_right (eqb (length (row_of kind)) row_places) _ e₀ in
    let e₂ = both_right (eqb (bits_from kind 0 body_place) header_bits) _ e₁ in
    let e₃ = both_right (eqb (bits_from kind body_place body_fields) (shape_of kind).body) _ e₂ in
    let e₄ = both_right (eqb (bits_from kind entry_place entry_fields) (shape_of kind).entry) _ e₃ in
    record {
      places = eqb-true _ _ (both_left _ _ e₀);
      header = eqb-true _ _ (both_left _ _ e₁);
      body = eqb-true _ _ (both_left _ _ e₂);
      entry = eqb-true _ _ (both_left _ _ e₃);
      few = ltb-true _ _ (both_left _ _ e₄);
      plain = not-true _ (both_right (ltb (limits_of (sort_at kind many_place)).most most_entries) _ e₄);
    }

pub sort_small : (kind place : ℕ) → sort_at kind place < sorts
unfolding all_below sort_at
sort_small kind place =
    by-test (ltb kind kinds)
    (λ e.
    let h = ltb-true kind kinds e in
    let t = all_at (λ k. all_below (λ p. ltb (sort_at k p) sorts) row_places) kinds refl kind h in
    sort_in (row_of kind) (row-right kind h).places t place)
    (λ e.
    let header = row_with none bare in
    let q : sort_at kind place ≡ get_or header place none =
    ap (λ (r : List ℕ). get_or r place none) (sym (row-none kind (ltb-false kind kinds e))) in
    omega (arith, q, sort_in header refl refl place))

-- a value that says how many entries there are is below the most
pub few-entries : (kind client before : ℕ) → most_of (sort_at kind many_place) client before < most_entries
unfolding most_of
few-entries kind client before =
    by-test (ltb kind kinds)
    (λ e.
    let r = row-right kind (ltb-true _ _ e) in
    rw r.plain (either (λ n. n < most_entries) (eqb (sort_at kind many_place) of && eqb before 0) (omega arith) r.few))
    (λ e. rw (many-none kind (ltb-false _ _ e)) (omega arith))

-- each cell of a row is one of the sorts
module _ (kind : ℕ) {row : List ℕ} (er : row ≡ row_of kind) where
  pub sort_known : (place : ℕ) → get_or row place 0 < sorts
  sort_known place = omega (arith, sort_is kind er place, sort_small kind place)
