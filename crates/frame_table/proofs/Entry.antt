-- Of specs/Entry: what cites a theorem there that a changed definition can make fail.
use Rattle.std.specs.Prelude.{◌≡◌, refl, ℕ, ◌+◌, ◌^◌, ◌≤◌, ◌<◌, Bool, true, false, not, ◌&&◌, ◌||◌, eqb, ltb}
use Rattle.std.proofs.Common.{ap, eqb-true, ne_eqb, ltb-true, ltb-false}
use Rattle.std.proofs.lemmas.Bool.{eqb-false, not-true, not-false}
use Rattle.ranges.specs.Tests.{both_left, both_right, by-test}
use Rattle.ranges.specs.All.{all_below}
use Rattle.ranges.specs.AllLaws.{all_at}
use Rattle.frame_table.specs.declared.Behind.{Behind}
use Rattle.frame_table.specs.Table.{none, count, own, of, many_place, entry_place, owner_place, badge_place, number_place, kinds}
use Rattle.frame_table.specs.Table.{sort_at, bits_of, limits_of, has_badges}
use Rattle.frame_table.proofs.TableLaws.{sort_small}
use Rattle.frame_table.specs.TableLaws.{many-none, bits_most, bits-some, badge_wide}
use Rattle.frame_table.specs.Entry.{Slim, badge_bits, behind_of}

pub badge-some : (kind : ℕ) → has_badges kind ≡ true → 0 < badge_bits kind
unfolding has_badges
badge-some kind e =
    bits-some (sort_at kind badge_place) (sort_small kind badge_place) (eqb-false _ _ (not-true (eqb (sort_at kind badge_place) none) e))

-- what stands behind a key is slim, whatever the kind
pub is_slim : (kind : ℕ) → Slim (behind_of kind)
unfolding bits_of
is_slim kind =
    record {
      badge = bits_most (sort_at kind badge_place) (sort_small kind badge_place);
      badged = badge_wide kind;
      number = bits_most (sort_at kind number_place) (sort_small kind number_place);
    }
