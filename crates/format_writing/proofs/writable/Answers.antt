-- The fixed values are tested first, then how many entries they say, then the entries.
use mathlib.Core.Bool.{not}
use mathlib.Core.Path.{◌≡◌, sym, ap, ◌∙◌}
use mathlib.Core.Bool.{true}
use lib.ListN.{get_or}
use Rattle.ranges.specs.Tests.{fails, holds}
use Rattle.ranges.specs.All.{all_below}
use Rattle.frame_table.specs.declared.Behind.{Behind}
use Rattle.frame_table.specs.Table.{many_place, badge_place, number_place, fixed_fields, entries_in}
use Rattle.frame_table.proofs.TableLaws.{sort_known}
use Rattle.formats.specs.Judging.{entries-said, behind_limits}
use Rattle.format_writing.specs.Packing.{right_at, entries_right, fixed_wrong, many_wrong, entries_decide, beside}
use Rattle.format_writing.proofs.writable.Goals.{After-entries_in, Else-entries-entries_in, Else-not-fixed_right}
use Rattle.format_writing.proofs.writable.Goals as goal

pub returns-then-not-fixed_right : goal.returns-then-not-fixed_right
returns-then-not-fixed_right c =
    let a = c.args in
    fixed_wrong a.fixed.now a.keys.now a.badges.now a.numbers.now a.entries c.requires.1.all-fixed
    (fails c.fixed_right.ensures (ap not c.if-not-fixed_right.true))

-- the fixed values are right
module _ (c : Else-not-fixed_right) where
  right : all_below (right_at c.args.fixed.now) fixed_fields ≡ true
  right = holds c.fixed_right.ensures (ap not c.if-not-fixed_right.false)

-- and say so many entries
module _ (c : After-entries_in) where
  many :
      let a = c.args in
      c.entries_in.result ≡ entries_in (get_or a.fixed.now 0 0) (get_or a.fixed.now many_place 0)
  many =
      entries-said (get_or c.args.fixed.now 0 0) c.requires.0 (get_or c.args.fixed.now many_place 0) c.entries_in.ensures

pub returns-then-entries-entries_in : goal.returns-then-entries-entries_in
returns-then-entries-entries_in c =
    let a = c.args in
    many_wrong a.fixed.now a.keys.now a.badges.now a.numbers.now a.entries c.requires.1.all-fixed (right (goal.at.returns-then-entries-entries_in c).Else-not-fixed_right)
    (λ e. c.if-entries-entries_in.true (e ∙ sym (many (goal.at.returns-then-entries-entries_in c).After-entries_in)))

pub behind_key-behind-requires : goal.behind_key-behind-requires
behind_key-behind-requires c =
    let known = sort_known (get_or c.args.fixed.now 0 0) c.requires.0 in
    (known badge_place, known number_place)

module _ (c : Else-entries-entries_in) where
  said :
      let a = c.args in
      a.entries ≡ entries_in (get_or a.fixed.now 0 0) (get_or a.fixed.now many_place 0)
  said = c.if-entries-entries_in.false ∙ (entries-said (get_or c.args.fixed.now 0 0) c.requires.0 (get_or c.args.fixed.now many_place 0) c.entries_in.ensures)

pub entries_right-requires : goal.entries_right-requires
entries_right-requires c =
    let b = behind_limits (get_or c.args.fixed.now 0 0) c.requires.0 c.behind_key-behind.ensures in
    beside b.0 b.1 c.requires.1.places

pub returns : goal.returns
returns c =
    let a = c.args in
    let b = behind_limits (get_or a.fixed.now 0 0) c.requires.0 c.behind_key-behind.ensures in
    c.entries_right.ensures
    ∙ ap (λ (u : Behind). entries_right u a.keys.now a.badges.now a.numbers.now 0 a.entries) b.0
    ∙ entries_decide a.fixed.now a.keys.now a.badges.now a.numbers.now a.entries c.requires.1.all-fixed (right (goal.at.returns c).Else-not-fixed_right)
    (said (goal.at.returns c).Else-entries-entries_in)
