-- The fixed fields are laid into bytes that were cleared first, and the entries behind them.
use mathlib.Core.Path.{sym, ap, ◌∙◌}
use Prim.Native.Nat.{ℕ}
use native.Mathlib.Omega.{arith}
use mathlib.Core.List.{List}
use lib.ListN.{length, get_or, length-replicate}
use Rattle.frame_table.specs.declared.Behind.{Behind}
use Rattle.formats.specs.Grammar.{zeros}
use Rattle.frame_table.specs.Table.{entry_place, badge_place, number_place}
use Rattle.frame_table.proofs.TableLaws.{sort_known}
use Rattle.formats.specs.Judging.{behind_limits}
use Rattle.format_writing.specs.Laying.{Layable}
use Rattle.format_writing.specs.Packing.{laid_to, length-laid_to, entries_right, entries_laid, fixed_in, entries_in_lem, fixed-good}
use Rattle.format_writing.specs.Packing.{total-said, entries_decide, entries_follow}
use Rattle.format_writing.proofs.fill.Goals.{After-fill}
use Rattle.format_writing.proofs.fill.Goals as goal

-- what is asked of the values, with the bytes that were cleared
module _ (c : After-fill) where
  cleared :
      let a = c.args in
      Layable a.row.now a.fixed.now a.keys.now a.badges.now a.numbers.now a.entries
      (length (zeros (length a.bytes.now)))
  cleared =
      let same = length-replicate {A = ℕ} (length c.args.bytes.now) 0 in
      record { its-row = c.requires.its-row; packable = c.requires.packable; right = c.requires.right; fits = omega (arith, c.requires.fits, same) }

pub lay_fixed-first-requires : goal.lay_fixed-first-requires
lay_fixed-first-requires c = rw (c.fill.ensures.after (λ y e. e)) (fixed_in c.requires.packable.all-fixed (cleared (goal.at.lay_fixed-first-requires c).After-fill))

pub behind_key-behind-requires : goal.behind_key-behind-requires
behind_key-behind-requires c =
    let known = sort_known (get_or c.args.fixed.now 0 0) c.requires.its-row in
    (known badge_place, known number_place)

pub lay_entries-requires : goal.lay_entries-requires
lay_entries-requires c =
    let a = c.args in
    let b = behind_limits (get_or a.fixed.now 0 0) c.requires.its-row c.behind_key-behind.ensures in
    let e = c.lay_fixed-first.ensures in
    let fixed = a.fixed.now in
    let all-fixed = c.requires.packable.all-fixed in
    let right = c.requires.right in (
      rw (e.0, e.1, length-laid_to fixed _ entry_place, (c.fill.ensures.after (λ y e. e)))
          (entries_in_lem all-fixed (cleared (goal.at.lay_entries-requires c).After-fill) b.0 b.1),
      ap (λ (u : Behind). entries_right u a.keys.now a.badges.now a.numbers.now 0 a.entries) b.0
          ∙ entries_decide fixed a.keys.now a.badges.now a.numbers.now a.entries all-fixed
          (fixed-good fixed a.keys.now a.badges.now a.numbers.now a.entries all-fixed right)
          (total-said fixed a.keys.now a.badges.now a.numbers.now a.entries all-fixed right)
          ∙ right,
    )

pub returns : goal.returns
returns c =
    let a = c.args in
    let fixed = a.fixed.now in
    let b = behind_limits (get_or fixed 0 0) c.requires.its-row c.behind_key-behind.ensures in
    let e = c.lay_fixed-first.ensures in
    let laid = e.1 ∙ ap (λ (b : List ℕ). laid_to fixed b entry_place) (c.fill.ensures.after (λ y e. e)) in
    let all-fixed = c.requires.packable.all-fixed in
    let right = c.requires.right in
    c.lay_entries.ensures
    ∙ (λ j. entries_laid (b.0 j) a.keys.now a.badges.now a.numbers.now 0 a.entries (laid j) (e.0 j))
    ∙ sym (entries_follow fixed a.keys.now a.badges.now a.numbers.now a.entries all-fixed
    (fixed-good fixed a.keys.now a.badges.now a.numbers.now a.entries all-fixed right)
    (total-said fixed a.keys.now a.badges.now a.numbers.now a.entries all-fixed right) _)
