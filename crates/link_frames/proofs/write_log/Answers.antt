-- `link_frames::write_log` meets its contract: the fronts of the rows have the keys and the masks of the first entries.
use mathlib.Core.Path.{refl, sym, ap, ◌∙◌}
use Prim.Native.Nat.{ℕ}
use lib.ListN.{length}
use Rattle.ranges.specs.LaidLaws.{built-length, laid_front}
use Rattle.tables.specs.Rows.{word_at}
use Rattle.tables.specs.Layout.{entry_width, entry_mask}
use Rattle.frames.specs.declared.Message.TheVariants.{Log}
use Rattle.wire.specs.Cases.{wrote}
use Rattle.link_frames.proofs.write_log.Goals as goal

pub slice_bounds-write_frame-end : goal.slice_bounds-write_frame-end
slice_bounds-write_frame-end c =
    let a = c.args in
    let keys : ℕ → ℕ = λ tag. word_at entry_width a.log.now tag 0 in
    sym (ap length (laid_front keys a.number _ c.log_entries.ensures.0) ∙ built-length keys a.number)

pub slice_bounds-write_frame-end-3 : goal.slice_bounds-write_frame-end-3
slice_bounds-write_frame-end-3 c =
    let a = c.args in
    let masks = entry_mask a.log.now in
    sym (ap length (laid_front masks a.number _ c.log_entries.ensures.1) ∙ built-length masks a.number)

pub returns : goal.returns
returns c =
    let a = c.args in
    let laid = c.log_entries.ensures in
    wrote (Log a.client a.number) a.bytes.now
    (laid_front (λ tag. word_at entry_width a.log.now tag 0) a.number _ laid.0)
    refl
    (laid_front (entry_mask a.log.now) a.number _ laid.1)
    c.write_frame.ensures
