-- The loop has found no version before its place (`Sought`), so what it returns is the first.
use Rattle.std.proofs.Common.{rules, ◌≡◌, ◌<◌, sym, ap, ◌∙◌, arith, length}
use Rattle.ranges.specs.FirstLaws.{sought-found, sought-end}
use Rattle.ranges.specs.First.{first_below}
use Rattle.version_records.specs.Table.{bears_at}
use Rattle.version_records.specs.Cases.{readable-within}
use Rattle.versions.proofs.find.Goals as goal

pub offset_bounds-versions-place : goal.offset_bounds-versions-place
offset_bounds-versions-place c =
    let w = readable-within c.args.held (length c.args.versions.now) in
    let h : c.loop-place.place < length c.args.versions.now = omega (arith, c.held_now-readable.ensures) in
    search rules

pub bounds-versions-place : goal.bounds-versions-place
bounds-versions-place c =
    let w = readable-within c.args.held (length c.args.versions.now) in
    omega (arith, c.held_now-readable.ensures)

pub returns-then-bears_key : goal.returns-then-bears_key
returns-then-bears_key c =
    sought-found (bears_at c.args.versions.now c.args.key) c.held_now-readable.result c.loop-place.invariant
    (sym c.bears_key.ensures ∙ c.if-bears_key.true)
    ∙ ap (first_below (bears_at c.args.versions.now c.args.key)) c.held_now-readable.ensures

pub returns : goal.returns
returns c =
    let p = bears_at c.args.versions.now c.args.key in
    let n : c.held_now-readable.result ≡ c.loop-place.place = omega (arith, c.loop-place.invariant.within) in
    n ∙ sought-end p c.held_now-readable.result c.loop-place.invariant c.loop-place-test.false ∙ ap (first_below p) c.held_now-readable.ensures
