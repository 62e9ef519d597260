-- A version found is read, and else none is held; each a case law of `reading_of`.
use Rattle.std.proofs.Common.{rules, ◌<◌, ◌≤◌, ap, ◌∙◌, arith, length}
use Rattle.version_records.specs.Table.{version_at, found_at, readable, first_bearing}
use Rattle.version_records.specs.Cases.{readable-within, reading-found, reading-missing}
use Rattle.versions.proofs.setpoint_of.Goals as goal

pub offset_bounds-versions-place : goal.offset_bounds-versions-place
offset_bounds-versions-place c =
    let w = readable-within c.args.held (length c.args.versions.now) in
    let h : c.find-place.result < length c.args.versions.now = omega (arith, c.held_now.ensures) in
    search rules

pub bounds-versions-place : goal.bounds-versions-place
bounds-versions-place c =
    let w = readable-within c.args.held (length c.args.versions.now) in
    omega (arith, c.held_now.ensures)

pub returns-then-place-held_now : goal.returns-then-place-held_now
returns-then-place-held_now c =
    let a = c.args in
    let h : first_bearing a.versions.now a.held a.key < readable a.held (length a.versions.now) =
    rw (← c.find-place.ensures, ← c.held_now.ensures) c.if-place-held_now.true in
    c.reading_found.ensures
    ∙ ap (λ n. found_at (version_at a.versions.now n)) c.find-place.ensures
    ∙ reading-found a.versions.now a.held a.key h

pub returns-else-place-held_now : goal.returns-else-place-held_now
returns-else-place-held_now c =
    let a = c.args in
    let h : readable a.held (length a.versions.now) ≤ first_bearing a.versions.now a.held a.key =
    rw (← c.find-place.ensures, ← c.held_now.ensures) c.if-place-held_now.false in
    reading-missing a.versions.now a.held a.key h
