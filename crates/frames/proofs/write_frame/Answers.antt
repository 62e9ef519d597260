-- Entries that are not there, or more than any frame has, are refused by 11; else all values are written. No entries need no places.
use mathlib.Core.Bool.{not}
use mathlib.Core.Path.{ap}
use mathlib.Core.Path.{sym, ◌∙◌}
use native.Mathlib.Omega.{arith}
use Rattle.ranges.specs.Tests.{fails, holds}
use Rattle.frames.specs.Answers.{enough_is, bare-enough, is_packable, written-missing, written_many, written-sent}
use Rattle.frames.proofs.write_frame.Goals as goal

pub send-requires : goal.send-requires
send-requires c =
    let a = c.args in
    let f = c.fixed_of-fixed.ensures in
    let n = c.entries_of-entries.ensures in
    let z = c.if-entries-eq0.true in
    is_packable a.message a.keys.now a.badges.now a.numbers.now f n
    (bare-enough a.message a.keys.now a.badges.now a.numbers.now f n z)
    (omega arith)

pub returns-then-entries-eq0 : goal.returns-then-entries-eq0
returns-then-entries-eq0 c =
    let a = c.args in
    let f = c.fixed_of-fixed.ensures in
    let n = c.entries_of-entries.ensures in
    let d = c.send.ensures in
    let w = written-sent a.message a.keys.now a.badges.now a.numbers.now f n a.bytes.now
    (bare-enough a.message a.keys.now a.badges.now a.numbers.now f n c.if-entries-eq0.true) in
    (d.0 ∙ w.0, d.1 ∙ w.1)

pub returns-then-not-enough_places : goal.returns-then-not-enough_places
returns-then-not-enough_places c =
    let a = c.args in
    written-missing a.message a.keys.now a.badges.now a.numbers.now a.bytes.now
    (sym
    (enough_is a.message a.keys.now a.badges.now a.numbers.now c.fixed_of-fixed.ensures
    c.entries_of-entries.ensures)
    ∙ fails c.enough_places.ensures (ap not c.if-not-enough_places.true))

pub returns-then-entries-gt-MOST_ENTRIES : goal.returns-then-entries-gt-MOST_ENTRIES
returns-then-entries-gt-MOST_ENTRIES c =
    let a = c.args in
    written_many a.message a.keys.now a.badges.now a.numbers.now a.bytes.now
    (omega (arith, c.entries_of-entries.ensures, c.if-entries-gt-MOST_ENTRIES.true))

pub send-requires-2 : goal.send-requires-2
send-requires-2 c =
    let a = c.args in
    is_packable a.message a.keys.now a.badges.now a.numbers.now c.fixed_of-fixed.ensures
    c.entries_of-entries.ensures
    (holds c.enough_places.ensures (ap not c.if-not-enough_places.false)) c.if-entries-gt-MOST_ENTRIES.false

pub returns : goal.returns
returns c =
    let a = c.args in
    let d = c.send-2.ensures in
    let w =
    written-sent a.message a.keys.now a.badges.now a.numbers.now c.fixed_of-fixed.ensures
    c.entries_of-entries.ensures
    a.bytes.now
    (holds c.enough_places.ensures (ap not c.if-not-enough_places.false)) in
    (d.0 ∙ w.0, d.1 ∙ w.1)
