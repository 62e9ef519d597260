-- A frame's values are narrow, and say how many entries to store, which stand in the bytes.
use mathlib.Core.Bool.{not}
use mathlib.Core.Path.{ap}
use Rattle.ranges.specs.Tests.{fails, holds}
use Rattle.frames.specs.Answers.{are_narrow, are_storable, read-bare, read_small, read-stored}
use Rattle.frames.proofs.deliver.Goals as goal

pub message_of-message-requires : goal.message_of-message-requires
message_of-message-requires c = are_narrow c.args.bytes.now c.requires c.args.keys.now c.args.badges.now c.args.numbers.now

pub returns-then-entries-eq0 : goal.returns-then-entries-eq0
returns-then-entries-eq0 c =
    let a = c.args in
    read-bare a.bytes.now c.requires a.keys.now a.badges.now a.numbers.now c.message_of-message.ensures
    c.entries_of-entries.ensures
    c.if-entries-eq0.true

pub returns-then-not-enough_places : goal.returns-then-not-enough_places
returns-then-not-enough_places c =
    let a = c.args in
    read_small a.bytes.now c.requires a.keys.now a.badges.now a.numbers.now c.message_of-message.ensures
    c.entries_of-entries.ensures
    (fails c.enough_places.ensures (ap not c.if-not-enough_places.true))

pub store-requires : goal.store-requires
store-requires c =
    let a = c.args in
    are_storable a.bytes.now c.requires a.keys.now a.badges.now a.numbers.now c.message_of-message.ensures
    c.entries_of-entries.ensures
    c.if-entries-eq0.false
    (holds c.enough_places.ensures (ap not c.if-not-enough_places.false))

pub returns : goal.returns
returns c =
    let a = c.args in
    let t = c.store.ensures in
    read-stored a.bytes.now c.requires a.keys.now a.badges.now a.numbers.now c.message_of-message.ensures
    c.entries_of-entries.ensures
    c.if-entries-eq0.false
    (holds c.enough_places.ensures (ap not c.if-not-enough_places.false)) t.0 t.1 t.2
