-- `sound_steps::open` meets its contract: wrong, too short or accepted, each a case law of the step.
use mathlib.Core.Bool.{not}
use mathlib.Core.Path.{ap}
use Rattle.tables.specs.Tables.{tables_of}
use Rattle.sound_steps.specs.Ready.{open-ready}
use Rattle.sound_steps.specs.Cases.{open_wrong, open_short, open_able, open-accepted}
use Rattle.sound_steps.proofs.open.Goals as goal

pub returns-then-not-fits_press : goal.returns-then-not-fits_press
returns-then-not-fits_press c = open_wrong _ _ _ _ _ c.fits_press.ensures (ap not c.if-not-fits_press.true)

pub returns-then-not-long_enough : goal.returns-then-not-long_enough
returns-then-not-long_enough c =
    open_short _ _ _ _ _ c.fits_press.ensures c.long_enough.ensures (ap not c.if-not-fits_press.false) (ap not c.if-not-long_enough.true)

pub open-requires : goal.open-requires
open-requires c =
    let a = c.args in
    let t = tables_of a.counts.now a.clients.now a.links.now a.keys.now a.values.now a.log.now a.writes.now a.reads.now in
    open-ready a.method a.servers a.panels a.setpoints.now t
    (open_able a.method a.servers a.panels a.setpoints.now t c.fits_press.ensures c.long_enough.ensures
    (ap not c.if-not-fits_press.false) (ap not c.if-not-long_enough.false))

pub returns : goal.returns
returns c =
    let a = c.args in
    open-accepted _ _ _ _ _ c.fits_press.ensures c.long_enough.ensures (ap not c.if-not-fits_press.false) (ap not c.if-not-long_enough.false)
    (c.«open».ensures a.writes.now a.reads.now)
