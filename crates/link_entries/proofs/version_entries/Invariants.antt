-- `link_entries::version_entries` meets its contract: the first places hold the badges and the setpoints of the versions passed.
use Rattle.tables.specs.Layout.{version_badge, version_setpoint}
use Rattle.ranges.specs.LaidLaws.{Laying}
use Rattle.link_entries.proofs.version_entries.Given as goal

abbrev pub invariant-loop-place : goal.invariant-loop-place
invariant-loop-place l = Laying (version_badge l.values l.server) l.entries l.initial.badges l.place l.badges
    × Laying (version_setpoint l.values l.server) l.entries l.initial.setpoints l.place l.setpoints
