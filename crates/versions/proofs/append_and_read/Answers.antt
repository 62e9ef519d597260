-- What the calls answer, one after another, is a trial in the table filled with one version.
use Rattle.std.proofs.Common.{refl, ◌∙◌, List, replicate}
use Rattle.version_records.specs.declared.Version.{Version}
use Rattle.version_records.specs.Cases.{trial_is, trial-filled}
use Rattle.versions.proofs.append_and_read.Goals as goal

pub returns : goal.returns
returns c =
    let table : List Version = replicate 4096 c.args.blank in
    rw (
      c.setpoint_of.ensures,
      c.find.ensures,
      c.held_now.ensures,
      c.held_after-after.ensures,
      c.append_number.ensures,
      c.append-appended.ensures.1,
      c.append-appended.ensures.0,
    )
    (trial_is table c.args.held c.args.version c.args.key ∙ trial-filled table c.args.held c.args.version c.args.key c.args.blank refl)
