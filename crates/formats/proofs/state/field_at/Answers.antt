-- Width and limits by what the field holds.
use mathlib.Core.Path.{ap}
use native.Mathlib.Omega.{arith}
use Rattle.frame_table.specs.declared.Field.{Field}
use Rattle.frame_table.specs.TableLaws.{limits_width, bits_most}
use Rattle.formats.specs.FormatLaws.{field_is}
use Rattle.formats.proofs.state.field_at.Goals as goal

pub least_of-least-requires : goal.least_of-least-requires
least_of-least-requires c = ap (λ (f : Field). f.least) c.limits_of-plain.ensures

pub most_of-most-requires : goal.most_of-most-requires
most_of-most-requires c = ap (λ (f : Field). f.most) c.limits_of-plain.ensures

pub returns : goal.returns
returns c =
    let w = limits_width c.args.sort c.limits_of-plain.ensures in
    (field_is c.args.state c.requires.0 w c.least_of-least.ensures c.most_of-most.ensures, omega (arith, w, bits_most c.args.sort c.requires.1))
