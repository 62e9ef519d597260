-- Field by field, what the calls give.
use Rattle.formats.specs.FormatLaws.{next_by}
use Rattle.formats.proofs.state.next.Goals as goal

pub returns : goal.returns
returns c =
    let a = c.args in
    next_by a.state a.value c.taken_at-kind.ensures c.taken_at-client.ensures c.left_after-left.ensures
    c.place_after-after.ensures
