-- `holders::Receipts::search_holders` meets its contract: a turn of the loop is a turn of `turns`, taken where the key was received.
use Rattle.std.proofs.Common.{sym, ap, ◌∙◌}
use Rattle.std.specs.Option.{is_some}
use Rattle.ranges.specs.Turns.{turns-none, turns_more}
use Rattle.holders.specs.Looked.{some-where}
use Rattle.holders.proofs.Receipts.search_holders.Goals as goal
use Rattle.holders.proofs.Receipts.search_holders.Goals.{then-is_some, else-is_some}

pub loop-server-init : goal.loop-server-init
loop-server-init c = turns-none _ _

pub loop-server-preserved : goal.loop-server-preserved
loop-server-preserved c =
    let held = sym (c.is_some.ensures ∙ ap is_some c.place_of.ensures ∙ some-where _ _) in
    turns_more _ _ _ c.loop-server.invariant
    (elim c.if-is_some.branch [
      | then-is_some w ↦ rw (held ∙ w.if-is_some.true, ← w.one_server-found.ensures) w.found-is
      | else-is_some w ↦ rw (held ∙ w.if-is_some.false) w.found-is
    ])
