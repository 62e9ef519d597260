-- `load_pick::next_step_sound` meets its contract: sound tables can be scanned, and a pick among what is found is the load's.
use Rattle.std.proofs.Common.{sym, ◌∙◌}
use borrow.Author.Tests.{eqb-true, eqb-false}
use Rattle.tables.specs.Lent.{tables_lent}
use Rattle.workload.specs.Cases.{pick-none, pick_some}
use Rattle.workload.specs.ReadyLaws.{scanned}
use Rattle.workload.proofs.ReadyLaws.{picked_next}
use Rattle.load_pick.proofs.next_step_sound.Goals as goal

pub list_accepted-requires : goal.list_accepted-requires
list_accepted-requires c = record { scanned = scanned (tables_lent c.args.t.now) c.requires; none = c.new-numbers.ensures }

pub returns-then-is_empty : goal.returns-then-is_empty
returns-then-is_empty c =
    let t = tables_lent c.args.t.now in
    picked_next t c.requires c.args.seed
    (pick-none t c.args.seed c.list_accepted.ensures (eqb-true _ _ (sym c.is_empty.ensures ∙ c.if-is_empty.true)))

pub returns : goal.returns
returns c =
    let t = c.args.t.now in
    picked_next (tables_lent t) c.requires c.args.seed
    (pick_some (tables_lent t) c.args.seed c.list_accepted.ensures
    (eqb-false _ _ (sym c.is_empty.ensures ∙ c.if-is_empty.false))
    c.advance-behind.ensures
    (c.index_by-index.ensures.0 ∙ rw c.len.ensures.value)
    (c.numbered.ensures t.links.now t.keys.now t.values.now t.log.now t.writes.now t.reads.now ∙ rw c.deref.ensures.0))
