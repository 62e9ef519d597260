-- `load_pick::list_accepted` meets its contract: those accepted of the numbers passed are listed.
use Rattle.std.proofs.Common.{◌<◌, length, sym, ◌∙◌, arith, rules}
use Rattle.tables.specs.Lent.{tables_lent}
use Rattle.workload.specs.Accepts.{accepts}
use Rattle.workload.specs.Passing.{passing}
use Rattle.workload.specs.PassingLaws.{passing-here, passing-past, passing_few}
use Rattle.load_pick.proofs.list_accepted.Goals as goal
use Rattle.load_pick.proofs.list_accepted.Goals.{then-accepts, else-accepts}

pub loop-number-init : goal.loop-number-init
unfolding passing
loop-number-init c = c.requires.none

pub push-requires : goal.push-requires
push-requires c =
    let few = passing_few (accepts (tables_lent c.args.t.now)) c.loop-number.number in
    let room : length c.loop-number.numbers.items < 576 =
    rw c.loop-number.invariant (omega (arith, few, c.loop-number-test.true, c.count_at-total.ensures, c.requires.scanned.numberable.few)) in
    search rules

pub loop-number-preserved : goal.loop-number-preserved
loop-number-preserved c =
    let test = accepts (tables_lent c.args.t.now) in
    let n = c.loop-number.number in
    elim c.if-accepts.branch [
      | then-accepts w ↦
          rw (w.numbers-is, w.push.ensures.items, c.loop-number.invariant) (passing-here test n (sym c.accepts.ensures ∙ w.if-accepts.true))
      | else-accepts w ↦
          rw (w.numbers-is, c.loop-number.invariant) (passing-past test n (sym c.accepts.ensures ∙ w.if-accepts.false))
    ]
