-- `load_pick::list_accepted` meets its contract: those accepted of the numbers passed are listed.
use Rattle.std.proofs.Common.{◌≡◌}
use Rattle.tables.specs.Lent.{tables_lent}
use Rattle.workload.specs.Passing.{passing}
use Rattle.workload.specs.Accepts.{accepts}
use Rattle.load_pick.proofs.list_accepted.Given as goal

abbrev pub invariant-loop-number : goal.invariant-loop-number
invariant-loop-number l = l.numbers.items ≡ passing (accepts (tables_lent l.t)) l.number
