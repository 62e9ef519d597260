-- Of specs/Needed: what cites a theorem there that a changed definition can make fail.
use Rattle.std.specs.Prelude.{ℕ, ◌≡◌, List, [], ◌∷◌}
use Rattle.std.proofs.Common.{ap, sym, ◌∙◌, arith}
use Rattle.tables.specs.Layout.{entry_word}
use Rattle.tables.specs.Tables.{Tables}
use Rattle.rules.specs.Answer.{Ok, Refused}
use Rattle.rules.specs.declared.Arrival.TheVariants as arrival
use Rattle.rules.specs.declared.Delivered.{Delivered}
use Rattle.rules.specs.Answers.{nothing_shown}
use Rattle.claim.specs.Steps.{Step, request, reply, Event, requested, replied, play, run}
use Rattle.claim.specs.Sample.{zeros}
use Rattle.commutation.specs.Claim.{SwapsWhere, Swaps}
use Rattle.commutation.specs.Equal.{differ}
use Rattle.commutation.specs.Examples.{opens, Opened, behind, BothAccepted, enter_and_set, get_log_and_set, two_sets}
use Rattle.commutation.specs.Examples.{two_enters, set_and_reply, reply_and_enter, end_of, examples, differing}
use Rattle.commutation.specs.Needed.{Told, told}

-- Of each example it says so: of two clients and of one, at the coordinator, by both methods, behind losses.
module _ (claim : Swaps play) where
  pub told-set-enter : Told (behind 2 enter_and_set) (request 1 1) (request 0 16)
  told-set-enter = told claim 2 examples.by-B enter_and_set 1 1 0 16 examples.set-enter.accepted (λ e. omega arith)

  pub told-get-log-set : Told (behind 3 get_log_and_set) (request 0 16) (request 1 0)
  told-get-log-set = told claim 3 examples.by-C get_log_and_set 0 16 1 0 examples.get-log-set.accepted (λ e. omega arith)

  pub told-two_sets : Told (behind 2 two_sets) (request 1 0) (request 1 1)
  told-two_sets = told claim 2 examples.by-B two_sets 1 0 1 1 examples.two-sets.accepted (λ e. omega arith)
