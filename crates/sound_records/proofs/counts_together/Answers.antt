-- `sound_records::counts_together` meets its contract: `total` is the sum of the counts passed, each below 2^32.
use mathlib.Core.Path.{sym, ◌≡◌}
use native.Mathlib.Omega.{arith}
use Rattle.ranges.specs.SumLaws.{sum-none, sum_more}
use Rattle.tables.specs.Tables.{with_clients, count_of}
use borrow.Author.Rules.{rules}
use Rattle.sound_records.proofs.counts_together.Goals as goal

pub loop-client-init : goal.loop-client-init
loop-client-init c = let a = c.args in (search rules, (search rules, λ t. sym (sum-none (count_of (with_clients a.clients.now t)))))

pub overflow_add-total : goal.overflow_add-total
overflow_add-total c = let b = c.client_word.type_inv in search rules

pub loop-client-preserved : goal.loop-client-preserved
loop-client-preserved c =
    let a = c.args in
    let b = c.client_word.type_inv in (
      search rules,
      (
        search rules,
        λ t. rw (
          c.client_word.ensures,
          c.loop-client.invariant.1.1 t,
        )
            (sym (sum_more (count_of (with_clients a.clients.now t)) c.loop-client.client)),
      ),
    )

pub returns : goal.returns
returns c = λ t. let e : c.loop-client.client ≡ c.args.rows = omega arith in rw (← e) (c.loop-client.invariant.1.1 t)
