-- `log_search::find` meets its contract: nothing is passed at first, and what was passed by blocks has no entry that bears the key.
use Rattle.std.proofs.Common.{rules, tests, refl, ◌∙◌}
use Rattle.ranges.specs.FirstLaws.{Sought, sought-none}
use Rattle.ranges.specs.Chains.{first_ran}
use Rattle.log_search.specs.Bearers.{bearer, block-none, bearer_of}
use Rattle.log_search.proofs.find.Goals as goal

pub returns : goal.returns
returns c =
    let a = c.args in
    let p = bearer a.log.now c.word-word.result in
    let wide : Sought p a.n c.passed-wide.result = c.passed-wide.ensures.passed p (sought-none p a.n) (λ at h f. block-none a.log.now c.word-word.result at 16 (search rules)) in
    let narrow : Sought p a.n c.passed-narrow.result = c.passed-narrow.ensures.passed p wide (λ at h f. block-none a.log.now c.word-word.result at 4 (search rules)) in
    bearer_of a.log.now a.n a.key c.word-word.ensures (c.unwrap_or.ensures ∙ first_ran p _ _ _ _ c.find.result c.find.ensures.ran refl narrow (λ x b q k. search (rules, tests)))
