-- `ranges::first_equal` meets its contract: nothing is passed at first, and what was passed by blocks has no word that is equal.
use Rattle.std.specs.Prelude.{ℕ, ◌+◌, ◌≡◌, false, List, get_or, eqb}
use Rattle.std.proofs.Common.{rules, tests, refl, sym, ap, ◌∙◌, arith}
use Rattle.ranges.specs.All.{any_below}
use Rattle.ranges.specs.AllLaws.{any_same}
use Rattle.ranges.specs.FirstLaws.{Sought, sought-none}
use Rattle.ranges.specs.Words.{equal_from}
use Rattle.ranges.specs.Chains.{first_ran}
use Rattle.ranges.proofs.first_equal.Goals as goal

-- a block of words from start + at on without one that is equal, told from start on
shifted : (words : List ℕ) (start at word many : ℕ) → false ≡ any_below (equal_from words (start + at) word) many →
    any_below (λ i. equal_from words start word (at + i)) many ≡ false
shifted words start at word many none =
    sym (none ∙ any_same _ _ many (λ i l. let e : (start + at) + i ≡ start + (at + i) = omega arith in ap (λ (n : ℕ). eqb (get_or words n 0) word) e))

pub returns : goal.returns
returns c =
    let a = c.args in
    let p = equal_from a.words.now a.start a.word in
    let wide : Sought p a.n c.passed-wide.result = c.passed-wide.ensures.passed p (sought-none p a.n) (λ at h f. shifted a.words.now a.start at a.word 16 (search rules)) in
    let narrow : Sought p a.n c.passed-narrow.result = c.passed-narrow.ensures.passed p wide (λ at h f. shifted a.words.now a.start at a.word 4 (search rules)) in
    c.unwrap_or.ensures ∙ first_ran p _ _ _ _ c.find.result c.find.ensures.ran refl narrow (λ x b q k. search (rules, tests))
