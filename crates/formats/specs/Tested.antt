-- Values tested one by one: whether they are those of a frame.
use Rattle.std.specs.Prelude.{◌≡◌, ℕ, suc, ◌+◌, ◌^◌, ◌≤◌, ◌<◌, List, Bool, true, false, ◌&&◌, ltb, eqb, length, get_or}
use Rattle.std.proofs.Math.Path.{sym, ap}
use Rattle.std.proofs.Common.{◌∙◌, arith, add-one, drop_of_length-le, drop-cons}
use Rattle.std.proofs.Math.ListN.{drop}
use Rattle.std.proofs.Math.Seq.{drop-length}
use borrow.Author.Tests.{eq-eqb, ne_eqb}
use Rattle.ranges.specs.Tests.{by_equal}
use Rattle.formats.specs.declared.state.State.{State}
use Rattle.formats.specs.Grammar.{Grammar, end, good}
use Rattle.formats.specs.Format.{width_of, allowed, next_of, one, start, format}
use Rattle.formats.specs.FormatLaws.{Goes, goes-start, goes-next, rest, rest-start, rest-one, rest_end}

-- How far a test has come: what is left is good exactly where all is.
pub record Tested (values : List ℕ) (i : ℕ) (st : State) : Type 0 where
  pub goes : Goes st
  pub inside : i ≤ length values
  pub found : good (rest st) (drop i values) ≡ good format values

pub tested-start : (values : List ℕ) → Tested values 0 start
tested-start values = record { goes = goes-start; inside = omega arith; found = ap (λ (g : Grammar). good g values) (sym rest-start) }

module _ (values : List ℕ) (i : ℕ) (st : State) (c : Tested values i st) where
  pub tested-end : st.left ≡ 0 → eqb i (length values) ≡ good format values
  unfolding good
  tested-end z =
      by_equal i (length values)
      (λ e. eq-eqb i (length values) e ∙ sym (sym (ended) ∙ ap (good end) (ap (λ (k : ℕ). drop k values) e ∙ drop-length values)))
      (λ d. ne_eqb i (length values) d ∙ sym (sym (ended) ∙ ap (good end) (drop-cons values i 0 (omega (arith, c.inside)))))
    where
      ended : good end (drop i values) ≡ good format values
      ended = ap (λ (g : Grammar). good g (drop i values)) (sym (rest_end st c.goes z)) ∙ c.found

  module _ (some : 0 < st.left) where
    tested-one : good (one st (λ v. rest (next_of st v))) (drop i values) ≡ good format values
    tested-one = ap (λ (g : Grammar). good g (drop i values)) (sym (rest-one st c.goes some)) ∙ c.found

    pub tested_short : length values ≤ i → false ≡ good format values
    unfolding good
    tested_short h = ap (good (one st (λ v. rest (next_of st v)))) (sym (drop_of_length-le values h)) ∙ tested-one

    module _ (h : i < length values) where
      tested-value : (ltb (get_or values i 0) (2 ^ width_of st) && allowed st (get_or values i 0)) && good (rest (next_of st (get_or values i 0))) (drop (suc i) values) ≡ good format values
      unfolding good
      tested-value = ap (good (one st (λ v. rest (next_of st v)))) (sym (drop-cons values i 0 h)) ∙ tested-one

      pub tested_bad : (ltb (get_or values i 0) (2 ^ width_of st) && allowed st (get_or values i 0)) ≡ false → false ≡ good format values
      tested_bad e = sym (ap (λ (b : Bool). b && good (rest (next_of st (get_or values i 0))) (drop (suc i) values)) e) ∙ tested-value

      pub tested_on : (ltb (get_or values i 0) (2 ^ width_of st) && allowed st (get_or values i 0)) ≡ true → Tested values (i + 1) (next_of st (get_or values i 0))
      tested_on e =
          record {
            goes = goes-next st (get_or values i 0) c.goes some;
            inside = omega arith;
            found =
                ap (λ (k : ℕ). good (rest (next_of st (get_or values i 0))) (drop k values)) (add-one i)
                ∙ sym (ap (λ (b : Bool). b && good (rest (next_of st (get_or values i 0))) (drop (suc i) values)) e) ∙ tested-value;
          }
