-- What the writer does, value by value, and that it is what the grammar says.
use Rattle.std.specs.Prelude.{◌≡◌, ℕ, ◌+◌, ◌*◌, ◌/◌, ◌^◌, ◌≤◌, ◌<◌, List, ◌++◌, Bool, true, false, cond, ◌&&◌, leb, ltb, eqb, length, get_or, drop}
use Rattle.std.proofs.Common.{sym, ap, ◌∙◌, arith, div-lt_iff_lt-mul, lt_of_not-le, le_of_suc-le-suc, pow_pos}
use Rattle.std.proofs.Math.Nat.{div-eq_of_lt}
use borrow.Author.Tests.{le-leb, lt-leb, lt-ltb, le-ltb, eqb-true, eqb-false}
use Rattle.ranges.specs.Tests.{by-test}
use Rattle.frame_table.specs.declared.Field.{Field}
use Rattle.formats.specs.declared.state.State.{State}
use Rattle.formats.specs.Grammar.{good, frame}
use Rattle.formats.specs.Format.{width_of, field_of, within, allowed, next_of, format}
use Rattle.formats.specs.FormatLaws.{Rowed, rowed-next}
use Rattle.format_writing.specs.Wrote.{Wrote}

-- ---- definitions

-- "message not writable" is 11, then "lent space too small for the frame" 12
unfoldable pub wrote_of : List ℕ → List ℕ → Wrote
wrote_of vs bytes =
    cond (good format vs)
    (cond (leb (length (frame format vs)) (length bytes))
    (record { fault = 0; length = length (frame format vs) })
    (record { fault = 12; length = 0 }))
    (record { fault = 11; length = 0 })

-- the frame, and the bytes behind it as before; where it is refused all as before
unfoldable pub bytes_after : List ℕ → List ℕ → List ℕ
bytes_after vs bytes =
    cond (good format vs)
    (cond (leb (length (frame format vs)) (length bytes)) (frame format vs ++ drop (length (frame format vs)) bytes) bytes)
    bytes

-- ---- the cases, as the code meets them

module _ (v w : ℕ) where
  pub fits_shifted : eqb (v / 2 ^ w) 0 ≡ ltb v (2 ^ w)
  fits_shifted =
      by-test (eqb (v / 2 ^ w) 0)
      (λ e.
      let z : v / 2 ^ w ≡ 0 = eqb-true _ _ e in
      let h : v < 1 * 2 ^ w = (div-lt_iff_lt-mul (pow_pos w)).0 (omega arith) in
      e ∙ sym (lt-ltb v (2 ^ w) (omega arith)))
      (λ e. e ∙ sym (le-ltb v (2 ^ w) (le_of_suc-le-suc (lt_of_not-le (λ h. eqb-false _ _ e (div-eq_of_lt h))))))

module _ (f : Field) (v : ℕ) where
  pub allows_wide : ltb v (2 ^ f.width) ≡ false → false ≡ (ltb v (2 ^ f.width) && within f v)
  allows_wide e = rw e

  module _ (e : ltb v (2 ^ f.width) ≡ true) where
    pub allows_low : v < f.least → false ≡ (ltb v (2 ^ f.width) && within f v)
    unfolding within
    allows_low h = rw (e, lt-leb f.least v h)

    pub allows-rest : f.least ≤ v → leb v f.most ≡ (ltb v (2 ^ f.width) && within f v)
    unfolding within
    allows-rest h = rw (e, le-leb f.least v h)

-- ---- a turn of the test

-- the walk with the row of the first value's kind
pub rowed_on :
    (values : List ℕ) (i : ℕ) (st : State) {next : State}
    → Rowed (get_or values 0 0) i st
    → next ≡ next_of st (get_or values i 0)
    → Rowed (get_or values 0 0) (i + 1) next
rowed_on values i st r en =
    rw en (rowed-next (get_or values 0 0) i st r (i + 1) (get_or values i 0) (λ e. ap (λ (k : ℕ). get_or values k 0) (r.first e)))

-- the test of a state's field, as the code makes it
pub allows_is :
    (st : State) (v : ℕ) {f : Field} {r : Bool}
    → f ≡ field_of st
    → r ≡ (ltb v (2 ^ f.width) && within f v)
    → r ≡ (ltb v (2 ^ width_of st) && allowed st v)
unfolding field_of
allows_is st v ef e = e ∙ ap (λ (f : Field). ltb v (2 ^ f.width) && within f v) ef
