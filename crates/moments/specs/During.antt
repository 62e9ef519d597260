-- When a transaction is in progress, by the numbers of its record: from its begin on, and before its end if it has one.
use Rattle.std.specs.Prelude.{ℕ, ◌≤◌, ◌<◌, ◌≡◌, Bool, true, false, not, ◌&&◌, ◌||◌, eqb, leb, ltb}
use Rattle.std.proofs.Common.{le-leb, leb-true, lt-ltb, le-ltb, ltb-true, eq-eqb, ne_eqb}
use Rattle.std.proofs.lemmas.Bool.{lt-leb}
use Rattle.ranges.specs.Tests.{by_equal, both_left, both_right}

abbrev pub during : ℕ → ℕ → ℕ → Bool
during begin end step = leb begin step && (eqb end 0 || ltb step end)

module _ (begin end step : ℕ) where
  pub during_yes : begin ≤ step → ((end ≡ 0 → ⊥) → step < end) → during begin end step ≡ true
  during_yes b e =
      by_equal end 0
      (λ z. rw (le-leb begin step b, eq-eqb end 0 z))
      (λ z. rw (le-leb begin step b, ne_eqb end 0 z, lt-ltb step end (e z)))

  -- before its begin it is not
  pub not_yet : step < begin → during begin end step ≡ false
  not_yet b = rw (lt-leb begin step b)

  pub begun_then : during begin end step ≡ true → begin ≤ step
  begun_then e = leb-true begin step (both_left (leb begin step) (eqb end 0 || ltb step end) e)

  pub open_then : during begin end step ≡ true → (end ≡ 0 → ⊥) → step < end
  open_then e z = ltb-true step end (rw (ne_eqb end 0 z) at (both_right (leb begin step) (eqb end 0 || ltb step end) e))

  -- at a step behind its begin, and not before its end: whether it has one
  pub during_now : begin ≤ step → end ≤ step → during begin end step ≡ eqb end 0
  during_now b e =
      by_equal end 0
      (λ z. rw (le-leb begin step b, eq-eqb end 0 z))
      (λ z. rw (le-leb begin step b, ne_eqb end 0 z, le-ltb step end e))

-- an end that comes later changes nothing of an earlier step
pub during-ended : (begin end step : ℕ) → step < end → during begin end step ≡ during begin 0 step
during-ended begin end step l = by_equal end 0 (λ z. rw z) (λ z. rw (ne_eqb end 0 z, lt-ltb step end l))
