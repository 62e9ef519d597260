-- Of specs/Sorts: what cites a theorem there that a changed definition can make fail.
use Rattle.std.specs.Prelude.{ℕ, ◌≤◌, ◌<◌, ◌≡◌, refl, Bool, true, false, cond, ◌&&◌, List, eqb}
use Rattle.std.proofs.Common.{sym, ◌∙◌, arith, eq-eqb, ne_eqb, eqb-true}
use Rattle.ranges.specs.Tests.{by_equal, by-test, both, both_left, both_right}
use Rattle.ranges.specs.AllLaws.{any_at, any_of}
use Rattle.ranges.specs.Sum.{count_below, one}
use Rattle.ranges.specs.SumLaws.{sum-part, sum-set, one-true}
use Rattle.tables.specs.Layout.{record_word, client_of_record, end_of_record}
use Rattle.tables.specs.Tables.{Tables, clients_of, writes_of, reads_of, state_of, record_of}
use Rattle.soundness.specs.Sound.{is_writing, is_reading, is_open, open_sound}
use Rattle.soundness.specs.Facts.{Sound, Doing, doing_facts, none_facts}
use Rattle.moments.specs.Claim.{at_work}
use Rattle.moments.specs.Sorts.{Sort, end, open_works, work_facts}

module _ (sort : Sort) (t : Tables) (s : Sound t) where
  -- so at its own moment it is in progress exactly where it has no end
  pub work_now : (n : ℕ) → n < sort.begun t → at_work sort.kind t n ≡ eqb (end sort t s n) 0
  work_now n l =
      by_equal (end sort t s n) 0
      (λ z. open_works sort t s n l z ∙ sym (eq-eqb _ _ z))
      (λ z. by-test (at_work sort.kind t n) (λ e. absurd (z (work_facts sort t s n e).1)) (λ e. e ∙ sym (ne_eqb _ _ z)))

  pub work_beyond : (n : ℕ) → sort.begun t ≤ n → at_work sort.kind t n ≡ false
  work_beyond n l = by-test (at_work sort.kind t n) (λ e. let z : ⊥ = omega (arith, (work_facts sort t s n e).0) in absurd z) (λ e. e)
