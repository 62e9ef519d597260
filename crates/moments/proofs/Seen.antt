-- Of specs/Seen: what cites a theorem there that a changed definition can make fail.
use Rattle.std.specs.Prelude.{ℕ, ◌+◌, ◌≤◌, ◌<◌, ◌≡◌, false, ltb}
use Rattle.std.proofs.Common.{sym, ◌∙◌, arith, ltb-true, ltb-false}
use Rattle.ranges.specs.Tests.{by_equal, by-test}
use Rattle.tables.specs.Layout.{record_word, begin_of_record, end_of_record}
use Rattle.tables.specs.Tables.{Tables, step_of}
use Rattle.soundness.specs.Facts.{Sound}
use Rattle.moments.specs.Claim.{at_work}
use Rattle.moments.specs.During.{during, not_yet, during_now, during-ended}
use Rattle.moments.proofs.Sorts.{work_now, work_beyond}
use Rattle.moments.specs.Sorts.{Sort}
use Rattle.moments.specs.Seen.{Seen, Timed, begin_in, end_in}

module _ (sort : Sort) where
  -- a moment by its own records
  pub seen_now : (t : Tables) → Sound t → Timed sort t → Seen sort t t
  seen_now t s k = record {
    early = omega arith;
    known = λ n l. work_now sort t s n l ∙ sym (during_now (begin_in sort t n) (end_in sort t n) (step_of t) (k.begun n l) (k.most n l));
    beyond = work_beyond sort t s;
  }
