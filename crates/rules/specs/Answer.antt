-- What an opening, a begin, a delivered request, a loss and a resend answer.
use Rattle.std.specs.Prelude.{ℕ}

-- "Other accepted steps answer *ok*"; a refused one answers the number of its cause.
pub data Answer : Type 0 where
  Ok : Answer
  Refused : ℕ → Answer
