-- Before an opening each readable step but an opening is refused by 2.
use Rattle.std.proofs.Common.{◌∙◌}
use Rattle.playing.specs.Played.{played}
use Rattle.playing.specs.PlayedLaws.{left-played}
use Rattle.playing.specs.PlayableLaws.{begin-write_early, begin-read_early, request_early, reply_early, lose_early, resend_early}
use Rattle.unopened_playing.proofs.play_unopened.Goals as goal

pub returns-in-Unreadable : goal.returns-in-Unreadable
unfolding played
returns-in-Unreadable c = rw c.in-Unreadable.is (c.of_step.ensures _)

pub returns-in-Open : goal.returns-in-Open
unfolding played
returns-in-Open c = rw c.in-Open.is (left-played (c.of_step-in-Open.ensures _) c.open-answer.ensures)

pub returns-in-BeginWrite : goal.returns-in-BeginWrite
returns-in-BeginWrite c = rw c.in-BeginWrite.is (c.of_step-in-BeginWrite.ensures _ ∙ begin-write_early _ c.requires _ _ _ _)

pub returns-in-BeginRead : goal.returns-in-BeginRead
returns-in-BeginRead c = rw c.in-BeginRead.is (c.of_step-in-BeginRead.ensures _ ∙ begin-read_early _ c.requires _ _ _)

pub returns-in-Request : goal.returns-in-Request
returns-in-Request c = rw c.in-Request.is (c.of_step-in-Request.ensures _ ∙ request_early _ c.requires _ _ _)

pub returns-in-Reply : goal.returns-in-Reply
returns-in-Reply c =
    rw (c.in-Reply.is, c.noted.ensures, c.mask_of-mask.ensures, c.number.ensures)
    (reply_early _ c.requires _ _ _)

pub returns-in-Lose : goal.returns-in-Lose
returns-in-Lose c = rw c.in-Lose.is (c.of_step-in-Lose.ensures _ ∙ lose_early _ c.requires _ _ _)

pub returns-in-Resend : goal.returns-in-Resend
returns-in-Resend c = rw c.in-Resend.is (c.of_step-in-Resend.ensures _ ∙ resend_early _ c.requires _ _ _)
