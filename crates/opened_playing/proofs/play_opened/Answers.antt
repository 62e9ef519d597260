-- Each case of the step is its public step, on sound tables.
use Rattle.playing.specs.Played.{played}
use Rattle.playing.specs.PlayedLaws.{left-played}
use Rattle.opened_playing.proofs.play_opened.Goals as goal

pub returns-in-Unreadable : goal.returns-in-Unreadable
unfolding played
returns-in-Unreadable c = rw c.in-Unreadable.is (c.of_step.ensures _)

pub returns-in-Open : goal.returns-in-Open
unfolding played
returns-in-Open c =
    rw c.in-Open.is (left-played (c.of_step-in-Open.ensures _) c.open-answer.ensures)

pub returns-in-BeginWrite : goal.returns-in-BeginWrite
unfolding played
returns-in-BeginWrite c =
    rw c.in-BeginWrite.is
    (left-played (c.of_step-in-BeginWrite.ensures _) c.begin_write_sound.ensures)

pub returns-in-BeginRead : goal.returns-in-BeginRead
unfolding played
returns-in-BeginRead c =
    rw c.in-BeginRead.is
    (left-played (c.of_step-in-BeginRead.ensures _) c.begin_read_sound.ensures)

pub returns-in-Request : goal.returns-in-Request
unfolding played
returns-in-Request c =
    rw c.in-Request.is
    (left-played (c.of_step-in-Request.ensures _) c.deliver_request_sound.ensures)

pub returns-in-Reply : goal.returns-in-Reply
unfolding played
returns-in-Reply c =
    rw c.in-Reply.is
    c.deliver_reply.ensures

pub returns-in-Lose : goal.returns-in-Lose
unfolding played
returns-in-Lose c =
    rw c.in-Lose.is
    (left-played (c.of_step-in-Lose.ensures _) c.lose_sound.ensures)

pub returns-in-Resend : goal.returns-in-Resend
unfolding played
returns-in-Resend c =
    rw c.in-Resend.is
    (left-played (c.of_step-in-Resend.ensures _) c.resend_sound.ensures)
