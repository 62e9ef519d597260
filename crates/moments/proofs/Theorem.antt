-- Of specs/Theorem: what cites a theorem there that a changed definition can make fail.
use Rattle.std.specs.Prelude.{ℕ, refl, List}
use Rattle.tables.specs.Tables.{Tables}
use Rattle.rules.specs.Answers.{Left, left}
use Rattle.rules.specs.Open.{opened}
use Rattle.rules.specs.Begin.{begun_write, begun_read}
use Rattle.rules.specs.Request.{request_delivered}
use Rattle.rules.specs.Reply.{reply_delivered}
use Rattle.rules.specs.Loss.{link_lost, link_resent}
use Rattle.rules.specs.Answer.{Answer}
use Rattle.rules.specs.Answer.{Ok}
use Rattle.refusals.specs.Refusals.{open_refusal, write_refusal, read_refusal, delivery_refusal}
use Rattle.refusals.specs.Steps.{badge_of, open', begin_write, begin_read, deliver_request, deliver_reply, lose, resend}
use Rattle.refusals.specs.Either.{by_refusal, by_refusal-arrived}
use Rattle.soundness.specs.Facts.{Sound}
use Rattle.keeping.specs.Accepted.{Openable, writable, readable, as-formerly, deliverable, target_below}
use Rattle.keeping.specs.Opening.{opened-words}
use Rattle.keeping.proofs.Opening.{opened-sound}
use Rattle.claim.specs.Steps.{Step, opening, beginning-write, beginning-read, request, reply, losing, resending, Event, play}
use Rattle.claim.specs.Steps.{begun-write, begun-read, requested, replied, lost, resent}
use Rattle.claim.specs.Steps as event
use Rattle.claim.specs.History.{opened_with}
use Rattle.claim.specs.Former.{mixed}
use Rattle.serial.proofs.Openings.{play_starts, mixed_starts}
use Rattle.serial.proofs.Mixed.{by_rules}
use Rattle.serial.proofs.Theorem.{play_fair, mixed_fair}
use Rattle.moments.specs.Claim.{ByMoments}
use Rattle.moments.specs.Growth.{stays, moves}
use Rattle.moments.specs.StepLaws.{write_moves, read-moves, requested-steps, replied-steps, lost-steps, resent-steps}
use Rattle.moments.proofs.Machines.{overlap_by_moments}
use Rattle.moments.specs.Machines.{Started, Goes, Recording}
use Rattle.moments.specs.Theorem.{mixed_records, opened_starts, step_goes}

pub play_records : Recording play
play_records = record { starts = play_starts Started opened_starts; sound = play_fair.sound; goes = λ step t s. step_goes t s step }

-- The overlap is by moments.
pub theorem : ByMoments play
theorem = overlap_by_moments play play_records

pub former : ByMoments mixed
former = overlap_by_moments mixed mixed_records
