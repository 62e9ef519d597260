-- Of specs/Theorem: what cites a theorem there that a changed definition can make fail.
use Rattle.std.specs.Prelude.{ℕ, ◌<◌, ◌≡◌, refl, true, false, List}
use Rattle.std.proofs.Common.{subst, sym, mod-lt, arith}
use Rattle.ranges.specs.Tests.{by_equal, not-both}
use Rattle.ranges.specs.SumLaws.{sum-part}
use Rattle.tables.specs.Links.{targets}
use Rattle.tables.specs.Tables.{Tables, clients_of, writes_of, count_of}
use Rattle.rules.specs.Answers.{Left, left, Arrived}
use Rattle.rules.specs.Open.{opened}
use Rattle.rules.specs.Begin.{begun_write, begun_read}
use Rattle.rules.specs.Request.{refused, request_delivered}
use Rattle.rules.specs.Reply.{said, reply_delivered}
use Rattle.rules.specs.Loss.{link_lost, link_resent}
use Rattle.rules.specs.Answer.{Answer}
use Rattle.rules.specs.Answer.{Ok, Refused}
use Rattle.rules.specs.declared.Arrival.TheVariants as arrival
use Rattle.rules.specs.declared.Delivered.{Delivered}
use Rattle.refusals.specs.Refusals.{open_refusal, write_refusal, read_refusal, delivery_refusal}
use Rattle.refusals.specs.Steps.{badge_of, open', begin_write, begin_read, deliver_request, deliver_reply, lose, resend}
use Rattle.refusals.specs.Former.{formerly_begun_read}
use Rattle.refusals.specs.Either.{by_refusal, by_refusal-arrived}
use Rattle.soundness.specs.Facts.{Sound}
use Rattle.keeping.specs.Accepted.{Openable, openable, Writable, writable, Readable, readable, as-formerly, Deliverable, deliverable}
use Rattle.keeping.specs.Accepted.{target_below}
use Rattle.keeping.specs.Links.{kind-empty}
use Rattle.keeping.specs.Frame.{Kept, kept_same}
use Rattle.keeping.specs.Opening.{opened-words}
use Rattle.keeping.proofs.Opening.{opened-sound}
use Rattle.keeping.proofs.BeginWrite.{begun_write-kept}
use Rattle.keeping.proofs.BeginRead.{begun_read-kept}
use Rattle.keeping.proofs.Requests.{request_delivered-kept}
use Rattle.keeping.proofs.Replies.{reply_delivered-kept}
use Rattle.keeping.proofs.Losses.{link_lost-kept, link_resent-kept}
use Rattle.claim.specs.Steps.{Step, opening, beginning-write, beginning-read, request, reply, losing, resending, Event, Played, play}
use Rattle.claim.specs.Steps.{begun-write, begun-read, requested, replied, lost, resent}
use Rattle.claim.specs.Steps as event
use Rattle.claim.specs.History.{opened_with}
use Rattle.claim.specs.Former.{mixed}
use Rattle.serial.proofs.Openings.{play_starts, mixed_starts}
use Rattle.serial.proofs.Mixed.{by_rules}
use Rattle.resending.specs.Claim.{SendsAgain}
use Rattle.resending.specs.Carried.{Carried, carried-empty}
use Rattle.resending.specs.Still.{still-same, still-carries, requested_still, lost_still, resent_still, resent_leaves}
use Rattle.resending.specs.Begins.{write-carries, read-carries}
use Rattle.resending.specs.Replies.{replied-carries}
use Rattle.resending.specs.Others.{other-carries}
use Rattle.resending.proofs.Machines.{sends-again}
use Rattle.resending.specs.Machines.{SentIf, SentAt, Carries, Started, Carrying}
use Rattle.resending.specs.Theorem.{mixed-carries, opened_starts, step-carries}

pub play-carries : Carrying play
play-carries = record { starts = play_starts Started opened_starts; carries = λ step t s. step-carries t s step }

-- What is sent again is what was first sent.
pub theorem : SendsAgain play
theorem = sends-again play play-carries

pub former : SendsAgain mixed
former = sends-again mixed mixed-carries
