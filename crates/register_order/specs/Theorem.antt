-- The register's order is the row's order: the one theorem, over every list of steps behind every accepted opening.
use Rattle.std.specs.Prelude.{ℕ, List}
use Rattle.std.proofs.Math.Path.{refl}
use Rattle.std.proofs.Common.{arith}
use Rattle.tables.specs.Layout.{state_field}
use Rattle.tables.specs.Tables.{Tables}
use Rattle.rules.specs.Answers.{Left, left}
use Rattle.rules.specs.Open.{opened}
use Rattle.rules.specs.Begin.{begun_write, begun_read}
use Rattle.rules.specs.Request.{request_delivered}
use Rattle.rules.specs.Reply.{reply_delivered}
use Rattle.rules.specs.Loss.{link_lost, link_resent}
use Rattle.rules.specs.Answer.{Answer}
use Rattle.rules.specs.Answer.{Ok}
use Rattle.refusals.specs.Refusals.{open_refusal, write_refusal, read_refusal, delivery_refusal}
use Rattle.refusals.specs.Steps.{badge_of, open', begin_write, begin_read, deliver_request, deliver_reply, lose, resend}
use Rattle.refusals.specs.Either.{by_refusal, by_refusal-arrived}
use Rattle.keeping.specs.Accepted.{Openable, openable, writable, readable, as-formerly, deliverable}
use Rattle.keeping.specs.Opening.{Opened, opened-words}
use Rattle.keeping.proofs.Opening.{opened-sound}
use Rattle.listing.specs.Register.{is_finished, register}
use Rattle.listing.specs.Places.{places-none}
use Rattle.claim.specs.Steps.{Step, opening, beginning-write, beginning-read, request, reply, losing, resending, Event, begun-write}
use Rattle.claim.specs.Steps.{begun-read, play}
use Rattle.claim.specs.Steps as event
use Rattle.claim.specs.History.{History, opened_with}
use Rattle.claim.specs.Former.{mixed}
use Rattle.serial.proofs.Openings.{play_starts, mixed_starts}
use Rattle.serial.proofs.Mixed.{by_rules}
use Rattle.serial.proofs.Fair.{Standing}
use Rattle.serial.proofs.Theorem.{play_fair, mixed_fair}
use Rattle.listed_order.specs.Order.{SameOrder}
use Rattle.register_order.specs.Agreement.{Agrees}
use Rattle.register_order.specs.Laws.{passed_agrees}
use Rattle.register_order.specs.Begins.{write_follows, read_follows}
use Rattle.register_order.specs.Requests.{AnswersRequest, request-refused, request-answers}
use Rattle.register_order.specs.Replies.{AnswersReply, reply-refused, reply-answers}
use Rattle.register_order.specs.Losses.{AnswersLoss, loss-refused, loss-answers, AnswersResend, resend-refused, resend-answers}
use Rattle.register_order.specs.Machines.{Follows, Started, Following, in_order}

-- Behind an accepted opening nothing is listed and nothing is told.
module _ (method k p : ℕ) (setpoints : List ℕ) (t : Tables) (o : Openable method k p setpoints t) where
  abbrev start : Tables
  start = opened method k p setpoints t

  words : Opened method k p setpoints start
  words = opened-words method k p setpoints t o

  opened_starts : Started (opened_with method setpoints) start
  opened_starts = record {
    agrees = record {
      sound = opened-sound method k p setpoints t o;
      clock = refl;
      numbered = record { rise = tt; most = tt };
      entries = words.entries;
      begins = record {
        rise = λ i j l h. let z : ⊥ = omega (arith, words.reads) in absurd z;
        most = λ i l. let z : ⊥ = omega (arith, words.reads) in absurd z;
      };
      writes = λ tag l u. let z : ⊥ = omega arith in absurd z;
      reads = rw (words.reads, places-none (is_finished start.reads)) tt;
      clients = λ q l. words.word q state_field;
    };
    step = words.step;
  }

-- Every step keeps the tie; only here does number 0 of a refusal give the facts.
module _ (floor : ℕ → ℕ) (t : Tables) (h : History) (numbers : List ℕ) (s : Standing floor t h) (a : Agrees t h numbers) where
  abbrev Leaving : (Answer → Event) → Left → Type 0
  Leaving event x = Follows t h numbers (record { event = event x.answer; tables = x.tables })

  opened_follows : (method k p : ℕ) (setpoints : List ℕ) → Openable method k p setpoints t →
      Leaving (event.opened method k p setpoints) (left Ok (opened method k p setpoints t))
  opened_follows method k p setpoints o =
      let start = opened_starts method k p setpoints t o in record { agrees = start.agrees; step = start.step }

  step_follows : (step : Step) → Follows t h numbers (play step t)
  unfolding open' begin_write begin_read deliver_request deliver_reply lose resend
  step_follows (opening method k p setpoints) =
      by_refusal (Leaving (event.opened method k p setpoints)) (open_refusal method k p setpoints t) (left Ok (opened method k p setpoints t)) t
      (λ m e. record { agrees = passed_agrees t h numbers a; step = refl })
      (λ e. opened_follows method k p setpoints (openable method k p setpoints t e))
  step_follows (beginning-write q mask badge setpoints) =
      by_refusal (Leaving (begun-write q mask badge setpoints)) (write_refusal q mask setpoints t)
      (left Ok (begun_write q mask (badge_of badge) setpoints t)) t
      (λ m e. record { agrees = passed_agrees t h numbers a; step = refl })
      (λ e. write_follows t h numbers a q mask badge setpoints (writable q mask setpoints t e))
  step_follows (beginning-read q mask) =
      by_refusal (Leaving (begun-read q mask)) (read_refusal q mask t) (left Ok (begun_read q mask t)) t
      (λ m e. record { agrees = passed_agrees t h numbers a; step = refl })
      (λ e. rw (← as-formerly q mask t e) (read_follows t h numbers a q mask (readable q mask t e)))
  step_follows (request q i) =
      by_refusal (AnswersRequest floor t h numbers s a q i) (delivery_refusal q i t) (request_delivered q i t) t
      (λ m e. request-refused floor t h numbers s a q i m)
      (λ e. request-answers floor t h numbers s a q i (deliverable q i t e))
  step_follows (reply q i) =
      by_refusal-arrived (AnswersReply floor t h numbers s a q i) (delivery_refusal q i t) (reply_delivered q i t) t
      (λ m e. reply-refused floor t h numbers s a q i m)
      (λ e. reply-answers floor t h numbers s a q i (deliverable q i t e))
  step_follows (losing q i) =
      by_refusal (AnswersLoss t h numbers a q i) (delivery_refusal q i t) (link_lost q i t) t
      (λ m e. loss-refused t h numbers a q i m)
      (λ e. loss-answers t h numbers a q i (deliverable q i t e))
  step_follows (resending q i) =
      by_refusal (AnswersResend t h numbers a q i) (delivery_refusal q i t) (link_resent q i t) t
      (λ m e. resend-refused t h numbers a q i m)
      (λ e. resend-answers t h numbers a q i (deliverable q i t e))

pub play_follows : Following play
play_follows = record {
  fair = play_fair;
  starts = play_starts Started opened_starts;
  follows = λ step floor t h numbers s a. step_follows floor t h numbers s a step;
}

-- The register's order is the row's order.
pub theorem : SameOrder register play
theorem = in_order play play_follows

-- and so it is where openings and begins go by the former rules
pub mixed_follows : Following mixed
mixed_follows = record {
  fair = mixed_fair;
  starts = mixed_starts Started opened_starts;
  follows = λ step floor t h numbers s a.
      by_rules (Follows t h numbers) t
      (record {
        now = step_follows floor t h numbers s a;
        opens = opened_follows floor t h numbers s a;
        writes = λ q mask badge setpoints w. write_follows t h numbers a q mask badge setpoints w;
        reads = λ q mask r. read_follows t h numbers a q mask r;
      })
      step;
}

pub former : SameOrder register mixed
former = in_order mixed mixed_follows
