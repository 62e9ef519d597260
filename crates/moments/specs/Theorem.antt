-- The overlap that the register gives a READ counts all WRITEs in progress at some moment of it: the one theorem, over every list of steps
-- behind every accepted opening.
use Rattle.std.specs.Prelude.{ℕ, refl, List}
use Rattle.tables.specs.Tables.{Tables}
use Rattle.rules.specs.Answers.{Left, left}
use Rattle.rules.specs.Open.{opened}
use Rattle.rules.specs.Begin.{begun_write, begun_read}
use Rattle.rules.specs.Request.{request_delivered}
use Rattle.rules.specs.Reply.{reply_delivered}
use Rattle.rules.specs.Loss.{link_lost, link_resent}
use Rattle.rules.specs.Answer.{Answer}
use Rattle.rules.specs.Answer.{Ok}
use Rattle.refusals.specs.Refusals.{open_refusal, write_refusal, read_refusal, delivery_refusal}
use Rattle.refusals.specs.Steps.{badge_of, open', begin_write, begin_read, deliver_request, deliver_reply, lose, resend}
use Rattle.refusals.specs.Either.{by_refusal, by_refusal-arrived}
use Rattle.soundness.specs.Facts.{Sound}
use Rattle.keeping.specs.Accepted.{Openable, writable, readable, as-formerly, deliverable, target_below}
use Rattle.keeping.specs.Opening.{opened-words}
use Rattle.keeping.proofs.Opening.{opened-sound}
use Rattle.claim.specs.Steps.{Step, opening, beginning-write, beginning-read, request, reply, losing, resending, Event, play}
use Rattle.claim.specs.Steps.{begun-write, begun-read, requested, replied, lost, resent}
use Rattle.claim.specs.Steps as event
use Rattle.claim.specs.History.{opened_with}
use Rattle.claim.specs.Former.{mixed}
use Rattle.serial.proofs.Openings.{play_starts, mixed_starts}
use Rattle.serial.proofs.Mixed.{by_rules}
use Rattle.serial.proofs.Theorem.{play_fair, mixed_fair}
use Rattle.moments.specs.Claim.{ByMoments}
use Rattle.moments.specs.Growth.{stays, moves}
use Rattle.moments.specs.StepLaws.{write_moves, read-moves, requested-steps, replied-steps, lost-steps, resent-steps}
use Rattle.moments.specs.Machines.{Started, Goes, Recording}

pub opened_starts : (method k p : ℕ) (setpoints : List ℕ) (t : Tables) → Openable method k p setpoints t →
    Started (opened_with method setpoints) (opened method k p setpoints t)
opened_starts method k p setpoints t o =
    let words = opened-words method k p setpoints t o in
    record { sound = opened-sound method k p setpoints t o; step = words.step; writes-none = words.writes; reads_none = words.reads }

module _ (t : Tables) (s : Sound t) where
  abbrev Leaving : (Answer → Event) → Left → Type 0
  Leaving event x = Goes (event x.answer) t x.tables

  pub step_goes : (step : Step) → Goes (play step t).event t (play step t).tables
  unfolding open' begin_write begin_read deliver_request deliver_reply lose resend
  step_goes (opening method k p setpoints) =
      by_refusal (Leaving (event.opened method k p setpoints)) (open_refusal method k p setpoints t)
      (left Ok (opened method k p setpoints t)) t
      (λ m e. stays refl)
      (λ e. tt)
  step_goes (beginning-write q mask badge setpoints) =
      by_refusal (Leaving (begun-write q mask badge setpoints)) (write_refusal q mask setpoints t)
      (left Ok (begun_write q mask (badge_of badge) setpoints t)) t
      (λ m e. stays refl)
      (λ e. moves (write_moves t s q mask (badge_of badge) setpoints (writable q mask setpoints t e)))
  step_goes (beginning-read q mask) =
      by_refusal (Leaving (begun-read q mask)) (read_refusal q mask t) (left Ok (begun_read q mask t)) t
      (λ m e. stays refl)
      (λ e. rw (← as-formerly q mask t e) (moves (read-moves t s q mask (readable q mask t e))))
  step_goes (request q i) =
      by_refusal (Leaving (requested q i)) (delivery_refusal q i t) (request_delivered q i t) t (λ m e. stays refl)
      (λ e. requested-steps t s q i)
  step_goes (reply q i) =
      by_refusal-arrived (λ x. Goes (replied q i x.delivered) t x.tables) (delivery_refusal q i t) (reply_delivered q i t) t
      (λ m e. stays refl)
      (λ e. let d = deliverable q i t e in replied-steps t s q i d.client (target_below t s i d.target))
  step_goes (losing q i) =
      by_refusal (Leaving (lost q i)) (delivery_refusal q i t) (link_lost q i t) t (λ m e. stays refl) (λ e. lost-steps t s q i)
  step_goes (resending q i) =
      by_refusal (Leaving (resent q i)) (delivery_refusal q i t) (link_resent q i t) t (λ m e. stays refl) (λ e. resent-steps t s q i)

-- and so it is where openings and begins go by the former rules
pub mixed_records : Recording mixed
mixed_records = record {
  starts = mixed_starts Started opened_starts;
  sound = mixed_fair.sound;
  goes = λ step t s.
      by_rules (λ x. Goes x.event t x.tables) t
      (record {
        now = step_goes t s;
        opens = λ method k p setpoints o. tt;
        writes = λ q mask badge setpoints w. moves (write_moves t s q mask (badge_of badge) setpoints w);
        reads = λ q mask r. moves (read-moves t s q mask r);
      })
      step;
}
