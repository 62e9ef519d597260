-- Demand 3: the store's machine is fair, so the one theorem holds of it, over every list of steps behind every accepted opening. Only here
-- does number 0 of a refusal give the facts by which a step is fair.
use Prim.Native.Nat.{ℕ}
use mathlib.Core.Path.{refl}
use mathlib.Core.List.{List}
use native.Mathlib.Nat.{mod-lt}
use native.Mathlib.Omega.{arith}
use Rattle.tables.specs.Tables.{Tables, step_of}
use Rattle.rules.specs.Answers.{left}
use Rattle.rules.specs.Open.{opened}
use Rattle.rules.specs.Begin.{begun_write, begun_read}
use Rattle.rules.specs.Request.{request_delivered}
use Rattle.rules.specs.Reply.{reply_delivered}
use Rattle.rules.specs.Loss.{link_lost, link_resent}
use Rattle.rules.specs.Answer.{Ok}
use Rattle.refusals.specs.Refusals.{open_refusal, write_refusal, read_refusal, delivery_refusal}
use Rattle.soundness.specs.Facts.{Sound}
use Rattle.keeping.specs.Accepted.{Openable, openable, writable, readable, as-formerly, deliverable}
use Rattle.keeping.specs.Opening.{opened-words}
use Rattle.keeping.proofs.Opening.{opened-sound}
use Rattle.keeping.proofs.BeginWrite.{begun_write-kept}
use Rattle.keeping.proofs.BeginRead.{begun_read-kept}
use Rattle.keeping.proofs.Steps.{open_keeps, begin_write-sound, begin_read-sound, deliver_request-sound, deliver_reply-sound, lose-sound}
use Rattle.keeping.proofs.Steps.{resend-sound}
use Rattle.refusals.specs.Steps.{badge_of, open', begin_write, begin_read, deliver_request, deliver_reply, lose, resend}
use Rattle.refusals.specs.Either.{by_refusal, by_refusal-arrived}
use Rattle.claim.specs.Steps.{Step, opening, beginning-write, beginning-read, request, reply, losing, resending, begun-write}
use Rattle.claim.specs.Steps.{begun-read, requested, replied, lost, resent, leaving, arriving, Played, play}
use Rattle.claim.specs.Steps as event
use Rattle.claim.specs.Former.{MixedStep, mixed}
use Rattle.claim.specs.History.{History, passed, opened_with}
use Rattle.claim.specs.Claim.{Demand3}
use Rattle.claim.specs.Consequences.{Besides}
use Rattle.serial.proofs.Press.{view}
use Rattle.serial.proofs.Invariant.{Tied}
use Rattle.serial.proofs.Kept.{passed-tied}
use Rattle.serial.proofs.Fair.{Standing, Fair}
use Rattle.serial.proofs.Numbers.{open-number, write-number, read_number, delivery-number}
use Rattle.serial.proofs.OpeningStep.{opened-tied, opened-budget}
use Rattle.serial.proofs.BeginSteps.{write_fair, read_fair}
use Rattle.serial.proofs.RequestSteps.{request_fair, refused_fair}
use Rattle.serial.proofs.ReplySteps.{reply_fair, refused-reply}
use Rattle.serial.proofs.LossSteps.{loss_fair, refused_loss, resend_fair, refused-resend}
use Rattle.serial.proofs.Openings.{play_starts, mixed_starts}
use Rattle.serial.proofs.Mixed.{by_rules}
use Rattle.serial.proofs.Machines.{Started, FairMachine, demand3, besides}

-- An accepted opening.
opened_starts : (method k p : ℕ) (setpoints : List ℕ) (t : Tables) → Openable method k p setpoints t →
    Started (opened_with method setpoints) (opened method k p setpoints t)
opened_starts method k p setpoints t o = record {
  standing = λ floor. record {
    sound = opened-sound method k p setpoints t o;
    tied = opened-tied method k p setpoints t o floor;
    budget = opened-budget method k p setpoints t o;
  };
  step = (opened-words method k p setpoints t o).step;
}

module _ (floor : ℕ → ℕ) (t : Tables) (h : History) (s : Standing floor t h) where
  -- a step that is refused leaves all as before
  abbrev stays : Tied floor (view t) (passed h)
  stays = passed-tied floor (view t) h s.tied

  abbrev Steps : Played → Type 0
  Steps = Fair floor h (step_of t)

  opened_fair : (method k p : ℕ) (setpoints : List ℕ) → Openable method k p setpoints t →
      Steps (leaving (event.opened method k p setpoints) (left Ok (opened method k p setpoints t)))
  opened_fair method k p setpoints o =
      let start = opened_starts method k p setpoints t o in
      let l = start.standing floor in
      record { kept = (tt, l.tied); budget = l.budget; answers = tt; room = λ z. omega arith; step = start.step }

  step_fair : (step : Step) → Steps (play step t)
  unfolding open' begin_write begin_read deliver_request deliver_reply lose resend
  step_fair (opening method k p setpoints) =
      by_refusal (λ x. Steps (leaving (event.opened method k p setpoints) x)) (open_refusal method k p setpoints t)
      (left Ok (opened method k p setpoints t)) t
      (λ m e. let room = open-number method k p setpoints t in
      record { kept = (tt, stays); budget = s.budget; answers = tt; room = rw (← e) room; step = refl })
      (λ e. opened_fair method k p setpoints (openable method k p setpoints t e))
  step_fair (beginning-write q mask badge setpoints) =
      by_refusal (λ x. Steps (leaving (begun-write q mask badge setpoints) x)) (write_refusal q mask setpoints t)
      (left Ok (begun_write q mask (badge_of badge) setpoints t)) t
      (λ m e. let room = write-number t q mask setpoints in
      record { kept = (tt, stays); budget = s.budget; answers = tt; room = rw (← e) room; step = refl })
      (λ e. write_fair floor t h s q mask badge setpoints (writable q mask setpoints t e))
  step_fair (beginning-read q mask) =
      by_refusal (λ x. Steps (leaving (begun-read q mask) x)) (read_refusal q mask t) (left Ok (begun_read q mask t)) t
      (λ m e. let room = read_number t q mask in
      record { kept = (tt, stays); budget = s.budget; answers = tt; room = rw (← e) room; step = refl })
      (λ e. rw (← as-formerly q mask t e) (read_fair floor t h s q mask (readable q mask t e)))
  step_fair (request q i) =
      by_refusal (λ x. Steps (leaving (requested q i) x)) (delivery_refusal q i t) (request_delivered q i t) t
      (λ m e. refused_fair floor t h s q i m (rw (← e) (delivery-number t q i)))
      (λ e. request_fair floor t h s q i (deliverable q i t e))
  step_fair (reply q i) =
      by_refusal-arrived (λ x. Steps (arriving (replied q i) x)) (delivery_refusal q i t) (reply_delivered q i t) t
      (λ m e. refused-reply floor t h s q i m (rw (← e) (delivery-number t q i)))
      (λ e. reply_fair floor t h s q i (deliverable q i t e))
  step_fair (losing q i) =
      by_refusal (λ x. Steps (leaving (lost q i) x)) (delivery_refusal q i t) (link_lost q i t) t
      (λ m e. refused_loss floor t h s q i m (rw (← e) (delivery-number t q i)))
      (λ e. loss_fair floor t h s q i (deliverable q i t e))
  step_fair (resending q i) =
      by_refusal (λ x. Steps (leaving (resent q i) x)) (delivery_refusal q i t) (link_resent q i t) t
      (λ m e. refused-resend floor t h s q i m (rw (← e) (delivery-number t q i)))
      (λ e. resend_fair floor t h s q i (deliverable q i t e))

step-sound : (step : Step) (t : Tables) → Sound t → Sound (play step t).tables
step-sound (opening method k p setpoints) t s = open_keeps method k p setpoints t s
step-sound (beginning-write q mask badge setpoints) t s = begin_write-sound q mask badge setpoints t s
step-sound (beginning-read q mask) t s = begin_read-sound q mask t s
step-sound (request q i) t s = deliver_request-sound q i t s
step-sound (reply q i) t s = deliver_reply-sound q i t s
step-sound (losing q i) t s = lose-sound q i t s
step-sound (resending q i) t s = resend-sound q i t s

pub play_fair : FairMachine play
play_fair = record { starts = play_starts Started opened_starts; fair = λ step floor t h s. step_fair floor t h s step; sound = step-sound }

-- Demand 3.
pub theorem : Demand3 play
theorem = demand3 play play_fair

-- What follows beside it.
pub consequences : Besides play
consequences = besides play play_fair

-- The same with openings and begins by the former rules, which today's steps keep, and which keep what those need.
mixed-sound : (step : MixedStep) (t : Tables) → Sound t → Sound (mixed step t).tables
mixed-sound step t s =
    by_rules (λ x. Sound x.tables) t
    (record {
      now = λ step. step-sound step t s;
      opens = λ method k p setpoints o. opened-sound method k p setpoints t o;
      writes = λ q mask badge setpoints a. (begun_write-kept q mask (badge_of badge) setpoints t s a (mod-lt badge (omega arith))).sound;
      reads = λ q mask a. (begun_read-kept q mask t s a).sound;
    })
    step

mixed_fair' : (step : MixedStep) (floor : ℕ → ℕ) (t : Tables) (h : History) → Standing floor t h → Fair floor h (step_of t) (mixed step t)
mixed_fair' step floor t h s =
    by_rules (Fair floor h (step_of t)) t
    (record {
      now = step_fair floor t h s;
      opens = opened_fair floor t h s;
      writes = λ q mask badge setpoints a. write_fair floor t h s q mask badge setpoints a;
      reads = λ q mask a. read_fair floor t h s q mask a;
    })
    step

pub mixed_fair : FairMachine mixed
mixed_fair = record { starts = mixed_starts Started opened_starts; fair = mixed_fair'; sound = mixed-sound }

-- "What the members were promised of a method A run", and of any other.
pub former : Demand3 mixed
former = demand3 mixed mixed_fair

pub former_consequences : Besides mixed
former_consequences = besides mixed mixed_fair
