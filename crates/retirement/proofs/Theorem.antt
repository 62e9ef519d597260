-- Of specs/Theorem: what cites a theorem there that a changed definition can make fail.
use Rattle.std.specs.Prelude.{ℕ, ◌≡◌, refl, Bool, true, false, List, [], ◌∷◌}
use Rattle.std.proofs.Common.{sym, ◌∙◌, true≢false, eq-eqb}
use Rattle.ranges.specs.Each.{Each}
use Rattle.tables.specs.Tables.{Tables, method_of}
use Rattle.rules.specs.Answer.{Answer}
use Rattle.rules.specs.Answer.{Ok}
use Rattle.rules.specs.Answers.{Left, left}
use Rattle.rules.specs.Open.{opened}
use Rattle.rules.specs.Begin.{begun_write, begun_read}
use Rattle.rules.specs.Request.{request_delivered}
use Rattle.rules.specs.Reply.{reply_delivered}
use Rattle.rules.specs.Loss.{link_lost, link_resent}
use Rattle.soundness.specs.Room.{few_servers}
use Rattle.refusals.specs.Refusals.{is_retired, open_refusal, write_refusal, read_refusal, delivery_refusal}
use Rattle.refusals.specs.Steps.{badge_of, open', begin_write, begin_read, deliver_request, deliver_reply, lose, resend}
use Rattle.refusals.specs.Either.{by_refusal, by_refusal-arrived}
use Rattle.keeping.specs.Accepted.{write_current, read_current, delivery-sound, deliverable, target_below}
use Rattle.claim.specs.Steps.{Step, opening, beginning-write, beginning-read, request, reply, losing, resending, Event, Played, play, run}
use Rattle.claim.specs.Steps.{begun-write, begun-read, requested, replied, lost, resent}
use Rattle.claim.specs.Steps as event
use Rattle.retirement.specs.Claim.{Unopened, Unbegun, NothingNew, Retired}
use Rattle.retirement.proofs.Unmoved.{requested-stays, lost-stays, resent-stays, replied-stays}
use Rattle.retirement.specs.Unmoved.{Unmoved, unmoved-same, unmoved_then}
use Rattle.retirement.specs.Theorem.{Leaving, Stays, retired}

module _ (t : Tables) (method : method_of t ≡ 1) where
  step_stays : (step : Step) → Stays t (play step t).event (play step t).tables
  unfolding open' begin_write begin_read deliver_request deliver_reply lose resend
  step_stays (opening m k p setpoints) =
      by_refusal (Leaving t method (event.opened m k p setpoints)) (open_refusal m k p setpoints t) (left Ok (opened m k p setpoints t)) t
      (λ n e u. (tt, unmoved-same t))
      (λ e u. absurd u)
  step_stays (beginning-write q mask badge setpoints) =
      by_refusal (Leaving t method (begun-write q mask badge setpoints)) (write_refusal q mask setpoints t)
      (left Ok (begun_write q mask (badge_of badge) setpoints t)) t
      (λ n e u. (tt, unmoved-same t))
      (λ e u. absurd (retired t method (write_current q mask setpoints t e)))
  step_stays (beginning-read q mask) =
      by_refusal (Leaving t method (begun-read q mask)) (read_refusal q mask t) (left Ok (begun_read q mask t)) t
      (λ n e u. (tt, unmoved-same t))
      (λ e u. absurd (retired t method (read_current q mask t e)))
  step_stays (request q i) =
      by_refusal (Leaving t method (requested q i)) (delivery_refusal q i t) (request_delivered q i t) t
      (λ n e u. (tt, unmoved-same t))
      (λ e u. (tt, requested-stays t q i))
  step_stays (reply q i) =
      by_refusal-arrived (λ x. Stays t (replied q i x.delivered) x.tables) (delivery_refusal q i t) (reply_delivered q i t) t
      (λ n e u. (tt, unmoved-same t))
      (λ e u. let s = delivery-sound q i t e in
      (tt, replied-stays t (few_servers t s) q i (target_below t s i (deliverable q i t e).target)))
  step_stays (losing q i) =
      by_refusal (Leaving t method (lost q i)) (delivery_refusal q i t) (link_lost q i t) t
      (λ n e u. (tt, unmoved-same t))
      (λ e u. (tt, lost-stays t q i))
  step_stays (resending q i) =
      by_refusal (Leaving t method (resent q i)) (delivery_refusal q i t) (link_resent q i t) t
      (λ n e u. (tt, unmoved-same t))
      (λ e u. (tt, resent-stays t q i))

-- the one induction over lists of steps
pub theorem : Retired play
theorem t method [] u = record { unbegun = tt; writes = refl; reads = refl; counts = λ q. refl }
theorem t method (step ∷ steps) u =
    let x = play step t in
    let here = step_stays t method step u.0 in
    let m = here.1 in
    let rest = theorem x.tables (m.method ∙ method) steps u.1 in
    record {
      unbegun = (here.0, rest.unbegun);
      writes = rest.writes ∙ m.writes;
      reads = rest.reads ∙ m.reads;
      counts = λ q. rest.counts q ∙ m.counts q;
    }
