-- A resend puts on its link what that link was first sent for its transaction: the one theorem, over every list of steps behind every
-- accepted opening.
use Rattle.std.specs.Prelude.{ℕ, ◌<◌, ◌≡◌, refl, true, false, List}
use Rattle.std.proofs.Common.{subst, sym, mod-lt, arith}
use Rattle.ranges.specs.Tests.{by_equal, not-both}
use Rattle.ranges.specs.SumLaws.{sum-part}
use Rattle.tables.specs.Links.{targets}
use Rattle.tables.specs.Tables.{Tables, clients_of, writes_of, count_of}
use Rattle.rules.specs.Answers.{Left, left, Arrived}
use Rattle.rules.specs.Open.{opened}
use Rattle.rules.specs.Begin.{begun_write, begun_read}
use Rattle.rules.specs.Request.{refused, request_delivered}
use Rattle.rules.specs.Reply.{said, reply_delivered}
use Rattle.rules.specs.Loss.{link_lost, link_resent}
use Rattle.rules.specs.Answer.{Answer}
use Rattle.rules.specs.Answer.{Ok, Refused}
use Rattle.rules.specs.declared.Arrival.TheVariants as arrival
use Rattle.rules.specs.declared.Delivered.{Delivered}
use Rattle.refusals.specs.Refusals.{open_refusal, write_refusal, read_refusal, delivery_refusal}
use Rattle.refusals.specs.Steps.{badge_of, open', begin_write, begin_read, deliver_request, deliver_reply, lose, resend}
use Rattle.refusals.specs.Former.{formerly_begun_read}
use Rattle.refusals.specs.Either.{by_refusal, by_refusal-arrived}
use Rattle.soundness.specs.Facts.{Sound}
use Rattle.keeping.specs.Accepted.{Openable, openable, Writable, writable, Readable, readable, as-formerly, Deliverable, deliverable}
use Rattle.keeping.specs.Accepted.{target_below}
use Rattle.keeping.specs.Links.{kind-empty}
use Rattle.keeping.specs.Frame.{Kept, kept_same}
use Rattle.keeping.specs.Opening.{opened-words}
use Rattle.keeping.proofs.Opening.{opened-sound}
use Rattle.keeping.proofs.BeginWrite.{begun_write-kept}
use Rattle.keeping.proofs.BeginRead.{begun_read-kept}
use Rattle.keeping.proofs.Requests.{request_delivered-kept}
use Rattle.keeping.proofs.Replies.{reply_delivered-kept}
use Rattle.keeping.proofs.Losses.{link_lost-kept, link_resent-kept}
use Rattle.claim.specs.Steps.{Step, opening, beginning-write, beginning-read, request, reply, losing, resending, Event, Played, play}
use Rattle.claim.specs.Steps.{begun-write, begun-read, requested, replied, lost, resent}
use Rattle.claim.specs.Steps as event
use Rattle.claim.specs.History.{opened_with}
use Rattle.claim.specs.Former.{mixed}
use Rattle.serial.proofs.Openings.{play_starts, mixed_starts}
use Rattle.serial.proofs.Mixed.{by_rules}
use Rattle.resending.specs.Claim.{SendsAgain}
use Rattle.resending.specs.Carried.{Carried, carried-empty}
use Rattle.resending.specs.Still.{still-same, still-carries, requested_still, lost_still, resent_still, resent_leaves}
use Rattle.resending.specs.Begins.{write-carries, read-carries}
use Rattle.resending.specs.Replies.{replied-carries}
use Rattle.resending.specs.Others.{other-carries}
use Rattle.resending.specs.Machines.{SentIf, SentAt, Carries, Started, Carrying}

-- Behind an accepted opening all links are empty.
pub opened_starts : (method k p : ℕ) (setpoints : List ℕ) (t : Tables) → Openable method k p setpoints t →
    Started (opened_with method setpoints) (opened method k p setpoints t)
opened_starts method k p setpoints t o = record {
  sound = opened-sound method k p setpoints t o;
  empty = λ q i l m. kind-empty (opened method k p setpoints t).links q i ((opened-words method k p setpoints t o).link q i 0);
}

module _ (t : Tables) (s : Sound t) where
  -- a step of one client: its own links, and those of the others
  by-client : (q : ℕ) (x : Played) → Kept q t x.tables → ((i : ℕ) → i < targets → Carried t x.tables q i) → SentAt x.event t x.tables →
      Carries t x
  by-client q x k own sent = record {
    sound = k.sound;
    clients = λ p i l m.
        let here : p < clients_of t = rw k.grows.numbers.clients at l in (
          λ full. here,
          by_equal p q
              (λ e. subst (λ (n : ℕ). Carried t x.tables n i) (sym e) (own i m))
              (λ d. other-carries t x.tables s q k.grows p i d here m),
        );
    sent = sent;
  }

  -- a refused step leaves all as before
  refused-carries : (e : Event) → SentAt e t t → Carries t (record { event = e; tables = t })
  refused-carries e sent = record {
    sound = s;
    clients = λ q i l m. (λ full. l, still-carries t t (still-same t) q i m);
    sent = sent;
  }

  -- a WRITE that is accepted is not its client's 256th
  low : (q mask : ℕ) (setpoints : List ℕ) → Writable q mask setpoints t → count_of t q < 255
  low q mask setpoints w = omega (arith, sum-part (count_of t) (clients_of t) q w.begin.client, s.counts, w.few)

  abbrev Leaving : (Answer → Event) → Left → Type 0
  Leaving event x = Carries t (record { event = event x.answer; tables = x.tables })

  module _ (q i : ℕ) (d : Deliverable q i t) where
    abbrev target : i < targets
    target = target_below t s i d.target

    lost-carries : Leaving (lost q i) (link_lost q i t)
    lost-carries =
        by-client q _ (link_lost-kept q i t s d) (λ j l. still-carries t _ (lost_still q i t target) q j l) tt

    sent_if : (a : Answer) → (link_resent q i t).answer ≡ a → SentIf a t (link_resent q i t).tables q i
    sent_if Ok e =
        let r = resent_leaves t s q i d.client target e in
        record { client = d.client; target = target; full = r.0; now = r.1 }
    sent_if (Refused n) e = tt

    resent-carries : Leaving (resent q i) (link_resent q i t)
    resent-carries =
        by-client q _ (link_resent-kept q i t s d) (λ j l. still-carries t _ (resent_still q i t target) q j l)
        (sent_if (link_resent q i t).answer refl)

  opened-carries : (method k p : ℕ) (setpoints : List ℕ) → Openable method k p setpoints t →
      Leaving (event.opened method k p setpoints) (left Ok (opened method k p setpoints t))
  opened-carries method k p setpoints o =
      let start = opened_starts method k p setpoints t o in
      record {
        sound = start.sound;
        clients = λ q i l m. (
          λ full. absurd (not-both (start.empty q i l m) full),
          carried-empty t (opened method k p setpoints t) q i (start.empty q i l m),
        );
        sent = tt;
      }

  write-begun-carries : (q mask badge : ℕ) (setpoints : List ℕ) → Writable q mask setpoints t →
      Leaving (begun-write q mask badge setpoints) (left Ok (begun_write q mask (badge_of badge) setpoints t))
  write-begun-carries q mask badge setpoints w =
      by-client q _ (begun_write-kept q mask (badge_of badge) setpoints t s w (mod-lt badge (omega arith)))
      (write-carries t s q mask w.begin (badge_of badge) setpoints (low q mask setpoints w)) tt

  read-begun-carries : (q mask : ℕ) → Readable q mask t → Leaving (begun-read q mask) (left Ok (formerly_begun_read q mask t))
  read-begun-carries q mask r = by-client q _ (begun_read-kept q mask t s r) (read-carries t s q mask r.begin) tt

  pub step-carries : (step : Step) → Carries t (play step t)
  unfolding open' begin_write begin_read deliver_request deliver_reply lose resend
  step-carries (opening method k p setpoints) =
      by_refusal (Leaving (event.opened method k p setpoints)) (open_refusal method k p setpoints t) (left Ok (opened method k p setpoints t)) t
      (λ m e. refused-carries (event.opened method k p setpoints (Refused m)) tt)
      (λ e. opened-carries method k p setpoints (openable method k p setpoints t e))
  step-carries (beginning-write q mask badge setpoints) =
      by_refusal (Leaving (begun-write q mask badge setpoints)) (write_refusal q mask setpoints t)
      (left Ok (begun_write q mask (badge_of badge) setpoints t)) t
      (λ m e. refused-carries (begun-write q mask badge setpoints (Refused m)) tt)
      (λ e. write-begun-carries q mask badge setpoints (writable q mask setpoints t e))
  step-carries (beginning-read q mask) =
      by_refusal (Leaving (begun-read q mask)) (read_refusal q mask t) (left Ok (begun_read q mask t)) t
      (λ m e. refused-carries (begun-read q mask (Refused m)) tt)
      (λ e. rw (← as-formerly q mask t e) (read-begun-carries q mask (readable q mask t e)))
  step-carries (request q i) =
      by_refusal (Leaving (requested q i)) (delivery_refusal q i t) (request_delivered q i t) t
      (λ m e. refused-carries (requested q i (Refused m)) tt)
      (λ e. let d = deliverable q i t e in
      by-client q _ (request_delivered-kept q i t s d) (λ j l. still-carries t _ (requested_still q i t (target_below t s i d.target)) q j l) tt)
  step-carries (reply q i) =
      by_refusal-arrived (λ x. Carries t (record { event = replied q i x.delivered; tables = x.tables })) (delivery_refusal q i t)
      (reply_delivered q i t) t
      (λ m e. refused-carries (replied q i (said (arrival.Refused m) t).delivered) tt)
      (λ e. let d = deliverable q i t e in
      by-client q _ (reply_delivered-kept q i t s d) (replied-carries t s q i d.client (target_below t s i d.target)) tt)
  step-carries (losing q i) =
      by_refusal (Leaving (lost q i)) (delivery_refusal q i t) (link_lost q i t) t
      (λ m e. refused-carries (lost q i (Refused m)) tt)
      (λ e. lost-carries q i (deliverable q i t e))
  step-carries (resending q i) =
      by_refusal (Leaving (resent q i)) (delivery_refusal q i t) (link_resent q i t) t
      (λ m e. refused-carries (resent q i (Refused m)) tt)
      (λ e. resent-carries q i (deliverable q i t e))

-- and so it is where openings and begins go by the former rules
pub mixed-carries : Carrying mixed
mixed-carries = record {
  starts = mixed_starts Started opened_starts;
  carries = λ step t s.
      by_rules (Carries t) t
      (record {
        now = step-carries t s;
        opens = opened-carries t s;
        writes = write-begun-carries t s;
        reads = read-begun-carries t s;
      })
      step;
}
