-- Of specs/Steps: what cites a theorem there that a changed definition can make fail.
use Rattle.std.specs.Prelude.{ℕ, ◌≡◌, refl, Bool, not, List, leb}
use Rattle.std.proofs.Common.{mod-lt, arith}
use Rattle.tables.specs.Layout.{last_step}
use Rattle.tables.specs.Tables.{Tables, step_of}
use Rattle.rules.specs.Answer.{Ok}
use Rattle.rules.specs.Answers.{left}
use Rattle.rules.specs.Open.{opened}
use Rattle.rules.specs.Begin.{begun_write, begun_read}
use Rattle.rules.specs.Request.{request_delivered}
use Rattle.rules.specs.Reply.{reply_delivered}
use Rattle.rules.specs.Loss.{link_lost, link_resent}
use Rattle.soundness.specs.Facts.{Sound}
use Rattle.refusals.specs.Refusals.{at_last_step, open_refusal, write_refusal, read_refusal, delivery_refusal}
use Rattle.refusals.specs.Steps.{badge_of, open', begin_write, begin_read, deliver_request, deliver_reply, lose, resend}
use Rattle.refusals.specs.Either.{by_refusal, by_refusal-arrived, unstopped}
use Rattle.keeping.specs.Accepted.{openable, writable, readable, as-formerly, deliverable}
use Rattle.keeping.specs.Frame.{Kept, kept_same}
use Rattle.keeping.proofs.Opening.{opened-sound}
use Rattle.keeping.proofs.BeginWrite.{begun_write-kept}
use Rattle.keeping.proofs.BeginRead.{begun_read-kept}
use Rattle.keeping.proofs.Requests.{request_delivered-kept}
use Rattle.keeping.proofs.Replies.{reply_delivered-kept}
use Rattle.keeping.proofs.Losses.{link_lost-kept, link_resent-kept}

module _ (m k p : ℕ) (setpoints : List ℕ) (t : Tables) where
  -- an opening that answers *ok* leaves sound tables, whatever stood there
  pub open-sound : (open' m k p setpoints t).answer ≡ Ok → Sound (open' m k p setpoints t).tables
  unfolding open'
  open-sound a =
      let none : open_refusal m k p setpoints t ≡ 0 = unstopped (open_refusal m k p setpoints t) (opened m k p setpoints t) t a in
      rw none (opened-sound m k p setpoints t (openable m k p setpoints t none))

  -- and one that is refused leaves them as sound as they were
  pub open_keeps : Sound t → Sound (open' m k p setpoints t).tables
  unfolding open'
  open_keeps s =
      by_refusal (λ x. Sound x.tables) (open_refusal m k p setpoints t) (left Ok (opened m k p setpoints t)) t
      (λ n e. s)
      (λ e. opened-sound m k p setpoints t (openable m k p setpoints t e))

module _ (q mask badge : ℕ) (setpoints : List ℕ) (t : Tables) (s : Sound t) where
  pub begin_write-kept : Kept q t (begin_write q mask badge setpoints t).tables
  unfolding begin_write
  begin_write-kept =
      by_refusal (λ x. Kept q t x.tables) (write_refusal q mask setpoints t) (left Ok (begun_write q mask (badge_of badge) setpoints t)) t
      (λ n e. kept_same q t s)
      (λ e. begun_write-kept q mask (badge_of badge) setpoints t s (writable q mask setpoints t e) (mod-lt badge (omega arith)))

  pub begin_write-sound : Sound (begin_write q mask badge setpoints t).tables
  begin_write-sound = begin_write-kept.sound

module _ (q mask : ℕ) (t : Tables) (s : Sound t) where
  pub begin_read-kept : Kept q t (begin_read q mask t).tables
  unfolding begin_read
  begin_read-kept =
      by_refusal (λ x. Kept q t x.tables) (read_refusal q mask t) (left Ok (begun_read q mask t)) t
      (λ n e. kept_same q t s)
      (λ e. rw (← as-formerly q mask t e) (begun_read-kept q mask t s (readable q mask t e)))

  pub begin_read-sound : Sound (begin_read q mask t).tables
  begin_read-sound = begin_read-kept.sound

module _ (q i : ℕ) (t : Tables) (s : Sound t) where
  pub deliver_request-kept : Kept q t (deliver_request q i t).tables
  unfolding deliver_request
  deliver_request-kept =
      by_refusal (λ x. Kept q t x.tables) (delivery_refusal q i t) (request_delivered q i t) t
      (λ n e. kept_same q t s)
      (λ e. request_delivered-kept q i t s (deliverable q i t e))

  pub deliver_request-sound : Sound (deliver_request q i t).tables
  deliver_request-sound = deliver_request-kept.sound

  pub deliver_reply-kept : Kept q t (deliver_reply q i t).tables
  unfolding deliver_reply
  deliver_reply-kept =
      by_refusal-arrived (λ x. Kept q t x.tables) (delivery_refusal q i t) (reply_delivered q i t) t
      (λ n e. kept_same q t s)
      (λ e. reply_delivered-kept q i t s (deliverable q i t e))

  pub deliver_reply-sound : Sound (deliver_reply q i t).tables
  deliver_reply-sound = deliver_reply-kept.sound

  -- "Two steps are new: a link's request or reply is lost, and a panel sends a lost request again."
  pub lose-kept : Kept q t (lose q i t).tables
  unfolding lose
  lose-kept =
      by_refusal (λ x. Kept q t x.tables) (delivery_refusal q i t) (link_lost q i t) t
      (λ n e. kept_same q t s)
      (λ e. link_lost-kept q i t s (deliverable q i t e))

  pub lose-sound : Sound (lose q i t).tables
  lose-sound = lose-kept.sound

  pub resend-kept : Kept q t (resend q i t).tables
  unfolding resend
  resend-kept =
      by_refusal (λ x. Kept q t x.tables) (delivery_refusal q i t) (link_resent q i t) t
      (λ n e. kept_same q t s)
      (λ e. link_resent-kept q i t s (deliverable q i t e))

  pub resend-sound : Sound (resend q i t).tables
  resend-sound = resend-kept.sound
