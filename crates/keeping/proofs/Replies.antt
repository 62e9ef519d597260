-- Of specs/Replies: what cites a theorem there that a changed definition can make fail.
use Rattle.std.specs.Prelude.{ℕ, ◌≡◌}
use Rattle.std.proofs.Math.Path.{refl}
use Rattle.std.proofs.Common.{subst}
use Rattle.tables.specs.Links.{contents_of}
use Rattle.tables.specs.Tables.{Tables, state_of, mask_of, content_at}
use Rattle.tables.specs.declared.links.Contents.{Contents}
use Rattle.tables.specs.declared.links.Content.{Content}
use Rattle.tables.specs.declared.links.Content.TheVariants.{Nothing, Request, Reply, Lost}
use Rattle.rules.specs.Reply.{on_reply_in, on_reply, reply_delivered}
use Rattle.soundness.specs.Sound.{key_on}
use Rattle.soundness.specs.Facts.{Sound}
use Rattle.keeping.specs.Links.{contents_on, reply-kind, reply-words}
use Rattle.keeping.specs.States.{by_state}
use Rattle.keeping.specs.Frame.{Kept, kept_same}
use Rattle.keeping.specs.Accepted.{Deliverable, target_below}
use Rattle.keeping.specs.Came.{Came, used}
use Rattle.keeping.proofs.OnSetDone.{set_done}
use Rattle.keeping.proofs.OnEntered.{entered-delivered}
use Rattle.keeping.proofs.OnKeys.{keys-delivered}
use Rattle.keeping.proofs.OnGot.{got-delivered}
use Rattle.keeping.proofs.OnAll.{all-delivered}

in_state : (q i : ℕ) (t : Tables) → Came q i t → Kept q t (on_reply_in (state_of t q) (contents_on t q i) q i t).tables
unfolding on_reply_in
in_state q i t a =
    by_state (mask_of t q) i (state_of t q) (used a)
    (λ e. rw e (set_done q i t a e))
    (λ e. rw e (entered-delivered q i t a e))
    (λ e. rw e (keys-delivered q i t a e))
    (λ e. rw e (got-delivered q i t a e))
    (λ e. rw e (all-delivered q i t a e))

-- The delivery, accepted or refused by 9, leaves sound tables.
module _ (q i : ℕ) (t : Tables) (s : Sound t) (d : Deliverable q i t) where
  by_content : (c : Content) → content_at t q i ≡ c → Kept q t (on_reply c q i t).tables
  by_content Nothing h = kept_same q t s
  by_content (Request w) h = kept_same q t s
  by_content (Reply w) h =
      let target = target_below t s i d.target in
      let kind = ((s.client q d.client).link i target).kind in
      let came : Came q i t = record { sound = s; client = d.client; target = target; early = d.early; kind = reply-kind t.links q i w kind h } in
      subst (λ (w : Contents). Kept q t (on_reply_in (state_of t q) w q i t).tables) (reply-words t.links q i w kind h) (in_state q i t came)
  by_content Lost h = kept_same q t s

  pub reply_delivered-kept : Kept q t (reply_delivered q i t).tables
  unfolding reply_delivered
  reply_delivered-kept = by_content (content_at t q i) refl
