-- A reply delivered to sound tables where no fault refuses it.
use Rattle.std.specs.Prelude.{ℕ, ◌≡◌, refl, Option, None, Some, IfSome, Result, Ok, Err, List, replicate}
use Rattle.std.proofs.Common.{sym, ◌∙◌, ap}
use Rattle.causes.specs.declared.Refusal.{Refusal}
use Rattle.causes.specs.Numbers.{fault_of}
use Rattle.tables.specs.Rows.{HasRow}
use Rattle.tables.specs.Layout.{client_width}
use Rattle.tables.specs.Links.{link_at}
use Rattle.tables.specs.Tables.{Tables, state_of}
use Rattle.tables.specs.declared.links.Contents.{Contents}
use Rattle.tables.specs.declared.links.Content.TheVariants.{Reply}
use Rattle.tables.specs.declared.links.Link.{Link}
use Rattle.rules.specs.declared.Arrival.{Arrival}
use Rattle.rules.specs.Answers.{Arrived, arrived}
use Rattle.rules.specs.Reply.{said, on_reply_in, reply_delivered}
use Rattle.soundness.specs.Facts.{Sound}
use Rattle.refusals.specs.Refusals.{delivery_fault}
use Rattle.refusals.specs.Steps.{deliver_reply}
use Rattle.reply_parts.specs.declared.Outcome.{Outcome}
use Rattle.reply_parts.specs.Shown.{plainly, shown_by, Shows, plain-shows}
use Rattle.sound_steps.specs.ReplyStates.{Brings, ReplyReady, by-reply}
use Rattle.sound_steps.specs.ReadyReplies.{reply-ready}
use Rattle.sound_steps.specs.Cases.{reply-accepted, delivery_able}

-- the tables are ready for it, and what it leaves is what the step leaves
pub record Taking (t : Tables) (q i : ℕ) : Type 0 where
  pub ready : ReplyReady t.counts t.clients t.links t.keys t.values t.log t.writes t.reads q i
  pub accepted : (x : Arrived) → x ≡ reply_delivered q i t → x ≡ deliver_reply q i t

-- no fault was found
pub taking : {A : Type 0} (t : Tables) → Sound t → (q i : ℕ) (r : Result A Refusal) → fault_of r ≡ delivery_fault q i t →
    ((e : Refusal) → r ≡ Err e → ⊥) → Taking t q i
taking t s q i (Ok v) d n = record { ready = reply-ready t s q i (delivery_able t s q i d); accepted = λ x e. reply-accepted t s q i d e }
taking t s q i (Err r) d n = absurd (n r refl)

-- l is what was read of the links, w what the reply there brings
module _
    (t : Tables) (q i : ℕ) (h : Taking t q i) {l : Link} {w : Contents} (e : l ≡ link_at t.links q i) (f : l.content ≡ Reply w) where
  pub brings : Brings t.counts t.clients t.links t.keys t.values t.log t.writes t.reads q i w.number
  brings = h.ready.brings w (ap (λ (k : Link). k.content) (sym e) ∙ f)

  pub taken : {x : Arrived} → x ≡ on_reply_in (state_of t q) w q i t → x ≡ deliver_reply q i t
  taken g = h.accepted _ (by-reply q i t e f g)

-- what taking in a reply leaves: shown by its outcome, it is what the step leaves; the row of tags is the answer's; and where a READ has
-- ended the client's row is there
pub record Replied (q i : ℕ) (t : Tables) (o : Outcome) (tags : List ℕ) (t' : Tables) : Type 0 where
  pub leaves : arrived (shown_by o tags t'.clients q) t' ≡ deliver_reply q i t
  pub tagged : tags ≡ (deliver_reply q i t).delivered.tags
  pub row : IfSome o.shown (λ mask. HasRow client_width t'.clients q)

always : (m : Option ℕ) {P : Type 0} → P → IfSome m (λ mask. P)
always None r = tt
always (Some mask) r = r

module _ (q i : ℕ) (t : Tables) {o : Outcome} {tags : List ℕ} {t' : Tables} where
  pub replied : {x : Arrived} → Shows x o tags q t' → x ≡ deliver_reply q i t → HasRow client_width t'.clients q → Replied q i t o tags t'
  replied s e r = record { leaves = s.leaves ∙ e; tagged = s.tagged ∙ ap (λ (y : Arrived). y.delivered.tags) e; row = always o.shown r }

  -- an outcome that shows nothing
  pub plain-replied : {a : Arrival} → o ≡ plainly a → tags ≡ replicate 16 0 → said a t' ≡ deliver_reply q i t → Replied q i t o tags t'
  plain-replied e z f =
      let s = plain-shows tags q e z f in
      record { leaves = s.leaves; tagged = s.tagged; row = rw e tt }
