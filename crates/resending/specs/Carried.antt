-- What a step does to one link and to what its client's row gives: the row goes on giving what the link was first sent.
use Rattle.std.specs.Prelude.{ℕ, ◌+◌, ◌<◌, ◌≡◌, Bool, false, cond, List}
use Rattle.std.proofs.Common.{sym, ap, ◌∙◌, arith}
use Rattle.std.proofs.Math.Bool.{true}
use Rattle.ranges.specs.Tests.{by-test, not-both, both_left}
use Rattle.tables.specs.Links.{targets, is_empty}
use Rattle.tables.specs.Tables.{Tables, tables_of, clients_of, state_of, count_of, mask_of, setpoint_of, write_badge_of, asked_of, content_at, with_clients}
use Rattle.tables.specs.declared.links.Content.{Content}
use Rattle.tables.specs.declared.links.Content.TheVariants.{Nothing, Request, Reply, Lost}
use Rattle.rules.specs.Common.{asking_setpoints}
use Rattle.rules.specs.Loss.{sent_in, sent_by}
use Rattle.soundness.specs.Sound.{uses, content_sound}
use Rattle.soundness.specs.Facts.{Sound}
use Rattle.resending.specs.Sent.{sent-same}

-- what a link was first sent since it last held nothing (`Claim: sent_after`)
abbrev first_sent : Content → Content → Content → Content
first_sent before now sent = cond (is_empty before) now sent

-- behind the step the row gives what the link was first sent, if it gave that before
abbrev pub Carried : Tables → Tables → ℕ → ℕ → Type 0
Carried t t' q i =
    is_empty (content_at t' q i) ≡ false → sent_by q i t' ≡ first_sent (content_at t q i) (content_at t' q i) (sent_by q i t)

module _ (t t' : Tables) (q i : ℕ) where
  -- the row gives the same, and a link that is empty stays so
  pub carried_still : sent_by q i t' ≡ sent_by q i t → (is_empty (content_at t q i) ≡ true → content_at t' q i ≡ content_at t q i) → Carried t t' q i
  carried_still same stays full =
      by-test (is_empty (content_at t q i))
      (λ e. absurd (not-both (ap is_empty (stays e) ∙ e) full))
      (λ e. rw e same)

  -- an empty link is sent what the row gives
  pub carried-fresh : is_empty (content_at t q i) ≡ true → (is_empty (content_at t' q i) ≡ false → content_at t' q i ≡ sent_by q i t') → Carried t t' q i
  carried-fresh e new full = rw e (sym (new full))

  -- a link that holds nothing afterwards asks nothing
  pub carried-empty : is_empty (content_at t' q i) ≡ true → Carried t t' q i
  carried-empty e full = absurd (not-both e full)

-- one row, one and the same content: whatever else has changed
pub sent_clients : (t : Tables) (clients : List ℕ) (q i : ℕ) → clients ≡ t.clients → sent_by q i (with_clients clients t) ≡ sent_by q i t
sent_clients t clients q i e = ap (λ (xs : List ℕ). sent_by q i (with_clients xs t)) e

-- Sound tables: a link that the state does not use holds nothing.
module _ (t : Tables) (s : Sound t) (q i : ℕ) (client : q < clients_of t) (target : i < targets) where
  by_use : (c : Content) → content_sound c (state_of t q) q i t ≡ true → uses (state_of t q) (mask_of t q) i ≡ false → is_empty c ≡ true
  unfolding content_sound
  by_use Nothing e u = λ z. true
  by_use (Request w) e u = absurd (not-both (both_left _ _ e) u)
  by_use (Reply w) e u = absurd (not-both (both_left _ _ e) u)
  by_use Lost e u = absurd (not-both e u)

  pub unused-empty : uses (state_of t q) (mask_of t q) i ≡ false → is_empty (content_at t q i) ≡ true
  unused-empty u = by_use (content_at t q i) ((s.client q client).link i target).content u
