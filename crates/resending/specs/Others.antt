-- A step of one client leaves the rows and links of the others, so what their rows give goes on.
use Rattle.std.specs.Prelude.{ℕ, ◌+◌, ◌<◌, ◌≡◌, true, false}
use Rattle.std.proofs.Common.{sym, ap, ◌∙◌, arith}
use Rattle.ranges.specs.Tests.{by-test, not-both}
use Rattle.keys.specs.Masks.{has_server}
use Rattle.tables.specs.Layout.{client_word, state_field, count_field, mask_field, setpoints_field, write_badge_field, asked_field}
use Rattle.tables.specs.Links.{targets, is_empty}
use Rattle.tables.specs.Tables.{Tables, servers_of, clients_of, state_of, mask_of, content_at}
use Rattle.tables.specs.declared.links.Link.{Link}
use Rattle.rules.specs.Common.{asking_setpoints}
use Rattle.soundness.specs.Sound.{uses}
use Rattle.soundness.specs.Facts.{Sound}
use Rattle.soundness.specs.Room.{few_servers}
use Rattle.keeping.specs.States.{masked_below, uses_setpoints}
use Rattle.keeping.specs.Links.{link-same_words}
use Rattle.keeping.specs.Frame.{Grows}
use Rattle.resending.specs.Sent.{sent-same}
use Rattle.resending.specs.Carried.{Carried, carried_still, carried-empty, unused-empty}

module _ (t t' : Tables) (s : Sound t) (q : ℕ) (g : Grows q t t') (p i : ℕ) (other : p ≡ q → ⊥) (client : p < clients_of t) (target : i < targets) where
  same-link : content_at t' p i ≡ content_at t p i
  same-link = ap (λ (x : Link). x.content) (link-same_words t.links t'.links p i (λ f l. g.link p i f other target l))

  -- a client that asks for setpoints has something on a server's link only
  server : is_empty (content_at t p i) ≡ false → state_of t p ≡ asking_setpoints → i < 16
  server full e =
      by-test (uses (state_of t p) (mask_of t p) i)
      (λ u. let m : has_server (mask_of t p) i ≡ true = sym (ap (λ (n : ℕ). uses n (mask_of t p) i) e ∙ uses_setpoints (mask_of t p) i) ∙ u in
      omega (arith, masked_below (mask_of t p) (servers_of t) i (s.client p client).mask m, few_servers t s))
      (λ u. absurd (not-both (unused-empty t s p i client target u) full))

  pub other-carries : Carried t t' p i
  other-carries =
      by-test (is_empty (content_at t p i))
      (λ e. carried-empty t t' p i (ap is_empty same-link ∙ e))
      (λ full. carried_still t t' p i
      (sent-same t t' p i (g.row p state_field other (omega arith)) (g.row p count_field other (omega arith))
      (g.row p mask_field other (omega arith)) (g.row p write_badge_field other (omega arith))
      (g.row p (setpoints_field + i) other (omega arith))
      (λ e. g.row p (asked_field + i) other (omega (arith, server full e))))
      (λ z. same-link))
