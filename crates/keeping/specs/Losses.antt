-- "a link's request or reply is lost, and a panel sends a lost request again": both keep sound tables sound.
use Rattle.std.specs.Prelude.{ℕ, ◌<◌, ◌≡◌, true}
use Rattle.std.proofs.Math.Path.{refl}
use Rattle.std.proofs.Common.{arith, eq-eqb}
use Rattle.ranges.specs.Tests.{both}
use Rattle.keys.specs.declared.Key.{Key}
use Rattle.keys.specs.Keys.{key_word, key_at_word, opening}
use Rattle.keys.specs.KeyLaws.{key_back}
use Rattle.keys.specs.Masks.{has_server, mask_within, Within}
use Rattle.keys.specs.MaskLaws.{within-test}
use Rattle.tables.specs.Links.{targets}
use Rattle.tables.specs.Tables.{Tables, servers_of, clients_of, state_of, count_of, mask_of, setpoint_of, write_badge_of, asked_of, content_at}
use Rattle.tables.specs.declared.links.Content.{Content}
use Rattle.tables.specs.declared.links.Content.TheVariants.{Nothing, Request, Reply, Lost}
use Rattle.rules.specs.Common.{writing, entering, asking_keys, asking_setpoints, asking_all, request}
use Rattle.rules.specs.Request.{answered_by}
use Rattle.rules.specs.Loss.{on_loss, link_lost, own_key_of, sent_in, on_resend, link_resent}
use Rattle.soundness.specs.Sound.{uses, request_sound, own_key, key_in_range}
use Rattle.soundness.specs.Facts.{Between, ClientFacts, Sound}
use Rattle.soundness.specs.Room.{client-fits}
use Rattle.keeping.specs.Accepted.{Deliverable, target_below}
use Rattle.keeping.specs.Links.{kind_on, request-kind, reply-kind, lost-kind, link-asks}
use Rattle.keeping.specs.States.{by_state, masked-server, own-count, range-below, uses_setpoints, request-writing, request-entering}
use Rattle.keeping.specs.States.{request-keys, request_setpoints, request-all, carried-badge, no-badge}
use Rattle.keeping.specs.Frame.{Kept, kept_same}

module _ (q i : ℕ) (t : Tables) (s : Sound t) (d : Deliverable q i t) where
  pub c : ClientFacts t q
  c = s.client q d.client

  pub target : i < targets
  target = target_below t s i d.target

  -- What the client's row gives is what its state sends: of its own WRITE the key, of a server that it asks the key that it keeps.
  module _ (lost : kind_on t q i ≡ 3) where
    pub full : kind_on t q i ≡ 0 → ⊥
    full e = omega arith

    pub used : uses (state_of t q) (mask_of t q) i ≡ true
    used = (link-asks t q i (c.link i target)).used full

    pub own : Between 1 (count_of t q) 255 → own_key q (key_word (own_key_of t q)) ≡ true
    own b = own-count q (count_of t q) b (omega (arith, client-fits t s q d.client))

    pub asked_in_range : state_of t q ≡ asking_setpoints → key_in_range (clients_of t) (asked_of t q i) ≡ true
    asked_in_range e =
        let masked : has_server (mask_of t q) i ≡ true = rw (e, uses_setpoints) at used in
        (c.kept i (masked-server t s q i d.client masked)).asked (rw (eq-eqb (state_of t q) asking_setpoints e) masked)
