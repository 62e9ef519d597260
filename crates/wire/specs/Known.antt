-- What is known of a link of sound tables whose client and target are there, by its content and the state of the client.
use Rattle.std.specs.Prelude.{ℕ, ◌/◌, ◌%◌, ◌≤◌, ◌<◌, ◌≡◌, true, ◌&&◌}
use Rattle.std.proofs.Common.{sym, ◌∙◌, arith}
use Rattle.ranges.specs.Tests.{both_left, both_right}
use Rattle.keys.specs.Masks.{has_server, mask_within, Within}
use Rattle.keys.specs.MaskLaws.{within-true}
use Rattle.tables.specs.Links.{targets}
use Rattle.tables.specs.Tables.{Tables, servers_of, clients_of, entries_of, held_of, state_of, mask_of}
use Rattle.rules.specs.Common.{writing, entering, asking_keys, asking_setpoints, asking_all, coordinator}
use Rattle.soundness.specs.Sound.{key_in_range, uses, own_key, request_sound, reply_sound, key_on}
use Rattle.soundness.specs.Facts.{Between, Sound}
use Rattle.soundness.specs.Room.{server-fits}
use Rattle.soundness.specs.Room as room
use Rattle.refusals.specs.Refusals.{is_target}
use Rattle.keeping.specs.Accepted.{by-target}
use Rattle.keeping.specs.Accepted as accepted
use Rattle.keeping.specs.Links.{kind_on, number_on, badge_on, LinkAsks, link-asks}
use Rattle.keeping.specs.States.{uses-writing, uses_setpoints, keys-target, masked-server, holding-log, holding-server, own_key_lem}
use Rattle.keeping.specs.States.{request-writing, request-entering, request_setpoints, keys-told, all_told, badge-carried}
use Rattle.keeping.specs.States as states

-- the client and the target are there
pub record Present (q i : ℕ) (t : Tables) : Type 0 where
  pub client : q < clients_of t
  pub target : is_target t i ≡ true

-- a WRITE's own key
pub record OwnKey (q word : ℕ) : Type 0 where
  pub some : 1 ≤ word / 256 % 256
  pub few : word / 256 % 256 < 256
  pub client : word % 256 ≡ q

module _ (t : Tables) (s : Sound t) (q i : ℕ) (a : Present q i t) where
  pub few_servers : servers_of t ≤ 16
  few_servers = room.few_servers t s

  pub client-fits : q < 16
  client-fits = room.client-fits t s q a.client

  pub target_below : i < targets
  target_below = accepted.target_below t s i a.target

  -- a target that is not the coordinator is a server
  pub is-server : (i ≡ coordinator → ⊥) → i < servers_of t
  is-server d = by-target t s i a.target (λ h. h) (λ e. absurd (d e))

  pub asks : LinkAsks t q i
  asks = link-asks t q i ((s.client q a.client).link i target_below)

  masked : has_server (mask_of t q) i ≡ true → i < 16
  masked e = server-fits t s i (masked-server t s q i a.client e)

  own : own_key q (key_on t q i) ≡ true → OwnKey q (key_on t q i)
  own e = let f = own_key_lem (clients_of t) q (key_on t q i) e in record { some = omega (arith, f.0.least, f.0.most); few = omega arith; client = f.1 }

  -- a link that is not empty is one that the state uses
  module _ (full : kind_on t q i ≡ 0 → ⊥) where
    pub used : uses (state_of t q) (mask_of t q) i ≡ true
    used = asks.used full

    used_in : (state : ℕ) → state_of t q ≡ state → uses state (mask_of t q) i ≡ true
    used_in state e = rw e at used

    pub writing-server : state_of t q ≡ writing → i < 16
    writing-server e = masked (sym (uses-writing (mask_of t q) i) ∙ used_in writing e)

    pub setpoints-server : state_of t q ≡ asking_setpoints → i < 16
    setpoints-server e = masked (sym (uses_setpoints (mask_of t q) i) ∙ used_in asking_setpoints e)

    keys-asked : state_of t q ≡ asking_keys → i ≡ coordinator
    keys-asked e = keys-target (mask_of t q) i (used_in asking_keys e)

  -- a request
  module _ (asked : kind_on t q i ≡ 1) where
    asked_in : (state : ℕ) → state_of t q ≡ state → request_sound state q (key_on t q i) (number_on t q i) t ≡ true
    asked_in state e = rw e at (asks.request asked)

    pub set_key : state_of t q ≡ writing → OwnKey q (key_on t q i)
    set_key e = own (sym (request-writing t q (key_on t q i) (number_on t q i)) ∙ asked_in writing e)

    pub set-badge : state_of t q ≡ writing → badge_on t q i < 65536
    set-badge e = badge-carried writing (state_of t q) (badge_on t q i) e (asks.set-badge asked)

    enter-both : state_of t q ≡ entering → (own_key q (key_on t q i) && mask_within (number_on t q i) (servers_of t)) ≡ true
    enter-both e = sym (request-entering t q (key_on t q i) (number_on t q i)) ∙ asked_in entering e

    pub enter_key : state_of t q ≡ entering → OwnKey q (key_on t q i)
    enter_key e = own (both_left _ _ (enter-both e))

    pub enter-mask : state_of t q ≡ entering → Within (number_on t q i) (servers_of t)
    enter-mask e = within-true _ _ (both_right (own_key q (key_on t q i)) _ (enter-both e))

    pub get_key : state_of t q ≡ asking_setpoints → key_in_range (clients_of t) (key_on t q i) ≡ true
    get_key e = sym (request_setpoints t q (key_on t q i) (number_on t q i)) ∙ asked_in asking_setpoints e

  -- a reply; its number is no more than is held
  module _ (came : kind_on t q i ≡ 2) where
    came_in : (state : ℕ) → state_of t q ≡ state → reply_sound state i (number_on t q i) t ≡ true
    came_in state e = rw e at (asks.reply came)

    pub entered-tag : state_of t q ≡ entering → (1 ≤ number_on t q i) × (number_on t q i < entries_of t)
    entered-tag e = states.entered-tag t i (number_on t q i) (came_in entering e)

    pub keys_held : state_of t q ≡ asking_keys → Between 1 (number_on t q i) (entries_of t)
    keys_held e = rw (holding-log t i (keys-asked (λ z. omega arith) e)) at (keys-told t i (number_on t q i) (came_in asking_keys e))

    pub got-badge : state_of t q ≡ asking_setpoints → badge_on t q i < 65536
    got-badge e = badge-carried asking_setpoints (state_of t q) (badge_on t q i) e (asks.got-badge came)

    module _ (e : state_of t q ≡ asking_all) where
      pub log_held : i ≡ coordinator → Between 1 (number_on t q i) (entries_of t)
      log_held c = rw (holding-log t i c) at (all_told t i (number_on t q i) (came_in asking_all e))

      pub all_held : (i ≡ coordinator → ⊥) → Between 1 (number_on t q i) (held_of t i)
      all_held d = rw (holding-server t i d) at (all_told t i (number_on t q i) (came_in asking_all e))
