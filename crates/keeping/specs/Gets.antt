-- "then ask each masked station for its key": the round of gets that A sends at its begin and B when the keys arrive.
use Rattle.std.specs.Prelude.{ℕ, ◌≤◌, ◌<◌, ◌≡◌, true, List, [], ◌∷◌, get_or}
use Rattle.std.proofs.Common.{sym, ◌∙◌, ap, arith}
use Rattle.keys.specs.Keys.{key_word}
use Rattle.keys.specs.Masks.{has_server, Within}
use Rattle.keys.specs.MaskLaws.{some-server}
use Rattle.coordinator.specs.Latest.{latest_key}
use Rattle.tables.specs.Links.{targets, HasLinks, link_width}
use Rattle.tables.specs.Tables.{Tables, method_of, servers_of, clients_of, entries_of, state_of, count_of, mask_of, tag_of}
use Rattle.tables.specs.Tables.{received_of, write_badge_of}
use Rattle.tables.specs.declared.links.Content.{Content}
use Rattle.rules.specs.Common.{writing, asking_setpoints, request}
use Rattle.rules.specs.Begin.{sent_gets}
use Rattle.soundness.specs.Sound.{uses, state_allowed}
use Rattle.soundness.specs.Facts.{KeptFacts, Sound}
use Rattle.soundness.specs.Room.{few_servers}
use Rattle.keeping.specs.Links.{link_word, badge_on}
use Rattle.keeping.specs.States.{masked_below, uses_setpoints, request_setpoints, no-badge}
use Rattle.keeping.specs.Frame.{Numbers}
use Rattle.keeping.specs.Asked.{latest_in_range}
use Rattle.keeping.specs.Rounds.{Sent, sent_there, sent-not}

-- the links of the client before held nothing; t' has the links sent, the state and the mask
module _ (q mask tag : ℕ) (links : List ℕ) (t t' : Tables) (s : Sound t) (n : Numbers t t') (client : q < clients_of t) (within : tag < entries_of t) (masked : Within mask (servers_of t))
    (empty : (i : ℕ) → i < targets → link_word links q i 0 ≡ 0) (long : HasLinks links q)
    (sends : t'.links ≡ sent_gets q mask t.log tag (servers_of t) links)
    (state : state_of t' q ≡ asking_setpoints) (mask' : mask_of t' q ≡ mask) where
  abbrev get : ℕ → Content
  get i = request (latest_key t.log i tag) 0

  few : servers_of t ≤ targets
  few = omega (arith, few_servers t s)

  has : (i : ℕ) → uses (state_of t' q) (mask_of t' q) i ≡ has_server mask i
  has i = rw (state, mask') (uses_setpoints mask i)

  below : (i : ℕ) → has_server mask i ≡ true → i < servers_of t
  below i e = masked_below mask (servers_of t) i masked.below e

  got : (i f : ℕ) → f < link_width → has_server mask i ≡ true →
      link_word t'.links q i f ≡ get_or (1 ∷ key_word (latest_key t.log i tag) ∷ 0 ∷ 0 ∷ []) f 0
  got i f g e = ap (λ (xs : List ℕ). link_word xs q i f) sends ∙ sent_there q (servers_of t) (has_server mask) get links few long f g i (below i e) e

  pub gets-sent : state_allowed (method_of t) q asking_setpoints ≡ true → count_of t' q ≤ 255 → tag_of t' q < entries_of t' →
      write_badge_of t' q < 65536 →
      ((i : ℕ) → i < servers_of t' → KeptFacts t' q i) → ((i : ℕ) → i < targets → received_of t' q i ≡ 0) → Sent t' q
  gets-sent allowed count tagged badge kept received =
      record {
        allowed = rw (n.method, state) allowed;
        count = rw state (record { least = omega arith; most = count });
        mask = rw (mask', n.servers) masked;
        tag = tagged;
        badge = badge;
        kept = kept;
        some = let x = some-server mask (servers_of t) masked in (x.0, omega (arith, x.1, few), has x.0 ∙ x.2);
        asked = λ i h u. got i 0 (omega arith) (sym (has i) ∙ u);
        good = λ i h u. rw (state, got i 1 (omega arith) (sym (has i) ∙ u), request_setpoints, n.clients) (latest_in_range t i tag s within);
        badged = λ i h u. no-badge writing (state_of t' q) (badge_on t' q i) (λ e. omega (arith, state));
        rest = λ i h u. ap (λ (xs : List ℕ). link_word xs q i 0) sends ∙ (sent-not q (servers_of t) (has_server mask) get links few long 0 (omega arith) i (sym (has i) ∙ u) ∙ empty i h);
        received = received;
      }
