-- A round of requests just sent: each link that the state uses holds a request, every other link nothing. And an idle client: nothing on any link.
use Rattle.std.specs.Prelude.{ℕ, ◌^◌, ◌≤◌, ◌<◌, ◌≡◌, refl, Bool, true, false, cond, List, get_or, length}
use Rattle.std.proofs.Common.{◌∙◌, arith}
use Rattle.ranges.specs.Tests.{by-test, by_equal, not-both, either}
use Rattle.ranges.specs.Turns.{turns, turns_keep-below}
use Rattle.ranges.specs.Picked.{picked}
use Rattle.ranges.specs.PickedLaws.{is-picked, not-picked}
use Rattle.keys.specs.Masks.{Within}
use Rattle.tables.specs.Links.{targets, HasLinks, link_width, put_link, content_words}
use Rattle.tables.specs.LinkLaws.{link-length}
use Rattle.tables.specs.Tables.{Tables, method_of, servers_of, entries_of, state_of, count_of, mask_of, tag_of, received_of, write_badge_of}
use Rattle.tables.specs.declared.links.Content.{Content}
use Rattle.rules.specs.Common.{idle, writing}
use Rattle.soundness.specs.Sound.{uses, request_sound, badge_sound, key_on, is_writing, state_allowed}
use Rattle.soundness.specs.Facts.{Between, LinkFacts, KeptFacts, ClientFacts}
use Rattle.keeping.specs.Links.{link_word, kind_on, number_on, badge_on, kind-full, pending_at, put_same, put_other, put_beside}
use Rattle.keeping.specs.Links.{link-asks, link-empty, link-request}
use Rattle.keeping.specs.States.{uses-idle, arrived, none_received, not-all, not-used, not-empty, allowed-idle}

-- a link that the state does not use holds nothing
pub unused-empty : (t : Tables) (q i : ℕ) → LinkFacts t q i → uses (state_of t q) (mask_of t q) i ≡ false → kind_on t q i ≡ 0
unused-empty t q i l u = by_equal (kind_on t q i) 0 (λ e. e) (λ d. absurd (not-both ((link-asks t q i l).used d) u))

-- an idle client
pub record Idle (t : Tables) (q : ℕ) : Type 0 where
  pub state : state_of t q ≡ idle
  pub count : count_of t q ≤ 255
  pub mask : mask_of t q < 2 ^ servers_of t
  pub tag : tag_of t q < entries_of t
  pub badge : write_badge_of t q < 65536
  pub kept : (i : ℕ) → i < servers_of t → KeptFacts t q i
  pub link : (i : ℕ) → i < targets → kind_on t q i ≡ 0
  pub received : (i : ℕ) → i < targets → received_of t q i ≡ 0

pub idle-client : (t : Tables) (q : ℕ) → Idle t q → ClientFacts t q
idle-client t q c =
    record {
      allowed = rw c.state (allowed-idle (method_of t) q);
      count = rw c.state (record { least = omega arith; most = c.count });
      mask = c.mask;
      masked = λ d. absurd (d c.state);
      tag = c.tag;
      badge = c.badge;
      kept = c.kept;
      link = λ i h. link-empty t q i (c.link i h);
      received = λ i h. none_received t q i (not-all t q i (λ e. omega (arith, c.state))) (c.received i h);
      busy = λ d. absurd (d c.state);
    }

-- an idle client holds nothing on its links, and has received nothing
pub idle-empty : (t : Tables) (q i : ℕ) → ClientFacts t q → state_of t q ≡ idle → i < targets → kind_on t q i ≡ 0
idle-empty t q i c e h = unused-empty t q i (c.link i h) (rw (e, uses-idle (mask_of t q) i))

-- a client that has just sent a round
pub record Sent (t : Tables) (q : ℕ) : Type 0 where
  pub allowed : state_allowed (method_of t) q (state_of t q) ≡ true
  pub count : Between (cond (is_writing (state_of t q)) 1 0) (count_of t q) 255
  pub mask : Within (mask_of t q) (servers_of t)
  pub tag : tag_of t q < entries_of t
  pub badge : write_badge_of t q < 65536
  pub kept : (i : ℕ) → i < servers_of t → KeptFacts t q i
  pub some : (i : ℕ) × (i < targets) × (uses (state_of t q) (mask_of t q) i ≡ true)
  pub asked : (i : ℕ) → i < targets → uses (state_of t q) (mask_of t q) i ≡ true → kind_on t q i ≡ 1
  pub good : (i : ℕ) → i < targets → uses (state_of t q) (mask_of t q) i ≡ true →
      request_sound (state_of t q) q (key_on t q i) (number_on t q i) t ≡ true
  pub badged : (i : ℕ) → i < targets → uses (state_of t q) (mask_of t q) i ≡ true → badge_sound writing (state_of t q) (badge_on t q i) ≡ true
  pub rest : (i : ℕ) → i < targets → uses (state_of t q) (mask_of t q) i ≡ false → kind_on t q i ≡ 0
  pub received : (i : ℕ) → i < targets → received_of t q i ≡ 0

module _ (t : Tables) (q : ℕ) (c : Sent t q) where
  sent-link : (i : ℕ) → i < targets → LinkFacts t q i
  sent-link i h =
      by-test (uses (state_of t q) (mask_of t q) i)
      (λ u. link-request t q i (c.asked i h u) u (c.good i h u) (c.badged i h u))
      (λ u. link-empty t q i (c.rest i h u))

  -- nothing has arrived yet
  none-arrived : (i : ℕ) → i < targets → arrived t q i ≡ false
  none-arrived i h =
      by-test (uses (state_of t q) (mask_of t q) i)
      (λ u. not-empty t q i (kind-full t.links q i (sent-link i h).kind (λ e. omega (arith, c.asked i h u))))
      (λ u. not-used t q i u)

  pub sent-client : ClientFacts t q
  sent-client =
      record {
        allowed = c.allowed;
        count = c.count;
        mask = c.mask.below;
        masked = λ d. c.mask.some;
        tag = c.tag;
        badge = c.badge;
        kept = c.kept;
        link = sent-link;
        received = λ i h. none_received t q i (none-arrived i h) (c.received i h);
        busy = λ d. let x = c.some in pending_at t.links q x.0 x.1 (sent-link x.0 x.1).kind (λ e. omega (arith, c.asked x.0 x.1 x.2));
      }

-- The loop that sends: a content to each target below k that passes a test.
module _ (q k : ℕ) (p : ℕ → Bool) (content : ℕ → Content) (links : List ℕ) (few : k ≤ targets) (long : HasLinks links q) where
  abbrev send : ℕ → List ℕ → List ℕ
  send i xs = put_link xs q i (content i)

  abbrev Roomy : List ℕ → Type 0
  Roomy xs = HasLinks xs q

  roomy : (i : ℕ) (xs : List ℕ) → Roomy xs → Roomy (send i xs)
  roomy i xs r = rw (link-length xs q i (content i)) r

  module _ (f : ℕ) (g : f < link_width) where
    pub sent_there : (i : ℕ) → i < k → p i ≡ true → link_word (turns (picked p send) k links) q i f ≡ get_or (content_words (content i)) f 0
    sent_there i h e =
        is-picked (λ xs j. link_word xs q j f) send (λ j. get_or (content_words (content j)) f 0) Roomy k roomy
        (λ j xs l r. put_same xs q j (content j) f (omega arith) g)
        (λ j m xs l d. put_beside xs q j (content j) m f d g)
        p links long k i (omega arith) h e

    pub sent-not : (i : ℕ) → p i ≡ false → link_word (turns (picked p send) k links) q i f ≡ link_word links q i f
    sent-not i e =
        not-picked (λ xs j. link_word xs q j f) send (λ j. get_or (content_words (content j)) f 0) Roomy k roomy
        (λ j xs l r. put_same xs q j (content j) f (omega arith) g)
        (λ j m xs l d. put_beside xs q j (content j) m f d g)
        p links long k i (omega arith) e

    pub sent_others : (r i : ℕ) → (r ≡ q → ⊥) → i < targets → link_word (turns (picked p send) k links) r i f ≡ link_word links r i f
    sent_others r i d h =
        turns_keep-below (picked p send) (λ xs. link_word xs r i f ≡ link_word links r i f) k
        (λ j l xs e. either (λ ys. link_word ys r i f ≡ link_word links r i f) (p j) (put_other xs q j (content j) r i f (omega arith) h (λ y. d y.0) g ∙ e) e)
        links refl

  pub sent-length : length (turns (picked p send) k links) ≡ length links
  sent-length =
      turns_keep-below (picked p send) (λ xs. length xs ≡ length links) k
      (λ j l xs e. either (λ ys. length ys ≡ length links) (p j) (link-length xs q j (content j) ∙ e) e)
      links refl
