-- What each state of a client asks: the links it uses, the states its method allows, the n it has received.
use Rattle.std.specs.Prelude.{ℕ, ◌+◌, ◌*◌, ◌%◌, ◌^◌, ◌≤◌, ◌<◌, ◌≡◌, Bool, ◌&&◌, ◌||◌, eqb, leb, ltb}
use Rattle.std.proofs.Math.Path.{refl, sym}
use Rattle.std.proofs.Common.{◌∙◌, true≢false, arith}
use Rattle.std.proofs.Math.Bool.{true, false, cond, not, and-false, or-true}
use borrow.Author.Tests.{eq-eqb, ne_eqb, eqb-true, leb-true, ltb-true, ltb-false, lt-ltb}
use Rattle.ranges.specs.Tests.{by-test, by_equal, both, both_left, both_right, not-both}
use Rattle.keys.specs.Masks.{has_server, mask_within}
use Rattle.keys.specs.MaskLaws.{no-server}
use Rattle.tables.specs.Tables.{Tables, servers_of, clients_of, entries_of, held_of, state_of, mask_of, received_of, content_at}
use Rattle.tables.specs.Links.{targets, is_empty}
use Rattle.tables.specs.declared.links.Contents.{Contents}
use Rattle.tables.specs.declared.links.Content.TheVariants.{Request}
use Rattle.rules.specs.Common.{idle, writing, entering, asking_keys, asking_setpoints, asking_all, coordinator}
use Rattle.soundness.specs.Sound.{uses, state_allowed, received_sound, request_sound, reply_sound, badge_sound, key_on, content_sound, between}
use Rattle.soundness.specs.Sound.{holding, own_key, key_in_range, asks}
use Rattle.soundness.specs.Facts.{Between, between_facts, facts-between, Sound}

-- the links that a state uses
module _ (mask i : ℕ) where
  pub uses-idle : uses idle mask i ≡ false
  unfolding uses
  uses-idle = refl

  pub uses-writing : uses writing mask i ≡ has_server mask i
  unfolding uses
  uses-writing = refl

  pub uses-entering : uses entering mask i ≡ eqb i coordinator
  unfolding uses
  uses-entering = refl

  pub uses-keys : uses asking_keys mask i ≡ eqb i coordinator
  unfolding uses
  uses-keys = refl

  pub uses_setpoints : uses asking_setpoints mask i ≡ has_server mask i
  unfolding uses
  uses_setpoints = refl

  pub uses-all : uses asking_all mask i ≡ (has_server mask i || eqb i coordinator)
  unfolding uses
  uses-all = refl

  -- a state that uses a link is one of the five
  pub by_state : {C : Type 0} (state : ℕ) → uses state mask i ≡ true → (state ≡ writing → C) → (state ≡ entering → C) → (state ≡ asking_keys → C) → (state ≡ asking_setpoints → C) → (state ≡ asking_all → C) → C
  unfolding uses
  by_state state u a b c d e =
      by_equal state writing a
      (λ na. by_equal state entering b
      (λ nb. by_equal state asking_keys c
      (λ nc. by_equal state asking_setpoints d
      (λ nd. by_equal state asking_all e
      (λ ne. absurd (true≢false (sym (rw (ne_eqb state 1 na, ne_eqb state 4 nd, ne_eqb state 2 nb, ne_eqb state 3 nc, ne_eqb state 5 ne) at u))))))))

-- where a state uses the coordinator alone, a link in use is the coordinator's
module _ (mask i : ℕ) where
  pub entering-target : uses entering mask i ≡ true → i ≡ coordinator
  unfolding uses
  entering-target u = eqb-true i coordinator u

  pub keys-target : uses asking_keys mask i ≡ true → i ≡ coordinator
  unfolding uses
  keys-target u = eqb-true i coordinator u

-- a server of the mask is below k
pub masked_below : (mask k i : ℕ) → mask < 2 ^ k → has_server mask i ≡ true → i < k
masked_below mask k i h e = by-test (ltb i k) (λ b. ltb-true _ _ b) (λ b. absurd (not-both e (no-server mask k i h (ltb-false _ _ b))))

-- so is one of the mask of a client
pub masked-server : (t : Tables) → Sound t → (q i : ℕ) → q < clients_of t → has_server (mask_of t q) i ≡ true → i < servers_of t
masked-server t s q i h e = masked_below (mask_of t q) (servers_of t) i (s.client q h).mask e

-- "1 or 4, masked stations only": a request of these states is on its way to a server
module _ (t : Tables) (s : Sound t) (q i : ℕ) (h : q < clients_of t) (l : i < targets) (w : Contents) (e : content_at t q i ≡ Request w) where
  request-used : uses (state_of t q) (mask_of t q) i ≡ true
  unfolding content_sound
  request-used =
      both_left (uses (state_of t q) (mask_of t q) i)
      (request_sound (state_of t q) q (key_on t q i) w.number t && badge_sound writing (state_of t q) w.badge)
      (rw e at ((s.client q h).link i l).content)

  pub set-server : state_of t q ≡ writing → i < servers_of t
  set-server z = masked-server t s q i h (sym (uses-writing (mask_of t q) i) ∙ (rw z at request-used))

  pub get-server : state_of t q ≡ asking_setpoints → i < servers_of t
  get-server z = masked-server t s q i h (sym (uses_setpoints (mask_of t q) i) ∙ (rw z at request-used))

-- "in state 4, the keys it asks for": of masked servers, and in no other state
module _ (t : Tables) (q i : ℕ) where
  pub asks_none : {C : Type 0} → (state_of t q ≡ asking_setpoints → ⊥) → asks t q i ≡ true → C
  asks_none d e = absurd (d (eqb-true _ _ (both_left (eqb (state_of t q) asking_setpoints) (has_server (mask_of t q) i) e)))

  pub asks_masked : asks t q i ≡ true → has_server (mask_of t q) i ≡ true
  asks_masked e = both_right (eqb (state_of t q) asking_setpoints) (has_server (mask_of t q) i) e

-- the states that a method and part allow
module _ (m q : ℕ) where
  pub allowed-idle : state_allowed m q idle ≡ true
  unfolding state_allowed
  allowed-idle = refl

  pub allowed-entering : state_allowed m q writing ≡ true → state_allowed m q entering ≡ true
  unfolding state_allowed
  allowed-entering e = e

  allowed-next : (a b c : Bool) → cond a (cond b false false) (cond c true false) ≡ true → cond a (cond b true false) (cond c true false) ≡ true
  allowed-next true true c e = refl
  allowed-next true false c e = e
  allowed-next false b c e = e

  pub allowed_setpoints : state_allowed m q asking_keys ≡ true → state_allowed m q asking_setpoints ≡ true
  unfolding state_allowed
  allowed_setpoints e = allowed-next (eqb m 1) (eqb q 0) (eqb m 2) e

  allowed-write : (a b c : Bool) → (a && b) ≡ false → cond a (cond b false true) (cond c true true) ≡ true
  allowed-write true true c e = sym e
  allowed-write true false c e = refl
  allowed-write false b true e = refl
  allowed-write false b false e = refl

  pub allowed-writing : (eqb m 1 && eqb q 0) ≡ false → state_allowed m q writing ≡ true
  unfolding state_allowed
  allowed-writing e = allowed-write (eqb m 1) (eqb q 0) (eqb m 2) e

  pub allowed_by-A : m ≡ 1 → (eqb m 1 && not (eqb q 0)) ≡ false → state_allowed m q asking_setpoints ≡ true
  unfolding state_allowed
  allowed_by-A d e = rw d (go (eqb q 0) (rw d at e))
    where
      go : (b : Bool) → not b ≡ false → cond b true false ≡ true
      go true z = refl
      go false z = sym z

  pub allowed_by-B : m ≡ 2 → state_allowed m q asking_keys ≡ true
  unfolding state_allowed
  allowed_by-B d = rw d

  pub allowed_by-C : (m ≡ 1 → ⊥) → (m ≡ 2 → ⊥) → state_allowed m q asking_all ≡ true
  unfolding state_allowed
  allowed_by-C d e = rw (ne_eqb m 1 d, ne_eqb m 2 e)

-- what a target holds: the log's entries, or a server's versions
module _ (t : Tables) (i : ℕ) where
  pub holding-log : i ≡ coordinator → holding t i ≡ entries_of t
  holding-log e = rw (eq-eqb i coordinator e)

  pub holding-server : (i ≡ coordinator → ⊥) → holding t i ≡ held_of t i
  holding-server d = rw (ne_eqb i coordinator d)

-- the n received: some where a reply was awaited and is in, else none
abbrev pub arrived : Tables → ℕ → ℕ → Bool
arrived t q i = eqb (state_of t q) asking_all && (uses (state_of t q) (mask_of t q) i && is_empty (content_at t q i))

module _ (t : Tables) (q i : ℕ) where
  pub received_none : arrived t q i ≡ false → received_sound t q i ≡ true → received_of t q i ≡ 0
  unfolding received_sound
  received_none a e = eqb-true _ _ (rw a at e)

  pub none_received : arrived t q i ≡ false → received_of t q i ≡ 0 → received_sound t q i ≡ true
  unfolding received_sound
  none_received a e = rw a (eq-eqb _ _ e)

  pub received-some : arrived t q i ≡ true → received_sound t q i ≡ true → Between 1 (received_of t q i) (holding t i)
  unfolding received_sound
  received-some a e = between_facts 1 (received_of t q i) (holding t i) (rw a at e)

  pub some_received : arrived t q i ≡ true → Between 1 (received_of t q i) (holding t i) → received_sound t q i ≡ true
  unfolding received_sound
  some_received a f = rw a (facts-between 1 (received_of t q i) (holding t i) f)

  pub not-all : (state_of t q ≡ asking_all → ⊥) → arrived t q i ≡ false
  not-all d = rw (ne_eqb (state_of t q) asking_all d)

  pub not-used : uses (state_of t q) (mask_of t q) i ≡ false → arrived t q i ≡ false
  not-used e = rw e (and-false (eqb (state_of t q) asking_all))

  pub not-empty : is_empty (content_at t q i) ≡ false → arrived t q i ≡ false
  not-empty e = rw (e, and-false (uses (state_of t q) (mask_of t q) i)) (and-false (eqb (state_of t q) asking_all))

-- keys by their words
module _ (p q word : ℕ) where
  pub own_key_lem : own_key q word ≡ true → Between 256 word 65535 × (word % 256 ≡ q)
  own_key_lem e = (between_facts 256 word 65535 (both_left (between 256 word 65535) (eqb (word % 256) q) e), eqb-true _ _ (both_right (between 256 word 65535) (eqb (word % 256) q) e))

  pub key-own : Between 256 word 65535 → word % 256 ≡ q → own_key q word ≡ true
  key-own b e = both (between 256 word 65535) (eqb (word % 256) q) (facts-between 256 word 65535 b) (eq-eqb _ _ e)

  pub own_in_range : q < p → own_key q word ≡ true → key_in_range p word ≡ true
  unfolding key_in_range
  own_in_range h e =
      let f = own_key_lem e in
      rw (both (between 256 word 65535) (ltb (word % 256) p) (facts-between 256 word 65535 f.0) (lt-ltb (word % 256) p (rw f.1 h))) (or-true (eqb word 0))

-- a client's own key is made of its count and its number
pub own-count : (q count : ℕ) → Between 1 count 255 → q < 256 → own_key q (count * 256 + q) ≡ true
own-count q count b h =
    key-own 0 q (count * 256 + q) (record { least = omega (arith, b.least); most = omega (arith, b.most) }) (omega arith)

pub range-below : (p word : ℕ) → key_in_range p word ≡ true → word < 65536
unfolding key_in_range
range-below p word e =
    by_equal word 0 (λ z. omega arith)
    (λ d. let f : (between 256 word 65535 && ltb (word % 256) p) ≡ true = rw (ne_eqb word 0 d) at e in
    let b = between_facts 256 word 65535 (both_left (between 256 word 65535) (ltb (word % 256) p) f) in
    omega (arith, b.most))

-- what a request carries, by the state that sent it
module _ (t : Tables) (q word number : ℕ) where
  pub request-writing : request_sound writing q word number t ≡ own_key q word
  unfolding request_sound
  request-writing = refl

  pub request-entering : request_sound entering q word number t ≡ (own_key q word && mask_within number (servers_of t))
  unfolding request_sound
  request-entering = refl

  pub request-keys : request_sound asking_keys q word number t ≡ true
  unfolding request_sound
  request-keys = refl

  pub request_setpoints : request_sound asking_setpoints q word number t ≡ key_in_range (clients_of t) word
  unfolding request_sound
  request_setpoints = refl

  pub request-all : request_sound asking_all q word number t ≡ true
  unfolding request_sound
  request-all = refl

-- what a reply carries, by the state that it answers
module _ (t : Tables) (i number : ℕ) where
  pub reply-writing : reply_sound writing i number t ≡ true
  unfolding reply_sound
  reply-writing = refl

  pub reply-entering : reply_sound entering i number t ≡ (leb 1 number && ltb number (entries_of t))
  unfolding reply_sound
  reply-entering = refl

  pub reply-keys : reply_sound asking_keys i number t ≡ between 1 number (holding t i)
  unfolding reply_sound
  reply-keys = refl

  pub reply_setpoints : reply_sound asking_setpoints i number t ≡ true
  unfolding reply_sound
  reply_setpoints = refl

  pub reply-all : reply_sound asking_all i number t ≡ between 1 number (holding t i)
  unfolding reply_sound
  reply-all = refl

  -- a tag that was entered is one of the log's, from 1
  pub entered-tag : reply_sound entering i number t ≡ true → (1 ≤ number) × (number < entries_of t)
  unfolding reply_sound
  entered-tag e = (leb-true _ _ (both_left (leb 1 number) (ltb number (entries_of t)) e), ltb-true _ _ (both_right (leb 1 number) (ltb number (entries_of t)) e))

  -- a number told is at least 1 and no more than is held
  pub keys-told : reply_sound asking_keys i number t ≡ true → Between 1 number (holding t i)
  unfolding reply_sound
  keys-told e = between_facts 1 number (holding t i) e

  pub all_told : reply_sound asking_all i number t ≡ true → Between 1 number (holding t i)
  unfolding reply_sound
  all_told e = between_facts 1 number (holding t i) e

-- the badge on a link, where the state's messages carry one, and where they do not
module _ (carrier state badge : ℕ) where
  pub badge-carried : state ≡ carrier → badge_sound carrier state badge ≡ true → badge < 65536
  badge-carried e b = ltb-true _ _ (rw (eq-eqb state carrier e) at b)

  pub carried-badge : badge < 65536 → badge_sound carrier state badge ≡ true
  carried-badge h = by-test (eqb state carrier) (λ e. rw e (lt-ltb _ _ h)) (λ e. rw e)

  pub no-badge : (state ≡ carrier → ⊥) → badge_sound carrier state badge ≡ true
  no-badge d = rw (ne_eqb state carrier d)
