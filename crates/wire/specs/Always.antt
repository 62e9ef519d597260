-- On sound tables of 32-bit words the message on a link can always be written: number 11 never arises.
use Rattle.std.specs.Prelude.{ℕ, ◌-◌, ◌/◌, ◌%◌, ◌^◌, ◌≤◌, ◌<◌, ◌≡◌, true, ◌&&◌, List, [], ltb, get_or}
use Rattle.std.proofs.Math.Path.{refl}
use Rattle.std.proofs.Common.{subst, arith, lt_of_lt_of_le, pow_mono, ltb-true, eq-eqb, ne_eqb}
use Rattle.ranges.specs.Tests.{by_equal, both_left, both_right}
use Rattle.keys.specs.Keys.{key_at_word}
use Rattle.keys.specs.KeyLaws.{key_back}
use Rattle.keys.specs.Masks.{Within}
use Rattle.tables.specs.Rows.{word_at}
use Rattle.tables.specs.Layout.{entry_width, entry_mask, version_word, version_badge, version_setpoint}
use Rattle.tables.specs.Tables.{Tables, servers_of, clients_of, entries_of, held_of, state_of, mask_of, content_at}
use Rattle.tables.specs.declared.links.Contents.{Contents}
use Rattle.tables.specs.declared.links.Content.{Content}
use Rattle.tables.specs.declared.links.Content.TheVariants.{Nothing, Request, Reply, Lost}
use Rattle.coordinator.specs.Latest.{latest_tag, latest_word, latest_tag_at}
use Rattle.coordinator.specs.LatestLaws.{latest-within}
use Rattle.rules.specs.Common.{coordinator}
use Rattle.soundness.specs.Sound.{between, key_in_range, key_on}
use Rattle.soundness.specs.Facts.{Between, between_facts, EntryFacts, Sound}
use Rattle.keeping.specs.Links.{kind_on, number_on, badge_on, contents_on, request-kind, request-words, reply-kind, reply-words}
use Rattle.keeping.specs.States.{by_state, range-below}
use Rattle.ranges.specs.Laid.{built}
use Rattle.ranges.specs.LaidLaws.{built-length, built_at}
use Rattle.frames.specs.Frames.{writable}
use Rattle.wire.specs.OnLink.{OnLink, empty, carries, alone, request_in, keys_reply, all_reply, log_reply, reply_in, on_link_by, on_link}
use Rattle.wire.specs.Known.{Present, few_servers, client-fits, is-server, asks, used, writing-server, setpoints-server, set_key}
use Rattle.wire.specs.Known.{set-badge, enter_key, enter-mask, get_key, entered-tag, keys_held, got-badge, log_held, all_held}
use Rattle.wire.specs.Writable.{KeyFits, WordFits, set-writable, set_done-writable, enter-writable, entered-writable, which-keys-writable, keys-writable, get-writable, got-writable, get-all-writable, all-writable, get-log-writable, log-writable}

-- tables of 32-bit words: "A setpoint is an unsigned 32-bit number." Lent slices of such words are always so.
pub record Words (links values : List ℕ) : Type 0 where
  pub link : (j : ℕ) → get_or links j 0 < 4294967296
  pub value : (j : ℕ) → get_or values j 0 < 4294967296

abbrev pub CanBeWritten : OnLink → Type 0
CanBeWritten empty = Unit {0}
CanBeWritten (carries m keys badges numbers) = writable m keys badges numbers ≡ true

-- ---- keys by their words

range-fits : (p word : ℕ) → p ≤ 16 → key_in_range p word ≡ true → WordFits word
unfolding key_in_range
range-fits p word few e =
    by_equal word 0
    (λ z. record { count = omega arith; client = omega arith; first = λ n. omega arith })
    (λ d.
    let f : (between 256 word 65535 && ltb (word % 256) p) ≡ true = rw (ne_eqb word 0 d) at e in
    let b = between_facts 256 word 65535 (both_left (between 256 word 65535) (ltb (word % 256) p) f) in
    let l : word % 256 < p = ltb-true _ _ (both_right (between 256 word 65535) (ltb (word % 256) p) f) in
    record { count = omega (arith, b.most); client = omega arith; first = λ n. let z : ⊥ = omega (arith, b.least) in absurd z })

-- the key that a word is read as has the word's count and client
read_fits : (word : ℕ) → word < 65536 → WordFits word → KeyFits (key_at_word word).count (key_at_word word).client
read_fits word h f = let e : word / 256 % 256 ≡ word / 256 = omega arith in rw e f

module _ (t : Tables) (s : Sound t) where
  few_clients : clients_of t ≤ 16
  few_clients = s.scalars.press.clients.most

  in_range : (word : ℕ) → key_in_range (clients_of t) word ≡ true → WordFits word
  in_range word e = range-fits (clients_of t) word few_clients e

  mask_fits : (m : ℕ) → Within m (servers_of t) → m < 65536
  mask_fits m w = let e : 2 ^ servers_of t ≤ 2 ^ 16 = pow_mono s.scalars.press.servers.most in lt_of_lt_of_le w.below e

  -- the key of a server at a tag of the log
  latest-fits : (i tag : ℕ) → tag < entries_of t → WordFits (latest_word t.log tag i)
  latest-fits i tag h =
      let l : latest_tag t.log i tag < entries_of t = omega (arith, latest-within t.log i tag) in
      let k = (s.log.entry (latest_tag t.log i tag) l).key in
      rw (key_back (word_at entry_width t.log (latest_tag t.log i tag) 0) (range-below (clients_of t) _ k)) (in_range _ k)

  module _ (q : ℕ) (there : q < clients_of t) where
    below : q < 16
    below = omega (arith, few_clients)

    -- B's reply
    pub keys_can : (n : ℕ) → Between 1 n (entries_of t) → CanBeWritten (keys_reply n q (servers_of t) t.log)
    keys_can n b =
        let k = servers_of t in
        let few = s.scalars.press.servers.most in
        let f = latest_word t.log (n - 1) in
        let g = latest_tag_at t.log (n - 1) in
        let l : n - 1 < entries_of t = omega (arith, b.least, b.most) in
        let last : n - 1 < 256 = omega (arith, s.scalars.entries.most) in
        keys-writable q below k s.scalars.press.servers.least (built f k) (omega (arith, built-length f k))
        (λ j h. rw (built_at f k j h) (latest-fits j (n - 1) l))
        (built g k) (omega (arith, built-length g k)) (omega (arith, few))
        (n - 1) last few
        (λ j h. rw (built_at g k j h) (omega (arith, latest-within t.log j (n - 1))))

    -- C's replies
    pub log_can : (n : ℕ) → Between 1 n (entries_of t) → CanBeWritten (log_reply n q t.log)
    log_can n b =
        let f : ℕ → ℕ = λ tag. word_at entry_width t.log tag 0 in
        let g : ℕ → ℕ = entry_mask t.log in
        let e : (j : ℕ) → j < n → EntryFacts t j = λ j h. s.log.entry j (omega (arith, b.most)) in
        log-writable q below n b.least (built f n) (omega (arith, built-length f n))
        (λ j h. rw (built_at f n j h) (in_range (f j) (e j h).key))
        (built g n) (omega (arith, built-length g n)) (omega (arith, b.most, s.scalars.entries.most))
        (λ j h. rw (built_at g n j h) (e j h).mask.some)
        (λ j h. rw (built_at g n j h) (mask_fits (g j) (e j h).mask))

    pub all_can : ((j : ℕ) → get_or t.values j 0 < 4294967296) → (i : ℕ) → i < servers_of t → (n : ℕ) → Between 1 n (held_of t i)
        → CanBeWritten (all_reply n q i t.keys t.values)
    all_can words i l n b =
        let f : ℕ → ℕ = version_word t.keys i in
        let m : ℕ → ℕ = version_badge t.values i in
        let g : ℕ → ℕ = version_setpoint t.values i in
        all-writable q below n b.least (built f n) (omega (arith, built-length f n))
        (λ j h. rw (built_at f n j h) (in_range (f j) ((s.server i l).key j (omega (arith, b.most)))))
        (built g n) (omega (arith, built-length g n)) (omega (arith, b.most, (s.server i l).held.most))
        (built m n) (omega (arith, built-length m n))
        i (omega (arith, s.scalars.press.servers.most))
        (λ j h. rw (built_at m n j h) ((s.server i l).badge j (omega (arith, b.most))))
        (λ j h. rw (built_at g n j h) (words _))

-- ---- what stands on a link

module _ (t : Tables) (s : Sound t) (words : Words t.links t.values) (q i : ℕ) (a : Present q i t) where
  abbrev word : ℕ
  word = key_on t q i

  abbrev pub number : ℕ
  number = number_on t q i

  abbrev pub badge : ℕ
  badge = badge_on t q i

  pub q-fits : q < 16
  q-fits = client-fits t s q i a

  module _ (asked : kind_on t q i ≡ 1) where
    full : kind_on t q i ≡ 0 → ⊥
    full e = omega arith

    pub request_can : writable (request_in (state_of t q) (contents_on t q i) q i) [] [] [] ≡ true
    unfolding request_in
    request_can =
        by_state (mask_of t q) i (state_of t q) (used t s q i a full)
        (λ e.
        let k = set_key t s q i a asked e in
        rw e
        (set-writable q q-fits i (writing-server t s q i a full e) (key_at_word word) badge number k.some k.few k.client
        (set-badge t s q i a asked e) (words.link _)))
        (λ e.
        let k = enter_key t s q i a asked e in
        let m = enter-mask t s q i a asked e in
        rw e (enter-writable q q-fits (key_at_word word) number k.some k.few k.client m.some (mask_fits t s number m)))
        (λ e. rw e (which-keys-writable q q-fits))
        (λ e.
        let r = get_key t s q i a asked e in
        rw e (get-writable q q-fits i (setpoints-server t s q i a full e) (key_at_word word) (read_fits word (range-below (clients_of t) word r) (in_range t s word r))))
        (λ e.
        rw e
        (by_equal i coordinator
        (λ c. rw (eq-eqb i coordinator c) (get-log-writable q q-fits))
        (λ d. rw (ne_eqb i coordinator d) (get-all-writable q q-fits i (omega (arith, is-server t s q i a d, few_servers t s q i a))))))

  module _ (came : kind_on t q i ≡ 2) where
    pub not-empty : kind_on t q i ≡ 0 → ⊥
    not-empty e = omega arith
