-- The row of a client that asks: some words put, all below the setpoints; of servers the tags and the keys asked for kept or not, no badge.
-- Other rows stay.
use Rattle.std.specs.Prelude.{ℕ, ◌+◌, ◌≤◌, ◌<◌, ◌≡◌, refl, Bool, true, List, length}
use Rattle.std.proofs.Common.{◌∙◌, sym, arith}
use Rattle.ranges.specs.Tests.{by-test}
use Rattle.keys.specs.Keys.{key_word}
use Rattle.keys.specs.KeyLaws.{key_back}
use Rattle.keys.specs.Masks.{has_server}
use Rattle.coordinator.specs.Latest.{latest_key, latest_tag, latest_tag_at, latest_word}
use Rattle.coordinator.specs.LatestLaws.{latest-within}
use Rattle.tables.specs.Rows.{word_at, HasRow}
use Rattle.tables.specs.Layout.{client_width, client_word, entry_width, state_field, mask_field, setpoints_field, tags_field, badges_field}
use Rattle.tables.specs.Layout.{write_badge_field, asked_field}
use Rattle.tables.specs.Tables.{Tables, with_clients, servers_of, clients_of, entries_of, state_of, mask_of}
use Rattle.soundness.specs.Sound.{key_in_range}
use Rattle.soundness.specs.Facts.{KeptFacts, Sound}
use Rattle.soundness.specs.Room.{few_servers, client-row}
use Rattle.rules.specs.Common.{asking_setpoints}
use Rattle.rules.specs.WordsLaws.{kept_other, kept-length, kept_there, kept-not}
use Rattle.rules.specs.Begin.{kept_tags, kept_asking}
use Rattle.keeping.specs.States.{asks_none, asks_masked, range-below}
use Rattle.keeping.specs.Frame.{kept_row}
use Rattle.keeping.specs.Rows.{Put, put_all, last_put, in_row, under, put-read, put-before, put_elsewhere, put-length}

-- the key of a server at a tag of the log is in range
pub latest_in_range : (t : Tables) (i tag : ℕ) → Sound t → tag < entries_of t →
    key_in_range (clients_of t) (key_word (latest_key t.log i tag)) ≡ true
latest_in_range t i tag s h =
    let at = latest_tag t.log i tag in
    let good = (s.log.entry at (omega (arith, latest-within t.log i tag))).key in
    rw (key_back (word_at entry_width t.log at 0) (range-below (clients_of t) (word_at entry_width t.log at 0) good)) good

pub record Asked (q : ℕ) (puts : List Put) (t : Tables) (clients' : List ℕ) : Type 0 where
  pub word : (g : ℕ) → g < setpoints_field → client_word clients' q g ≡ last_put puts (client_word t.clients q g) g
  pub beyond : (g : ℕ) → setpoints_field ≤ g → g < tags_field → client_word clients' q g ≡ client_word t.clients q g
  pub badge : client_word clients' q write_badge_field ≡ client_word t.clients q write_badge_field
  pub elsewhere : (p g : ℕ) → (p ≡ q → ⊥) → g < client_width → client_word clients' p g ≡ client_word t.clients p g
  pub long : length clients' ≡ length t.clients
  pub kept : (i : ℕ) → i < servers_of t → KeptFacts (with_clients clients' t) q i

module _ (q : ℕ) (puts : List Put) (t : Tables) (s : Sound t) (client : q < clients_of t) (low : under setpoints_field puts ≡ true)
    (inside : in_row puts ≡ true) where
  abbrev put' : List ℕ
  put' = put_all puts q t.clients

  row : HasRow client_width t.clients q
  row = client-row t s q client

  few : servers_of t ≤ 16
  few = few_servers t s

  put_word : (g : ℕ) → g < client_width → client_word put' q g ≡ last_put puts (client_word t.clients q g) g
  put_word g h = put-read q puts t.clients g (client_word t.clients q g) row inside h refl

  behind : (g : ℕ) → setpoints_field ≤ g → client_word put' q g ≡ client_word t.clients q g
  behind g h = put-before q puts t.clients setpoints_field g low h

  -- words put alone, by a client that asks for no key
  pub asked-puts : (last_put puts (state_of t q) state_field ≡ asking_setpoints → ⊥) → Asked q puts t put'
  asked-puts other =
      record {
        word = λ g h. put_word g (omega arith);
        beyond = λ g h l. behind g h;
        badge = behind write_badge_field (omega arith);
        elsewhere = λ p g d h. put_elsewhere q puts t.clients p g inside h d;
        long = put-length q puts t.clients;
        kept = kept_row t put' q few (λ f h l d. behind f (omega arith))
            (λ i. asks_none (with_clients put' t) q i (λ e. other (sym (put_word state_field (omega arith)) ∙ e)))
            (s.client q client).kept;
      }

  -- and the tags and keys of the masked servers kept, at a tag of the log
  module _ (mask tag : ℕ) (within : tag < entries_of t) (masked : last_put puts (mask_of t q) mask_field ≡ mask) where
    abbrev has : ℕ → Bool
    has = has_server mask

    abbrev tag_of : ℕ → ℕ
    tag_of = latest_tag_at t.log tag

    abbrev key_of : ℕ → ℕ
    key_of = latest_word t.log tag

    abbrev tagged : List ℕ
    tagged = kept_tags q mask t.log tag (servers_of t) put'

    abbrev asking : List ℕ
    asking = kept_asking q mask t.log tag (servers_of t) put'

    tags_fit : tags_field + servers_of t ≤ client_width
    tags_fit = omega (arith, few)

    keys_fit : asked_field + servers_of t ≤ client_width
    keys_fit = omega (arith, few)

    -- what is neither a tag nor a key of client q stays
    other : (p g : ℕ) → g < client_width → ((p ≡ q) × (tags_field ≤ g) × (g < badges_field) → ⊥) → ((p ≡ q) × (asked_field ≤ g) → ⊥) →
        client_word asking p g ≡ client_word put' p g
    other p g h d e =
        kept_other asked_field has key_of q (servers_of t) keys_fit tagged p g h (λ y. e (y.0, y.1))
        ∙ kept_other tags_field has tag_of q (servers_of t) tags_fit put' p g h (λ y. d (y.0, y.1, omega (arith, y.2, few)))

    asking_long : length asking ≡ length t.clients
    asking_long =
        kept-length asked_field has key_of q (servers_of t) keys_fit tagged
        ∙ (kept-length tags_field has tag_of q (servers_of t) tags_fit put' ∙ put-length q puts t.clients)

    tagged-row : HasRow client_width tagged q
    tagged-row = rw (kept-length tags_field has tag_of q (servers_of t) tags_fit put' ∙ put-length q puts t.clients) row

    word : (g : ℕ) → g < setpoints_field → client_word asking q g ≡ last_put puts (client_word t.clients q g) g
    word g h = other q g (omega arith) (λ y. omega (arith, y.1)) (λ y. omega (arith, y.1)) ∙ put_word g (omega arith)

    tag-kept : (i : ℕ) → i < servers_of t → client_word asking q (tags_field + i) < entries_of t
    tag-kept i h =
        let room : HasRow client_width put' q = rw (put-length q puts t.clients) row in
        rw (kept_other asked_field has key_of q (servers_of t) keys_fit tagged q (tags_field + i) (omega (arith, few))
        (λ y. omega (arith, y.1, few)))
        (by-test (has i)
        (λ e. rw (kept_there tags_field has tag_of q (servers_of t) tags_fit put' i room h e) (omega (arith, latest-within t.log i tag)))
        (λ e. rw (kept-not tags_field has tag_of q (servers_of t) tags_fit put' i room e ∙ behind (tags_field + i) (omega arith))
        ((s.client q client).kept i h).tag))

    pub asked-keys : Asked q puts t asking
    asked-keys =
        record {
          word = word;
          beyond = λ g h l. other q g (omega arith) (λ y. omega (arith, y.1)) (λ y. omega (arith, y.1)) ∙ behind g h;
          badge =
              other q write_badge_field (omega arith) (λ y. omega (arith, y.2)) (λ y. omega (arith, y.1))
              ∙ behind write_badge_field (omega arith);
          elsewhere = λ p g d h. other p g h (λ y. d y.0) (λ y. d y.0) ∙ put_elsewhere q puts t.clients p g inside h d;
          long = asking_long;
          kept = λ i h. record {
            tag = tag-kept i h;
            badge =
                rw (other q (badges_field + i) (omega (arith, few)) (λ y. omega (arith, y.2)) (λ y. omega (arith, y.1, few))
                ∙ behind (badges_field + i) (omega arith))
                ((s.client q client).kept i h).badge;
            asked = λ e.
                let m : has i ≡ true = rw (word mask_field (omega arith) ∙ masked) at (asks_masked (with_clients asking t) q i e) in
                rw (kept_there asked_field has key_of q (servers_of t) keys_fit tagged i tagged-row h m) (latest_in_range t i tag s within);
          };
        }
