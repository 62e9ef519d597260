-- An accepted opening leaves sound tables, whatever stood in them before.
use Rattle.std.specs.Prelude.{ℕ, ◌+◌, ◌*◌, ◌^◌, ◌≤◌, ◌<◌, ◌≡◌, refl, true, List, [], ◌∷◌, get_or, length}
use Rattle.std.proofs.Common.{sym, ◌∙◌, zero-add, length-set, get_or-set_same, get_or-set_other, pow_mono}
use native.Mathlib.Omega.{arith}
use Rattle.std.proofs.lemmas.List.{length-replicate}
use Rattle.std.proofs.lemmas.List.Edits.{sets}
use Rattle.std.proofs.Math.Seq.{length-sets}
use Rattle.ranges.specs.SumLaws.{sum-nothing, count-zero}
use Rattle.ranges.specs.Turns.{turns, turns_keep}
use Rattle.ranges.specs.PickedLaws.{is-picked}
use Rattle.ranges.specs.Words.{zeros}
use Rattle.keys.specs.Masks.{Within}
use Rattle.tables.specs.Rows.{word_at, HasRow, word_same, word_other, word-length, row_same, row-length, sets_at, sets_behind}
use Rattle.tables.specs.Layout.{count_words, client_width, client_word, server_places, version_word, put_version_word, value_width, value_row}
use Rattle.tables.specs.Layout.{version_badge}
use Rattle.tables.specs.Layout.{version_setpoint, held_field, entry_width, entry_mask, clients_field, count_field, entries_field, mask_field}
use Rattle.tables.specs.Layout.{method_field}
use Rattle.tables.specs.Layout.{reads_field, received_field, servers_field, state_field, step_field, tag_field, writes_field, tags_field}
use Rattle.tables.specs.Layout.{badges_field, write_badge_field}
use Rattle.tables.specs.Values.{value_other, value-length}
use Rattle.tables.specs.Tables.{Tables, method_of, servers_of, clients_of, step_of, entries_of, writes_of, reads_of, held_of, count_of}
use Rattle.tables.specs.Links.{link_width, link_row}
use Rattle.rules.specs.Open.{cleared, hold_one, opened_counts, open_value, all_servers, opened}
use Rattle.soundness.specs.Sound.{key_in_range, is_open}
use Rattle.soundness.specs.Facts.{Long, Press, ServerFacts, LogFacts, ClientFacts, facts-none, Sound}
use Rattle.keeping.specs.Accepted.{Openable}
use Rattle.keeping.specs.Links.{link_word}
use Rattle.keeping.specs.States.{asks_none}
use Rattle.keeping.specs.Rounds.{idle-client}

-- a cleared table has its length
cleared-length : (words : List ℕ) → length (cleared words) ≡ length words
cleared-length words = length-replicate (length words) 0

-- the counts that an opening leaves
module _ (m k p : ℕ) (counts : List ℕ) (long : count_words ≤ length counts) where
  abbrev row : List ℕ
  row = m ∷ k ∷ p ∷ 1 ∷ 1 ∷ []

  abbrev start : List ℕ
  start = sets (cleared counts) 0 row

  start-length : length start ≡ length counts
  start-length = length-sets (cleared counts) 0 row ∙ cleared-length counts

  opened-length : length (opened_counts m k p counts) ≡ length counts
  opened-length = turns_keep hold_one (λ xs. length xs ≡ length counts) (λ i xs e. length-set xs (held_field + i) 1 ∙ e) k start start-length

  -- below the versions held nothing is touched by the loop
  before_held : (f : ℕ) → f < held_field → get_or (opened_counts m k p counts) f 0 ≡ get_or start f 0
  before_held f h = turns_keep hold_one (λ xs. get_or xs f 0 ≡ get_or start f 0) (λ i xs e. get_or-set_other xs (held_field + i) f 1 0 (λ z. omega arith) ∙ e) k start refl

  scalar : (f : ℕ) → f < 5 → get_or (opened_counts m k p counts) f 0 ≡ get_or row f 0
  scalar f h = before_held f (omega arith) ∙ rw (zero-add f) at (sets_at row (cleared counts) 0 f h (rw (cleared-length counts) (omega arith)))

  none-begun : (f : ℕ) → 5 ≤ f → f < held_field → get_or (opened_counts m k p counts) f 0 ≡ 0
  none-begun f h g = before_held f g ∙ (sets_behind row (cleared counts) 0 f (omega arith) ∙ zeros (length counts) f)

  one_held : (i : ℕ) → k ≤ 16 → i < k → get_or (opened_counts m k p counts) (held_field + i) 0 ≡ 1
  one_held i few h =
      is-picked (λ xs j. get_or xs (held_field + j) 0) hold_one (λ j. 1) (λ xs. count_words ≤ length xs) k
      (λ j xs r. rw (length-set xs (held_field + j) 1) r)
      (λ j xs l r. get_or-set_same xs (held_field + j) 1 0 (omega arith))
      (λ j n xs l d. get_or-set_other xs (held_field + j) (held_field + n) 1 0 (λ z. d (omega arith)))
      (λ j. true) start (rw start-length long) k i (omega arith) h refl

-- the first key of each server
module _ (k : ℕ) (value : ℕ → ℕ) (words : List ℕ) (long : server_places * k ≤ length words) where
  abbrev first : ℕ → List ℕ → List ℕ
  first i xs = put_version_word xs i 0 (value i)

  first-put : (i : ℕ) → i < k → version_word (turns first k words) i 0 ≡ value i
  first-put i h =
      is-picked (λ xs j. version_word xs j 0) first value (λ xs. server_places * k ≤ length xs) k
      (λ j xs r. rw (word-length server_places xs j 0 (value j)) r)
      (λ j xs l r. word_same server_places xs j 0 (value j) (omega arith) (omega arith))
      (λ j n xs l d. word_other server_places xs j 0 (value j) n 0 (omega arith) (omega arith) (λ z. d z.0))
      (λ j. true) words long k i (omega arith) h refl

  first-length : length (turns first k words) ≡ length words
  first-length = turns_keep first (λ xs. length xs ≡ length words) (λ i xs e. word-length server_places xs i 0 (value i) ∙ e) k words refl

-- and the first value: badge 0 and the opening's setpoint
module _ (k : ℕ) (setpoints values : List ℕ) (long : value_width * (server_places * k) ≤ length values) where
  value-put : (i f : ℕ) → i < k → f < value_width →
      word_at value_width (turns (open_value setpoints) k values) (value_row i 0) f ≡ get_or (0 ∷ get_or setpoints i 0 ∷ []) f 0
  value-put i f h g =
      is-picked (λ xs j. word_at value_width xs (value_row j 0) f) (open_value setpoints) (λ j. get_or (0 ∷ get_or setpoints j 0 ∷ []) f 0)
      (λ xs. value_width * (server_places * k) ≤ length xs) k
      (λ j xs r. rw (value-length xs j 0 0 (get_or setpoints j 0)) r)
      (λ j xs l r. row_same value_width xs (value_row j 0) (0 ∷ get_or setpoints j 0 ∷ []) f (omega arith) (omega arith) g)
      (λ j n xs l d. value_other xs j 0 0 (get_or setpoints j 0) n 0 f (omega arith) (omega arith) (λ z. d z.0) g)
      (λ j. true) values long k i (omega arith) h refl

  values_length : length (turns (open_value setpoints) k values) ≡ length values
  values_length = turns_keep (open_value setpoints) (λ xs. length xs ≡ length values) (λ i xs e. value-length xs i 0 0 (get_or setpoints i 0) ∙ e) k values refl

-- What an opening leaves, word by word.
pub record Opened (m k p : ℕ) (setpoints : List ℕ) (t : Tables) : Type 0 where
  pub long : Long k p t
  pub method : method_of t ≡ m
  pub servers : servers_of t ≡ k
  pub clients : clients_of t ≡ p
  pub step : step_of t ≡ 1
  pub entries : entries_of t ≡ 1
  pub writes : writes_of t ≡ 0
  pub reads : reads_of t ≡ 0
  pub held : (i : ℕ) → i < k → held_of t i ≡ 1
  pub key : (i : ℕ) → i < k → version_word t.keys i 0 ≡ 0
  pub badge : (i : ℕ) → i < k → version_badge t.values i 0 ≡ 0
  pub value : (i : ℕ) → i < k → version_setpoint t.values i 0 ≡ get_or setpoints i 0
  pub entrykey : word_at entry_width t.log 0 0 ≡ 0
  pub entrymask : entry_mask t.log 0 ≡ all_servers k
  pub word : (q f : ℕ) → client_word t.clients q f ≡ 0
  pub link : (q i f : ℕ) → link_word t.links q i f ≡ 0

pub opened-words : (m k p : ℕ) (setpoints : List ℕ) (t : Tables) → Openable m k p setpoints t → Opened m k p setpoints (opened m k p setpoints t)
opened-words m k p setpoints t a =
    let l = a.long in
    let entry : HasRow entry_width t.log 0 = omega (arith, l.log) in
    record {
      long = record {
        counts = rw (opened-length m k p t.counts l.counts) l.counts;
        clients = rw (cleared-length t.clients) l.clients;
        links = rw (cleared-length t.links) l.links;
        keys = rw (first-length k (λ i. 0) t.keys l.keys) l.keys;
        values = rw (values_length k setpoints t.values l.values) l.values;
        log = rw (row-length entry_width t.log 0 (0 ∷ all_servers k ∷ [])) l.log;
        writes = l.writes;
        reads = l.reads;
      };
      method = scalar m k p t.counts l.counts method_field (omega arith);
      servers = scalar m k p t.counts l.counts servers_field (omega arith);
      clients = scalar m k p t.counts l.counts clients_field (omega arith);
      step = scalar m k p t.counts l.counts step_field (omega arith);
      entries = scalar m k p t.counts l.counts entries_field (omega arith);
      writes = none-begun m k p t.counts l.counts writes_field (omega arith) (omega arith);
      reads = none-begun m k p t.counts l.counts reads_field (omega arith) (omega arith);
      held = λ i h. one_held m k p t.counts l.counts i a.press.servers.most h;
      key = first-put k (λ i. 0) t.keys l.keys;
      badge = λ i h. value-put k setpoints t.values l.values i 0 h (omega arith);
      value = λ i h. value-put k setpoints t.values l.values i 1 h (omega arith);
      entrykey = row_same entry_width t.log 0 (0 ∷ all_servers k ∷ []) 0 entry (omega arith) (omega arith);
      entrymask = row_same entry_width t.log 0 (0 ∷ all_servers k ∷ []) 1 entry (omega arith) (omega arith);
      word = λ q f. zeros (length t.clients) (client_width * q + f);
      link = λ q i f. zeros (length t.links) (link_width * link_row q i + f);
    }

-- Tables opened so are sound.
module _ (m k p : ℕ) (setpoints : List ℕ) (t : Tables) (press : Press m k p) (o : Opened m k p setpoints t) where
  opened-server : (i : ℕ) → i < k → ServerFacts t i
  unfolding key_in_range
  opened-server i h =
      record {
        held = rw (o.held i h) (record { least = omega arith; most = omega arith });
        first = o.key i h;
        key = λ place l. let z : place ≡ 0 = omega (arith, o.held i h) in rw (z, o.key i h);
        badge = λ place l. let z : place ≡ 0 = omega (arith, o.held i h) in rw (z, o.badge i h) (omega arith);
      }

  two : 2 ^ 1 ≤ 2 ^ k
  two = pow_mono press.servers.least

  all_servers_lem : Within (all_servers k) k
  all_servers_lem = record { some = omega (arith, two); below = omega (arith, two) }

  opened-log : LogFacts t
  unfolding key_in_range
  opened-log =
      record {
        firstkey = o.entrykey;
        firstmask = rw o.servers o.entrymask;
        entry = λ tag h. let z : tag ≡ 0 = omega (arith, o.entries) in rw z (record { key = rw o.entrykey; mask = rw (o.servers, o.entrymask) all_servers_lem });
      }

  opened-client : (q : ℕ) → ClientFacts t q
  opened-client q =
      idle-client t q (record {
        state = o.word q state_field;
        count = rw (o.word q count_field) (omega arith);
        mask = rw (o.word q mask_field, o.servers) (omega (arith, two));
        tag = rw (o.word q tag_field, o.entries) (omega arith);
        badge = rw (o.word q write_badge_field) (omega arith);
        kept = λ i h. record {
          tag = rw (o.word q (tags_field + i), o.entries) (omega arith);
          badge = rw (o.word q (badges_field + i)) (omega arith);
          asked = asks_none t q i (λ e. omega (arith, o.word q state_field));
        };
        link = λ i h. o.link q i 0;
        received = λ i h. o.word q (received_field + i);
      })

  pub opened_facts : Sound t
  opened_facts =
      record {
        long = rw (o.servers, o.clients) o.long;
        scalars = record {
          press = rw (o.method, o.servers, o.clients) press;
          step = rw o.step (record { least = omega arith; most = omega arith });
          entries = rw o.entries (record { least = omega arith; most = omega arith });
          writes = rw o.writes (omega arith);
          reads = rw o.reads (omega arith);
        };
        server = λ i h. opened-server i (rw o.servers at h);
        log = opened-log;
        client = λ q h. opened-client q;
        counts = sum-nothing (count_of t) (clients_of t) (λ q l. o.word q count_field) ∙ sym o.writes;
        write = λ n h. let z : ⊥ = omega (arith, o.writes) in absurd z;
        read = λ n h. let z : ⊥ = omega (arith, o.reads) in absurd z;
        records = λ q h. record {
          write = rw (o.word q state_field, o.writes) (facts-none t.writes 0 q _ (count-zero (is_open t.writes q)));
          read = rw (o.word q state_field, o.reads) (facts-none t.reads 0 q _ (count-zero (is_open t.reads q)));
        };
      }
