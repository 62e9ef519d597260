-- The round of gets, which A sends at its begin and B when the keys arrive: each is what the row then gives.
use Rattle.std.specs.Prelude.{ℕ, ◌+◌, ◌≤◌, ◌<◌, ◌≡◌, true, false, List, length}
use Rattle.std.proofs.Common.{sym, ap, ◌∙◌, arith}
use Rattle.ranges.specs.Tests.{by-test}
use Rattle.keys.specs.Keys.{key_word, key_at_word}
use Rattle.keys.specs.KeyLaws.{word_back, at-word-fits}
use Rattle.keys.specs.Masks.{has_server}
use Rattle.coordinator.specs.Latest.{latest_key, latest_word, latest_tag_at}
use Rattle.tables.specs.Rows.{HasRow}
use Rattle.tables.specs.Layout.{entry_word, client_width, client_word, state_field, tags_field, asked_field}
use Rattle.tables.specs.Links.{targets, HasLinks, is_empty}
use Rattle.tables.specs.Tables.{Tables, content_at}
use Rattle.tables.specs.declared.links.Content.{Content}
use Rattle.rules.specs.WordsLaws.{kept_other, kept_there, kept-length}
use Rattle.rules.specs.Common.{asking_setpoints, request}
use Rattle.rules.specs.Begin.{kept_tags, kept_asking, sent_gets}
use Rattle.rules.specs.Loss.{sent_by}
use Rattle.resending.specs.Sent.{sent_setpoints}
use Rattle.resending.specs.Carried.{Carried, carried-fresh, carried-empty}
use Rattle.resending.specs.Rounds.{held_on, sent_there, sent-not}

-- the client's row and links before the round, with its state put; the links are empty
module _ (t t' : Tables) (q mask tag k : ℕ) (log clients links : List ℕ) (few : k ≤ 16) (server : (i : ℕ) → has_server mask i ≡ true → i < k)
    (has : HasRow client_width clients q) (long : HasLinks links q) (state : client_word clients q state_field ≡ asking_setpoints)
    (empty : (i : ℕ) → i < targets → is_empty (held_on q links i) ≡ true)
    (rows : t'.clients ≡ kept_asking q mask log tag k clients) (sends : t'.links ≡ sent_gets q mask log tag k links) where
  abbrev get : ℕ → Content
  get i = request (latest_key log i tag) 0

  abbrev tagged : List ℕ
  tagged = kept_tags q mask log tag k clients

  tagged-has : HasRow client_width tagged q
  tagged-has = rw (kept-length tags_field (has_server mask) (latest_tag_at log tag) q k (omega arith) clients) has

  state_now : client_word t'.clients q state_field ≡ asking_setpoints
  state_now =
      ap (λ (xs : List ℕ). client_word xs q state_field) rows
      ∙ kept_other asked_field (has_server mask) (latest_word log tag) q k (omega arith) tagged q state_field (omega arith) (λ z. omega (arith, z.1))
      ∙ kept_other tags_field (has_server mask) (latest_tag_at log tag) q k (omega arith) clients q state_field (omega arith) (λ z. omega (arith, z.1))
      ∙ state

  given : (i : ℕ) → has_server mask i ≡ true → sent_by q i t' ≡ get i
  given i e =
      let word : client_word t'.clients q (asked_field + i) ≡ latest_word log tag i =
      ap (λ (xs : List ℕ). client_word xs q (asked_field + i)) rows
      ∙ kept_there asked_field (has_server mask) (latest_word log tag) q k (omega arith) tagged i tagged-has (server i e) e in
      sent_setpoints t' q i state_now ∙ rw (word, word_back (latest_key log i tag) (at-word-fits _))

  held : (i : ℕ) → content_at t' q i ≡ held_on q (sent_gets q mask log tag k links) i
  held i = ap (λ (xs : List ℕ). held_on q xs i) sends

  pub gets_carry : (i : ℕ) → i < targets → (has_server mask i ≡ true → is_empty (content_at t q i) ≡ true) → Carried t t' q i
  gets_carry i l before =
      by-test (has_server mask i)
      (λ e. carried-fresh t t' q i (before e) (λ full.
      held i ∙ sent_there q get (λ j. at-word-fits _) mask k (omega arith) links long i (server i e) e ∙ sym (given i e)))
      (λ e. carried-empty t t' q i
      (ap is_empty (held i ∙ sent-not q get (λ j. at-word-fits _) mask k (omega arith) links long i e) ∙ empty i l))
