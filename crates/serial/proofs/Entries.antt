-- The tag that the log has of a key, and what one entry more leaves of it.
use Prim.Native.Nat.{ℕ, suc, ◌<◌}
use mathlib.Core.Path.{◌≡◌, sym, ap, ◌∙◌}
use mathlib.Core.Bool.{true, false, cond}
use mathlib.Core.Option.{Option, none, some, none-ne-some, some-injective}
use mathlib.Core.List.{List, [], ◌∷◌}
use native.Mathlib.Omega.{arith}
use lib.Dec.{eqb}
use borrow.Author.Tests.{eq-eqb, ne_eqb, lt-ltb, le-ltb, ltb-true, ltb-false}
use Rattle.ranges.specs.Tests.{by_equal, by-test}
use Rattle.ranges.specs.FirstLaws.{First, first_found, first_is}
use Rattle.keys.specs.declared.Key.{Key}
use Rattle.keys.specs.Keys.{key_word, key_at_word}
use Rattle.keys.specs.KeyLaws.{word_back, at-word-fits}
use Rattle.tables.specs.Rows.{HasRow, row_same, row_other}
use Rattle.tables.specs.Layout.{entry_width, entry_word, put_entry}
use Rattle.coordinator.specs.Latest.{latest_key, latest_word}
use Rattle.coordinator.specs.Log.{entry_bears, first_entry, has_key}

-- "a head that has it answers its first tag": the first of n entries that bears a key
unfoldable pub tag_of : List ℕ → Key → ℕ → Option ℕ
tag_of log key n = cond (has_key log key n) (some (first_entry log key n)) none

-- the word that a client keeps of a server's key gives that key back
pub asked_key : (log : List ℕ) (tag i : ℕ) → key_at_word (latest_word log tag i) ≡ latest_key log i tag
asked_key log tag i = word_back (latest_key log i tag) (at-word-fits _)

module _ (log : List ℕ) (key : Key) (n : ℕ) where
  pub tag-found : (tag : ℕ) → tag_of log key n ≡ some tag → (has_key log key n ≡ true) × (first_entry log key n ≡ tag)
  unfolding tag_of
  tag-found tag e =
      by-test (has_key log key n)
      (λ b. (b, some-injective _ _ (rw b at e)))
      (λ b. absurd (none-ne-some tag (rw b at e)))

  pub tag-none : tag_of log key n ≡ none → has_key log key n ≡ false
  unfolding tag_of
  tag-none e = by-test (has_key log key n) (λ b. absurd (none-ne-some _ (sym (rw b at e)))) (λ b. b)

  -- where it is not found, none bears it
  none-bears : has_key log key n ≡ false → (u : ℕ) → u < n → entry_bears log key u ≡ false
  none-bears b u l = (first_found (entry_bears log key) n).before u (omega (arith, ltb-false (first_entry log key n) n b))

-- one entry more, at place n
module _ (log : List ℕ) (n : ℕ) (new : Key) (mask : ℕ) (room : HasRow entry_width log n) where
  abbrev row : List ℕ
  row = key_word new ∷ mask ∷ []

  abbrev log' : List ℕ
  log' = put_entry log n new mask

  before : (key : Key) (u : ℕ) → u < n → entry_bears log' key u ≡ entry_bears log key u
  before key u l = ap (λ (x : ℕ). eqb x (key_word key)) (row_other entry_width log n row u 0 (omega arith) (omega arith) (λ e. omega arith))

  word-new : entry_word log' n ≡ key_word new
  word-new = row_same entry_width log n row 0 room (omega arith) (omega arith)

  -- a key that none bore has the new tag
  pub tag-new : tag_of log new n ≡ none → tag_of log' new (suc n) ≡ some n
  unfolding tag_of
  tag-new e =
      let first : First (entry_bears log' new) (suc n) n = record {
        within = omega arith;
        before = λ u l. before new u l ∙ none-bears log new n (tag-none log new n e) u l;
        here = λ l. eq-eqb _ _ word-new;
      } in
      rw (← first_is (entry_bears log' new) (suc n) first, lt-ltb n (suc n) (omega arith))

  -- any other key has the tag that it had, or none
  pub tag_other : (key : Key) → (key_word new ≡ key_word key → ⊥) → tag_of log' key (suc n) ≡ tag_of log key n
  unfolding tag_of
  tag_other key d =
      by-test (has_key log key n)
      (λ b.
      let r = first_entry log key n in
      let l = ltb-true r n b in
      let f = first_found (entry_bears log key) n in
      let first : First (entry_bears log' key) (suc n) r = record {
        within = omega arith;
        before = λ u k. before key u (omega arith) ∙ f.before u k;
        here = λ k. before key r l ∙ f.here l;
      } in
      rw (← first_is (entry_bears log' key) (suc n) first, lt-ltb r (suc n) (omega arith), b))
      (λ b.
      let first : First (entry_bears log' key) (suc n) (suc n) = record {
        within = omega arith;
        before = λ u k. by_equal u n
            (λ z. rw z (ne_eqb _ _ (λ y. d (sym word-new ∙ y))))
            (λ z. before key u (omega arith) ∙ none-bears log key n b u (omega arith));
        here = λ k. let z : ⊥ = omega arith in absurd z;
      } in
      rw (← first_is (entry_bears log' key) (suc n) first, le-ltb (suc n) (suc n) (omega arith), b))
