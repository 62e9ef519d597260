-- Laws of `Words`, over every field: which words a client's row has after words were kept, and which a row of 16 shows.
use Prim.Native.Nat.{ℕ, zero, suc, ◌+◌, ◌*◌, ◌≤◌, ◌<◌}
use Rattle.std.specs.Prelude.{◌≡◌, Bool, true, false, cond, List, get_or, length, replicate}
use Rattle.std.proofs.Math.Path.{refl}
use Rattle.std.proofs.Common.{sym, ◌∙◌, arith, add-one, length-set, get_or-set_same, get_or-set_other, ext_get_or}
use Rattle.std.proofs.lemmas.List.{get_or-replicate, set_comm}
use Rattle.ranges.specs.Tests.{either, by-test}
use Rattle.ranges.specs.All.{all_below}
use Rattle.ranges.specs.AllLaws.{all_at}
use Rattle.ranges.specs.Turns.{turns, turns_keep-below}
use Rattle.ranges.specs.Laid.{laid}
use Rattle.ranges.specs.LaidLaws as laying
use Rattle.ranges.specs.PickedLaws.{lay_word, is-picked, not-picked}
use Rattle.keys.specs.Masks.{has_server}
use Rattle.tables.specs.Rows.{HasRow, word_same, word_other}
use Rattle.tables.specs.Layout.{client_width, client_word, put_client_word}
use Rattle.rules.specs.Words.{every, keep_word, kept_words, laid_words, shown_words}

-- Words kept for some of k servers, from a field on.
module _ (field : ℕ) (wanted : ℕ → Bool) (word : ℕ → ℕ) (q k : ℕ) (within : field + k ≤ client_width) where
  -- what stands elsewhere stays
  pub kept_other : (clients : List ℕ) (r g : ℕ) → g < client_width → ((r ≡ q) × (field ≤ g) × (g < field + k) → ⊥) →
      client_word (kept_words field wanted word q k clients) r g ≡ client_word clients r g
  kept_other clients r g l d =
      let Stays : List ℕ → Type 0 = λ xs. client_word xs r g ≡ client_word clients r g in
      turns_keep-below _ Stays k
      (λ i b xs e. either Stays (wanted i)
      (word_other client_width xs q (field + i) (word i) r g (omega arith) l (λ y. d (y.0, omega (arith, y.1), omega (arith, y.1))) ∙ e)
      e)
      clients refl

  pub kept-length : (clients : List ℕ) → length (kept_words field wanted word q k clients) ≡ length clients
  kept-length clients =
      let Long : List ℕ → Type 0 = λ xs. length xs ≡ length clients in
      turns_keep-below _ Long k
      (λ i b xs e. either Long (wanted i) (length-set xs (client_width * q + (field + i)) (word i) ∙ e) e)
      clients refl

  -- a wanted server's word is the one kept
  pub kept_there : (clients : List ℕ) (i : ℕ) → HasRow client_width clients q → i < k → wanted i ≡ true →
      client_word (kept_words field wanted word q k clients) q (field + i) ≡ word i
  kept_there clients i h l e =
      is-picked (λ xs j. client_word xs q (field + j)) (keep_word field word q) word (λ xs. HasRow client_width xs q) k
      (λ j xs r. rw (length-set xs (client_width * q + (field + j)) (word j)) r)
      (λ j xs m r. word_same client_width xs q (field + j) (word j) r (omega arith))
      (λ j n xs m d. get_or-set_other xs (client_width * q + (field + j)) (client_width * q + (field + n)) (word j) 0 (λ z. d (omega arith)))
      wanted clients h k i (omega arith) l e

  -- and where a server is not wanted, its word stays
  pub kept-not : (clients : List ℕ) (i : ℕ) → HasRow client_width clients q → wanted i ≡ false →
      client_word (kept_words field wanted word q k clients) q (field + i) ≡ client_word clients q (field + i)
  kept-not clients i h e =
      not-picked (λ xs j. client_word xs q (field + j)) (keep_word field word q) word (λ xs. HasRow client_width xs q) k
      (λ j xs r. rw (length-set xs (client_width * q + (field + j)) (word j)) r)
      (λ j xs m r. word_same client_width xs q (field + j) (word j) r (omega arith))
      (λ j n xs m d. get_or-set_other xs (client_width * q + (field + j)) (client_width * q + (field + n)) (word j) 0 (λ z. d (omega arith)))
      wanted clients h k i (omega arith) e

-- the same servers wanted, and of those the same words, below k: the same row
module _ (field q : ℕ) (wanted wanted' : ℕ → Bool) (word word' : ℕ → ℕ) (clients : List ℕ) where
  same_turn : (b : Bool) (i : ℕ) {xs ys : List ℕ} → (b ≡ true → word i ≡ word' i) → xs ≡ ys →
      cond b (keep_word field word q i xs) xs ≡ cond b (keep_word field word' q i ys) ys
  same_turn true i f s = rw (s, f refl)
  same_turn false i f s = s

  pub kept_same : (k : ℕ) → ((i : ℕ) → i < k → wanted i ≡ wanted' i) → ((i : ℕ) → i < k → wanted' i ≡ true → word i ≡ word' i) →
      kept_words field wanted word q k clients ≡ kept_words field wanted' word' q k clients
  unfolding turns
  kept_same zero e f = refl
  kept_same (suc k) e f =
      rw (e k (omega arith))
      (same_turn (wanted' k) k (f k (omega arith)) (kept_same k (λ i l. e i (omega arith)) (λ i l. f i (omega arith))))

-- Words kept from two fields on, one behind the other: a loop may keep both of a server in one turn.
module _ (field field' : ℕ) (wanted : ℕ → Bool) (word word' : ℕ → ℕ) (q : ℕ) where
  swap-turn : (b : Bool) (i f v : ℕ) (xs : List ℕ) {ys : List ℕ} → f < field' + i → ys ≡ put_client_word xs q f v →
      cond b (keep_word field' word' q i ys) ys ≡ put_client_word (cond b (keep_word field' word' q i xs) xs) q f v
  swap-turn true i f v xs l e =
      rw e (set_comm xs (client_width * q + f) (client_width * q + (field' + i)) v (word' i) (λ z. omega arith))
  swap-turn false i f v xs l e = e

  -- a word ahead of the field may be put before the words are kept, or behind
  kept_put : (k f v : ℕ) (xs : List ℕ) → f < field' →
      kept_words field' wanted word' q k (put_client_word xs q f v) ≡ put_client_word (kept_words field' wanted word' q k xs) q f v
  unfolding turns
  kept_put zero f v xs l = refl
  kept_put (suc k) f v xs l = swap-turn (wanted k) k f v (kept_words field' wanted word' q k xs) (omega arith) (kept_put k f v xs l)

  abbrev kept_both : ℕ → List ℕ → List ℕ
  kept_both k clients = kept_words field' wanted word' q k (kept_words field wanted word q k clients)

  both-turn : (b : Bool) (n : ℕ) (xs : List ℕ) {y z : List ℕ} → field + n < field' → y ≡ kept_words field' wanted word' q n xs →
      z ≡ cond b (keep_word field' word' q n (keep_word field word q n y)) y →
      z ≡ cond b (keep_word field' word' q n (kept_words field' wanted word' q n (cond b (keep_word field word q n xs) xs)))
      (kept_words field' wanted word' q n (cond b (keep_word field word q n xs) xs))
  both-turn true n xs l d e = e ∙ rw (d, kept_put n (field + n) (word n) xs l)
  both-turn false n xs l d e = e ∙ d

  pub kept-both-more : (n : ℕ) (clients : List ℕ) {y z : List ℕ} → field + n < field' → y ≡ kept_both n clients →
      z ≡ cond (wanted n) (keep_word field' word' q n (keep_word field word q n y)) y → z ≡ kept_both (n + 1) clients
  unfolding turns
  kept-both-more n clients l d e = rw (add-one n) (both-turn (wanted n) n (kept_words field wanted word q n clients) l d e)

-- a row of 16 has 16 words
pub laid-length : (wanted : ℕ → Bool) (word : ℕ → ℕ) (k : ℕ) → length (laid_words wanted word k) ≡ 16
laid-length wanted word k =
    let Long : List ℕ → Type 0 = λ xs. length xs ≡ 16 in
    turns_keep-below _ Long k (λ i b xs e. either Long (wanted i) (length-set xs i (word i) ∙ e) e) (replicate 16 0) refl

-- the word of a wanted server in a row of 16
pub laid_at : (wanted : ℕ → Bool) (word : ℕ → ℕ) (k i : ℕ) → k ≤ 16 → i < k → wanted i ≡ true → get_or (laid_words wanted word k) i 0 ≡ word i
laid_at wanted word k i h l e =
    is-picked (λ xs j. get_or xs j 0) (lay_word word) word (λ xs. 16 ≤ length xs) 16
    (λ j xs r. rw (length-set xs j (word j)) r)
    (λ j xs m r. get_or-set_same xs j (word j) 0 (omega arith))
    (λ j n xs m d. get_or-set_other xs j n (word j) 0 d)
    wanted (replicate 16 0) (omega arith) k i h l e

pub shown_at : (field : ℕ) (clients : List ℕ) (q mask i : ℕ) → i < 16 → has_server mask i ≡ true →
    get_or (shown_words field clients q mask) i 0 ≡ client_word clients q (field + i)
shown_at field clients q mask i l e = laid_at (has_server mask) (λ j. client_word clients q (field + j)) 16 i (omega arith) l e

-- and 0 where a server is not wanted
laid-not : (wanted : ℕ → Bool) (word : ℕ → ℕ) (i : ℕ) → i < 16 → wanted i ≡ false → get_or (laid_words wanted word 16) i 0 ≡ 0
laid-not wanted word i l e =
    not-picked (λ xs j. get_or xs j 0) (lay_word word) word (λ xs. 16 ≤ length xs) 16
    (λ j xs r. rw (length-set xs j (word j)) r)
    (λ j xs m r. get_or-set_same xs j (word j) 0 (omega arith))
    (λ j n xs m d. get_or-set_other xs j n (word j) 0 d)
    wanted (replicate 16 0) (omega arith) 16 i (omega arith) e
    ∙ get_or-replicate 16 i 0 0 l

-- so a row of 16 is shown whole where each place gets its word, or 0
pub shown-laid : (field : ℕ) (clients : List ℕ) (q mask : ℕ) (row : List ℕ) {row' : List ℕ} → length row ≡ 16 →
    row' ≡ laid (λ i. cond (has_server mask i) (client_word clients q (field + i)) 0) 16 row → row' ≡ shown_words field clients q mask
shown-laid field clients q mask row long e =
    let word : ℕ → ℕ = λ i. client_word clients q (field + i) in
    let shown : ℕ → ℕ = λ i. cond (has_server mask i) (word i) 0 in
    let whole : length (laid shown 16 row) ≡ 16 = laying.laid-length shown 16 row (omega arith) ∙ long in
    e ∙ ext_get_or 0 _ _ (whole ∙ sym (laid-length (has_server mask) word 16))
    (λ i l. laying.laid_at shown 16 row i (omega arith)
    ∙ by-test (has_server mask i)
    (λ h. rw (h, laid_at (has_server mask) word 16 i (omega arith) (omega arith) h))
    (λ h. rw (h, laid-not (has_server mask) word i (omega arith) h)))

-- the same words below k: the same row
pub laid_same : (wanted : ℕ → Bool) (word word' : ℕ → ℕ) (k : ℕ) → ((i : ℕ) → i < k → word i ≡ word' i) →
    laid_words wanted word k ≡ laid_words wanted word' k
unfolding turns
laid_same wanted word word' zero e = refl
laid_same wanted word word' (suc k) e = rw (e k (omega arith), laid_same wanted word word' k (λ i l. e i (omega arith)))

-- a word put ahead of the field shows nothing else
pub shown_other : (field : ℕ) (clients : List ℕ) (q f v mask : ℕ) → field + 16 ≤ client_width → f < field →
    shown_words field (put_client_word clients q f v) q mask ≡ shown_words field clients q mask
shown_other field clients q f v mask h l =
    laid_same (has_server mask) _ _ 16
    (λ i b. word_other client_width clients q f v q (field + i) (omega arith) (omega arith) (λ y. omega (arith, y.1)))

-- words laid into a row of 16 first, and kept from there, are the words themselves
pub kept-laid : (field : ℕ) (wanted : ℕ → Bool) (word : ℕ → ℕ) (q k : ℕ) (clients : List ℕ) → k ≤ 16 →
    kept_words field wanted (λ i. get_or (laid_words wanted word k) i 0) q k clients ≡ kept_words field wanted word q k clients
kept-laid field wanted word q k clients h =
    kept_same field q wanted wanted _ word clients k (λ i l. refl) (λ i l e. laid_at wanted word k i h l e)

-- a mask of 32 ones has every server
pub has-every : (i : ℕ) → i < 32 → has_server 4294967295 i ≡ true
unfolding all_below
has-every i l = all_at (has_server 4294967295) 32 refl i l

pub kept-every : (field : ℕ) (word : ℕ → ℕ) (q k : ℕ) (clients : List ℕ) → k ≤ 32 →
    kept_words field (has_server 4294967295) word q k clients ≡ kept_words field every word q k clients
kept-every field word q k clients h =
    kept_same field q (has_server 4294967295) every word word clients k (λ i l. has-every i (omega arith)) (λ i l e. refl)
