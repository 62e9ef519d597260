-- A word of each wanted server: kept in a client's row, from a field on, or laid into a row of 16.
use Rattle.std.specs.Prelude.{ℕ, ◌+◌, Bool, true, List, replicate}
use Rattle.ranges.specs.Turns.{turns}
use Rattle.ranges.specs.Picked.{picked, laid_over}
use Rattle.keys.specs.Masks.{has_server}
use Rattle.tables.specs.Layout.{client_word, put_client_word}

-- where a row has a word for all, masked or not
abbrev pub every : ℕ → Bool
every i = true

-- the client's row gets, for each wanted server i below k, a word at field + i; all other words stay
abbrev pub keep_word : ℕ → (ℕ → ℕ) → ℕ → ℕ → List ℕ → List ℕ
keep_word field word q i clients = put_client_word clients q (field + i) (word i)

abbrev pub kept_words : ℕ → (ℕ → Bool) → (ℕ → ℕ) → ℕ → ℕ → List ℕ → List ℕ
kept_words field wanted word q k clients = turns (picked wanted (keep_word field word q)) k clients

-- a word of each wanted server i below k at its place, in a row of 16 of which all else is 0
abbrev pub laid_words : (ℕ → Bool) → (ℕ → ℕ) → ℕ → List ℕ
laid_words wanted word k = laid_over wanted word k (replicate 16 0)

-- what an answer shows: of each masked server the client's word at field + i, 0 elsewhere
abbrev pub shown_words : ℕ → List ℕ → ℕ → ℕ → List ℕ
shown_words field clients q mask = laid_words (has_server mask) (λ i. client_word clients q (field + i)) 16
