-- The search for a key, by its word, and the blocks of entries that it passes over.
use Rattle.std.specs.Prelude.{ℕ, ◌+◌, ◌*◌, ◌≤◌, ◌≡◌, refl, Bool, true, false, List, get_or, eqb}
use Rattle.std.proofs.Common.{sym, ap, ◌∙◌, arith}
use Rattle.ranges.specs.Tests.{by-test, not-both}
use Rattle.ranges.specs.All.{any_below}
use Rattle.ranges.specs.AllLaws.{any_at, any_of}
use Rattle.ranges.specs.First.{first_below}
use Rattle.ranges.specs.FirstLaws.{Sought, sought-all}
use Rattle.ranges.specs.Words.{equal_from}
use Rattle.keys.specs.declared.Key.{Key}
use Rattle.keys.specs.Keys.{key_word}
use Rattle.tables.specs.Layout.{entry_width, entry_word}
use Rattle.coordinator.specs.Log.{first_entry}

-- an entry bears the key of a word
abbrev pub bearer : List ℕ → ℕ → ℕ → Bool
bearer log word tag = eqb (entry_word log tag) word

-- where no word of a block of entries, key or mask, is that of a key, none of them bears it
pub block-none : (log : List ℕ) (word tag many : ℕ) → false ≡ any_below (equal_from log (entry_width * tag) word) (entry_width * many) →
    any_below (λ i. bearer log word (tag + i)) many ≡ false
block-none log word tag many none =
    let bears : ℕ → Bool = λ i. bearer log word (tag + i) in
    let equals = equal_from log (entry_width * tag) word in
    by-test (any_below bears many)
    (λ e.
    let a = any_of bears many e in
    let place : entry_width * tag + entry_width * a.0 ≡ entry_width * (tag + a.0) + 0 = omega arith in
    let key : equals (entry_width * a.0) ≡ true = ap (λ (m : ℕ). eqb (get_or log m 0) word) place ∙ a.2 in
    absurd (not-both (any_at equals (entry_width * many) (entry_width * a.0) (omega (arith, a.1)) key) (sym none)))
    (λ e. e)

-- so the search goes on behind the block
pub block-passed : (log : List ℕ) (word n tag many : ℕ) → Sought (bearer log word) n tag → tag + many ≤ n →
    any_below (equal_from log (entry_width * tag) word) (entry_width * many) ≡ false → Sought (bearer log word) n (tag + many)
block-passed log word n tag many s room none =
    sought-all (bearer log word) (λ i. bearer log word (tag + i)) n tag many (λ i. refl) s room (block-none log word tag many (sym none))

pub bearer_of : (log : List ℕ) (n : ℕ) (key : Key) {word r : ℕ} → word ≡ key_word key → r ≡ first_below (bearer log word) n →
    r ≡ first_entry log key n
bearer_of log n key e f = f ∙ ap (λ (w : ℕ). first_below (bearer log w) n) e
