-- The counts that a begin leaves.
use Rattle.std.specs.Prelude.{ℕ, ◌+◌, ◌<◌, ◌≤◌, ◌≡◌, List, set, length}
use Rattle.std.proofs.Common.{◌∙◌, arith, length-set, get_or-set_same, get_or-set_other}
use Rattle.tables.specs.Layout.{count_words, count_at, step_field}
use Rattle.rules.specs.Common.{begun_counts}

-- one transaction and one step more: the other counts stay
module _ (field : ℕ) (counts : List ℕ) (long : count_words ≤ length counts) (within : field < count_words) (apart : field ≡ step_field → ⊥) where
  pub begun_other : (f : ℕ) → (f ≡ step_field → ⊥) → (f ≡ field → ⊥) → count_at (begun_counts field counts) f ≡ count_at counts f
  begun_other f d e = get_or-set_other (set counts field (count_at counts field + 1)) step_field f _ 0 d ∙ get_or-set_other counts field f _ 0 e

  pub begun_more : count_at (begun_counts field counts) field ≡ count_at counts field + 1
  begun_more = get_or-set_other (set counts field (count_at counts field + 1)) step_field field _ 0 apart ∙ get_or-set_same counts field _ 0 (omega arith)

  pub begun_step : count_at (begun_counts field counts) step_field ≡ count_at counts step_field + 1
  begun_step = get_or-set_same (set counts field (count_at counts field + 1)) step_field _ 0 (rw (length-set counts field (count_at counts field + 1)) (omega arith))

  pub begun-length : length (begun_counts field counts) ≡ length counts
  begun-length = length-set (set counts field (count_at counts field + 1)) step_field _ ∙ length-set counts field _
