-- What two requests at different targets write: the one's may be written before the other's, or behind, table by table.
use Rattle.std.specs.Prelude.{ℕ, ◌+◌, ◌<◌, ◌≡◌, refl, List}
use Rattle.std.proofs.Common.{sym, ◌∙◌, get_or-set_other}
use Rattle.std.proofs.lemmas.List.{set_comm}
use Rattle.ranges.specs.Tests.{by_equal}
use Rattle.keys.specs.Keys.{key_word}
use Rattle.tables.specs.Rows.{place-one}
use Rattle.tables.specs.Layout.{count_at, step_field, server_places}
use Rattle.tables.specs.Links.{targets}
use Rattle.tables.specs.LinkLaws.{link_swap}
use Rattle.tables.specs.Values.{value_swap}
use Rattle.tables.specs.Tables.{Tables}
use Rattle.tables.specs.declared.links.Content.{Content}
use Rattle.rules.specs.Common.{coordinator}
use Rattle.commutation.specs.Outcome.{Storing, nothing, version, entry, Outcome, refuses, accepts, bump, changed, left_of}
use Rattle.commutation.specs.Outcome.{stored_counts, stored_keys, stored_values, stored_log, stored_writes}

-- What is stored goes to its target: a version to a place of a server, an entry to the coordinator.
abbrev pub Fits : Storing → ℕ → Type 0
Fits nothing i = Unit {0}
Fits (version place key badge setpoint) i = place < server_places
Fits (entry tag key mask write) i = i ≡ coordinator

abbrev pub OutcomeFits : Outcome → ℕ → Type 0
OutcomeFits (refuses n) i = Unit {0}
OutcomeFits (accepts content s) i = Fits s i

-- counts are bumped in any order, the same one too
bump_swap : (counts : List ℕ) (f g : ℕ) → bump (bump counts f) g ≡ bump (bump counts g) f
bump_swap counts f g =
    by_equal f g (λ e. rw e)
    (λ d. rw (get_or-set_other counts f g (count_at counts f + 1) 0 (λ e. d (sym e)), get_or-set_other counts g f (count_at counts g + 1) 0 d)
    (set_comm counts f g (count_at counts f + 1) (count_at counts g + 1) d))

-- a step is counted before the rest, or behind
pub step_swap : (i : ℕ) (s : Storing) (counts : List ℕ) →
    stored_counts s i (bump counts step_field) ≡ bump (stored_counts s i counts) step_field
step_swap i nothing counts = refl
step_swap i (version place key badge setpoint) counts = bump_swap counts _ _
step_swap i (entry tag key mask write) counts = bump_swap counts _ _

module _ (i j : ℕ) where
  counts_swap : (s u : Storing) (counts : List ℕ) →
      stored_counts s i (stored_counts u j counts) ≡ stored_counts u j (stored_counts s i counts)
  counts_swap nothing u counts = refl
  counts_swap (version place key badge setpoint) nothing counts = refl
  counts_swap (version place key badge setpoint) (version place' key' badge' setpoint') counts = bump_swap counts _ _
  counts_swap (version place key badge setpoint) (entry tag' key' mask' write') counts = bump_swap counts _ _
  counts_swap (entry tag key mask write) nothing counts = refl
  counts_swap (entry tag key mask write) (version place' key' badge' setpoint') counts = bump_swap counts _ _
  counts_swap (entry tag key mask write) (entry tag' key' mask' write') counts = bump_swap counts _ _

module _ (i j : ℕ) (apart : i ≡ j → ⊥) where
  keys_swap : (s u : Storing) (keys : List ℕ) → Fits s i → Fits u j →
      stored_keys s i (stored_keys u j keys) ≡ stored_keys u j (stored_keys s i keys)
  keys_swap nothing u keys f g = refl
  keys_swap (version place key badge setpoint) nothing keys f g = refl
  keys_swap (version place key badge setpoint) (version place' key' badge' setpoint') keys f g =
      set_comm keys _ _ (key_word key') (key_word key) (λ e. apart (sym (place-one server_places j place' i place g f e).0))
  keys_swap (version place key badge setpoint) (entry tag' key' mask' write') keys f g = refl
  keys_swap (entry tag key mask write) u keys f g = refl

  values_swap : (s u : Storing) (values : List ℕ) → Fits s i → Fits u j →
      stored_values s i (stored_values u j values) ≡ stored_values u j (stored_values s i values)
  values_swap nothing u values f g = refl
  values_swap (version place key badge setpoint) nothing values f g = refl
  values_swap (version place key badge setpoint) (version place' key' badge' setpoint') values f g =
      sym (value_swap values i place badge setpoint j place' badge' setpoint' f g apart)
  values_swap (version place key badge setpoint) (entry tag' key' mask' write') values f g = refl
  values_swap (entry tag key mask write) u values f g = refl

  -- log and records: one of the two at most writes them
  log_swap : (s u : Storing) (log : List ℕ) → Fits s i → Fits u j → stored_log s (stored_log u log) ≡ stored_log u (stored_log s log)
  log_swap nothing u log f g = refl
  log_swap (version place key badge setpoint) u log f g = refl
  log_swap (entry tag key mask write) nothing log f g = refl
  log_swap (entry tag key mask write) (version place' key' badge' setpoint') log f g = refl
  log_swap (entry tag key mask write) (entry tag' key' mask' write') log f g = absurd (apart (f ∙ sym g))

  writes_swap : (s u : Storing) (writes : List ℕ) → Fits s i → Fits u j →
      stored_writes s (stored_writes u writes) ≡ stored_writes u (stored_writes s writes)
  writes_swap nothing u writes f g = refl
  writes_swap (version place key badge setpoint) u writes f g = refl
  writes_swap (entry tag key mask write) nothing writes f g = refl
  writes_swap (entry tag key mask write) (version place' key' badge' setpoint') writes f g = refl
  writes_swap (entry tag key mask write) (entry tag' key' mask' write') writes f g = absurd (apart (f ∙ sym g))

  module _ (q r : ℕ) (below : i < targets) (below' : j < targets) where
    changed_swap : (content content' : Content) (s u : Storing) (t : Tables) → Fits s i → Fits u j →
        changed content s q i (changed content' u r j t) ≡ changed content' u r j (changed content s q i t)
    changed_swap content content' s u t f g =
        rw (
          step_swap i s (stored_counts u j t.counts),
          step_swap j u (stored_counts s i t.counts),
          counts_swap i j s u t.counts,
          link_swap t.links q i r j content content' below below' apart,
          keys_swap s u t.keys f g,
          values_swap s u t.values f g,
          log_swap s u t.log f g,
          writes_swap s u t.writes f g,
        )

    pub left_swap : (o o' : Outcome) (t : Tables) → OutcomeFits o i → OutcomeFits o' j →
        left_of o q i (left_of o' r j t) ≡ left_of o' r j (left_of o q i t)
    left_swap (refuses n) o' t f g = refl
    left_swap (accepts content s) (refuses m) t f g = refl
    left_swap (accepts content s) (accepts content' u) t f g = changed_swap content content' s u t f g
