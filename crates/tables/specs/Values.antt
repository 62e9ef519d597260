-- Laws of the versions' badges and setpoints: what is put is read back, every other row stays.
use Rattle.std.specs.Prelude.{ℕ, ◌<◌, ◌≡◌, List, [], ◌∷◌, length}
use Rattle.std.proofs.Common.{arith}
use Rattle.tables.specs.Rows.{word_at, HasRow, place-one, row_same, row_other, row-length, row_swap}
use Rattle.tables.specs.Layout.{server_places, value_width, value_row, version_badge, version_setpoint, put_value}

module _ (values : List ℕ) (i place badge setpoint : ℕ) where
  abbrev row : List ℕ
  row = badge ∷ setpoint ∷ []

  pub badge-same : HasRow value_width values (value_row i place) → version_badge (put_value values i place badge setpoint) i place ≡ badge
  badge-same h = row_same value_width values (value_row i place) row 0 h (omega arith) (omega arith)

  pub setpoint-same : HasRow value_width values (value_row i place) →
      version_setpoint (put_value values i place badge setpoint) i place ≡ setpoint
  setpoint-same h = row_same value_width values (value_row i place) row 1 h (omega arith) (omega arith)

  pub value_other : (j p f : ℕ) → place < server_places → p < server_places → ((j ≡ i) × (p ≡ place) → ⊥) → f < value_width →
      word_at value_width (put_value values i place badge setpoint) (value_row j p) f ≡ word_at value_width values (value_row j p) f
  value_other j p f h g d l =
      row_other value_width values (value_row i place) row (value_row j p) f (omega arith) l
      (λ e. d (place-one server_places j p i place g h e))

  pub value-length : length (put_value values i place badge setpoint) ≡ length values
  value-length = row-length value_width values (value_row i place) row

  -- one of another server may be put before it, or behind
  pub value_swap : (j p badge' setpoint' : ℕ) → place < server_places → p < server_places → (i ≡ j → ⊥) →
      put_value (put_value values i place badge setpoint) j p badge' setpoint' ≡
      put_value (put_value values j p badge' setpoint') i place badge setpoint
  value_swap j p badge' setpoint' h g d =
      row_swap value_width values (value_row i place) (value_row j p) row (badge' ∷ setpoint' ∷ []) (omega arith) (omega arith)
      (λ e. d (place-one server_places i place j p h g e).0)
