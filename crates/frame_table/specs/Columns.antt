-- How long a frame is, as the code takes it, and what the functions over its entries ask.
use Rattle.std.specs.Prelude.{ℕ, ◌+◌, ◌*◌, ◌/◌, ◌≤◌, ◌≡◌, List, true, length, get_or}
use Rattle.frame_table.specs.declared.Shape.{Shape}
use Rattle.frame_table.specs.Table.{header_bits, fixed_fields, most_entries, values_for, has_badges}

-- how many bytes a frame has: header, body and entries, up to the next byte
unfoldable pub length_by : Shape → ℕ → ℕ
length_by shape entries = (header_bits + shape.body + entries * shape.entry + 7) / 8

-- the most values that a frame can have, and the bits that they can have at most
abbrev pub most_values : ℕ
most_values = values_for most_entries

abbrev pub most_bits : ℕ
most_bits = 32 * most_values

-- ---- what the functions ask

-- places for the entries of a kind
pub record Places (kind entries keys badges numbers : ℕ) : Type 0 where
  pub for-keys : entries ≤ keys
  pub for_badges : has_badges kind ≡ true → entries ≤ badges
  pub for-numbers : entries ≤ numbers

-- the entries are there, and no more than a frame can have
pub record Packable (fixed keys badges numbers : List ℕ) (entries : ℕ) : Type 0 where
  pub all-fixed : length fixed ≡ fixed_fields
  pub few : entries ≤ most_entries
  pub places : Places (get_or fixed 0 0) entries (length keys) (length badges) (length numbers)
