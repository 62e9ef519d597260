-- A message as the code makes it, from the fixed values and the number of all; and the last case of the message of a kind.
use Rattle.std.specs.Prelude.{ℕ, ◌-◌, ◌/◌, ◌≤◌, ◌<◌, ◌≡◌, List, get_or}
use Rattle.std.proofs.Common.{ne_eqb}
use Rattle.keys.specs.Keys.{key_of}
use Rattle.frame_table.specs.Table.{fixed_fields, entry_fields}
use Rattle.frame_table.specs.Columns.{most_values}
use Rattle.frames.specs.declared.Fixed.{Fixed}
use Rattle.frames.specs.declared.Message.{Message}
use Rattle.frames.specs.declared.Message.TheVariants.{Log}
use Rattle.frames.specs.Messages.{message_at}

-- fixed values that fit a message's own types, with as many values in all as a frame can have
pub record Narrow (fixed : List ℕ) (fields : ℕ) : Type 0 where
  pub client : get_or fixed 1 0 < 256
  pub server : get_or fixed 2 0 < 256
  pub tag : get_or fixed 3 0 < 256
  pub count : get_or fixed 4 0 < 256
  pub owner : get_or fixed 5 0 < 256
  pub badge : get_or fixed 6 0 < 65536
  pub long : fixed_fields ≤ fields
  pub few : fields ≤ most_values

abbrev pub fixed_by : List ℕ → ℕ → Fixed
fixed_by fixed fields =
    record {
      client = get_or fixed 1 0;
      server = get_or fixed 2 0;
      tag = get_or fixed 3 0;
      key = key_of (get_or fixed 4 0) (get_or fixed 5 0);
      badge = get_or fixed 6 0;
      number = get_or fixed 7 0;
      entries = (fields - fixed_fields) / entry_fields;
    }

abbrev pub message_by : List ℕ → ℕ → Message
message_by fixed fields = message_at (get_or fixed 0 0) (fixed_by fixed fields)

-- a kind that is none of the first eleven
pub message-last : (kind : ℕ) (f : Fixed) → (kind ≡ 1 → ⊥) → (kind ≡ 2 → ⊥) → (kind ≡ 3 → ⊥) → (kind ≡ 4 → ⊥) → (kind ≡ 5 → ⊥) → (kind ≡ 6 → ⊥) → (kind ≡ 7 → ⊥) → (kind ≡ 8 → ⊥) → (kind ≡ 9 → ⊥) → (kind ≡ 10 → ⊥) → (kind ≡ 11 → ⊥) → Log f.client f.entries ≡ message_at kind f
unfolding message_at
message-last kind f d₁ d₂ d₃ d₄ d₅ d₆ d₇ d₈ d₉ d₁₀ d₁₁ =
    rw (ne_eqb kind 1 d₁, ne_eqb kind 2 d₂, ne_eqb kind 3 d₃, ne_eqb kind 4 d₄, ne_eqb kind 5 d₅, ne_eqb kind 6 d₆, ne_eqb kind 7 d₇, ne_eqb kind 8 d₈, ne_eqb kind 9 d₉, ne_eqb kind 10 d₁₀, ne_eqb kind 11 d₁₁)
