-- Laws of the log's entries: what is put is read back, every other entry stays.
use Rattle.std.specs.Prelude.{ℕ, ◌≡◌, List, [], ◌∷◌}
use Rattle.std.proofs.Common.{arith}
use Rattle.keys.specs.declared.Key.{Key}
use Rattle.keys.specs.Keys.{key_word, FitsByte}
use Rattle.keys.specs.KeyLaws.{word_back}
use Rattle.tables.specs.Rows.{HasRow, row_same, row_other}
use Rattle.tables.specs.Layout.{entry_width, entry_key, entry_mask, put_entry}

module _ (log : List ℕ) (tag : ℕ) (key : Key) (mask : ℕ) where
  abbrev row : List ℕ
  row = key_word key ∷ mask ∷ []

  pub entry_key-same : HasRow entry_width log tag → FitsByte key → entry_key (put_entry log tag key mask) tag ≡ key
  entry_key-same h f = rw (row_same entry_width log tag row 0 h (omega arith) (omega arith)) (word_back key f)

  pub entry-mask-same : HasRow entry_width log tag → entry_mask (put_entry log tag key mask) tag ≡ mask
  entry-mask-same h = row_same entry_width log tag row 1 h (omega arith) (omega arith)

  pub entry_key_other : (t : ℕ) → (t ≡ tag → ⊥) → entry_key (put_entry log tag key mask) t ≡ entry_key log t
  entry_key_other t d = rw (row_other entry_width log tag row t 0 (omega arith) (omega arith) d)

  pub entry-mask_other : (t : ℕ) → (t ≡ tag → ⊥) → entry_mask (put_entry log tag key mask) t ≡ entry_mask log t
  entry-mask_other t d = row_other entry_width log tag row t 1 (omega arith) (omega arith) d
