-- Of specs/Cases: what cites a theorem there that a changed definition can make fail.
use Rattle.std.specs.Prelude.{List}
use Prim.Native.Nat.{ℕ, ◌^◌, ◌≤◌, ◌<◌}
use Rattle.fields.specs.FieldLaws.{field_small}
use Rattle.fields.specs.Parts.{field_by_bytes}
use Rattle.fields.specs.ByBytes.{field_by_bytes_lem}

module _ (bytes : List ℕ) (at w : ℕ) where
  -- a field of at most 32 bits fits a word
  pub by_bytes-below : w ≤ 32 → field_by_bytes bytes at w < 2 ^ 32
  by_bytes-below l = rw (field_by_bytes_lem bytes at w) (field_small bytes at w 32 l)
