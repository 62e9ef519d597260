-- The values of a message with its entries.
use Rattle.std.specs.Prelude.{ℕ, List, get_or}
use Rattle.formats.specs.Entries.{values_by}
use Rattle.frames.specs.declared.Message.{Message}
use Rattle.frames.specs.Messages.{entries_of, fixed_of}

abbrev pub kind_of : Message → ℕ
kind_of m = get_or (fixed_of m) 0 0

unfoldable pub values_of : Message → List ℕ → List ℕ → List ℕ → List ℕ
values_of m keys badges numbers = values_by (fixed_of m) keys badges numbers (entries_of m)
