-- What the answers of the reader and the writer mean: document 01's number where they refuse, else their values.
use Rattle.std.specs.Prelude.{ℕ, List, [], ◌∷◌}
use Rattle.frames.specs.declared.Message.{Message}
use Rattle.frames.specs.Reading.{Reading}
use Rattle.frames.specs.Reading as reading
use Rattle.frames.specs.Written.{Written}
use Rattle.frames.specs.Written as written
use Rattle.frames.specs.Messages.{entries_of, fixed_of}

-- the number of the refusal, 0 where there is none, and the values
pub record Meaning : Type 0 where
  pub refusal : ℕ
  pub values : List ℕ

abbrev pub accepted : List ℕ → Meaning
accepted values = record { refusal = 0; values = values }

abbrev pub refused_by : ℕ → Meaning
refused_by n = record { refusal = n; values = [] }

-- writing: the frame's length
abbrev pub written_meaning : Written → Meaning
written_meaning (written.Length n) = accepted (n ∷ [])
written_meaning (written.Refused n) = refused_by n

-- reading: how many entries, then kind, client, target, tag, key, badge, setpoint or mask
abbrev pub message_values : Message → List ℕ
message_values m = entries_of m ∷ fixed_of m

abbrev pub reading_meaning : Reading → Meaning
reading_meaning (reading.Read m) = accepted (message_values m)
reading_meaning (reading.Refused n) = refused_by n
