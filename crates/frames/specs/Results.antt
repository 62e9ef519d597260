-- What the reader and the writer return, as what reading and writing give: a refusal goes by the number of its cause.
use Rattle.std.specs.Prelude.{ℕ, Result, Ok, Err}
use Rattle.causes.specs.declared.Refusal.{Refusal}
use Rattle.causes.specs.Numbers.{number_of}
use Rattle.frames.specs.declared.Message.{Message}
use Rattle.frames.specs.Reading as reading
use Rattle.frames.specs.Written as written

abbrev pub reading_by : Result Message Refusal → reading.Reading
reading_by (Ok message) = reading.Read message
reading_by (Err r) = reading.Refused (number_of r)

abbrev pub length_by : Result ℕ Refusal → written.Written
length_by (Ok n) = written.Length n
length_by (Err r) = written.Refused (number_of r)
