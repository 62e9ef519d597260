-- Tables that a schedule may be played on with no check of them: not opened yet, or sound.
use Rattle.std.specs.Prelude.{◌≤◌, ◌<◌, length}
use Rattle.tables.specs.Layout.{count_words}
use Rattle.tables.specs.Tables.{Tables, method_of}
use Rattle.soundness.specs.Facts.{Sound}

-- "Before any opening, steps give 2": the method is 0 then, which no opening sets
pub record Playable (t : Tables) : Type 0 where
  pub long : count_words ≤ length t.counts
  pub sound : 0 < method_of t → Sound t
