-- What is shown of all that the program prints.
use Rattle.std.specs.Prelude.{ℕ, ◌<◌, ◌≡◌, true, List, [], ◌∷◌, ◌++◌}
use Rattle.tables.specs.Tables.{Tables}
use Rattle.rules.specs.Answer.{Ok}
use Rattle.schedule.specs.Lines.{lines_of}
use Rattle.playing.specs.Played.{played_line}
use Rattle.workload.specs.Load.{is_accepted}
use Rattle.load_text.specs.declared.Wanted.{Wanted}
use Rattle.load_text.specs.Asked.{Load}
use Rattle.load_text.specs.Given.{opening, picks, lines_from, rest_of, load_text}

-- the yard accepts some lines, one behind the other
unfoldable pub AllAccepted : List (List ℕ) → Tables → Type 0
AllAccepted [] t = Unit {0}
AllAccepted (line ∷ lines) t = let p = played_line line t in (is_accepted p.shown.word ≡ true) × AllAccepted lines p.tables

pub record Claim : Type 0 where
  -- "every step it gives is accepted": what is printed is a schedule, and the yard accepts each line of it, the opening's too
  pub accepted : (w : Wanted) (t : Tables) → (opening w t).answer ≡ Ok → AllAccepted (lines_of (load_text (Load w) t)) t
  -- a turn prints the next part of what was to be printed, and the turns behind it the rest
  pub later : (left seed : ℕ) (t : Tables) → 0 < left → lines_from left seed t ≡ (picks left seed t).text ++ rest_of (picks left seed t)
