-- The least texts and tables, computed: document 01's sample stands in `sample`.
use Rattle.std.specs.Prelude.{ℕ, ◌≡◌, refl, List, [], ◌∷◌, ◌++◌, replicate}
use Rattle.tables.specs.Layout.{count_words}
use Rattle.tables.specs.Tables.{Tables, tables_of}
use Rattle.schedule.specs.Lines.{lines_of}
use Rattle.schedule.specs.Decimal.{digits}
use Rattle.schedule.specs.Steps.{step_of}
use Rattle.register_text.specs.Text.{register_most, register_printed}
use Rattle.playing.specs.Played.{played, answers_from}
use Rattle.texts.specs.TextPlayed.TextPlayed.{Printed, Refused}
use Rattle.texts.specs.Text.{left_by_lines, print_of, playable, text_left, play_text}

-- tables of no words, and tables that no opening can be accepted on
abbrev none : Tables
none = tables_of [] [] [] [] [] [] [] []

abbrev unopened : Tables
unopened = tables_of (replicate count_words 0) [] [] [] [] [] [] []

-- counts too short are 2, and so with no room too
pub no_tables : (text : List ℕ) → play_text text [] none ≡ text_left (Refused 2) [] none
unfolding play_text playable
no_tables text = refl

-- the register is judged ahead though none will be printed, and so is each line: an empty one
pub no_room : play_text [] [] unopened ≡ text_left (Refused 12) [] unopened
unfolding play_text playable lines_of
no_room = refl

pub no-room_for_a-line : play_text (10 ∷ []) (replicate register_most 0) unopened ≡ text_left (Refused 12) (replicate register_most 0) unopened
unfolding play_text playable lines_of
no-room_for_a-line = refl

-- an empty text prints nothing: before any opening there is no register
pub nothing : play_text [] (replicate register_most 7) unopened ≡ text_left (Printed 0) (replicate register_most 7) unopened
unfolding play_text playable lines_of print_of answers_from left_by_lines register_printed
nothing = refl

-- two empty lines: "1 no 13", "2 no 13"
pub two-lines : print_of (10 ∷ 10 ∷ []) unopened ≡
    (49 ∷ 32 ∷ 110 ∷ 111 ∷ 32 ∷ 49 ∷ 51 ∷ 10 ∷ []) ++ (50 ∷ 32 ∷ 110 ∷ 111 ∷ 32 ∷ 49 ∷ 51 ∷ 10 ∷ [])
unfolding print_of lines_of digits step_of played answers_from left_by_lines register_printed
two-lines = refl
