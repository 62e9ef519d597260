-- "The yard program" as one equation: what a whole text prints, and the tables that it leaves.
use Rattle.std.specs.Prelude.{ℕ, ◌+◌, ◌*◌, Bool, cond, not, ◌&&◌, ◌||◌, List, [], ◌∷◌, ◌++◌, length, drop, eqb, leb}
use Rattle.tables.specs.Layout.{count_words}
use Rattle.tables.specs.Tables.{Tables, method_of}
use Rattle.rules.specs.Answers.{ok, no', Said, saying}
use Rattle.soundness.specs.Sound.{sound}
use Rattle.schedule.specs.Lines.{lines_of}
use Rattle.printing.specs.Sizes.{answer_most}
use Rattle.register_text.specs.Text.{register_most, register_printed}
use Rattle.playing.specs.Played.{played_line, answers_from}
use Rattle.texts.specs.TextPlayed.{TextPlayed}
use Rattle.texts.specs.TextPlayed.TextPlayed.{Printed, Refused}

-- the tables that some lines leave
unfoldable pub left_by_lines : List (List ℕ) → Tables → Tables
left_by_lines [] t = t
left_by_lines (line ∷ lines) t = left_by_lines lines (played_line line t).tables

-- "It prints line number, from 1, and answer … then, at the end of the text, the register"
unfoldable pub print_of : List ℕ → Tables → List ℕ
print_of text t = answers_from 1 (lines_of text) t ++ register_printed (left_by_lines (lines_of text) t)

-- whether a text may be played on tables: not opened yet, or sound
unfoldable pub playable : Tables → Bool
playable t = leb count_words (length t.counts) && (eqb (method_of t) 0 || sound t)

-- the bytes that some lines can need: the longest answer of each, and the longest register
abbrev pub room_for : ℕ → ℕ
room_for lines = answer_most * lines + register_most

-- how many bytes it printed, or the number of the refusal
abbrev pub text_said : TextPlayed → Said
text_said (Printed n) = saying ok (n ∷ [])
text_said (Refused n) = saying no' (n ∷ [])

-- what playing a text answers, and the lent space and tables that it leaves
pub record TextLeft : Type 0 where
  pub answer : TextPlayed
  pub said : Said
  pub out : List ℕ
  pub tables : Tables

abbrev pub text_left : TextPlayed → List ℕ → Tables → TextLeft
text_left a out t = record { answer = a; said = text_said a; out = out; tables = t }

-- 2 "tables not sound", then 12 "lent space too small", with everything as before; else the print, and behind it what the space held
unfoldable pub play_text : List ℕ → List ℕ → Tables → TextLeft
play_text text out t =
    cond (not (playable t)) (text_left (Refused 2) out t)
    (cond (not (leb (room_for (length (lines_of text))) (length out))) (text_left (Refused 12) out t)
    (let p = print_of text t in text_left (Printed (length p)) (p ++ drop (length p) out) (left_by_lines (lines_of text) t)))
