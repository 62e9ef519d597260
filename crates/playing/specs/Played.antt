-- What is printed of a line's step, and the tables that it leaves.
use Rattle.std.specs.Prelude.{ℕ, ◌+◌, ◌/◌, ◌≤◌, ◌≡◌, cond, List, [], ◌∷◌, ◌++◌, leb, length, replicate}
use Rattle.tables.specs.Layout.{client_word, client_width, mask_field}
use Rattle.tables.specs.Tables.{Tables}
use Rattle.rules.specs.Answer.{Answer}
use Rattle.rules.specs.Answer as answer
use Rattle.rules.specs.declared.Arrival.{Arrival}
use Rattle.rules.specs.declared.Arrival.TheVariants as arrival
use Rattle.rules.specs.Answers.{Left, Arrived}
use Rattle.refusals.specs.Steps.{open', begin_write, begin_read, deliver_request, deliver_reply, lose, resend}
use Rattle.schedule.specs.declared.Step.{Step}
use Rattle.schedule.specs.declared.Step.TheVariants.{Unreadable, Open, BeginWrite, BeginRead, Request, Reply, Lose, Resend}
use Rattle.schedule.specs.Steps.{step_of}
use Rattle.printing.specs.declared.Word.{Word}
use Rattle.printing.specs.declared.Word.TheVariants as print
use Rattle.printing.specs.Texts.{answer_text}
use Rattle.printing.specs.Printed.{Printed}
use Rattle.printing.specs.Sizes.{answer_most}
use Rattle.playing.specs.declared.Shown.{Shown}

-- the printed word of each answer
abbrev pub answer_word : Answer → Word
answer_word answer.Ok = print.Ok
answer_word (answer.Refused number) = print.No number

abbrev pub arrival_word : Arrival → Word
arrival_word arrival.Wait = print.Wait
arrival_word arrival.Next = print.Next
arrival_word (arrival.Write tag) = print.Write tag
arrival_word (arrival.Read tag) = print.Read tag
arrival_word (arrival.Refused number) = print.No number

-- what is shown of a step, and the tables that it leaves
pub record Played : Type 0 where
  pub shown : Shown
  pub tables : Tables

abbrev pub showing : Shown → Tables → Played
showing s t = record { shown = s; tables = t }

-- a word with nothing shown beside it
abbrev pub noted : Word → ℕ → Shown
noted w mask = record { word = w; mask = mask; setpoints = replicate 16 0; tags = replicate 16 0; badges = replicate 16 0 }

abbrev pub plainly : Word → Shown
plainly w = noted w 0

-- an opening, a begin, a delivered request, a loss and a resend show nothing
abbrev pub left_played : Left → Played
left_played l = showing (plainly (answer_word l.answer)) l.tables

-- a delivered reply shows those of its client's mask
abbrev pub arrived_played : ℕ → Arrived → Played
arrived_played mask a =
    let d = a.delivered in
    showing (record { word = arrival_word d.arrival; mask = mask; setpoints = d.setpoints; tags = d.tags; badges = d.badges })
    a.tables

-- the mask of a client, 0 where it has no row
abbrev pub mask_or_zero : List ℕ → ℕ → ℕ
mask_or_zero clients client = cond (leb (length clients / client_width) client) 0 (client_word clients client mask_field)

-- "A line of any other shape, an empty or longer one too, is no step and gives 13."; each other line is its public step, among them, by
-- document 02: "Two steps are new: a link's request or reply is lost, and a panel sends a lost request again."
unfoldable pub played : Step → List ℕ → Tables → Played
played Unreadable setpoints t = showing (plainly (print.No 13)) t
played (Open method servers clients) setpoints t = left_played (open' method servers clients setpoints t)
played (BeginWrite client mask badge) setpoints t = left_played (begin_write client mask badge setpoints t)
played (BeginRead client mask) setpoints t = left_played (begin_read client mask t)
played (Request client target) setpoints t = left_played (deliver_request client target t)
played (Reply client target) setpoints t = arrived_played (mask_or_zero t.clients client) (deliver_reply client target t)
played (Lose client target) setpoints t = left_played (lose client target t)
played (Resend client target) setpoints t = left_played (resend client target t)

-- what a line shows and leaves
abbrev pub played_line : List ℕ → Tables → Played
played_line line t = let n = step_of line in played n.step n.setpoints t

-- "It prints line number, from 1, and answer"
abbrev pub shown_text : ℕ → Shown → List ℕ
shown_text number s = answer_text number s.word s.mask s.setpoints s.tags s.badges

-- A line is played: what is printed into the lent space from a place on, and the tables then
pub record LinePlayed (number : ℕ) (line : List ℕ) (t : Tables) (out : List ℕ) (at next : ℕ) (left : List ℕ) (t' : Tables) : Type 0 where
  pub printed : Printed out at (shown_text number (played_line line t).shown) next left
  pub short : next ≤ at + answer_most
  pub tables : t' ≡ (played_line line t).tables

-- the answers of some lines, the first of which has a number
unfoldable pub answers_from : ℕ → List (List ℕ) → Tables → List ℕ
answers_from number [] t = []
answers_from number (line ∷ lines) t = let p = played_line line t in shown_text number p.shown ++ answers_from (number + 1) lines p.tables
