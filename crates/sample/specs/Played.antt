-- Document 01's sample, played into any space that is long enough for its 15 lines: its print stands at the front, and behind it what the
-- space held.
use Rattle.std.specs.Prelude.{ℕ, ◌≤◌, ◌≡◌, List, ◌++◌, length, drop}
use Rattle.std.proofs.Common.{le-leb}
use Rattle.schedule.specs.Lines.{lines_of}
use Rattle.texts.specs.TextPlayed.TextPlayed.{Printed}
use Rattle.texts.specs.Text.{left_by_lines, playable, room_for, text_left, play_text}
use Rattle.sample.specs.Sample.{text, answers, lines, zeros}
use Rattle.sample.specs.Printed.{sample_printed}

pub sample-played : (out : List ℕ) → room_for 15 ≤ length out →
    play_text text out zeros ≡ text_left (Printed 146) ((answers ++ lines) ++ drop 146 out) (left_by_lines (lines_of text) zeros)
unfolding play_text playable zeros text lines_of answers lines
sample-played out h = rw (sample_printed, le-leb (room_for 15) (length out) h)
