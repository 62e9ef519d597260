-- A longer line asks for nothing; else the first number decides, and behind it those in the rest of the line.
use Rattle.std.proofs.Common.{◌≤◌, length, ap}
use Rattle.schedule.specs.Number.{number_by}
use Rattle.load_text.specs.AskedLaws.{asked_long, asked-none, size-within, rest-length, asked-behind}
use Rattle.load_text.proofs.read_asked.Goals.{In_ok-first}
use Rattle.load_text.proofs.read_asked.Goals as goal

pub returns-then-line-gt-LINE : goal.returns-then-line-gt-LINE
returns-then-line-gt-LINE c = asked_long c.args.line.now c.if-line-gt-LINE.true

pub returns-in_err-first : goal.returns-in_err-first
returns-in_err-first c =
    rw c.from_residual.ensures
    (asked-none c.args.line.now c.if-line-gt-LINE.false c.number_at.ensures (ap number_by c.in_err-first.was))

-- where a number was read
within : (c : In_ok-first) →
    c.in_ok-first.first.size ≤ length c.args.line.now
within c =
    size-within c.args.line.now c.if-line-gt-LINE.false c.number_at.ensures (ap number_by c.in_ok-first.was)

pub slice_bounds-ask_behind-count : goal.slice_bounds-ask_behind-count
slice_bounds-ask_behind-count c = within c

pub slice_bounds-ask_behind-start : goal.slice_bounds-ask_behind-start
slice_bounds-ask_behind-start c = within c

pub ask_behind-requires : goal.ask_behind-requires
ask_behind-requires c = rest-length c.args.line.now c.if-line-gt-LINE.false c.number_at.ensures (ap number_by c.in_ok-first.was)

pub returns : goal.returns
returns c =
    asked-behind c.args.line.now c.if-line-gt-LINE.false c.number_at.ensures (ap number_by c.in_ok-first.was) c.ask_behind.ensures
