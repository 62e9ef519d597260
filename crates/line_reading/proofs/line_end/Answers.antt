-- Past the text the line ends where it begins; else at the first byte 10 of what is left, or behind it all.
use Rattle.std.proofs.Common.{rules, tests, ◌≡◌, ◌+◌, ◌-◌, length, drop, sym, ap, ◌∙◌, arith, length-drop, take_all, eqb}
use Rattle.std.proofs.lemmas.Iterator.{YieldsList-from_slice}
use Rattle.std.proofs.lemmas.Iterator.Search.{position_from_yields_List}
use Rattle.schedule.specs.Lines.{line_of}
use Rattle.schedule.specs.LineLaws.{end_past, ten-found}
use Rattle.line_reading.proofs.line_end.Goals as goal

pub returns-in_default : goal.returns-in_default
returns-in_default c = sym (end_past c.args.text.now c.args.start (omega (arith, c.in_default.ensures.lookup.0)))

pub returns : goal.returns
returns c =
    let text = c.args.text.now in
    let start = c.args.start in
    let rest = c.in-Some.rest.now in
    let found = position_from_yields_List (λ b. eqb b 10) _ _ c.position.result c.position.ensures.ran
    (YieldsList-from_slice rest c.iter.ensures.rest)
    (λ x b q k. search (rules, tests)) in
    let left : rest ≡ drop start text = c.in-Some.ensures.lookup.0.2 ∙ take_all (length text - start) (drop start text) (omega (arith, length-drop start text)) in
    ap (λ n. start + n) (c.unwrap_or.ensures ∙ ten-found rest found ∙ ap (λ t. length (line_of t)) left)
