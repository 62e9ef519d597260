-- What is printed so far and what the lines from here on will print is what all lines print.
use Rattle.std.proofs.Common.{refl, ◌∙◌, arith, rules}
use Rattle.tables.specs.Lent.{tables_in}
use Rattle.texts.specs.TextLaws.{line-within, going-begun, going_on, going_room, going_done}
use Rattle.text_lines.proofs.play_lines.Goals as goal

pub loop-start-init : goal.loop-start-init
loop-start-init c =
    let a = c.args in record {
      same = search rules;
      going = going-begun a.text.now (tables_in a.press.now) a.out.now c.requires.playable;
      setpoints = search rules;
    }

pub overflow_add-lines : goal.overflow_add-lines
overflow_add-lines c = omega (arith, c.loop-start.invariant.going.counting.below, c.loop-start-test.true, c.well_formed)

pub play_line-printed-requires : goal.play_line-printed-requires
play_line-printed-requires c =
    let a = c.args in
    let v = c.loop-start.invariant in
    let room = going_room a.text.now (tables_in a.press.now) a.out.now c.requires.text_in_bounds c.loop-start-test.true v.going in
    record {
      playable = v.going.playable;
      setpoints_most_in_bounds = omega (arith, v.setpoints);
      answer_most_in_bounds = omega (arith, room);
    }

pub overflow_add-start : goal.overflow_add-start
overflow_add-start c =
    let within = line-within c.args.text.now c.loop-start-test.true c.line_at-line.ensures in
    omega (arith, within, c.well_formed)

pub overflow_add-start-in-loop-start : goal.overflow_add-start-in-loop-start
overflow_add-start-in-loop-start c =
    let within = line-within c.args.text.now c.loop-start-test.true c.line_at-line.ensures in
    omega (arith, within, c.well_formed)

pub overflow_add-lines-in-loop-start : goal.overflow_add-lines-in-loop-start
overflow_add-lines-in-loop-start c = omega (arith, c.loop-start.invariant.going.counting.below, c.loop-start-test.true, c.well_formed)

pub loop-start-smaller : goal.loop-start-smaller
loop-start-smaller c = omega (arith, c.loop-start-test.true)

pub loop-start-preserved : goal.loop-start-preserved
loop-start-preserved c =
    let a = c.args in
    let p = c.play_line-printed in
    let v = c.loop-start.invariant in record {
      same = search rules;
      going = going_on a.text.now (tables_in a.press.now) a.out.now c.loop-start-test.true v.going c.line_at-line.ensures
          p.ensures.line_played p.auto.out refl;
      setpoints = search rules;
    }

pub returns-clause-lines_played : goal.returns-clause-lines_played
returns-clause-lines_played c =
    going_done c.args.text.now (tables_in c.args.press.now) c.args.out.now (omega (arith, c.loop-start-test.false)) c.loop-start.invariant.going
