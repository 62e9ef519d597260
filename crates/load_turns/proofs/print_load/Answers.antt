-- Where steps are still wanted the tables are sound, and each turn leaves fewer of them.
use Rattle.std.proofs.Common.{arith, rules}
use Rattle.window.specs.Window.{print_size}
use Rattle.load_text.specs.Asked.{asked_for}
use Rattle.load_text.specs.GivenLaws.{zeros-size}
use Rattle.load_text.specs.TurnLaws.{begins-sound, gave-sound, gave-less, picks-sound, picks-less}
use Rattle.load_turns.proofs.print_load.Goals as goal

pub loop-run-init : goal.loop-run-init
loop-run-init c =
    let began = c.begin_load-run in
    record {
      same = search rules;
      sound = gave-sound began.ensures (begins-sound (asked_for c.read_asked-asked.result) _);
      used = omega (arith, began.ensures.short, began.auto.out);
      size = zeros-size print_size began.auto.out;
    }

pub loop-run-smaller : goal.loop-run-smaller
loop-run-smaller c = gave-less c.in_ok-run.ensures.gave (picks-less _ _ _ c.loop-run-test.true)

pub loop-run-preserved : goal.loop-run-preserved
loop-run-preserved c =
    let wanted = c.loop-run-test.true in
    let sound = c.loop-run.invariant.sound wanted in
    let gave = c.in_ok-run.ensures.gave in
    record {
      same = search rules;
      sound = gave-sound gave (λ h. picks-sound _ _ _ sound);
      used = omega (arith, gave.short, c.give_step.auto.out);
      size = search rules;
    }
