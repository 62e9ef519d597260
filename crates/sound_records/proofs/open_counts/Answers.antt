-- `sound_records::open_counts` meets its contract: the records before `place` are counted.
use mathlib.Core.Path.{◌≡◌}
use native.Mathlib.Omega.{arith}
use Rattle.sound_records.specs.Opens.{opens-none}
use borrow.Author.Rules.{rules}
use Rattle.sound_records.proofs.open_counts.Goals as goal

pub loop-place-init : goal.loop-place-init
loop-place-init c = (search rules, opens-none c.args.records.now)

pub count_open-requires : goal.count_open-requires
count_open-requires c =
    record {
      place_lt_record_places = search rules;
      open_counts = c.loop-place.invariant.1;
    }

pub loop-place-preserved : goal.loop-place-preserved
loop-place-preserved c = (search rules, c.count_open.ensures)

pub returns : goal.returns
returns c = let e : c.loop-place.place ≡ c.args.begun = omega arith in rw (← e) c.loop-place.invariant.1
