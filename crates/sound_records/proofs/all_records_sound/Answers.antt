-- `sound_records::all_records_sound` meets its contract: the chain over the clients is the definition's fold.
use Rattle.std.proofs.Common.{rules, tests, refl}
use Rattle.ranges.specs.Chains.{all_ran}
use Rattle.sound_records.proofs.all_records_sound.Goals as goal

pub returns : goal.returns
returns c = λ t. all_ran _ _ _ _ _ c.all.result c.all.ensures.ran refl c.count_at-rows.ensures (λ x b q k. search (rules, tests))
