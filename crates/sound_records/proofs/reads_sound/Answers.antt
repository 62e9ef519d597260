-- `sound_records::reads_sound` meets its contract: the chain over the records is the definition's fold.
use Rattle.std.proofs.Common.{rules, tests, refl}
use Rattle.ranges.specs.Chains.{all_ran}
use Rattle.sound_records.proofs.reads_sound.Goals as goal

pub returns : goal.returns
returns c = λ t. all_ran _ _ _ _ _ c.all.result c.all.ensures.ran refl c.count_at-begun.ensures (λ x b q k. search (rules, tests))
