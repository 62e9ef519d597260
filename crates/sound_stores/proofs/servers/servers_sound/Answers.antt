-- `sound_stores::servers::servers_sound` meets its contract: the chain over the servers is the definition's fold.
use Rattle.std.proofs.Common.{rules, tests, refl}
use Rattle.ranges.specs.Chains.{all_ran}
use Rattle.sound_stores.proofs.servers.servers_sound.Goals as goal

pub returns : goal.returns
returns c = λ t. all_ran _ _ _ _ _ c.all.result c.all.ensures.ran refl c.count_at-servers.ensures (λ x b q k. search (rules, tests))
