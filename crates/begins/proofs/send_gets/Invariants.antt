-- `begins::send_gets` meets its contract: the walk found the tags, and the loop has asked the masked servers it has passed, each for
-- the key at its tag, and kept tags and keys.
use Rattle.std.proofs.Common.{◌≡◌}
use Rattle.rules.specs.Begin.{sent_gets, kept_asking}
use Rattle.begins.proofs.send_gets.Given as goal

abbrev pub invariant-loop-server : goal.invariant-loop-server
invariant-loop-server l =
    record {
      clients : l.clients ≡ kept_asking l.client l.mask l.log l.tag l.server l.initial.clients;
      links : l.links ≡ sent_gets l.client l.mask l.log l.tag l.server l.initial.links;
    }
