-- `begins::send_gets` meets its contract: the walk found the tags, and the loop has asked the masked servers it has passed, each for
-- the key at its tag, and kept tags and keys.
use Rattle.std.proofs.Common.{◌∙◌, arith, rules}
use Rattle.ranges.specs.Turns.{turns-none, turns_more}
use Rattle.keys.specs.Masks.{has_server}
use Rattle.tables.specs.Layout.{tags_field, asked_field}
use Rattle.coordinator.specs.Latest.{latest_word, latest_tag_at}
use Rattle.coordinator.specs.LatestLaws.{latest-within}
use Rattle.log_search.specs.TagsLaws.{laid_there}
use Rattle.rules.specs.WordsLaws.{kept-both-more}
use Rattle.begins.specs.Cases.{asked_at, sent_at, at_tag}
use Rattle.begins.proofs.send_gets.Goals as goal

pub loop-server-init : goal.loop-server-init
loop-server-init c = record { clients = turns-none _ _ ∙ turns-none _ _; links = turns-none _ _ }

-- the walk found a wanted server's tag, which is at most the tag asked for: its entry is there
pub send_get-requires : goal.send_get-requires
send_get-requires c =
    let a = c.args in
    let n = c.loop-server.server in
    let found =
    laid_there (has_server a.mask) (latest_tag_at a.log.now a.tag) a.servers n _ c.latest_tags.ensures
    (omega arith) c.requires.servers_bound.0 c.loop-server-test.true in record {
      has_row = search rules;
      server_bound = (
        omega (arith, c.requires.servers_bound.0),
        λ e. omega (arith, found e, latest-within a.log.now n a.tag, c.requires.servers_bound.1.there),
      );
    }

pub loop-server-preserved : goal.loop-server-preserved
loop-server-preserved c =
    let a = c.args in
    let v = c.loop-server.invariant in
    let f = c.send_get.ensures in
    let n = c.loop-server.server in
    let found =
    laid_there (has_server a.mask) (latest_tag_at a.log.now a.tag) a.servers n _ c.latest_tags.ensures
    (omega arith) c.requires.servers_bound.0 c.loop-server-test.true in record {
      clients = kept-both-more tags_field asked_field (has_server a.mask) (latest_tag_at a.log.now a.tag)
          (latest_word a.log.now a.tag) a.client n _
          (omega arith) v.clients
          (f.clients ∙ at_tag (has_server a.mask n) (asked_at a.client a.log.now n c.loop-server.clients) _ found);
      links = turns_more _ n _ v.links (f.links ∙ at_tag (has_server a.mask n) (sent_at a.client a.log.now n c.loop-server.links) _ found);
    }
