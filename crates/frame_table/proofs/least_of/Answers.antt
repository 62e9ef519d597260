-- A key's own client is held to the frame's client; every other field has the limit that stands in the table.
use Rattle.frame_table.specs.TableLaws.{least-own, least_other}
use Rattle.frame_table.proofs.least_of.Goals as goal

pub returns-then-sort-eq-OWN : goal.returns-then-sort-eq-OWN
returns-then-sort-eq-OWN c = let a = c.args in least-own a.sort a.client 0 c.if-sort-eq-OWN.true

pub returns : goal.returns
returns c = let a = c.args in least_other a.sort a.client 0 c.requires c.if-sort-eq-OWN.false
