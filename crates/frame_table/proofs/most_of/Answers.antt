-- A key's own client is held to the frame's client, and the client of a key of count 0 to 0; every other field has the limit that stands in the table.
use Rattle.frame_table.specs.TableLaws.{most-own, most_other, most-opening, most_of_key}
use Rattle.frame_table.proofs.most_of.Goals as goal

pub returns-then-sort-eq-OWN : goal.returns-then-sort-eq-OWN
returns-then-sort-eq-OWN c = let a = c.args in most-own a.sort a.client a.before c.if-sort-eq-OWN.true

pub returns-then-sort-ne-OF : goal.returns-then-sort-ne-OF
returns-then-sort-ne-OF c = let a = c.args in most_other a.sort a.client a.before c.requires c.if-sort-eq-OWN.false c.if-sort-ne-OF.true

pub returns-then-before-eq0 : goal.returns-then-before-eq0
returns-then-before-eq0 c =
    let a = c.args in
    most-opening a.sort a.client a.before c.if-sort-eq-OWN.false c.if-before-eq0.true c.if-sort-ne-OF.false

pub returns : goal.returns
returns c =
    let a = c.args in
    most_of_key a.sort a.client a.before c.requires c.if-sort-eq-OWN.false c.if-before-eq0.false c.if-sort-ne-OF.false
