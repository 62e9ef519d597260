-- Width and least by what the two hold.
use Rattle.frame_table.specs.Table.{bits_of}
use Rattle.frame_table.proofs.behind_key.Goals as goal

pub returns : goal.returns
unfolding bits_of
returns c = rw (c.limits_of-badges.ensures, c.limits_of-numbers.ensures)
