-- Where the row is not there it is 0, else the row's word.
use Rattle.playing.specs.PlayedLaws.{mask-none, mask_held}
use Rattle.step_showing.proofs.mask_of.Goals as goal

pub returns-then-clients-row : goal.returns-then-clients-row
returns-then-clients-row c = let a = c.args in mask-none a.clients.now a.client c.if-clients-row.true

pub returns : goal.returns
returns c = let a = c.args in mask_held a.clients.now a.client c.if-clients-row.false c.client_word.ensures
