-- What is shown is the answer of the public step, with the mask as it was.
use Rattle.playing.specs.PlayedLaws.{arrived-played}
use Rattle.opened_playing.proofs.deliver_reply.Goals as goal

pub returns : goal.returns
returns c = arrived-played (c.arrived.ensures _) c.mask_of-mask.ensures c.deliver_reply_sound-delivered.ensures
