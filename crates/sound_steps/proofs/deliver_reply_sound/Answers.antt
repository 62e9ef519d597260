-- `sound_steps::deliver_reply_sound` meets its contract: the reply is taken in, and what its outcome shows is shown.
use Rattle.sound_steps.proofs.deliver_reply_sound.Goals as goal

pub shown-requires : goal.shown-requires
shown-requires c = c.take_reply-outcome.ensures.row

pub returns : goal.returns
returns c = rw c.shown.ensures c.take_reply-outcome.ensures.leaves
