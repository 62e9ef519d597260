-- `sound_clients::tag_sound` meets its contract: it compares what it read.
use Rattle.sound_clients.proofs.tag_sound.Goals as goal

pub returns : goal.returns
returns c = λ t. rw (c.client_word-tag.ensures, c.count_at.ensures)
