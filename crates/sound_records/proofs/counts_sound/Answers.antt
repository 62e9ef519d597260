-- `sound_records::counts_sound` meets its contract: it compares what it read and summed.
use Rattle.sound_records.proofs.counts_sound.Goals as goal

pub returns : goal.returns
returns c = λ t. rw (c.counts_together.ensures t, c.count_at-rows.ensures, c.count_at-writes.ensures)
