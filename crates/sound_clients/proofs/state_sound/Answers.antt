-- `sound_clients::state_sound` meets its contract: it passes on what it read.
use Rattle.sound_clients.proofs.state_sound.Goals as goal

pub returns : goal.returns
returns c = λ t. rw (← c.count_at-method.ensures, ← c.client_word-state.ensures) c.state_allowed.ensures
