-- `sound_clients::count_sound` meets its contract: the least count goes by the state.
use mathlib.Core.Path.{sym, ◌∙◌}
use Rattle.sound_clients.proofs.count_sound.Goals as goal

pub returns-then-is_writing : goal.returns-then-is_writing
returns-then-is_writing c =
    λ t. rw (
      ← c.client_word-count.ensures,
      ← c.client_word.ensures,
      sym c.is_writing.ensures ∙ c.if-is_writing.true,
    ) c.between.ensures

pub returns : goal.returns
returns c =
    λ t. rw (
      ← c.client_word-count.ensures,
      ← c.client_word.ensures,
      sym c.is_writing.ensures ∙ c.if-is_writing.false,
    ) c.between-2.ensures
