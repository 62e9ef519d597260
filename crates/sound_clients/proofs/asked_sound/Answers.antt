-- `sound_clients::asked_sound` meets its contract: a client that does not ask, a server that it does not ask, the key.
use mathlib.Core.Bool.{not}
use mathlib.Core.Path.{ap}
use borrow.Author.Tests.{eq-eqb, ne_eqb}
use Rattle.ranges.specs.Tests.{fails, holds}
use Rattle.sound_clients.proofs.asked_sound.Goals as goal

pub returns-then-client_word-ne-ASKING_SETPOINTS : goal.returns-then-client_word-ne-ASKING_SETPOINTS
returns-then-client_word-ne-ASKING_SETPOINTS c = λ t. rw (← c.client_word.ensures, ne_eqb _ _ c.if-client_word-ne-ASKING_SETPOINTS.true)

pub returns-then-not-has_server : goal.returns-then-not-has_server
returns-then-not-has_server c =
    λ t. rw (
      ← c.client_word.ensures,
      eq-eqb _ _ c.if-client_word-ne-ASKING_SETPOINTS.false,
      ← c.client_word-2.ensures,
      fails c.has_server.ensures (ap not c.if-not-has_server.true),
    )

pub returns : goal.returns
returns c =
    λ t. rw (
      ← c.client_word.ensures,
      eq-eqb _ _ c.if-client_word-ne-ASKING_SETPOINTS.false,
      ← c.client_word-2.ensures,
      holds c.has_server.ensures (ap not c.if-not-has_server.false),
      ← c.client_word-word.ensures,
      ← c.count_at.ensures,
    ) c.key_in_range.ensures
