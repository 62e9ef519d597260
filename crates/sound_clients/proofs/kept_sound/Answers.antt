-- `sound_clients::kept_sound` meets its contract: the tag, then the badge, then the key.
use mathlib.Core.Bool.{not}
use mathlib.Core.Path.{ap}
use borrow.Author.Tests.{lt-ltb, le-ltb}
use Rattle.ranges.specs.Tests.{fails, holds}
use Rattle.sound_clients.proofs.kept_sound.Goals as goal

pub returns-then-count_at-tag : goal.returns-then-count_at-tag
returns-then-count_at-tag c = λ t. rw (← c.client_word-tag.ensures, ← c.count_at.ensures, le-ltb _ _ c.if-count_at-tag.true)

pub returns-then-not-badge_fits : goal.returns-then-not-badge_fits
returns-then-not-badge_fits c =
    λ t. rw (
      ← c.client_word-tag.ensures,
      ← c.count_at.ensures,
      lt-ltb _ _ c.if-count_at-tag.false,
      fails (rw c.client_word.ensures at c.badge_fits.ensures) (ap not c.if-not-badge_fits.true),
    )

pub returns : goal.returns
returns c =
    λ t. rw (
      ← c.client_word-tag.ensures,
      ← c.count_at.ensures,
      lt-ltb _ _ c.if-count_at-tag.false,
      holds (rw c.client_word.ensures at c.badge_fits.ensures) (ap not c.if-not-badge_fits.false),
    ) (c.asked_sound.ensures t)
