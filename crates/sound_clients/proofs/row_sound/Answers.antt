-- `sound_clients::row_sound` meets its contract: each way out is one more test passed.
use mathlib.Core.Bool.{not}
use mathlib.Core.Path.{ap}
use Rattle.ranges.specs.Tests.{fails, holds}
use Rattle.sound_clients.proofs.row_sound.Goals as goal

pub returns-then-not-state_sound : goal.returns-then-not-state_sound
returns-then-not-state_sound c = λ t. rw (fails (c.state_sound.ensures t) (ap not c.if-not-state_sound.true))

pub returns-then-not-count_sound : goal.returns-then-not-count_sound
returns-then-not-count_sound c =
    λ t. rw (
      holds (c.state_sound.ensures t) (ap not c.if-not-state_sound.false),
      fails (c.count_sound.ensures t) (ap not c.if-not-count_sound.true),
    )

pub returns-then-not-mask_sound : goal.returns-then-not-mask_sound
returns-then-not-mask_sound c =
    λ t. rw (
      holds (c.state_sound.ensures t) (ap not c.if-not-state_sound.false),
      holds (c.count_sound.ensures t) (ap not c.if-not-count_sound.false),
      fails (c.mask_sound.ensures t) (ap not c.if-not-mask_sound.true),
    )

pub returns-then-not-tag_sound : goal.returns-then-not-tag_sound
returns-then-not-tag_sound c =
    λ t. rw (
      holds (c.state_sound.ensures t) (ap not c.if-not-state_sound.false),
      holds (c.count_sound.ensures t) (ap not c.if-not-count_sound.false),
      holds (c.mask_sound.ensures t) (ap not c.if-not-mask_sound.false),
      fails (c.tag_sound.ensures t) (ap not c.if-not-tag_sound.true),
    )

pub returns-then-not-badge_fits : goal.returns-then-not-badge_fits
returns-then-not-badge_fits c =
    λ t. rw (
      holds (c.state_sound.ensures t) (ap not c.if-not-state_sound.false),
      holds (c.count_sound.ensures t) (ap not c.if-not-count_sound.false),
      holds (c.mask_sound.ensures t) (ap not c.if-not-mask_sound.false),
      holds (c.tag_sound.ensures t) (ap not c.if-not-tag_sound.false),
      fails (rw c.client_word.ensures at c.badge_fits.ensures) (ap not c.if-not-badge_fits.true),
    )

pub returns : goal.returns
returns c =
    λ t. rw (
      holds (c.state_sound.ensures t) (ap not c.if-not-state_sound.false),
      holds (c.count_sound.ensures t) (ap not c.if-not-count_sound.false),
      holds (c.mask_sound.ensures t) (ap not c.if-not-mask_sound.false),
      holds (c.tag_sound.ensures t) (ap not c.if-not-tag_sound.false),
      holds (rw c.client_word.ensures at c.badge_fits.ensures) (ap not c.if-not-badge_fits.false),
    ) (c.all_kept_sound.ensures t)
