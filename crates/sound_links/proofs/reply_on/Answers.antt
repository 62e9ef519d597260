-- `sound_links::reply_on` meets its contract: it passes on what it read.
use mathlib.Core.Bool.{not}
use mathlib.Core.Path.{ap}
use Rattle.ranges.specs.Tests.{fails, holds}
use Rattle.tables.specs.Tables.{with_links}
use Rattle.sound_links.proofs.reply_on.Goals as goal

pub returns-then-not-reply_sound : goal.returns-then-not-reply_sound
returns-then-not-reply_sound c =
    λ t. rw (
      ← c.link_word-number.ensures,
      fails (c.reply_sound.ensures (with_links c.args.links.now t)) (ap not c.if-not-reply_sound.true),
    )

pub returns : goal.returns
returns c =
    λ t. rw (
      ← c.link_word-number.ensures,
      ← c.link_word-badge.ensures,
      holds (c.reply_sound.ensures
          (with_links c.args.links.now t)) (ap not c.if-not-reply_sound.false),
    ) c.badge_sound.ensures
