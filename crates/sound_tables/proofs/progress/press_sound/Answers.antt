-- `sound_tables::progress::press_sound` meets its contract: it passes on what it read.
use Rattle.sound_tables.proofs.progress.press_sound.Goals as goal

pub returns : goal.returns
returns c =
    λ t. rw (
      ← c.count_at-method.ensures,
      ← c.count_at-servers.ensures,
      ← c.count_at-clients.ensures,
    ) c.press_fits.ensures
