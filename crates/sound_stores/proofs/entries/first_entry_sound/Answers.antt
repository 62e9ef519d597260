-- `sound_stores::entries::first_entry_sound` meets its contract: the key, then the mask.
use borrow.Author.Tests.{eq-eqb, ne_eqb}
use Rattle.sound_stores.proofs.entries.first_entry_sound.Goals as goal

pub returns-then-key_word-ne0 : goal.returns-then-key_word-ne0
returns-then-key_word-ne0 c = λ t. rw (← c.key_word.ensures, ne_eqb _ _ c.if-key_word-ne0.true)

pub returns : goal.returns
returns c =
    λ t. rw (
      ← c.key_word.ensures,
      eq-eqb _ _ c.if-key_word-ne0.false,
      c.entry_mask.ensures,
      c.all_servers.ensures,
      c.count_at.ensures,
    )
