-- `sound_clients::mask_sound` meets its contract: a mask of 0 is an idle client's only.
use lib.Pow.{pow_pos}
use borrow.Author.Tests.{lt-ltb, ne_eqb}
use mathlib.Core.Path.{sym}
use Rattle.tables.specs.Tables.{with_counts, servers_of}
use Rattle.sound_clients.proofs.mask_sound.Goals as goal

pub returns-then-mask-eq0 : goal.returns-then-mask-eq0
returns-then-mask-eq0 c =
    λ t. rw (
      ← c.client_word-mask.ensures,
      ← c.client_word-state.ensures,
      c.if-state-eq-IDLE.true,
      c.if-mask-eq0.true,
    )
    (sym (lt-ltb _ _ (pow_pos (servers_of (with_counts c.args.counts.now t)))))

pub returns-then-state-eq-IDLE : goal.returns-then-state-eq-IDLE
returns-then-state-eq-IDLE c =
    λ t. rw (
      ← c.client_word-mask.ensures,
      ← c.client_word-state.ensures,
      ← c.count_at.ensures,
      c.if-state-eq-IDLE.true,
    ) (rw (ne_eqb _ _ c.if-mask-eq0.false) at c.mask_within.ensures)

pub returns : goal.returns
returns c =
    λ t. rw (
      ← c.client_word-mask.ensures,
      ← c.client_word-state.ensures,
      ← c.count_at-2.ensures,
      ne_eqb _ _ c.if-state-eq-IDLE.false,
    ) c.mask_within-2.ensures
