-- `sound_lengths::lengths::long_enough` meets its contract: each way out is one more length that is enough.
use Prim.Native.Nat.{◌*◌}
use borrow.Author.Tests.{le-leb, lt-leb}
use Rattle.tables.specs.Layout.{count_words, entry_width, log_places, record_width, record_places}
use Rattle.soundness.specs.Sound.{long_enough}
use Rattle.sound_lengths.proofs.lengths.long_enough.Goals as goal

pub returns-then-t-lt-WORDS : goal.returns-then-t-lt-WORDS
unfolding long_enough
returns-then-t-lt-WORDS c = rw (lt-leb count_words _ c.if-t-lt-WORDS.true)

pub returns-then-t-rows : goal.returns-then-t-rows
unfolding long_enough
returns-then-t-rows c = rw (le-leb count_words _ c.if-t-lt-WORDS.false, lt-leb _ _ c.if-t-rows.true)

pub returns-then-t-rows-2 : goal.returns-then-t-rows-2
unfolding long_enough
returns-then-t-rows-2 c = rw (le-leb count_words _ c.if-t-lt-WORDS.false, le-leb _ _ c.if-t-rows.false, lt-leb _ _ c.if-t-rows-2.true)

pub returns-then-t-servers : goal.returns-then-t-servers
unfolding long_enough
returns-then-t-servers c =
    rw (
      le-leb count_words _ c.if-t-lt-WORDS.false,
      le-leb _ _ c.if-t-rows.false,
      le-leb _ _ c.if-t-rows-2.false,
      lt-leb _ _ c.if-t-servers.true,
    )

pub returns-then-t-servers-2 : goal.returns-then-t-servers-2
unfolding long_enough
returns-then-t-servers-2 c =
    rw (
      le-leb count_words _ c.if-t-lt-WORDS.false,
      le-leb _ _ c.if-t-rows.false,
      le-leb _ _ c.if-t-rows-2.false,
      le-leb _ _ c.if-t-servers.false,
      lt-leb _ _ c.if-t-servers-2.true,
    )

pub returns-then-t : goal.returns-then-t
unfolding long_enough
returns-then-t c =
    rw (
      le-leb count_words _ c.if-t-lt-WORDS.false,
      le-leb _ _ c.if-t-rows.false,
      le-leb _ _ c.if-t-rows-2.false,
      le-leb _ _ c.if-t-servers.false,
      le-leb _ _ c.if-t-servers-2.false,
      lt-leb (entry_width * log_places) _ c.if-t.true,
    )

pub returns-then-t-2 : goal.returns-then-t-2
unfolding long_enough
returns-then-t-2 c =
    rw (
      le-leb count_words _ c.if-t-lt-WORDS.false,
      le-leb _ _ c.if-t-rows.false,
      le-leb _ _ c.if-t-rows-2.false,
      le-leb _ _ c.if-t-servers.false,
      le-leb _ _ c.if-t-servers-2.false,
      le-leb (entry_width * log_places) _ c.if-t.false,
      lt-leb (record_width * record_places) _ c.if-t-2.true,
    )

pub returns : goal.returns
unfolding long_enough
returns c =
    rw (
      le-leb count_words _ c.if-t-lt-WORDS.false,
      le-leb _ _ c.if-t-rows.false,
      le-leb _ _ c.if-t-rows-2.false,
      le-leb _ _ c.if-t-servers.false,
      le-leb _ _ c.if-t-servers-2.false,
      le-leb (entry_width * log_places) _ c.if-t.false,
      le-leb (record_width * record_places) _ c.if-t-2.false,
    )
