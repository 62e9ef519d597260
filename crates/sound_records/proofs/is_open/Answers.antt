-- `sound_records::is_open` meets its contract: the client, then the end.
use borrow.Author.Tests.{eq-eqb, ne_eqb}
use Rattle.sound_records.proofs.is_open.Goals as goal

pub returns-then-record_word-client : goal.returns-then-record_word-client
returns-then-record_word-client c = rw (← c.record_word.ensures, ne_eqb _ _ c.if-record_word-client.true)

pub returns : goal.returns
returns c = rw (← c.record_word.ensures, eq-eqb _ _ c.if-record_word-client.false, c.record_word-2.ensures)
