-- `begins::start_write` meets its contract: its four calls put one after another.
use native.Mathlib.Omega.{arith}
use lib.ListN.{length, get_or}
use Rattle.tables.specs.Layout.{setpoints_field}
use Rattle.rules.specs.WordsLaws.{kept-every}
use Rattle.begins.proofs.start_write.Goals as goal

pub returns : goal.returns
returns c =
    let words = c.args.setpoints.now in
    let all = kept-every setpoints_field (λ i. get_or words i 0) c.args.client (length words) _ (omega (arith, c.requires.1)) in
    rw (
      c.keep_words.ensures,
      c.put_client_word-2.ensures,
      c.put_client_word.ensures,
      c.start_client.ensures,
    ) all
