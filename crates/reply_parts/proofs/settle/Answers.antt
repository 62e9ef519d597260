-- `reply_parts::settle` meets its contract: the link is filled with nothing, and a link that is emptied is of one of the four kinds.
use Rattle.step_parts.specs.Waiting.{kinds-emptied}
use Rattle.reply_parts.proofs.settle.Goals as goal

pub returns : goal.returns
returns c =
    let a = c.args in
    let f = c.fill.ensures in
    record {
      stepped = f.stepped;
      counted' = f.counted';
      emptied = f.linked;
      fit = λ k. kinds-emptied a.links.now a.client a.target c.requires.linked k f.linked;
    }
