-- `choice::forget_received` meets its contract: a 0 is kept for every target.
use mathlib.Core.Path.{◌∙◌}
use Rattle.choice.specs.Cases.{none_kept}
use Rattle.choice.proofs.forget_received.Goals as goal

pub returns : goal.returns
returns c =
    let a = c.args in
    c.keep_words.ensures ∙ none_kept a.client a.clients.now
