-- `losses::resend` meets its contract: lost or not, each a case law of `link_resent`.
use mathlib.Core.Path.{sym, ◌∙◌, ap}
use Rattle.tables.specs.Tables.{tables_of}
use Rattle.tables.specs.declared.links.Link.{Link}
use Rattle.losses.specs.Cases.{none-resent, lost-resent}
use Rattle.losses.proofs.resend.Goals as goal

pub sent-again-requires : goal.sent-again-requires
sent-again-requires c =
    c.requires.sends
    (ap (λ (k : Link). k.content) (sym c.link_at-link.ensures) ∙ c.in-Lost.is)

pub returns-in_default : goal.returns-in_default
returns-in_default c = λ keys values log writes reads. none-resent _ _ _ c.link_at-link.ensures c.in_default.not-Lost

pub returns : goal.returns
returns c =
    let a = c.args in
    λ keys values log writes reads.
    let t = tables_of a.counts.now a.clients.now a.links.now keys values log writes reads in
    lost-resent a.client a.target t c.link_at-link.ensures c.in-Lost.is (c.sent-again.ensures t)
    c.fill.ensures
