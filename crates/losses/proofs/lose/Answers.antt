-- `losses::lose` meets its contract: something or nothing on the link, each a case law of `link_lost`.
use Rattle.losses.specs.Cases.{none-lost, some-lost}
use Rattle.losses.proofs.lose.Goals as goal

pub returns-in-Nothing : goal.returns-in-Nothing
returns-in-Nothing c = λ clients keys values log writes reads. none-lost _ _ _ c.link_at-link.ensures c.in-Nothing.is

pub returns-in-Request : goal.returns-in-Request
returns-in-Request c =
    λ clients keys values log writes reads.
    some-lost _ _ _ c.link_at-link.ensures c.fill.ensures c.in-Request.is
