-- `sound_numbers::states::uses` meets its contract: each state is one case of the definition.
use borrow.Author.Tests.{ne_eqb}
use mathlib.Core.Path.{sym, ◌∙◌}
use Rattle.soundness.specs.Sound.{uses}
use Rattle.sound_numbers.proofs.states.uses.Goals as goal

pub returns-then-has_server : goal.returns-then-has_server
unfolding uses
returns-then-has_server c = rw (c.in-5.is, sym c.has_server-in-5.ensures ∙ c.if-has_server.true)

pub returns-in-1 : goal.returns-in-1
unfolding uses
returns-in-1 c = rw c.in-1.is c.has_server.ensures

pub returns-in-4 : goal.returns-in-4
unfolding uses
returns-in-4 c = rw c.in-4.is c.has_server-in-4.ensures

pub returns-in-2 : goal.returns-in-2
unfolding uses
returns-in-2 c = rw c.in-2.is

pub returns-in-3 : goal.returns-in-3
unfolding uses
returns-in-3 c = rw c.in-3.is

pub returns-else-has_server : goal.returns-else-has_server
unfolding uses
returns-else-has_server c = rw (c.in-5.is, sym c.has_server-in-5.ensures ∙ c.if-has_server.false)

pub returns-in_default : goal.returns-in_default
unfolding uses
returns-in_default c =
    let d = c.in_default.in_default-own.rest in
    rw (ne_eqb _ _ d.1, ne_eqb _ _ d.0.1, ne_eqb _ _ d.0.0.1, ne_eqb _ _ d.0.0.0.1, ne_eqb _ _ d.0.0.0.0.1)
