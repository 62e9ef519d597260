-- `sound_numbers::states::state_allowed` meets its contract: the ways out are the cases of method and part.
use borrow.Author.Tests.{eq-eqb, ne_eqb}
use mathlib.Core.Path.{sym, ◌∙◌}
use Rattle.soundness.specs.Sound.{state_allowed}
use Rattle.sound_numbers.proofs.states.state_allowed.Goals as goal

pub returns-then-state-eq-IDLE : goal.returns-then-state-eq-IDLE
unfolding state_allowed
returns-then-state-eq-IDLE c = rw (eq-eqb _ _ c.if-state-eq-IDLE.true)

pub returns-then-client-eq0 : goal.returns-then-client-eq0
unfolding state_allowed
returns-then-client-eq0 c = rw (ne_eqb _ _ c.if-state-eq-IDLE.false, eq-eqb _ _ c.if-method-eq1.true, eq-eqb _ _ c.if-client-eq0.true)

pub returns-then-method-eq1 : goal.returns-then-method-eq1
unfolding state_allowed
returns-then-method-eq1 c =
    rw (
      ne_eqb _ _ c.if-state-eq-IDLE.false,
      eq-eqb _ _ c.if-method-eq1.true,
      ne_eqb _ _ c.if-client-eq0.false,
    ) c.is_writing.ensures

pub returns-then-is_writing : goal.returns-then-is_writing
unfolding state_allowed
returns-then-is_writing c =
    rw (
      ne_eqb _ _ c.if-state-eq-IDLE.false,
      ne_eqb _ _ c.if-method-eq1.false,
      eq-eqb _ _ c.if-method-eq2.true,
      sym c.is_writing-then-method-eq2.ensures ∙ c.if-is_writing.true,
    )

pub returns-then-state-eq-ASKING_KEYS : goal.returns-then-state-eq-ASKING_KEYS
unfolding state_allowed
returns-then-state-eq-ASKING_KEYS c =
    rw (
      ne_eqb _ _ c.if-state-eq-IDLE.false,
      ne_eqb _ _ c.if-method-eq1.false,
      eq-eqb _ _ c.if-method-eq2.true,
      sym c.is_writing-then-method-eq2.ensures ∙ c.if-is_writing.false,
      eq-eqb _ _ c.if-state-eq-ASKING_KEYS.true,
    )

pub returns-then-method-eq2 : goal.returns-then-method-eq2
unfolding state_allowed
returns-then-method-eq2 c =
    rw (
      ne_eqb _ _ c.if-state-eq-IDLE.false,
      ne_eqb _ _ c.if-method-eq1.false,
      eq-eqb _ _ c.if-method-eq2.true,
      sym c.is_writing-then-method-eq2.ensures ∙ c.if-is_writing.false,
      ne_eqb _ _ c.if-state-eq-ASKING_KEYS.false,
    )

pub returns-then-is_writing-2 : goal.returns-then-is_writing-2
unfolding state_allowed
returns-then-is_writing-2 c =
    rw (
      ne_eqb _ _ c.if-state-eq-IDLE.false,
      ne_eqb _ _ c.if-method-eq1.false,
      ne_eqb _ _ c.if-method-eq2.false,
      sym c.is_writing-2.ensures ∙ c.if-is_writing-2.true,
    )

pub returns : goal.returns
unfolding state_allowed
returns c =
    rw (
      ne_eqb _ _ c.if-state-eq-IDLE.false,
      ne_eqb _ _ c.if-method-eq1.false,
      ne_eqb _ _ c.if-method-eq2.false,
      sym c.is_writing-2.ensures ∙ c.if-is_writing-2.false,
    )
