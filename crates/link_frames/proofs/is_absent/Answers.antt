-- `link_frames::is_absent` meets its contract: no such client, or no such target.
use Prim.Native.Nat.{ℕ}
use mathlib.Core.Path.{ap, ◌∙◌}
use Rattle.refusals.specs.Refusals.{is_target_of}
use Rattle.tables.specs.Lent.{tables_lent}
use Rattle.wire.specs.Cases.{absent-client, absent-target}
use Rattle.link_frames.proofs.is_absent.Goals as goal

pub returns-then-count_at-client : goal.returns-then-count_at-client
returns-then-count_at-client c =
    let a = c.args in
    absent-client a.client a.target (tables_lent a.t.now) c.count_at.ensures
    c.if-count_at-client.true

pub returns : goal.returns
returns c =
    let a = c.args in
    absent-target a.client a.target (tables_lent a.t.now) c.count_at.ensures
    c.if-count_at-client.false (c.is_target.ensures ∙ ap (λ (k : ℕ). is_target_of k a.target) c.count_at-2.ensures)
