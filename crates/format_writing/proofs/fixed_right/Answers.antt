-- Before each turn all values so far are right, and the state is the one behind them.
use Rattle.std.proofs.Common.{◌≡◌, ◌<◌, ◌^◌, ◌&&◌, not, ltb, get_or, refl, sym, ap, ◌∙◌, arith}
use Rattle.formats.specs.Format.{width_of, allowed, next_of}
use Rattle.ranges.specs.AllLaws.{all_stop, all_end}
use Rattle.frame_table.specs.Table.{entry_place}
use Rattle.formats.specs.FormatLaws.{rowed_tells}
use Rattle.format_writing.specs.Packing.{right_at, Tried, tried-start, tried-some, tried_at, tried_on}
use Rattle.format_writing.proofs.fixed_right.Goals.{In-loop-place, After-may_have}
use Rattle.format_writing.proofs.fixed_right.Goals as goal

pub loop-place-init : goal.loop-place-init
loop-place-init c = rw c.first-state.ensures (tried-start c.args.fixed.now, refl)

-- the place of the state is that of the turn
module _ (c : In-loop-place) where
  inside : c.loop-place.state.place < entry_place
  inside = omega (arith, c.loop-place.invariant.1, c.loop-place-test.true)

pub may_have-requires : goal.may_have-requires
may_have-requires c =
    let l = c.loop-place in
    rw (← l.invariant.1) (rowed_tells _ l.state.place l.state l.invariant.0.rowed c.requires)

module _ (c : After-may_have) where
  tested :
      let st = c.loop-place.state in
      let v = get_or c.args.fixed.now st.place 0 in
      c.may_have.result ≡ (ltb v (2 ^ width_of st) && allowed st v)
  tested =
      let st = c.loop-place.state in
      c.may_have.ensures
      ∙ ap (λ n. let v = get_or c.args.fixed.now n 0 in ltb v (2 ^ width_of st) && allowed st v) (sym c.loop-place.invariant.1)

pub returns-then-not-may_have : goal.returns-then-not-may_have
returns-then-not-may_have c =
    let a = c.args in
    let l = c.loop-place in
    let h = inside (goal.at.returns-then-not-may_have c).In-loop-place in
    all_stop (right_at a.fixed.now) l.state.place {n = entry_place} (λ i. entry_place) h
    (tried_at l.invariant.0 h (tested (goal.at.returns-then-not-may_have c).After-may_have))
    (ap not c.if-not-may_have.true)

pub next-state-requires : goal.next-state-requires
next-state-requires c =
    let l = c.loop-place in
    let h = inside (goal.at.next-state-requires c).In-loop-place in
    let t = rowed_tells _ l.state.place l.state l.invariant.0.rowed c.requires in
    (tried-some l.invariant.0 h, l.invariant.0.goes.inside, rw (← l.invariant.1) t.0)

pub loop-place-preserved : goal.loop-place-preserved
loop-place-preserved c =
    let l = c.loop-place in
    let t = goal.at.loop-place-preserved c in
    let h = inside t.In-loop-place in
    let next = c.next-state.ensures ∙ ap (λ n. next_of l.state (get_or c.args.fixed.now n 0)) (sym l.invariant.1) in
    let on = tried_on l.invariant.0 h (tested t.After-may_have) next (ap not c.if-not-may_have.false) in
    (on.0, omega (arith, on.1, l.invariant.1))

pub returns : goal.returns
returns c =
    let l = c.loop-place in
    all_end (right_at c.args.fixed.now) l.state.place {n = entry_place} (λ i. entry_place) l.invariant.0.early
    (omega (arith, c.loop-place-test.false, l.invariant.1)) l.invariant.0.right
