-- The kind picks the definition's clause; where it is none of the first eleven, the last.
use mathlib.Core.Path.{sym, ap}
use Prim.Native.Nat.{ℕ}
use Rattle.frames.specs.Messages.{message_at}
use Rattle.frames.specs.MessageLaws.{message-last}
use Rattle.frames.proofs.message_at.Goals as goal

pub returns-in_default : goal.returns-in_default
returns-in_default c =
    let a = c.args in
    let r = c.in_default.in_default-own.rest in
    message-last a.kind a.fixed r.0.0.0.0.0.0.0.0.0.0.1 r.0.0.0.0.0.0.0.0.0.1 r.0.0.0.0.0.0.0.0.1 r.0.0.0.0.0.0.0.1 r.0.0.0.0.0.0.1 r.0.0.0.0.0.1 r.0.0.0.0.1 r.0.0.0.1 r.0.0.1 r.0.1 r.1

pub returns-in-1 : goal.returns-in-1
unfolding message_at
returns-in-1 c = ap (λ (k : ℕ). message_at k c.args.fixed) (sym c.in-1.is)

pub returns-in-2 : goal.returns-in-2
unfolding message_at
returns-in-2 c = ap (λ (k : ℕ). message_at k c.args.fixed) (sym c.in-2.is)

pub returns-in-3 : goal.returns-in-3
unfolding message_at
returns-in-3 c = ap (λ (k : ℕ). message_at k c.args.fixed) (sym c.in-3.is)

pub returns-in-4 : goal.returns-in-4
unfolding message_at
returns-in-4 c = ap (λ (k : ℕ). message_at k c.args.fixed) (sym c.in-4.is)

pub returns-in-5 : goal.returns-in-5
unfolding message_at
returns-in-5 c = ap (λ (k : ℕ). message_at k c.args.fixed) (sym c.in-5.is)

pub returns-in-6 : goal.returns-in-6
unfolding message_at
returns-in-6 c = ap (λ (k : ℕ). message_at k c.args.fixed) (sym c.in-6.is)

pub returns-in-7 : goal.returns-in-7
unfolding message_at
returns-in-7 c = ap (λ (k : ℕ). message_at k c.args.fixed) (sym c.in-7.is)

pub returns-in-8 : goal.returns-in-8
unfolding message_at
returns-in-8 c = ap (λ (k : ℕ). message_at k c.args.fixed) (sym c.in-8.is)

pub returns-in-9 : goal.returns-in-9
unfolding message_at
returns-in-9 c = ap (λ (k : ℕ). message_at k c.args.fixed) (sym c.in-9.is)

pub returns-in-10 : goal.returns-in-10
unfolding message_at
returns-in-10 c = ap (λ (k : ℕ). message_at k c.args.fixed) (sym c.in-10.is)

pub returns-in-11 : goal.returns-in-11
unfolding message_at
returns-in-11 c = ap (λ (k : ℕ). message_at k c.args.fixed) (sym c.in-11.is)
