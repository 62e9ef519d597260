-- `acceptable_steps::answers` meets its contract: each state that asks is a case law of `answers_in`; a set and an enter have two, by the room.
use Rattle.std.proofs.Common.{arith}
use Rattle.workload.specs.Cases.{in-writing, in-writing-full, in-entering, in-entering-full, in_setpoints, in-other}
use Rattle.acceptable_steps.proofs.answers.Goals as goal

pub returns-then-count_at : goal.returns-then-count_at
returns-then-count_at c =
    let a = c.args in
    let t = a.t.now in
    in-writing a.contents t.counts.now t.keys.now t.log.now a.target a.state c.in-1.is c.count_at.ensures c.if-count_at.true

pub returns-else-count_at : goal.returns-else-count_at
returns-else-count_at c =
    let a = c.args in
    let t = a.t.now in
    in-writing-full a.contents t.counts.now t.keys.now t.log.now a.target a.state c.in-1.is c.count_at.ensures c.if-count_at.false
    c.holds.ensures

pub returns-then-count_at-2 : goal.returns-then-count_at-2
returns-then-count_at-2 c =
    let a = c.args in
    let t = a.t.now in
    in-entering a.contents t.counts.now t.keys.now t.log.now a.target a.state (λ z. omega arith) c.in-2.is
    c.count_at-in-2.ensures c.if-count_at-2.true

pub returns-else-count_at-2 : goal.returns-else-count_at-2
returns-else-count_at-2 c =
    let a = c.args in
    let t = a.t.now in
    in-entering-full a.contents t.counts.now t.keys.now t.log.now a.target a.state (λ z. omega arith) c.in-2.is
    c.count_at-in-2.ensures c.if-count_at-2.false c.has_entry.ensures

pub returns-in-4 : goal.returns-in-4
returns-in-4 c =
    let a = c.args in
    let t = a.t.now in
    in_setpoints a.contents t.counts.now t.keys.now t.log.now a.target a.state (λ z. omega arith) (λ z. omega arith) c.in-4.is
    c.holds-in-4.ensures

pub returns-in_default : goal.returns-in_default
returns-in_default c =
    let a = c.args in
    let t = a.t.now in
    in-other a.contents t.counts.now t.keys.now t.log.now a.target a.state (λ z. omega arith) (λ z. omega arith) (λ z. omega arith)
