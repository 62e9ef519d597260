-- Each number of the match is the width.
use mathlib.Core.Path.{sym, ap, ◌∙◌}
use Prim.Native.Nat.{ℕ}
use Rattle.fields.specs.Parts.{put_by_bytes}
use Rattle.fields.proofs.write_field.Goals as goal

pub returns-in-4 : goal.returns-in-4
returns-in-4 c =
    let a = c.args in
    c.put_by_bytes.ensures
    ∙ ap (λ (w : ℕ). put_by_bytes a.bytes.now a.at w a.value) (sym c.in-4.is)

pub returns-in-5 : goal.returns-in-5
returns-in-5 c =
    let a = c.args in
    c.put_by_bytes-in-5.ensures
    ∙ ap (λ (w : ℕ). put_by_bytes a.bytes.now a.at w a.value) (sym c.in-5.is)

pub returns-in-8 : goal.returns-in-8
returns-in-8 c =
    let a = c.args in
    c.put_by_bytes-in-8.ensures
    ∙ ap (λ (w : ℕ). put_by_bytes a.bytes.now a.at w a.value) (sym c.in-8.is)

pub returns-in-16 : goal.returns-in-16
returns-in-16 c =
    let a = c.args in
    c.put_by_bytes-in-16.ensures
    ∙ ap (λ (w : ℕ). put_by_bytes a.bytes.now a.at w a.value) (sym c.in-16.is)

pub returns-in-32 : goal.returns-in-32
returns-in-32 c =
    let a = c.args in
    c.put_by_bytes-in-32.ensures
    ∙ ap (λ (w : ℕ). put_by_bytes a.bytes.now a.at w a.value) (sym c.in-32.is)

pub returns-in_default : goal.returns-in_default
returns-in_default c = c.put_by_bytes-in_default.ensures
