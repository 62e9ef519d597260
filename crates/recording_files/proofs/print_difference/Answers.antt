-- A text behind a text, five times.
use mathlib.Core.List.{List, [], ◌∷◌, ◌++◌}
use Prim.Native.Nat.{ℕ}
use native.Mathlib.Omega.{arith}
use Rattle.printing.specs.Texts.{spaced}
use Rattle.printing.specs.PrintedLaws.{printed_then}
use Rattle.recording_files.proofs.print_difference.Goals as goal

pub returns : goal.returns
returns c =
    let a = c.args in
    let out = a.out.now in
    let word : List ℕ = 100 ∷ 105 ∷ 102 ∷ 102 ∷ 101 ∷ 114 ∷ [] in
    let p₁ =
    printed_then out word (spaced a.difference.client) 0 (omega arith) c.print_bytes-word.ensures
    c.print_spaced-panel.ensures.0 in
    let p₂ =
    printed_then out (word ++ spaced a.difference.client) (spaced a.difference.target) 0 (omega arith) p₁
    c.print_spaced-end.ensures.0 in
    let p₃ =
    printed_then out ((word ++ spaced a.difference.client) ++ spaced a.difference.target) (spaced a.difference.place) 0 (omega arith) p₂
    c.print_spaced-last.ensures.0 in
    let p₄ =
    printed_then out (((word ++ spaced a.difference.client) ++ spaced a.difference.target) ++ spaced a.difference.place) (10 ∷ []) 0 (omega arith) p₃
    c.put_byte.ensures in (
      p₄,
      omega (
        arith,
        c.print_bytes-word.ensures.end,
        c.print_spaced-panel.ensures.1,
        c.print_spaced-end.ensures.1,
        c.print_spaced-last.ensures.1,
        c.put_byte.ensures.end,
      ),
    )
