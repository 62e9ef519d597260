-- Laws of printing: nothing, one byte, and one text behind another.
use Rattle.std.specs.Prelude.{ℕ, ◌+◌, ◌≤◌, ◌<◌, ◌≡◌, refl, List, [], ◌∷◌, ◌++◌, length, take, drop, get_or, set}
use Rattle.std.proofs.Common.{ap, sym, ◌∙◌, append_assoc, arith, add-one, length-append, take-append-drop, length-take-le, take-suc, take_at, drop_at, drop-drop}
use Rattle.std.proofs.lemmas.List.{set_split}
use Rattle.printing.specs.Printed.{written, Printed}

module _ (out : List ℕ) (at : ℕ) where
  pub printed-none : at ≤ length out → Printed out at [] at out
  printed-none h =
      let z : at + 0 ≡ at = omega arith in
      record { end = sym z; space = rw (z, take-append-drop at out) }

  pub printed_byte : (byte : ℕ) → at < length out → Printed out at (byte ∷ []) (at + 1) (set out at byte)
  printed_byte byte h = record { end = refl; space = rw (add-one at) (set_split out at byte h) }

-- the space before the end of a text, and from there on
module _ (out text : List ℕ) (at : ℕ) (h : at ≤ length out) where
  front_length : length (take at out ++ text) ≡ at + length text
  front_length = rw (length-append, length-take-le at out h)

  written_front : take (at + length text) (written out at text) ≡ take at out ++ text
  written_front = rw (← append_assoc) (take_at (take at out ++ text) (drop (at + length text) out) (at + length text) front_length)

  written-rest : (n : ℕ) → drop (at + length text + n) (written out at text) ≡ drop (at + length text + n) out
  written-rest n =
      rw (← drop-drop n (at + length text) (written out at text), ← drop-drop n (at + length text) out)
      (ap (λ (l : List ℕ). drop n l) (rw (← append_assoc) (drop_at (take at out ++ text) (drop (at + length text) out) (at + length text) front_length)))

-- a text behind a text is one text
pub printed_then : (out a b : List ℕ) (at : ℕ) {left last : List ℕ} {next end : ℕ} → at ≤ length out → Printed out at a next left → Printed left next b end last → Printed out at (a ++ b) end last
printed_then out a b at h p q =
    let n : at + length a + length b ≡ at + length (a ++ b) = rw length-append (omega arith) in
    record {
      end = q.end ∙ rw p.end n;
      space = q.space ∙ rw (p.space, p.end, written_front out a at h, written-rest out a at h (length b), n, append_assoc, append_assoc);
    }

-- one byte more of a text that is copied
pub printed-more : (out text : List ℕ) (at i : ℕ) {left last : List ℕ} {next end : ℕ} → at ≤ length out → i < length text
    → Printed out at (take i text) next left → Printed left next (get_or text i 0 ∷ []) end last → Printed out at (take (i + 1) text) end last
printed-more out text at i h k p q = rw (add-one i, take-suc text i 0 k) (printed_then out (take i text) (get_or text i 0 ∷ []) at h p q)

-- where i bytes of a text are copied
pub copied_to : (out text : List ℕ) (at i : ℕ) {left : List ℕ} {next : ℕ} → i ≤ length text → Printed out at (take i text) next left → next ≡ at + i
copied_to out text at i h p = p.end ∙ rw (length-take-le i text h)
