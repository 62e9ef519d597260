-- Laws of the line that asks for a load, one for each way that its reader goes.
use Rattle.std.specs.Prelude.{ℕ, ◌-◌, ◌≤◌, ◌<◌, ◌≡◌, refl, List, [], ◌∷◌, length, take, drop}
use Rattle.std.proofs.Common.{sym, subst, ◌∙◌, arith, length-drop, take_all, le-leb}
use Rattle.std.proofs.lemmas.Bool.{lt-leb}
use Rattle.schedule.specs.Number.{Number}
use Rattle.schedule.specs.Number.{Value, Not}
use Rattle.schedule.specs.Numbers.{number_of, spaced_of, read_then, numbers_behind, numbers_of}
use Rattle.schedule.specs.NumberLaws.{before, Sized, number_sized, skipped}
use Rattle.schedule.specs.Steps.{line_most}
use Rattle.load_text.specs.Asked.{Asked}
use Rattle.load_text.specs.Asked.{Unreadable}
use Rattle.load_text.specs.Asked.{asked_by, asked_of}

-- with a space ahead of the line its first number is read, and the others behind it
first_then : (line : List ℕ) → numbers_of (32 ∷ line) ≡ read_then (number_of line) (λ size. numbers_behind size line)
unfolding numbers_behind spaced_of
first_then line = refl

module _ (line : List ℕ) where
  pub asked_long : line_most < length line → Unreadable ≡ asked_of line
  unfolding asked_of
  asked_long h = rw (lt-leb _ _ h)

  module _ (h : length line ≤ line_most) {r : Number} (is : r ≡ number_of line) where
    pub asked-none : r ≡ Not → Unreadable ≡ asked_of line
    unfolding asked_of
    asked-none e = rw (le-leb _ _ h, first_then line, ← is, e)

    module _ {seed size : ℕ} (e : r ≡ Value seed size) where
      first_sized : Sized (length line) (Value seed size)
      first_sized = subst (Sized (length line)) (sym is ∙ e) (number_sized line)

      pub size-within : size ≤ length line
      size-within = first_sized.1.0

      -- the others stand in what is left of the line, from its middle on
      rest-whole : take (length line - size) (drop size line) ≡ drop size line
      rest-whole = take_all (length line - size) (drop size line) (omega (arith, length-drop size line))

      pub rest-length : length (take (length line - size) (drop size line)) ≤ line_most - 1
      rest-length = rw rest-whole (omega (arith, length-drop size line, first_sized.0, h))

      pub asked-behind : {a : Asked} → a ≡ asked_by (before (seed ∷ []) (numbers_of (take (length line - size) (drop size line)))) →
          a ≡ asked_of line
      unfolding asked_of
      asked-behind f =
          f ∙ rw (le-leb _ _ h, first_then line, ← is, e, rest-whole, skipped size line)
