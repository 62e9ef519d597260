-- The entries beside a message: what storing them asks, and the cases as the code meets them.
use Rattle.std.specs.Prelude.{ℕ, ◌≤◌, ◌<◌, ◌≡◌, true, false, cond, List, leb}
use Rattle.std.proofs.Common.{◌∙◌, arith, leb-true, le-leb}
use Rattle.std.proofs.lemmas.Bool.{lt-leb}
use Rattle.ranges.specs.Tests.{by-test, both_left, both_right}
use Rattle.frame_table.specs.Table.{has_badges}
use Rattle.frame_table.specs.Columns.{Places}
use Rattle.frame_table.specs.Entry.{behind_of, badge-none}
use Rattle.frame_table.proofs.Entry.{badge-some}
use Rattle.formats.specs.Entries.{enough}
use Rattle.formats.specs.Found.{entries_bit, Unpackable}

-- a kind that has entries, so many of them in the bytes, and places for them.
pub record Storable (kind : ℕ) (bytes : List ℕ) (entries keys badges numbers : ℕ) : Type 0 where
  pub held : Unpackable bytes (entries_bit kind) (behind_of kind) entries
  pub places : Places kind entries keys badges numbers

-- what the test tells
pub are-enough : (kind entries keys badges numbers : ℕ) → enough kind entries keys badges numbers ≡ true
    → Places kind entries keys badges numbers
are-enough kind entries keys badges numbers e =
    let r = both_right (leb entries keys) _ e in
    record {
      for-keys = leb-true _ _ (both_left _ _ e);
      for_badges = λ h. leb-true _ _ (rw h at (both_right (leb entries numbers) _ r));
      for-numbers = leb-true _ _ (both_left _ _ r);
    }

module _ (kind entries keys badges numbers : ℕ) where
  pub enough-keys : keys < entries → false ≡ enough kind entries keys badges numbers
  enough-keys h = rw (lt-leb entries keys h)

  module _ (h : entries ≤ keys) where
    pub enough-numbers : numbers < entries → false ≡ enough kind entries keys badges numbers
    enough-numbers l = rw (le-leb entries keys h, lt-leb entries numbers l)

    module _ (l : entries ≤ numbers) where
      pub enough_plain : has_badges kind ≡ false → true ≡ enough kind entries keys badges numbers
      enough_plain e = rw (le-leb entries keys h, le-leb entries numbers l, e)

      pub enough_badges : has_badges kind ≡ true → leb entries badges ≡ enough kind entries keys badges numbers
      enough_badges e = rw (le-leb entries keys h, le-leb entries numbers l, e)

-- what storing leaves of the badges: a kind that has none has no bits for them
module _ (kind : ℕ) {width : ℕ} (e : width ≡ (behind_of kind).badge) (new old : List ℕ) where
  pub badges-alone : width ≡ 0 → old ≡ cond (has_badges kind) new old
  badges-alone z =
      by-test (has_badges kind)
      (λ t. let f : ⊥ = omega (arith, badge-some kind t) in absurd f)
      (λ t. rw t)

  pub badges-stored : (width ≡ 0 → ⊥) → new ≡ cond (has_badges kind) new old
  badges-stored d = by-test (has_badges kind) (λ t. rw t) (λ t. absurd (d (e ∙ badge-none kind t)))
