-- The definitions by bytes as the code meets them: a turn of each loop, and the two cases of a field.
use Rattle.std.specs.Prelude.{◌≡◌, List}
use Rattle.std.proofs.Common.{◌∙◌, not-suc-le-zero, shl_exact}
use Prim.Native.Nat.{ℕ, zero, suc, ◌+◌, ◌-◌, ◌*◌, ◌/◌, ◌%◌, ◌^◌, ◌≤◌, ◌<◌}
use Rattle.std.proofs.Math.Numerals.{add-one}
use native.Mathlib.Omega.{arith}
use borrow.Author.Tests.{le-leb, lt-leb}
use Rattle.fields.specs.FieldLaws.{field_small}
use Rattle.fields.specs.Parts.{part_at, put_part, free_of, whole_of, left_of, up_to, put_up_to, field_by_bytes, put_by_bytes}
use Rattle.fields.specs.ByBytes.{up_to-field}

-- ---- the first part and whole bytes

module _ (bytes : List ℕ) (p free : ℕ) where
  pub up_to-none : {x : ℕ} → x ≡ part_at bytes p free 0 → x ≡ up_to bytes p free 0
  unfolding up_to
  up_to-none e = e

  pub up_to-more :
      (n : ℕ) {x y : ℕ} →
      x ≡ up_to bytes p free n →
      y ≡ part_at bytes (p + (n + 1)) 8 0 →
      x * 256 + y ≡ up_to bytes p free (n + 1)
  unfolding up_to
  up_to-more n d e = rw (add-one n, d, e, add-one n)

  -- a number of so many bits
  pub up_to-below : (n k : ℕ) → free ≤ 8 → free + 8 * n ≤ k → up_to bytes p free n < 2 ^ k
  up_to-below n k h l =
      let at = 8 * p + (8 - free) in
      rw (up_to-field bytes at p free n (omega arith)) (field_small bytes at (free + 8 * n) k l)

module _ (bytes : List ℕ) (p free v : ℕ) where
  pub put-up_to-none : {n : ℕ} {d : List ℕ} → n ≡ 0 → d ≡ put_part bytes p free 0 v → d ≡ put_up_to bytes p free n v
  unfolding put_up_to
  put-up_to-none z e = e ∙ rw z

  pub put-up_to-more :
      (n : ℕ) {b : List ℕ} →
      0 < n →
      b ≡ put_part bytes (p + n) 8 0 v →
      put_up_to b p free (n - 1) (v / 256) ≡ put_up_to bytes p free n v
  unfolding put_up_to
  put-up_to-more zero h e = absurd (not-suc-le-zero h)
  put-up_to-more (suc n) h e =
      let s : suc n - 1 ≡ n = omega arith in
      rw (e, s)

-- ---- a field: within a byte, or across bytes

module _ (bytes : List ℕ) (at w : ℕ) where
  module _ (h : w ≤ free_of at) where
    pub field-within : {x : ℕ} → x ≡ part_at bytes (at / 8) w (free_of at - w) → x ≡ field_by_bytes bytes at w
    unfolding field_by_bytes
    field-within e = e ∙ rw (le-leb w (free_of at) h)

    pub put-within : (v : ℕ) {b : List ℕ} → b ≡ put_part bytes (at / 8) w (free_of at - w) v → b ≡ put_by_bytes bytes at w v
    unfolding put_by_bytes
    put-within v e = e ∙ rw (le-leb w (free_of at) h)

  module _ (h : free_of at < w) where
    -- the shift cuts nothing
    pub field_across :
        {x y : ℕ} →
        w ≤ 32 →
        x ≡ up_to bytes (at / 8) (free_of at) (whole_of at w) →
        y ≡ part_at bytes (at / 8 + whole_of at w + 1) (left_of at w) (8 - left_of at w) →
        x * 2 ^ left_of at w % 2 ^ 32 + y ≡ field_by_bytes bytes at w
    unfolding field_by_bytes
    field_across {x} {y} l d e =
        let bits = free_of at + 8 * whole_of at w in
        let below : x < 2 ^ bits = rw d (up_to-below bytes (at / 8) (free_of at) (whole_of at w) bits (omega arith) (omega arith)) in
        rw (shl_exact {a = x} bits (left_of at w) 32 below (omega arith), d, e, lt-leb w (free_of at) h)

    pub put_across :
        (v : ℕ) {b d : List ℕ} →
        b ≡ put_part bytes (at / 8 + whole_of at w + 1) (left_of at w) (8 - left_of at w) v →
        d ≡ put_up_to b (at / 8) (free_of at) (whole_of at w) (v / 2 ^ left_of at w) →
        d ≡ put_by_bytes bytes at w v
    unfolding put_by_bytes
    put_across v e q = q ∙ rw (e, lt-leb w (free_of at) h)
