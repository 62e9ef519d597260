-- A field by whole bytes is the field bit by bit, for every width at any place: what is read, and what is written.
use Rattle.std.specs.Prelude.{◌≡◌, ℕ, zero, suc, ◌+◌, ◌-◌, ◌*◌, ◌/◌, ◌%◌, ◌^◌, ◌≤◌, ◌<◌, List, leb, length, get_or, set}
use Rattle.std.proofs.Common.{sym, ap₂, ◌∙◌, arith}
use Rattle.std.proofs.Math.Path.{ap}
use borrow.Author.Tests.{leb-true, leb-false}
use Rattle.ranges.specs.Tests.{by-test}
use Rattle.fields.specs.Bits.{bit_at, set_bit, field_at, put_field}
use Rattle.fields.specs.FieldLaws.{field_join, put_join, put_other}
use Rattle.fields.specs.Parts.{part_at, put_part, free_of, whole_of, left_of, up_to, field_by_bytes, put_up_to, put_by_bytes}
use Rattle.fields.specs.PartLaws.{part_join, part_bit, part_none, put-parts, put-nothing, with_bit_lem}

-- the w bits from `at` on lie in byte p, with k bits of it behind them
pub record Within (at p w k : ℕ) : Type 0 where
  pub narrow : w + k ≤ 8
  pub ends : at + (w + k) ≡ 8 * p + 8

-- ---- a part of a byte is a field

module _ (bytes : List ℕ) (i p k : ℕ) (h : Within i p 1 k) where
  byte_of : i / 8 ≡ p
  byte_of = omega arith

  bit_of : 7 - i % 8 ≡ k
  bit_of = omega arith

  one_bit : part_at bytes p 1 k ≡ bit_at bytes i
  unfolding bit_at
  one_bit = rw (byte_of, bit_of) (part_bit bytes p k)

  put-one_bit : (v : ℕ) → put_part bytes p 1 k v ≡ set_bit bytes i (v % 2)
  unfolding set_bit put_part
  put-one_bit v = rw (byte_of, bit_of) (ap (set bytes p) (with_bit_lem (get_or bytes p 0) k v))

part_field : (bytes : List ℕ) (at p w k : ℕ) → Within at p w k → part_at bytes p w k ≡ field_at bytes at w
unfolding field_at
part_field bytes at p zero k h = part_none bytes p k
part_field bytes at p (suc w) k h =
    ap (λ (n : ℕ). part_at bytes p n k) (omega arith)
    ∙ part_join bytes p w 1 k
    ∙ ap₂ (λ (m n : ℕ). m * 2 + n) (part_field bytes at p w (1 + k) (omega arith)) (one_bit bytes (at + w) p k (omega arith))

put-part-field : (bytes : List ℕ) (at p w k v : ℕ) → Within at p w k → put_part bytes p w k v ≡ put_field bytes at w v
unfolding put_field
put-part-field bytes at p zero k v h = put-nothing bytes p k v
put-part-field bytes at p (suc w) k v h =
    ap (λ (n : ℕ). put_part bytes p n k v) (omega arith)
    ∙ put-parts bytes p w 1 k v
    ∙ ap (λ (b : List ℕ). put_part b p w (1 + k) (v / 2)) (put-one_bit bytes (at + w) p k (omega arith) v)
    ∙ put-part-field (set_bit bytes (at + w) (v % 2)) at p w (1 + k) (v / 2) (omega arith)

-- ---- the first part and the whole bytes behind it are a field

pub up_to-field : (bytes : List ℕ) (at p free n : ℕ) → Within at p free 0 → up_to bytes p free n ≡ field_at bytes at (free + 8 * n)
unfolding up_to
up_to-field bytes at p free zero h = part_field bytes at p free 0 h ∙ ap (field_at bytes at) (omega arith)
up_to-field bytes at p free (suc n) h =
    let so_far = free + 8 * n in
    ap₂ (λ (x y : ℕ). x * 256 + y) (up_to-field bytes at p free n h) (part_field bytes (at + so_far) (p + suc n) 8 0 (omega arith))
    ∙ sym (field_join bytes at so_far 8)
    ∙ ap (field_at bytes at) (omega arith)

put-up_to-field :
    (bytes : List ℕ) (at p free n v : ℕ) → Within at p free 0 → put_up_to bytes p free n v ≡ put_field bytes at (free + 8 * n) v
unfolding put_up_to
put-up_to-field bytes at p free zero v h =
    put-part-field bytes at p free 0 v h ∙ ap (λ (w : ℕ). put_field bytes at w v) (omega arith)
put-up_to-field bytes at p free (suc n) v h =
    let so_far = free + 8 * n in
    put-up_to-field (put_part bytes (p + suc n) 8 0 v) at p free n (v / 256) h
    ∙ ap (λ (b : List ℕ). put_field b at so_far (v / 256)) (put-part-field bytes (at + so_far) (p + suc n) 8 0 v (omega arith))
    ∙ sym (put_join bytes at so_far 8 v)
    ∙ ap (λ (w : ℕ). put_field bytes at w v) (omega arith)

-- ---- and the last part

module _ (bytes : List ℕ) (at p free n left : ℕ) (h : Within at p free 0) (l : left ≤ 8) where
  across-field : up_to bytes p free n * 2 ^ left + part_at bytes (p + n + 1) left (8 - left) ≡ field_at bytes at (free + 8 * n + left)
  across-field =
      let so_far = free + 8 * n in
      ap₂ (λ (x y : ℕ). x * 2 ^ left + y)
      (up_to-field bytes at p free n h)
      (part_field bytes (at + so_far) (p + n + 1) left (8 - left) (omega arith))
      ∙ sym (field_join bytes at so_far left)

  put_across-field :
      (v : ℕ) → put_up_to (put_part bytes (p + n + 1) left (8 - left) v) p free n (v / 2 ^ left) ≡ put_field bytes at (free + 8 * n + left) v
  put_across-field v =
      let so_far = free + 8 * n in
      put-up_to-field (put_part bytes (p + n + 1) left (8 - left) v) at p free n (v / 2 ^ left) h
      ∙ ap (λ (b : List ℕ). put_field b at so_far (v / 2 ^ left))
      (put-part-field bytes (at + so_far) (p + n + 1) left (8 - left) v (omega arith))
      ∙ sym (put_join bytes at so_far left v)

-- ---- the theorems: "proved the same as bit by bit for every field of 1 to 32 bits at any place", and wider ones

module _ (bytes : List ℕ) (at w : ℕ) where
  -- reading
  pub field_by_bytes_lem : field_by_bytes bytes at w ≡ field_at bytes at w
  unfolding field_by_bytes
  field_by_bytes_lem =
      by-test (leb w (free_of at))
      (λ t. let h = leb-true w (free_of at) t in rw t (part_field bytes at (at / 8) w (free_of at - w) (omega arith)))
      (λ t.
      let h = leb-false w (free_of at) t in
      rw t
      (across-field bytes at (at / 8) (free_of at) (whole_of at w) (left_of at w) (omega arith) (omega arith)
      ∙ ap (field_at bytes at) (omega arith)))

  -- writing
  pub put_by_bytes_lem : (v : ℕ) → put_by_bytes bytes at w v ≡ put_field bytes at w v
  unfolding put_by_bytes
  put_by_bytes_lem v =
      by-test (leb w (free_of at))
      (λ t. let h = leb-true w (free_of at) t in rw t (put-part-field bytes at (at / 8) w (free_of at - w) v (omega arith)))
      (λ t.
      let h = leb-false w (free_of at) t in
      rw t
      (put_across-field bytes at (at / 8) (free_of at) (whole_of at w) (left_of at w) (omega arith) (omega arith) v
      ∙ ap (λ (n : ℕ). put_field bytes at n v) (omega arith)))

  -- every other bit is as before
  pub others_stay : (v j : ℕ) → at + w ≤ 8 * length bytes → (at ≤ j → j < at + w → ⊥) → bit_at (put_by_bytes bytes at w v) j ≡ bit_at bytes j
  others_stay v j h out = ap (λ (b : List ℕ). bit_at b j) (put_by_bytes_lem v) ∙ put_other bytes at w v j h out
