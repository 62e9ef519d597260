-- Laws of a bit of a number and of a bit of a row of bytes.
use Rattle.std.specs.Prelude.{◌≡◌, refl, ℕ, zero, suc, ◌+◌, ◌-◌, ◌*◌, ◌/◌, ◌%◌, ◌^◌, ◌<◌, List, [], ◌∷◌, length, get_or, set}
use Rattle.std.proofs.Common.{sym, ap₂, ◌∙◌, pow-suc, not-suc-le-zero, mul_comm, arith, length-set, get_or-set_same, get_or-set_other, ext_get_or}
use Rattle.std.proofs.Math.Path.{ap}
use Rattle.std.proofs.Math.Nat.{pow-zero, div-div-eq-div-mul}
use Rattle.ranges.specs.Tests.{by_equal}
use Rattle.fields.specs.Bits.{bit_of, with_bit, bit_at, set_bit}

-- ---- a number

pub bit_below : (t n : ℕ) → bit_of n t < 2
unfolding bit_of
bit_below zero n = omega arith
bit_below (suc t) n = bit_below t (n / 2)

-- what is set is found
pub bit_with : (t n x : ℕ) → x < 2 → bit_of (with_bit n t x) t ≡ x
unfolding bit_of with_bit
bit_with zero n x h = omega arith
bit_with (suc t) n x h = ap (λ (k : ℕ). bit_of k t) (omega arith) ∙ bit_with t (n / 2) x h

-- and every other bit is as before
pub bit_with_other : (t s n x : ℕ) → x < 2 → (s ≡ t → ⊥) → bit_of (with_bit n t x) s ≡ bit_of n s
unfolding bit_of with_bit
bit_with_other zero zero n x h d = absurd (d refl)
bit_with_other zero (suc s) n x h d = ap (λ (k : ℕ). bit_of k s) (omega arith)
bit_with_other (suc t) zero n x h d = omega arith
bit_with_other (suc t) (suc s) n x h d =
    ap (λ (k : ℕ). bit_of k s) (omega arith) ∙ bit_with_other t s (n / 2) x h (λ e. d (ap suc e))

-- a number of k bits stays one
pub with-below : (t k n x : ℕ) → x < 2 → t < k → n < 2 ^ k → with_bit n t x < 2 ^ k
unfolding with_bit
with-below t zero n x hx ht hn = absurd (not-suc-le-zero ht)
with-below zero (suc k) n x hx ht hn = rw (pow-suc 2 k) (let h : n < 2 ^ k * 2 = rw (pow-suc 2 k) at hn in omega arith)
with-below (suc t) (suc k) n x hx ht hn =
    rw (pow-suc 2 k)
    (let h : n < 2 ^ k * 2 = rw (pow-suc 2 k) at hn in omega (arith, with-below t k (n / 2) x hx (omega arith) (omega arith)))

-- numbers of k bits with equal bits are equal
pub bits-equal : (k n m : ℕ) → n < 2 ^ k → m < 2 ^ k → ((t : ℕ) → t < k → bit_of n t ≡ bit_of m t) → n ≡ m
unfolding bit_of
bits-equal zero n m hn hm e = omega (arith, rw (pow-zero 2) at hn, rw (pow-zero 2) at hm)
bits-equal (suc k) n m hn hm e =
    let hn' : n < 2 ^ k * 2 = rw (pow-suc 2 k) at hn in
    let hm' : m < 2 ^ k * 2 = rw (pow-suc 2 k) at hm in
    let q : n / 2 ≡ m / 2 = bits-equal k (n / 2) (m / 2) (omega arith) (omega arith) (λ t h. e (suc t) (omega arith)) in
    let r : n % 2 ≡ m % 2 = e 0 (omega arith) in
    omega arith

pub bit-zero : (t : ℕ) → bit_of 0 t ≡ 0
unfolding bit_of
bit-zero zero = refl
bit-zero (suc t) = bit-zero t

-- ---- a number, by powers

pub bit_is : (t n : ℕ) → bit_of n t ≡ n / 2 ^ t % 2
unfolding bit_of
bit_is zero n = rw (pow-zero 2) (omega arith)
bit_is (suc t) n =
    bit_is t (n / 2)
    ∙ ap (λ (k : ℕ). k % 2) (div-div-eq-div-mul n 2 (2 ^ t) ∙ ap (λ (k : ℕ). n / k) (mul_comm 2 (2 ^ t) ∙ sym (pow-suc 2 t)))

-- a bit that is set changes the number by what the bit is worth
pub with_is : (t n x : ℕ) → with_bit n t x + bit_of n t * 2 ^ t ≡ n + x * 2 ^ t
unfolding bit_of with_bit
with_is zero n x = omega (arith, pow-zero 2)
with_is (suc t) n x = rw (pow-suc 2 t) (omega (arith, with_is t (n / 2) x))

-- ---- a row of bytes

pub length-set_bit : (bytes : List ℕ) (i x : ℕ) → length (set_bit bytes i x) ≡ length bytes
unfolding set_bit
length-set_bit bytes i x = length-set bytes (i / 8) _

pub bit_at-below : (bytes : List ℕ) (i : ℕ) → bit_at bytes i < 2
unfolding bit_at
bit_at-below bytes i = bit_below (7 - i % 8) (get_or bytes (i / 8) 0)

module _ (bytes : List ℕ) (i x : ℕ) (hx : x < 2) (hi : i < 8 * length bytes) where
  -- what is set is found
  pub bit-set : bit_at (set_bit bytes i x) i ≡ x
  unfolding bit_at set_bit
  bit-set = ap (λ (k : ℕ). bit_of k (7 - i % 8)) (get_or-set_same bytes (i / 8) _ 0 (omega arith)) ∙ bit_with (7 - i % 8) _ x hx

  -- and every other bit is as before
  pub bit-set_other : (j : ℕ) → (j ≡ i → ⊥) → bit_at (set_bit bytes i x) j ≡ bit_at bytes j
  unfolding bit_at set_bit
  bit-set_other j d =
      by_equal (j / 8) (i / 8)
      (λ e.
      ap (λ (k : ℕ). bit_of (get_or (set bytes (i / 8) (with_bit (get_or bytes (i / 8) 0) (7 - i % 8) x)) k 0) (7 - j % 8)) e
      ∙ ap (λ (k : ℕ). bit_of k (7 - j % 8)) (get_or-set_same bytes (i / 8) _ 0 (omega arith))
      ∙ bit_with_other (7 - i % 8) (7 - j % 8) _ x hx (λ (q : 7 - j % 8 ≡ 7 - i % 8). d (omega arith))
      ∙ ap (λ (k : ℕ). bit_of (get_or bytes k 0) (7 - j % 8)) (sym e))
      (λ m. ap (λ (k : ℕ). bit_of k (7 - j % 8)) (get_or-set_other bytes (i / 8) (j / 8) _ 0 m))

-- each element of the list is a byte
abbrev pub Bytes : List ℕ → Type 0
Bytes bytes = (i : ℕ) → get_or bytes i 0 < 256

-- bytes with equal bits are equal
pub bytes-equal : (b d : List ℕ) → Bytes b → Bytes d → length b ≡ length d → ((j : ℕ) → j < 8 * length b → bit_at b j ≡ bit_at d j) → b ≡ d
unfolding bit_at
bytes-equal b d hb hd l e =
    ext_get_or 0 b d l (λ i h. bits-equal 8 (get_or b i 0) (get_or d i 0) (hb i) (hd i) (λ t ht. at i t h ht))
  where
    at : (i t : ℕ) → i < length b → t < 8 → bit_of (get_or b i 0) t ≡ bit_of (get_or d i 0) t
    at i t h ht =
        let q : (8 * i + (7 - t)) / 8 ≡ i = omega arith in
        let r : 7 - (8 * i + (7 - t)) % 8 ≡ t = omega arith in
        ap₂ (λ (x y : ℕ). bit_of (get_or b x 0) y) (sym q) (sym r) ∙ e (8 * i + (7 - t)) (omega arith) ∙ ap₂ (λ (x y : ℕ). bit_of (get_or d x 0) y) q r

set_byte : (bytes : List ℕ) (k v : ℕ) → Bytes bytes → v < 256 → Bytes (set bytes k v)
set_byte [] k v h l i = h i
set_byte (x ∷ bytes) zero v h l zero = l
set_byte (x ∷ bytes) zero v h l (suc i) = h (suc i)
set_byte (x ∷ bytes) (suc k) v h l zero = h zero
set_byte (x ∷ bytes) (suc k) v h l (suc i) = set_byte bytes k v (λ (j : ℕ). h (suc j)) l i

pub set_bit_bytes : (bytes : List ℕ) (i x : ℕ) → x < 2 → Bytes bytes → Bytes (set_bit bytes i x)
unfolding set_bit
set_bit_bytes bytes i x hx h =
    set_byte bytes (i / 8) _ h (with-below (7 - i % 8) 8 (get_or bytes (i / 8) 0) x hx (omega arith) (h (i / 8)))
