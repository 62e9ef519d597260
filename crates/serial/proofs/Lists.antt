-- What holds of each of a list, and of each two.
use Prim.Native.Nat.{ℕ, zero, suc, ◌+◌, ◌≤◌, ◌<◌}
use mathlib.Core.Path.{◌≡◌, refl, sym, ap, ◌∙◌}
use mathlib.Core.Bool.{cond}
use mathlib.Core.List.{List, [], ◌∷◌, ◌++◌}
use native.Mathlib.Nat.{zero-add}
use native.Mathlib.Omega.{arith}
use lib.ListN.{length, get_or, length-append}
use lib.Dec.{eqb, ltb, leb}
use borrow.Author.Tests.{eqb-true, eq-eqb, ne_eqb, ltb-true, ltb-false, leb-true, leb-false, le-leb, lt-leb}
use Rattle.ranges.specs.Tests.{either, by_equal, by-test}
use Rattle.ranges.specs.Each.{Each, each_append, each_map, each_at}
use Rattle.ranges.specs.Inserted.{inserted}
use Rattle.ranges.specs.InsertedLaws.{each-inserted}
use Rattle.claim.specs.History.{Transaction, History}
use Rattle.claim.specs.Row.{reads_of, row_to, row}

module _ {A : Type 0} where
  each_both : (P Q S : A → Type 0) → ((x : A) → P x → Q x → S x) → (xs : List A) → Each P xs → Each Q xs → Each S xs
  each_both P Q S f [] a b = tt
  each_both P Q S f (x ∷ xs) a b = (f x a.0 b.0, each_both P Q S f xs a.1 b.1)

  -- each with every one behind it
  abbrev pub Pairs : (A → A → Type 0) → List A → Type 0
  Pairs R [] = Unit {0}
  Pairs R (x ∷ xs) = Each (R x) xs × Pairs R xs

  pub pairs-append : (R : A → A → Type 0) (xs ys : List A) → Pairs R xs → Pairs R ys → Each (λ x. Each (R x) ys) xs → Pairs R (xs ++ ys)
  pairs-append R [] ys a b c = b
  pairs-append R (x ∷ xs) ys a b c = (each_append (R x) xs ys a.0 c.0, pairs-append R xs ys a.1 b c.1)

  -- what follows of two of them, with what holds of each
  pub pairs-map : (P : A → Type 0) (R Q : A → A → Type 0) → ((x y : A) → P y → R x y → Q x y) →
      (xs : List A) → Each P xs → Pairs R xs → Pairs Q xs
  pairs-map P R Q f [] e a = tt
  pairs-map P R Q f (x ∷ xs) e a = (each_both P (R x) (Q x) (f x) xs e.1 a.0, pairs-map P R Q f xs e.1 a.1)

  -- one member more, by its number: each two stay so, where numbers in order say so of the new one and any other
  module _ (number : A → ℕ) (R : A → A → Type 0) (x : A) (ahead : (y : A) → number y ≤ number x → R y x)
      (behind : (y : A) → number x < number y → R x y) (through : (y z : A) → R x y → R y z → R x z) where
    pub pairs-inserted : (xs : List A) → Pairs R xs → Pairs R (inserted number x xs)
    unfolding inserted
    pairs-inserted [] a = (tt, tt)
    pairs-inserted (y ∷ ys) a =
        by-test (ltb (number x) (number y))
        (λ b.
        let r = behind y (ltb-true _ _ b) in
        rw b ((r, each_map (R y) (R x) (λ z. through y z r) ys a.0), a))
        (λ b. rw b (each-inserted number (R y) x ys (ahead y (ltb-false _ _ b)) a.0, pairs-inserted ys a.1))

  pub pairs_at : (R : A → A → Type 0) (d : A) (xs : List A) → Pairs R xs → (i j : ℕ) → i < j → j < length xs → R (get_or xs i d) (get_or xs j d)
  pairs_at R d [] a i j l k = let z : ⊥ = omega arith in absurd z
  pairs_at R d (x ∷ xs) a i zero l k = let z : ⊥ = omega arith in absurd z
  pairs_at R d (x ∷ xs) a zero (suc j) l k = each_at (R x) d xs a.0 j (omega arith)
  pairs_at R d (x ∷ xs) a (suc i) (suc j) l k = pairs_at R d xs a.1 i j (omega arith) (omega arith)

-- what holds of all READs holds of those of a tag, and they have that tag
abbrev pub OfTag : (Transaction → Type 0) → ℕ → Transaction → Type 0
OfTag P tag x = P x × (x.tag ≡ tag)

pub reads-each : (P : Transaction → Type 0) (tag : ℕ) (xs : List Transaction) → Each P xs → Each (OfTag P tag) (reads_of tag xs)
unfolding reads_of
reads-each P tag [] a = tt
reads-each P tag (x ∷ xs) a =
    let rest = reads-each P tag xs a.1 in
    by-test (eqb x.tag tag)
    (λ e. rw e ((a.0, eqb-true _ _ e), rest))
    (λ e. rw e rest)

pub reads_only : (P : Transaction → Type 0) (tag : ℕ) (xs : List Transaction) → Each P xs → Each P (reads_of tag xs)
reads_only P tag xs a = each_map (OfTag P tag) P (λ x h. h.0) (reads_of tag xs) (reads-each P tag xs a)

pub reads_pairs : (R : Transaction → Transaction → Type 0) (tag : ℕ) (xs : List Transaction) → Pairs R xs → Pairs R (reads_of tag xs)
unfolding reads_of
reads_pairs R tag [] a = tt
reads_pairs R tag (x ∷ xs) a =
    let rest = reads_pairs R tag xs a.1 in
    by-test (eqb x.tag tag)
    (λ e. rw e (reads_only (R x) tag xs a.0, rest))
    (λ e. rw e rest)

-- how many have a tag up to n
abbrev up_to : ℕ → List Transaction → ℕ
up_to n [] = 0
up_to n (x ∷ xs) = cond (leb x.tag n) (suc (up_to n xs)) (up_to n xs)

up_none : (xs : List Transaction) → up_to 0 xs ≡ length (reads_of 0 xs)
unfolding reads_of
up_none [] = refl
up_none (x ∷ xs) =
    let rest = up_none xs in
    by_equal x.tag 0
    (λ e. rw (le-leb x.tag 0 (omega arith), eq-eqb x.tag 0 e, rest))
    (λ d. rw (lt-leb x.tag 0 (omega arith), ne_eqb x.tag 0 d, rest))

up_more : (n : ℕ) (xs : List Transaction) → up_to (suc n) xs ≡ up_to n xs + length (reads_of (suc n) xs)
unfolding reads_of
up_more n [] = refl
up_more n (x ∷ xs) =
    let rest = up_more n xs in
    by-test (leb x.tag n)
    (λ b. let l = leb-true x.tag n b in rw (b, le-leb x.tag (suc n) (omega arith), ne_eqb x.tag (suc n) (λ e. omega arith)) (omega arith))
    (λ b. let l = leb-false x.tag n b in
    by_equal x.tag (suc n)
    (λ e. rw (b, le-leb x.tag (suc n) (omega arith), eq-eqb x.tag (suc n) e) (omega arith))
    (λ d. rw (b, lt-leb x.tag (suc n) (omega arith), ne_eqb x.tag (suc n) d) rest))

up-all : (n : ℕ) (xs : List Transaction) → Each (λ x. x.tag ≤ n) xs → up_to n xs ≡ length xs
up-all n [] a = refl
up-all n (x ∷ xs) a = rw (le-leb x.tag n a.0, up-all n xs a.1)

-- the row up to a tag holds the WRITEs up to it and the READs of tags up to it
row-length : (h : History) (n : ℕ) → length (row_to h n) ≡ n + up_to n h.reads
unfolding row_to
row-length h zero = sym (up_none h.reads) ∙ sym (zero-add (up_to 0 h.reads))
row-length h (suc n) = omega (arith, length-append (row_to h n) (h.write (suc n) ∷ reads_of (suc n) h.reads), row-length h n, up_more n h.reads)

pub row-complete : (h : History) → Each (λ x. x.tag ≤ h.tags) h.reads → length (row h) ≡ h.tags + length h.reads
row-complete h a = row-length h h.tags ∙ ap (λ (n : ℕ). h.tags + n) (up-all h.tags h.reads a)

-- and where the row has all of them, no tag is beyond
up-most : (n : ℕ) (xs : List Transaction) → up_to n xs ≤ length xs
up-most n [] = omega arith
up-most n (x ∷ xs) = either (λ m. m ≤ suc (length xs)) (leb x.tag n) (omega (arith, up-most n xs)) (omega (arith, up-most n xs))

up-every : (n : ℕ) (xs : List Transaction) → up_to n xs ≡ length xs → Each (λ x. x.tag ≤ n) xs
up-every n [] e = tt
up-every n (x ∷ xs) e =
    by-test (leb x.tag n)
    (λ b. let f : suc (up_to n xs) ≡ suc (length xs) = rw b at e in (leb-true _ _ b, up-every n xs (omega arith)))
    (λ b. let f : up_to n xs ≡ suc (length xs) = rw b at e in let z : ⊥ = omega (arith, up-most n xs) in absurd z)

pub complete-whole : (h : History) → length (row h) ≡ h.tags + length h.reads → Each (λ x. x.tag ≤ h.tags) h.reads
complete-whole h e = up-every h.tags h.reads (omega (arith, row-length h h.tags, e))
