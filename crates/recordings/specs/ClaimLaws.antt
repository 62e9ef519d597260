-- What E8 says of comparing holds of `compared`.
use Rattle.std.specs.Prelude.{◌≡◌, List, [], ◌∷◌, Bool, true, false, ◌&&◌, ltb, length, get_or}
use Rattle.std.proofs.Math.Path.{refl, ap₂}
use Rattle.std.proofs.Common.{sym, ap, ◌∙◌, true≢false, ltb-true, ltb-false}
use Prim.Native.Nat.{ℕ, zero, suc, ◌+◌, ◌*◌, ◌≤◌, ◌<◌}
use native.Mathlib.Omega.{arith}
use Rattle.std.proofs.Math.Bool.{cond}
use Rattle.ranges.specs.Tests.{by-test, by_equal}
use Rattle.recordings.specs.Place.{Place}
use Rattle.recordings.specs.Place.{Nowhere, At}
use Rattle.recordings.specs.Compared.{Compared}
use Rattle.recordings.specs.Compared.{Agree, Differ, Refused}
use Rattle.recordings.specs.Recording.{frames_of, well_made}
use Rattle.recordings.specs.Comparing.{frames_on, same, further, first_difference, links, client_at, target_at, difference_on}
use Rattle.recordings.specs.Comparing.{or_else, from_link, compared}
use Rattle.recordings.specs.SameLaws.{same-equal, same_self, same-swapped}
use Rattle.recordings.specs.Claim.{Agreeing, SameAt, First, Named, Right, Claim}

-- ---- the first difference of two rows of frames

further_nowhere : (p : Place) → further p ≡ Nowhere → p ≡ Nowhere
unfolding further
further_nowhere Nowhere e = refl
further_nowhere (At m) e = let z : ◌≡◌ {A = ℕ} 0 1 = cc in let y : ⊥ = omega arith in absurd y

pub nowhere-not_at : {C : Type 0} (n : ℕ) → Nowhere ≡ At n → C
nowhere-not_at n e = let z : ◌≡◌ {A = ℕ} 0 1 = cc in let y : ⊥ = omega arith in absurd y

-- there is none exactly where they are equal
pub nowhere-equal : (xs ys : List (List ℕ)) → first_difference xs ys ≡ Nowhere → xs ≡ ys
unfolding first_difference
nowhere-equal [] [] e = refl
nowhere-equal [] (y ∷ ys) e = nowhere-not_at 0 (sym e)
nowhere-equal (x ∷ xs) [] e = nowhere-not_at 0 (sym e)
nowhere-equal (x ∷ xs) (y ∷ ys) e =
    by-test (same x y)
    (λ s.
    ap₂ (λ (a : List ℕ) (b : List (List ℕ)). a ∷ b) (same-equal x y s)
    (nowhere-equal xs ys (further_nowhere _ (rw s at e))))
    (λ s. nowhere-not_at 0 (sym (rw s at e)))

nowhere_self : (xs : List (List ℕ)) → first_difference xs xs ≡ Nowhere
unfolding first_difference further
nowhere_self [] = refl
nowhere_self (x ∷ xs) = rw (same_self x, nowhere_self xs)

equal_nowhere : (xs ys : List (List ℕ)) → xs ≡ ys → first_difference xs ys ≡ Nowhere
equal_nowhere xs ys e = ap (first_difference xs) (sym e) ∙ nowhere_self xs

-- a place that is told is the first
first_next : {x y : List ℕ} {xs ys : List (List ℕ)} {n : ℕ} → x ≡ y → First xs ys n → First (x ∷ xs) (y ∷ ys) (suc n)
first_next {x} {y} {xs} {ys} {n} e f =
    record {
      some = λ h k. f.some (omega arith) (omega arith);
      differs = λ s. f.differs (record { there = omega (arith, s.there); there_too = omega (arith, s.there_too); equal = s.equal });
      before = go;
    }
  where
    go : (m : ℕ) → m < suc n → SameAt (x ∷ xs) (y ∷ ys) m
    go zero h = record { there = omega arith; there_too = omega arith; equal = e }
    go (suc m) h =
        let s = f.before m (omega arith) in
        record { there = omega (arith, s.there); there_too = omega (arith, s.there_too); equal = s.equal }

no_place : {n : ℕ} {C : Type 0} → n < 0 → C
no_place h = let z : ⊥ = omega arith in absurd z

further-first : (x y : List ℕ) (xs ys : List (List ℕ)) (n : ℕ) (p : Place) → ((m : ℕ) → p ≡ At m → First xs ys m) → x ≡ y
    → further p ≡ At n → First (x ∷ xs) (y ∷ ys) n
unfolding further
further-first x y xs ys n Nowhere f s e = nowhere-not_at n e
further-first x y xs ys n (At m) f s e = let z : n ≡ suc m = cc in rw z (first_next s (f m refl))

at_first : (xs ys : List (List ℕ)) (n : ℕ) → first_difference xs ys ≡ At n → First xs ys n
unfolding first_difference
at_first [] [] n e = nowhere-not_at n e
at_first [] (y ∷ ys) n e =
    let z : n ≡ 0 = cc in
    rw z (record { some = λ h k. omega arith; differs = λ s. omega (arith, s.there); before = λ m h. no_place h })
at_first (x ∷ xs) [] n e =
    let z : n ≡ 0 = cc in
    rw z (record { some = λ h k. omega arith; differs = λ s. omega (arith, s.there_too); before = λ m h. no_place h })
at_first (x ∷ xs) (y ∷ ys) n e =
    by-test (same x y)
    (λ s. further-first x y xs ys n (first_difference xs ys) (at_first xs ys) (same-equal x y s) (rw s at e))
    (λ s.
    let d : At 0 ≡ At n = rw s at e in
    let z : n ≡ 0 = cc in
    rw z
    (record {
      some = λ h k. omega arith;
      differs = λ t. let q : x ≡ y = t.equal in true≢false (sym (ap (same x) (sym q) ∙ same_self x) ∙ s);
      before = λ m h. no_place h;
    }))

-- there is one first only, and none of equal rows
pub first_one : (xs ys : List (List ℕ)) (n m : ℕ) → First xs ys n → First xs ys m → n ≡ m
first_one xs ys n m f g =
    by-test (ltb n m)
    (λ b. absurd (f.differs (g.before n (ltb-true n m b))))
    (λ b. by-test (ltb m n)
    (λ d. absurd (g.differs (f.before m (ltb-true m n d))))
    (λ d. omega (arith, ltb-false n m b, ltb-false m n d)))

pub first_unequal : (xs ys : List (List ℕ)) (n : ℕ) → First xs ys n → xs ≡ ys → ⊥
first_unequal xs ys n f e =
    let l : length xs ≡ length ys = ap (λ (r : List (List ℕ)). length r) e in
    by-test (ltb n (length xs))
    (λ b.
    let h = ltb-true n (length xs) b in
    f.differs (record { there = h; there_too = omega arith; equal = ap (λ (r : List (List ℕ)). get_or r n []) e }))
    (λ b. let h = ltb-false n (length xs) b in f.some h (omega arith))

pub difference-swapped : (xs ys : List (List ℕ)) → first_difference xs ys ≡ first_difference ys xs
unfolding first_difference
difference-swapped [] [] = refl
difference-swapped [] (y ∷ ys) = refl
difference-swapped (x ∷ xs) [] = refl
difference-swapped (x ∷ xs) (y ∷ ys) =
    ap₂ (λ (b : Bool) (p : Place). cond b (further p) (At 0)) (same-swapped x y) (difference-swapped xs ys)

-- ---- the links

module _ (xs ys : List (List ℕ)) where
  abbrev difference_at : ℕ → Place
  difference_at link = difference_on (client_at link) (target_at link) xs ys

  -- what the n links from one on give
  pub data View (n link : ℕ) : Type 0 where
    none : ((l : ℕ) → link ≤ l → l < link + n → difference_on (client_at l) (target_at l) xs ys ≡ Nowhere)
        → from_link xs ys n link ≡ Agree → View n link
    some : (l p : ℕ) → link ≤ l → l < link + n
        → ((m : ℕ) → link ≤ m → m < l → difference_on (client_at m) (target_at m) xs ys ≡ Nowhere)
        → difference_on (client_at l) (target_at l) xs ys ≡ At p
        → from_link xs ys n link ≡ Differ (client_at l) (target_at l) p → View n link

  view-next : (n link : ℕ) → difference_on (client_at link) (target_at link) xs ys ≡ Nowhere → View n (suc link) → View (suc n) link
  unfolding from_link or_else
  view-next n link e (none f d) =
      none (λ l g h. by_equal l link (λ q. rw q e) (λ q. f l (omega arith) (omega arith))) (rw e d)
  view-next n link e (some l p g h f a d) =
      some l p (omega arith) (omega arith) (λ m i j. by_equal m link (λ q. rw q e) (λ q. f m (omega arith) j)) a (rw e d)

  view_by : (n link : ℕ) (p : Place) → difference_on (client_at link) (target_at link) xs ys ≡ p → View n (suc link) → View (suc n) link
  unfolding from_link or_else
  view_by n link Nowhere e v = view-next n link e v
  view_by n link (At p) e v = some link p (omega arith) (omega arith) (λ m i j. let z : ⊥ = omega arith in absurd z) e (rw e)

  pub view : (n link : ℕ) → View n link
  unfolding from_link
  view zero link = none (λ l g h. let z : ⊥ = omega arith in absurd z) refl
  view (suc n) link = view_by n link (difference_on (client_at link) (target_at link) xs ys) refl (view n (suc link))

  -- a link by its client and target
  module _ (c t : ℕ) (h : c < 16) (k : t < 17) where
    abbrev number : ℕ
    number = 17 * c + t

    number-below : 17 * c + t < links
    number-below = omega arith

    pub client_is : client_at (17 * c + t) ≡ c
    client_is = omega arith

    pub target_is : target_at (17 * c + t) ≡ t
    target_is = omega arith

  link_nowhere : (c t : ℕ) → frames_on c t xs ≡ frames_on c t ys → difference_on c t xs ys ≡ Nowhere
  unfolding difference_on
  link_nowhere c t e = equal_nowhere (frames_on c t xs) (frames_on c t ys) e

  pub link-first : (c t n : ℕ) → difference_on c t xs ys ≡ At n → First (frames_on c t xs) (frames_on c t ys) n
  unfolding difference_on
  link-first c t n e = at_first (frames_on c t xs) (frames_on c t ys) n e

  -- and what is named is that link
  module _ (c t n : ℕ) (w : Named xs ys c t n) where
    -- no lower one has a difference
    pub lower : (l : ℕ) → l < 17 * c + t → difference_on (client_at l) (target_at l) xs ys ≡ Nowhere
    lower l h =
        link_nowhere (client_at l) (target_at l)
        (by-test (ltb (client_at l) c)
        (λ b. w.lower_clients (client_at l) (target_at l) (ltb-true (client_at l) c b) (omega arith))
        (λ b.
        let k = ltb-false (client_at l) c b in
        let j = w.target_there in
        let q : client_at l ≡ c = omega arith in
        rw q (w.lower-targets (target_at l) (omega arith))))

  pub links_agree : Agreeing xs ys → from_link xs ys links 0 ≡ Agree
  links_agree a = go (view links 0)
    where
      go : View links 0 → from_link xs ys links 0 ≡ Agree
      go (none f d) = d
      go (some l p g h f e d) =
          nowhere-not_at p (sym (link_nowhere (client_at l) (target_at l) (a (client_at l) (target_at l) (omega arith) (omega arith))) ∙ e)

  pub links-not-refused : {C : Type 0} (n : ℕ) → from_link xs ys links 0 ≡ Refused n → C
  links-not-refused {C} n a = go (view links 0)
    where
      go : View links 0 → C
      go (none f d) =
          let z : Agree ≡ Refused n = sym d ∙ a in
          let y : ◌≡◌ {A = ℕ} 0 1 = cc in
          let x : ⊥ = omega arith in
          absurd x
      go (some l p g h f e d) =
          let z : Differ (client_at l) (target_at l) p ≡ Refused n = sym d ∙ a in
          let y : ◌≡◌ {A = ℕ} 0 1 = cc in
          let x : ⊥ = omega arith in
          absurd x

pub both-swapped : (a b : Bool) → (a && b) ≡ (b && a)
both-swapped true true = refl
both-swapped true false = refl
both-swapped false true = refl
both-swapped false false = refl

module _ (lengths bytes lengths' bytes' : List ℕ) where
  abbrev fine : Bool
  fine = well_made lengths bytes && well_made lengths' bytes'

  pub well : (well_made lengths bytes && well_made lengths' bytes') ≡ true
      → compared lengths bytes lengths' bytes' ≡ from_link (frames_of lengths bytes) (frames_of lengths' bytes') links 0
  unfolding compared
  well e = rw e

  pub ill : (well_made lengths bytes && well_made lengths' bytes') ≡ false → compared lengths bytes lengths' bytes' ≡ Refused 16
  unfolding compared
  ill e = rw e

  -- an answer that is no refusal is of recordings that are well made
  pub is_well : (a : Compared) → (a ≡ Refused 16 → ⊥) → compared lengths bytes lengths' bytes' ≡ a
      → (well_made lengths bytes && well_made lengths' bytes') ≡ true
  is_well a d e =
      by-test (well_made lengths bytes && well_made lengths' bytes') (λ t. t) (λ t. absurd (d (sym e ∙ ill t)))
