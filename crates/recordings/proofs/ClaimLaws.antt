-- Of specs/ClaimLaws: what cites a theorem there that a changed definition can make fail.
use Rattle.std.specs.Prelude.{◌≡◌, List, [], ◌∷◌, Bool, true, false, ◌&&◌, ltb, length, get_or}
use Rattle.std.proofs.Math.Path.{refl, ap₂}
use Rattle.std.proofs.Common.{sym, ap, ◌∙◌, true≢false, ltb-true, ltb-false}
use Prim.Native.Nat.{ℕ, zero, suc, ◌+◌, ◌*◌, ◌≤◌, ◌<◌}
use native.Mathlib.Omega.{arith}
use Rattle.std.proofs.Math.Bool.{cond}
use Rattle.ranges.specs.Tests.{by-test, by_equal}
use Rattle.recordings.specs.Place.{Place}
use Rattle.recordings.specs.Place.{Nowhere, At}
use Rattle.recordings.specs.Compared.{Compared}
use Rattle.recordings.specs.Compared.{Agree, Differ, Refused}
use Rattle.recordings.specs.Recording.{frames_of, well_made}
use Rattle.recordings.specs.Comparing.{frames_on, same, further, first_difference, links, client_at, target_at, difference_on}
use Rattle.recordings.specs.Comparing.{or_else, from_link, compared}
use Rattle.recordings.specs.SameLaws.{same-equal, same_self, same-swapped}
use Rattle.recordings.specs.Claim.{Agreeing, SameAt, First, Named, Right, Claim}
use Rattle.recordings.specs.ClaimLaws.{View, both-swapped, client_is, difference-swapped, first_one, first_unequal, ill, is_well, link-first, links-not-refused, links_agree, lower, none, nowhere-equal, nowhere-not_at, some, target_is, view, well}

module _ (xs ys : List (List ℕ)) where
  -- a link by its client and target
  module _ (c t : ℕ) (h : c < 16) (k : t < 17) where
    difference_is : difference_on (client_at (17 * c + t)) (target_at (17 * c + t)) xs ys ≡ difference_on c t xs ys
    difference_is = ap₂ (λ (a b : ℕ). difference_on a b xs ys) (client_is xs ys c t h k) (target_is xs ys c t h k)

    link-equal : difference_on (client_at (17 * c + t)) (target_at (17 * c + t)) xs ys ≡ Nowhere → frames_on c t xs ≡ frames_on c t ys
    unfolding difference_on
    link-equal e = nowhere-equal (frames_on c t xs) (frames_on c t ys) (sym difference_is ∙ e)

  -- a link with a difference, and none before it, is named
  named_at : (l p : ℕ) → l < links
      → ((m : ℕ) → m < l → difference_on (client_at m) (target_at m) xs ys ≡ Nowhere)
      → difference_on (client_at l) (target_at l) xs ys ≡ At p
      → Named xs ys (client_at l) (target_at l) p
  named_at l p h f e =
      record {
        client_there = omega arith;
        target_there = omega arith;
        lower_clients = λ c t i j. link-equal c t (omega arith) j (f (17 * c + t) (omega arith));
        lower-targets = λ t i. link-equal (client_at l) t (omega arith) (omega arith) (f (17 * client_at l + t) (omega arith));
        first = link-first xs ys (client_at l) (target_at l) p e;
      }

  -- and what is named is that link
  module _ (c t n : ℕ) (w : Named xs ys c t n) where
    one_there : (l p : ℕ) → ((m : ℕ) → m < l → difference_on (client_at m) (target_at m) xs ys ≡ Nowhere)
        → difference_on (client_at l) (target_at l) xs ys ≡ At p
        → Differ (client_at l) (target_at l) p ≡ Differ c t n
    one_there l p f e =
        let i = w.client_there in
        let j = w.target_there in
        by-test (ltb l (17 * c + t))
        (λ b. nowhere-not_at p (sym (lower xs ys c t n w l (ltb-true _ _ b)) ∙ e))
        (λ b. by-test (ltb (17 * c + t) l)
        (λ d. absurd (first_unequal _ _ n w.first (link-equal c t i j (f (17 * c + t) (ltb-true _ _ d)))))
        (λ d.
        let g = ltb-false l (17 * c + t) b in
        let h = ltb-false (17 * c + t) l d in
        let qc : client_at l ≡ c = omega arith in
        let qt : target_at l ≡ t = omega arith in
        let first = link-first xs ys c t p (ap₂ (λ (a b : ℕ). difference_on a b xs ys) (sym qc) (sym qt) ∙ e) in
        let qp : p ≡ n = first_one _ _ p n first w.first in
        λ k. Differ (qc k) (qt k) (qp k)))

  -- ---- what the links of two recordings give

  pub links_agree_only : from_link xs ys links 0 ≡ Agree → Agreeing xs ys
  links_agree_only a = go (view xs ys links 0)
    where
      go : View xs ys links 0 → Agreeing xs ys
      go (none f d) c t h k = link-equal c t h k (f (17 * c + t) (omega arith) (omega arith))
      go (some l p g h f e d) c t i k =
          let z : Differ (client_at l) (target_at l) p ≡ Agree = sym d ∙ a in
          let y : ◌≡◌ {A = ℕ} 0 1 = cc in
          let x : ⊥ = omega arith in
          absurd x

  pub links_differ : (c t n : ℕ) → Named xs ys c t n → from_link xs ys links 0 ≡ Differ c t n
  links_differ c t n w = go (view xs ys links 0)
    where
      go : View xs ys links 0 → from_link xs ys links 0 ≡ Differ c t n
      go (none f d) =
          let i = w.client_there in
          let j = w.target_there in
          absurd (first_unequal _ _ n w.first (link-equal c t i j (f (17 * c + t) (omega arith) (omega arith))))
      go (some l p g h f e d) = d ∙ one_there c t n w l p (λ m k. f m (omega arith) k) e

  pub links_differ_only : (c t n : ℕ) → from_link xs ys links 0 ≡ Differ c t n → Named xs ys c t n
  links_differ_only c t n a = go (view xs ys links 0)
    where
      go : View xs ys links 0 → Named xs ys c t n
      go (none f d) =
          let z : Agree ≡ Differ c t n = sym d ∙ a in
          let y : ◌≡◌ {A = ℕ} 0 1 = cc in
          let x : ⊥ = omega arith in
          absurd x
      go (some l p g h f e d) =
          let z : Differ (client_at l) (target_at l) p ≡ Differ c t n = sym d ∙ a in
          let qc : client_at l ≡ c = cc in
          let qt : target_at l ≡ t = cc in
          let qp : p ≡ n = cc in
          let w : Named xs ys (client_at l) (target_at l) p = named_at l p (omega arith) (λ m k. f m (omega arith) k) e in
          rw (qc, qt, qp) at w

links-swapped : (xs ys : List (List ℕ)) (n link : ℕ) → from_link xs ys n link ≡ from_link ys xs n link
unfolding from_link difference_on
links-swapped xs ys zero link = refl
links-swapped xs ys (suc n) link =
    ap₂ (or_else link)
    (difference-swapped (frames_on (client_at link) (target_at link) xs) (frames_on (client_at link) (target_at link) ys))
    (links-swapped xs ys n (suc link))

-- ---- the claim

module _ (lengths bytes lengths' bytes' : List ℕ) where
  is_right : Right compared lengths bytes lengths' bytes'
  is_right =
      let xs = frames_of lengths bytes in
      let ys = frames_of lengths' bytes' in
      record {
        refused = ill lengths bytes lengths' bytes';
        refused_only =
            λ n e.
            by-test (well_made lengths bytes && well_made lengths' bytes')
            (λ t. links-not-refused xs ys n (sym (well lengths bytes lengths' bytes' t) ∙ e))
            (λ t. let z : Refused 16 ≡ Refused n = sym (ill lengths bytes lengths' bytes' t) ∙ e in let q : n ≡ 16 = cc in (q, t));
        agree = λ t a. well lengths bytes lengths' bytes' t ∙ links_agree xs ys a;
        agree_only =
            λ e.
            let t = is_well lengths bytes lengths' bytes' Agree (λ z. let y : ◌≡◌ {A = ℕ} 0 1 = cc in omega arith) e in
            (t, links_agree_only xs ys (sym (well lengths bytes lengths' bytes' t) ∙ e));
        differ = λ c i n t w. well lengths bytes lengths' bytes' t ∙ links_differ xs ys c i n w;
        differ_only =
            λ c i n e.
            let t = is_well lengths bytes lengths' bytes' (Differ c i n) (λ z. let y : ◌≡◌ {A = ℕ} 0 1 = cc in omega arith) e in
            (t, links_differ_only xs ys c i n (sym (well lengths bytes lengths' bytes' t) ∙ e));
      }

  is-swapped : compared lengths bytes lengths' bytes' ≡ compared lengths' bytes' lengths bytes
  unfolding compared
  is-swapped =
      ap₂ (λ (b : Bool) (a : Compared). cond b a (Refused 16))
      (both-swapped (well_made lengths bytes) (well_made lengths' bytes'))
      (links-swapped (frames_of lengths bytes) (frames_of lengths' bytes') links 0)

pub claim : Claim compared
claim = record { right = is_right; swapped = is-swapped }
