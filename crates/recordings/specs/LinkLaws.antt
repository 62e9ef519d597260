-- The links one behind the other, as the code meets them.
use Rattle.std.specs.Prelude.{◌≡◌, refl, List, true, false}
use Rattle.std.proofs.Math.Path.{sym, ap, ap₂}
use Rattle.std.proofs.Common.{◌∙◌, add-one}
use Prim.Native.Nat.{ℕ, suc, ◌+◌, ◌-◌, ◌≤◌, ◌<◌}
use native.Mathlib.Omega.{arith}
use Rattle.recordings.specs.Place.{Place}
use Rattle.recordings.specs.Place.{Nowhere, At}
use Rattle.recordings.specs.Compared.{Agree, Differ, Refused}
use Rattle.recordings.specs.Recording.{frames_of, well_made}
use Rattle.recordings.specs.Comparing.{links, client_at, target_at, difference_on, or_else, from_link, compared}
use Rattle.recordings.specs.Whole.{Paired, well-made-least, well-made_stands}

module _ (xs ys : List (List ℕ)) where
  -- the links from one on decide
  pub record Linked (link : ℕ) : Type 0 where
    pub few : link ≤ links
    pub decide : from_link xs ys (links - link) link ≡ from_link xs ys links 0

  pub linked-start : Linked 0
  linked-start = record { few = omega arith; decide = refl }

  module _ {link : ℕ} (l : Linked link) where
    pub linked-end : links ≤ link → Agree ≡ from_link xs ys links 0
    unfolding from_link
    linked-end h = let z : 0 ≡ links - link = omega arith in ap (λ (n : ℕ). from_link xs ys n link) z ∙ l.decide

    module _ (h : link < links) {p : Place} (d : p ≡ difference_on (client_at link) (target_at link) xs ys) where
      here : or_else link p (from_link xs ys (links - (link + 1)) (link + 1)) ≡ from_link xs ys links 0
      unfolding from_link
      here =
          let n = links - (link + 1) in
          let q : suc n ≡ links - link = omega arith in
          ap₂ (λ (p : Place) (m : ℕ). or_else link p (from_link xs ys n m)) d (add-one link)
          ∙ ap (λ (n : ℕ). from_link xs ys n link) q
          ∙ l.decide

      pub linked_differs : {n : ℕ} → p ≡ At n → Differ (client_at link) (target_at link) n ≡ from_link xs ys links 0
      unfolding or_else
      linked_differs e = rw e at here

      pub linked_on : p ≡ Nowhere → Linked (link + 1)
      unfolding or_else
      linked_on e = record { few = omega arith; decide = rw e at here }

-- ---- the whole comparison

module _ (lengths bytes lengths' bytes' : List ℕ) where
  pub compared-refused : well_made lengths bytes ≡ false → Refused 16 ≡ compared lengths bytes lengths' bytes'
  unfolding compared
  compared-refused e = sym (rw e)

  module _ (e : well_made lengths bytes ≡ true) where
    pub compared-refused_other : well_made lengths' bytes' ≡ false → Refused 16 ≡ compared lengths bytes lengths' bytes'
    unfolding compared
    compared-refused_other d = sym (rw (e, d))

    module _ (d : well_made lengths' bytes' ≡ true) where
      pub compared-both : from_link (frames_of lengths bytes) (frames_of lengths' bytes') links 0 ≡ compared lengths bytes lengths' bytes'
      unfolding compared
      compared-both = sym (rw (e, d))

      pub is_paired : Paired lengths bytes lengths' bytes'
      is_paired =
          record {
            one = well-made_stands lengths bytes e;
            other = well-made_stands lengths' bytes' d;
            few = well-made-least lengths bytes e;
          }
