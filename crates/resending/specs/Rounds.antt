-- A round of requests: what the links of a client hold when a content was sent to each server of a mask.
use Rattle.std.specs.Prelude.{ℕ, ◌≤◌, ◌<◌, ◌≡◌, refl, true, false, List, length}
use Rattle.std.proofs.Common.{◌∙◌, arith}
use Rattle.ranges.specs.Tests.{either}
use Rattle.ranges.specs.Turns.{turns, turns_keep-below}
use Rattle.ranges.specs.Picked.{picked}
use Rattle.ranges.specs.PickedLaws.{is-picked, not-picked}
use Rattle.keys.specs.Masks.{has_server}
use Rattle.tables.specs.Links.{targets, HasLinks, link_at, put_link, ContentFits}
use Rattle.tables.specs.LinkLaws.{link-same, link-length, put_beside}
use Rattle.tables.specs.declared.links.Content.{Content}

-- what a link holds
abbrev pub held_on : ℕ → List ℕ → ℕ → Content
held_on q links i = (link_at links q i).content

-- the other links of the same client stay
pub beside : (links : List ℕ) (q i j : ℕ) (content : Content) → (j ≡ i → ⊥) → held_on q (put_link links q i content) j ≡ held_on q links j
unfolding link_at
beside links q i j content d =
    rw (
      put_beside links q i content j 0 d (omega arith),
      put_beside links q i content j 1 d (omega arith),
      put_beside links q i content j 2 d (omega arith),
      put_beside links q i content j 3 d (omega arith),
    )

-- nothing gets longer or shorter
pub sent-length : (q : ℕ) (w : ℕ → Content) (mask k : ℕ) (links : List ℕ) →
    length (turns (picked (has_server mask) (λ i xs. put_link xs q i (w i))) k links) ≡ length links
sent-length q w mask k links =
    let Long : List ℕ → Type 0 = λ xs. length xs ≡ length links in
    turns_keep-below _ Long k (λ i b xs e. either Long (has_server mask i) (link-length xs q i (w i) ∙ e) e) links refl

module _ (q : ℕ) (w : ℕ → Content) (fits : (i : ℕ) → ContentFits (w i)) (mask k : ℕ) (few : k ≤ targets) (links : List ℕ)
    (long : HasLinks links q) where
  abbrev send : ℕ → List ℕ → List ℕ
  send i xs = put_link xs q i (w i)

  abbrev pub sent : List ℕ
  sent = turns (picked (has_server mask) send) k links

  keeps : (i : ℕ) (xs : List ℕ) → HasLinks xs q → HasLinks (send i xs) q
  keeps i xs l = rw (link-length xs q i (w i)) l

  pub sent_there : (j : ℕ) → j < k → has_server mask j ≡ true → held_on q sent j ≡ w j
  sent_there j l e =
      is-picked (held_on q) send w (λ xs. HasLinks xs q) k keeps (λ i xs h l. link-same xs q i (w i) (omega arith) (fits i))
      (λ i j xs h d. beside xs q i j (w i) d) (has_server mask) links long k j (omega arith) l e

  pub sent-not : (j : ℕ) → has_server mask j ≡ false → held_on q sent j ≡ held_on q links j
  sent-not j e =
      not-picked (held_on q) send w (λ xs. HasLinks xs q) k keeps (λ i xs h l. link-same xs q i (w i) (omega arith) (fits i))
      (λ i j xs h d. beside xs q i j (w i) d) (has_server mask) links long k j (omega arith) e
