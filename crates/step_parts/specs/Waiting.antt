-- Whether a client waits, by the kinds of its links gathered by "or": 0 exactly where no link holds anything.
use Rattle.std.specs.Prelude.{ℕ, ◌+◌, ◌≤◌, ◌<◌, ◌≡◌, refl, not, ◌||◌, List, eqb}
use Rattle.std.proofs.Common.{ap, ◌∙◌, arith, add-one, eq-eqb, ne_eqb}
use Rattle.std.specs.Int.Bits.{bit_or, or_add_and}
use Rattle.std.proofs.lemmas.Nat.{and_le_l, and_le_r}
use Rattle.ranges.specs.Tests.{by_equal}
use Rattle.ranges.specs.All.{any_below}
use Rattle.tables.specs.Rows.{HasRow}
use Rattle.tables.specs.Links.{targets, link_width, link_row, link_word, put_link}
use Rattle.tables.specs.LinkLaws.{put_same, put_beside, full-request, full-reply, full-lost, none_there}
use Rattle.tables.specs.declared.links.Content.TheVariants.{Nothing}
use Rattle.rules.specs.Common.{filled}

-- each link of the client is of one of the four kinds
abbrev pub KindsFit : List ℕ → ℕ → Type 0
KindsFit links q = (i : ℕ) → i < targets → link_word links q i 0 ≤ 3

-- a link that is emptied is of the first
pub kinds-emptied : (links : List ℕ) (q i : ℕ) {links' : List ℕ} → HasRow link_width links (link_row q i) → KindsFit links q →
    links' ≡ put_link links q i Nothing → KindsFit links' q
kinds-emptied links q i h k e = rw e (λ j l.
    by_equal j i
    (λ d. rw d (omega (arith, put_same links q i Nothing 0 h (omega arith))))
    (λ d. omega (arith, put_beside links q i Nothing j 0 d (omega arith), k j l)))

-- a link of one of the four kinds holds something where its kind is not 0
filled-kind : (links : List ℕ) (q i : ℕ) → link_word links q i 0 ≤ 3 → not (eqb (link_word links q i 0) 0) ≡ filled links q i
filled-kind links q i h =
    let k = link_word links q i 0 in
    by_equal k 1
    (λ a. ap not (ne_eqb k 0 (λ z. omega arith) ∙ full-request links q i a))
    (λ a. by_equal k 2
    (λ b. ap not (ne_eqb k 0 (λ z. omega arith) ∙ full-reply links q i a b))
    (λ b. by_equal k 3
    (λ c. ap not (ne_eqb k 0 (λ z. omega arith) ∙ full-lost links q i a b c))
    (λ c. ap not (eq-eqb k 0 (omega arith) ∙ none_there links q i a b c))))

-- an "or" is 0 exactly where both are
or_some : (a b : ℕ) → not (eqb (bit_or a b) 0) ≡ (not (eqb a 0) || not (eqb b 0))
or_some a b =
    by_equal a 0
    (λ d. by_equal b 0
    (λ e. rw (eq-eqb (bit_or a b) 0 (omega (arith, or_add_and a b)), eq-eqb a 0 d, eq-eqb b 0 e))
    (λ e. rw (ne_eqb (bit_or a b) 0 (λ z. e (omega (arith, or_add_and a b, and_le_l a b))), eq-eqb a 0 d, ne_eqb b 0 e)))
    (λ d. rw (ne_eqb (bit_or a b) 0 (λ z. d (omega (arith, or_add_and a b, and_le_r a b))), ne_eqb a 0 d))

-- A loop that gathers the kinds, as the code meets it: n links are passed, and what is gathered tells whether one of them holds anything.
abbrev pub Gathered : List ℕ → ℕ → ℕ → ℕ → Type 0
Gathered links q n kinds = not (eqb kinds 0) ≡ any_below (filled links q) n

module _ (links : List ℕ) (q : ℕ) where
  pub gathered_none : Gathered links q 0 0
  unfolding any_below
  gathered_none = refl

  pub gathered-more : (n kinds : ℕ) {kind : ℕ} → Gathered links q n kinds → KindsFit links q → n < targets → kind ≡ link_word links q n 0 →
      Gathered links q (n + 1) (bit_or kinds kind)
  unfolding any_below
  gathered-more n kinds {kind} g fit l e = rw (add-one n) (or_some kinds kind ∙ rw (g, e, filled-kind links q n (fit n l)))
