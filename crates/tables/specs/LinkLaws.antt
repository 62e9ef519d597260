-- Laws of links: what is put is read back, every other link stays; and the cases of putting and of reading, as the code meets them.
use Rattle.std.specs.Prelude.{ℕ, ◌<◌, ◌≡◌, refl, true, false, List, length, get_or}
use Rattle.std.proofs.Common.{arith}
use borrow.Author.Tests.{eq-eqb, ne_eqb}
use Rattle.keys.specs.KeyLaws.{word_back}
use Rattle.tables.specs.Rows.{HasRow, place-one, row_same, row_other, row-length, row_swap}
use Rattle.tables.specs.declared.links.Content.{Content}
use Rattle.tables.specs.declared.links.Content.TheVariants.{Nothing, Request, Reply, Lost}
use Rattle.tables.specs.Links.{targets, link_width, link_row, link_word, content_words, content_of, contents_of, link_at, put_link, is_empty}
use Rattle.tables.specs.Links.{ContentFits}

-- What is put is read back, whatever its case: the content goes by its four words.
read_back : (c : Content) → ContentFits c → {kind key number badge : ℕ} →
    kind ≡ get_or (content_words c) 0 0 → key ≡ get_or (content_words c) 1 0 → number ≡ get_or (content_words c) 2 0 → badge ≡ get_or
    (content_words c) 3 0 →
    content_of kind (contents_of key number badge) ≡ c
read_back Nothing f d k n b = rw d
read_back (Request w) f d k n b = rw (d, k, n, b, word_back w.key f)
read_back (Reply w) f d k n b = rw (d, k, n, b, word_back w.key f)
read_back Lost f d k n b = rw d

words_four : (c : Content) → length (content_words c) ≡ 4
words_four Nothing = refl
words_four (Request w) = refl
words_four (Reply w) = refl
words_four Lost = refl

module _ (links : List ℕ) (q i : ℕ) (content : Content) where
  pub put_same : (f : ℕ) → HasRow link_width links (link_row q i) → f < link_width →
      link_word (put_link links q i content) q i f ≡ get_or (content_words content) f 0
  unfolding put_link
  put_same f h g =
      row_same link_width links (link_row q i) (content_words content) f h (rw (words_four content) (omega arith)) (rw (words_four content) g)

  pub link-same : HasRow link_width links (link_row q i) → ContentFits content → (link_at (put_link links q i content) q i).content ≡ content
  unfolding link_at
  link-same h f =
      read_back content f (put_same 0 h (omega arith)) (put_same 1 h (omega arith)) (put_same 2 h (omega arith))
      (put_same 3 h (omega arith))

  -- every other link stays: two rows differ unless client and target are the same
  pub put_other : (p j f : ℕ) → i < targets → j < targets → ((p ≡ q) × (j ≡ i) → ⊥) → f < link_width →
      link_word (put_link links q i content) p j f ≡ link_word links p j f
  unfolding put_link
  put_other p j f h g d l =
      row_other link_width links (link_row q i) (content_words content) (link_row p j) f (rw (words_four content) (omega arith)) l
      (λ e. d (place-one targets p j q i g h e))

  -- of the same client: every other target, whatever its number
  pub put_beside : (j f : ℕ) → (j ≡ i → ⊥) → f < link_width → link_word (put_link links q i content) q j f ≡ link_word links q j f
  unfolding put_link
  put_beside j f d l =
      row_other link_width links (link_row q i) (content_words content) (link_row q j) f (rw (words_four content) (omega arith)) l
      (λ e. d (omega arith))

  pub link_other : (p j : ℕ) → i < targets → j < targets → ((p ≡ q) × (j ≡ i) → ⊥) →
      link_at (put_link links q i content) p j ≡ link_at links p j
  unfolding link_at
  link_other p j h g d =
      rw (
        put_other p j 0 h g d (omega arith),
        put_other p j 1 h g d (omega arith),
        put_other p j 2 h g d (omega arith),
        put_other p j 3 h g d (omega arith),
      )

  pub link-length : length (put_link links q i content) ≡ length links
  unfolding put_link
  link-length = row-length link_width links (link_row q i) (content_words content)

-- Two links at different targets may be put in either order.
pub link_swap : (links : List ℕ) (q i r j : ℕ) (c d : Content) → i < targets → j < targets → (i ≡ j → ⊥) →
    put_link (put_link links q i c) r j d ≡ put_link (put_link links r j d) q i c
unfolding put_link
link_swap links q i r j c d h g apart =
    row_swap link_width links (link_row q i) (link_row r j) (content_words c) (content_words d)
    (rw (words_four c) (omega arith)) (rw (words_four d) (omega arith)) (λ e. apart (place-one targets q i r j h g e).1)

-- Whether a link holds anything, by its kind.
module _ (links : List ℕ) (q i : ℕ) where
  pub full-request : link_word links q i 0 ≡ 1 → false ≡ is_empty (link_at links q i).content
  unfolding link_at
  full-request e = rw e

  pub full-reply : (link_word links q i 0 ≡ 1 → ⊥) → link_word links q i 0 ≡ 2 → false ≡ is_empty (link_at links q i).content
  unfolding link_at
  full-reply f e = rw (ne_eqb _ _ f, eq-eqb _ _ e)

  pub full-lost : (link_word links q i 0 ≡ 1 → ⊥) → (link_word links q i 0 ≡ 2 → ⊥) → link_word links q i 0 ≡ 3 →
      false ≡ is_empty (link_at links q i).content
  unfolding link_at
  full-lost f g e = rw (ne_eqb _ _ f, ne_eqb _ _ g, eq-eqb _ _ e)

  pub none_there : (link_word links q i 0 ≡ 1 → ⊥) → (link_word links q i 0 ≡ 2 → ⊥) → (link_word links q i 0 ≡ 3 → ⊥) →
      true ≡ is_empty (link_at links q i).content
  unfolding link_at
  none_there f g h = rw (ne_eqb _ _ f, ne_eqb _ _ g, ne_eqb _ _ h)
