-- What the loops of the steps leave in the view: requests sent to each server of a mask, words put into a client's row one behind the other.
use Prim.Native.Nat.{ℕ, ◌+◌, ◌≤◌, ◌<◌}
use mathlib.Core.Path.{◌≡◌, refl, sym, ap, ◌∙◌, fun_ext}
use mathlib.Core.Bool.{Bool, true, false, not, false≢true}
use mathlib.Core.List.{List}
use native.Mathlib.Omega.{arith}
use lib.Dec.{ltb}
use borrow.Author.Tests.{ltb-true, ltb-false, not-true, not-false}
use Rattle.ranges.specs.Tests.{by-test, not-both}
use Rattle.ranges.specs.AllLaws.{any_at, any_of}
use Rattle.ranges.specs.SumLaws.{sum-nothing}
use Rattle.ranges.specs.Turns.{turns, turns_keep-below}
use Rattle.ranges.specs.Picked.{picked}
use Rattle.ranges.specs.PickedLaws.{is-picked, not-picked}
use Rattle.keys.specs.Masks.{has_server}
use Rattle.tables.specs.Rows.{HasRow}
use Rattle.tables.specs.Layout.{client_width, client_word}
use Rattle.tables.specs.Links.{targets, HasLinks, put_link, is_empty, ContentFits}
use Rattle.tables.specs.LinkLaws.{link-same, link_other, link-length}
use Rattle.tables.specs.declared.links.Content.{Content}
use Rattle.tables.specs.declared.links.Content.TheVariants.{Nothing, Request, Reply, Lost}
use Rattle.tables.specs.declared.links.Link.{Link}
use Rattle.rules.specs.Words.{kept_words}
use Rattle.rules.specs.WordsLaws.{kept_other, kept_there}
use Rattle.rules.specs.Common.{pending}
use Rattle.serial.proofs.Press.{within, row_of, content_in, links_of, weight, to_come, sends}
use Rattle.serial.proofs.View.{within_at, within_past, within_same, link-put_other}
use Rattle.serial.proofs.Links.{come-some, sends_masked, sends_other}

-- A content sent to each server of a mask, from a client whose links are empty.
module _ (q : ℕ) (w : ℕ → Content) (fits : (i : ℕ) → ContentFits (w i)) (mask k : ℕ) (small : k ≤ targets) (bound : (i : ℕ) → has_server mask i ≡ true → i < k)
    (links : List ℕ) (long : HasLinks links q) (empty : (i : ℕ) → i < targets → content_in links q i ≡ Nothing) where
  abbrev send : ℕ → List ℕ → List ℕ
  send i xs = put_link xs q i (w i)

  abbrev sent : List ℕ
  sent = turns (picked (has_server mask) send) k links

  keeps : (i : ℕ) (xs : List ℕ) → HasLinks xs q → HasLinks (send i xs) q
  keeps i xs l = rw (link-length xs q i (w i)) l

  same : (i : ℕ) (xs : List ℕ) → i < k → HasLinks xs q → links_of (send i xs) q i ≡ w i
  same i xs h l = within_at targets Nothing (content_in (send i xs) q) i (omega arith) ∙ link-same xs q i (w i) (omega arith) (fits i)

  other : (i j : ℕ) (xs : List ℕ) → i < k → (j ≡ i → ⊥) → links_of (send i xs) q j ≡ links_of xs q j
  other i j xs h d =
      by-test (ltb j targets)
      (λ b. let l = ltb-true j targets b in
      within_at targets Nothing (content_in (send i xs) q) j l ∙ ap (λ (x : Link). x.content) (link_other xs q i (w i) q j (omega arith) l (λ e. d e.1)) ∙ sym (within_at targets Nothing (content_in xs q) j l))
      (λ b. let l = ltb-false j targets b in within_past targets Nothing (content_in (send i xs) q) j l ∙ sym (within_past targets Nothing (content_in xs q) j l))

  none : (j : ℕ) → links_of links q j ≡ Nothing
  none j =
      by-test (ltb j targets)
      (λ b. let l = ltb-true j targets b in within_at targets Nothing (content_in links q) j l ∙ empty j l)
      (λ b. within_past targets Nothing (content_in links q) j (ltb-false j targets b))

  pub sent-links : links_of sent q ≡ sends mask w
  sent-links = fun_ext (λ j.
      by-test (has_server mask j)
      (λ e. is-picked (λ xs i. links_of xs q i) send w (λ xs. HasLinks xs q) k keeps same other (has_server mask) links long k j (omega arith) (bound j e) e ∙ sym (sends_masked mask w j e))
      (λ e. not-picked (λ xs i. links_of xs q i) send w (λ xs. HasLinks xs q) k keeps same other (has_server mask) links long k j (omega arith) e ∙ none j ∙ sym (sends_other mask w j e)))

  pub sent_others : (r : ℕ) → (r ≡ q → ⊥) → links_of sent r ≡ links_of links r
  sent_others r d =
      turns_keep-below (picked (has_server mask) send) (λ xs. links_of xs r ≡ links_of links r) k
      (λ i l xs e.
      by-test (has_server mask i)
      (λ b. rw b (link-put_other xs q i (w i) (omega arith) r d ∙ e))
      (λ b. rw b e)) links refl

-- Words kept in a client's row, from a field on.
module _ (field : ℕ) (wanted : ℕ → Bool) (word : ℕ → ℕ) (q k : ℕ) (room : field + k ≤ client_width) (clients : List ℕ) where
  abbrev kept : List ℕ
  kept = kept_words field wanted word q k clients

  -- they leave the other clients' rows
  pub kept_rows : (r : ℕ) → (r ≡ q → ⊥) → row_of kept r ≡ row_of clients r
  kept_rows r d =
      within_same client_width 0 (client_word kept r) (client_word clients r)
      (λ g l. kept_other field wanted word q k room clients r g l (λ e. d e.0))

  -- and the words ahead of the field
  pub kept-ahead : (f : ℕ) → f < field → row_of kept q f ≡ row_of clients q f
  kept-ahead f l =
      within_at client_width 0 (client_word kept q) f (omega arith)
      ∙ kept_other field wanted word q k room clients q f (omega arith) (λ e. omega (arith, e.1))
      ∙ sym (within_at client_width 0 (client_word clients q) f (omega arith))

  pub kept_word : HasRow client_width clients q → (i : ℕ) → i < k → wanted i ≡ true → row_of kept q (field + i) ≡ word i
  kept_word h i l e =
      within_at client_width 0 (client_word kept q) (field + i) (omega arith)
      ∙ kept_there field wanted word q k room clients i h l e

-- Whether anything is pending is whether anything is to come.
empty-weight : (l : Content) → is_empty l ≡ true → weight l ≡ 0
empty-weight Nothing e = refl
empty-weight (Request w) e = absurd (false≢true e)
empty-weight (Reply w) e = absurd (false≢true e)
empty-weight Lost e = absurd (false≢true e)

full-weight : (l : Content) → is_empty l ≡ false → 0 < weight l
full-weight Nothing e = absurd (false≢true (sym e))
full-weight (Request w) e = omega arith
full-weight (Reply w) e = omega arith
full-weight Lost e = omega arith

module _ (links : List ℕ) (q : ℕ) where
  abbrev full : ℕ → Bool
  full i = not (is_empty (content_in links q i))

  pub pending_come : pending links q ≡ true → 0 < to_come (links_of links q)
  pending_come e =
      let f = any_of full targets e in
      come-some (links_of links q) f.0 f.1 (rw (within_at targets Nothing (content_in links q) f.0 f.1) (full-weight (content_in links q f.0) (not-true _ f.2)))

  pub none_come : pending links q ≡ false → to_come (links_of links q) ≡ 0
  none_come e =
      sum-nothing (λ i. weight (links_of links q i)) targets (λ i l.
      by-test (full i)
      (λ b. absurd (not-both (any_at full targets i l b) e))
      (λ b. ap weight (within_at targets Nothing (content_in links q) i l) ∙ empty-weight (content_in links q i) (not-false _ b)))
