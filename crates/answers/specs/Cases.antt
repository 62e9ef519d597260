-- The cases of an answer that goes by the counts alone, as the code meets them.
use Rattle.std.specs.Prelude.{ℕ, ◌≡◌, List}
use Rattle.std.proofs.Common.{eq-eqb, ne_eqb}
use Rattle.tables.specs.Tables.{Tables, entries_of, held_of}
use Rattle.rules.specs.Answer.{Answer}
use Rattle.rules.specs.Common.{coordinator, reply}
use Rattle.rules.specs.Request.{on_which_keys, on_get_all}
use Rattle.answers.specs.Answered.{Answered, replaced}

module _ (q i : ℕ) (t : Tables) {r : Answer} {counts links : List ℕ} {n : ℕ}
    (a : Answered t.counts t.links q i (reply n) r counts links) where
  pub keys-told : n ≡ entries_of t → replaced r counts links t ≡ on_which_keys q i t
  unfolding on_which_keys
  keys-told c = rw (a.fine, a.counted', a.linked, c)

  pub all-entries : i ≡ coordinator → n ≡ entries_of t → replaced r counts links t ≡ on_get_all q i t
  unfolding on_get_all
  all-entries h c = rw (eq-eqb _ _ h, a.fine, a.counted', a.linked, c)

  pub all_held : (i ≡ coordinator → ⊥) → n ≡ held_of t i → replaced r counts links t ≡ on_get_all q i t
  unfolding on_get_all
  all_held h c = rw (ne_eqb _ _ h, a.fine, a.counted', a.linked, c)
