-- The cases of C's choice, as the code meets them.
use Rattle.std.specs.Prelude.{ℕ, ◌≡◌, refl, Bool, true, false, List, get_or, replicate}
use Rattle.std.proofs.Common.{arith}
use Rattle.std.proofs.lemmas.List.{get_or-replicate}
use Rattle.tables.specs.Layout.{setpoints_field, badges_field, received_field, tag_field, put_client_word}
use Rattle.tables.specs.Links.{targets}
use Rattle.keys.specs.declared.Key.{Key}
use Rattle.keys.specs.Masks.{has_server}
use Rattle.coordinator.specs.Latest.{latest_key}
use Rattle.rules.specs.Words.{every, kept_words}
use Rattle.rules.specs.WordsLaws.{kept_same, has-every}
use Rattle.rules.specs.Choice.{holds_key, serves}
use Rattle.rules.specs.Reply.{forgotten, concluded_row}
use Rattle.choice.specs.Values.{HasWords}

-- A server whose version is looked for, as the code meets it: has is what was asked of the mask, key the key that was looked for.
module _ (keys log : List ℕ) (mask : ℕ) (received : ℕ → ℕ) (t i : ℕ) {has : Bool} (m : has ≡ has_server mask i) where
  pub spared : has ≡ false → serves keys log mask received t i ≡ true
  spared e = rw (← m, e)

  pub sought : {key : Key} → has ≡ true → key ≡ latest_key log i t → holds_key keys received key i ≡ serves keys log mask received t i
  sought e k = rw (← m, e, k)

-- a row of zeros kept for every target is the n forgotten
pub none_kept : (q : ℕ) (clients : List ℕ) →
    kept_words received_field (has_server 4294967295) (λ i. get_or (replicate targets 0) i 0) q targets clients ≡ forgotten q clients
none_kept q clients =
    kept_same received_field q (has_server 4294967295) every _ (λ i. 0) clients targets
    (λ i l. has-every i (omega arith))
    (λ i l e. get_or-replicate targets i 0 0 l)

-- the row at the end: setpoints and badges kept, the n forgotten, the tag put
pub row-concluded : (v b : ℕ → ℕ) (t q mask k : ℕ) (clients : List ℕ) {setpoints badges kept both forgot row : List ℕ} →
    HasWords mask k v setpoints → HasWords mask k b badges →
    kept ≡ kept_words setpoints_field (has_server mask) (λ i. get_or setpoints i 0) q k clients →
    both ≡ kept_words badges_field (has_server mask) (λ i. get_or badges i 0) q k kept →
    forgot ≡ forgotten q both →
    row ≡ put_client_word forgot q tag_field t →
    row ≡ concluded_row v b t q mask k clients
row-concluded v b t q mask k clients l m e d f r =
    rw (r, f, d, e)
    (rw (
      kept_same setpoints_field q (has_server mask) (has_server mask) _ v clients k (λ i h. refl) l.there,
      kept_same badges_field q (has_server mask) (has_server mask) _ b _ k (λ i h. refl) m.there,
    ))
