-- The holders of a key, looked up in the table or searched for.
use Rattle.std.specs.Prelude.{ℕ, ◌<◌, ◌≡◌, refl, Bool, true, false, cond, Some, None, List, get_or}
use Rattle.std.specs.Option.{is_some}
use Rattle.std.proofs.Common.{sym, ap, ◌∙◌}
use Rattle.ranges.specs.Tests.{by-test}
use Rattle.keys.specs.declared.Key.{Key}
use Rattle.keys.specs.Keys.{key_word}
use Rattle.keys.specs.Masks.{has_server}
use Rattle.keys.specs.Bits.{gathered, gathered_bit}
use Rattle.rules.specs.Choice.{holds_key}
use Rattle.holder_slots.specs.Holders.{tabled, slot_of, Marked}

-- the holders of a key: those in its slot, and where it has none those found by a search
unfoldable pub holders_of : List ℕ → List ℕ → (ℕ → ℕ) → ℕ → Key → ℕ
holders_of holders keys received k key = cond (tabled (key_word key)) (get_or holders (slot_of (key_word key)) 0) (gathered (holds_key keys received key) k)

-- of a marked table they are the holders
module _ (holders keys : List ℕ) (received : ℕ → ℕ) (k : ℕ) (key : Key) where
  pub holders_hold : (wanted : ℕ) → Marked keys wanted received holders → (i : ℕ) → i < k → has_server wanted i ≡ true → has_server (holders_of holders keys received k key) i ≡ holds_key keys received key i
  unfolding holders_of
  holders_hold wanted m i h e =
      by-test (tabled (key_word key))
      (λ b. rw b (m.bits (key_word key) b i e))
      (λ b. rw b (gathered_bit (holds_key keys received key) i k h))

-- a place that is answered where a test holds, as who takes the answer meets it
pub some-where : (b : Bool) (place : ℕ) → is_some (cond b (Some place) None) ≡ b
some-where true place = refl
some-where false place = refl

pub none-where : (b : Bool) (place : ℕ) → None ≡ cond b (Some place) None → b ≡ false
none-where b place e = sym (some-where b place) ∙ ap is_some (sym e)

pub place-where : (b : Bool) (place : ℕ) {p : ℕ} → Some p ≡ cond b (Some place) None → (b ≡ true) × (p ≡ place)
place-where true place e = (refl, cc)
place-where false place e = cc
