-- The table of holders: for each key the servers that it was received from, as a mask. It has a slot for each key of a client below 16.
use Prim.Native.Nat.{ℕ, zero, suc, ◌+◌, ◌*◌, ◌/◌, ◌%◌, ◌^◌, ◌≤◌, ◌<◌}
use Rattle.std.specs.Prelude.{◌≡◌, Bool, true, false, cond, ◌&&◌, ◌||◌, ltb, length, get_or, set, replicate}
use Rattle.std.proofs.Math.Path.{refl, sym, ap}
use Rattle.std.proofs.Common.{◌∙◌, length-set}
use Rattle.std.proofs.Math.Bool.{or-false, or_assoc, and-true, and-false, and-or_distrib_right}
use mathlib.Core.List.{List}
use native.Mathlib.Omega.{arith}
use Rattle.std.proofs.Math.Dec.{eqb}
use Rattle.std.specs.Int.Bits.{bit_or}
use Rattle.std.proofs.lemmas.List.{length-replicate, get_or-replicate}
use Rattle.std.proofs.Math.Seq.{get_or-set_same, get_or-set_other}
use borrow.Author.Tests.{ltb-true, eq-eqb, ne_eqb}
use Rattle.ranges.specs.Tests.{either, by_equal, by-test, both_left, both_right}
use Rattle.ranges.specs.All.{any_below}
use Rattle.ranges.specs.First.{first_below}
use Rattle.ranges.specs.FirstLaws.{found_any}
use Rattle.ranges.specs.Turns.{turns, turns_keep}
use Rattle.ranges.specs.Picked.{picked}
use Rattle.keys.specs.Masks.{has_server}
use Rattle.tables.specs.Layout.{version_word}
use Rattle.keys.specs.Bits.{or_bit, one_bit, no_bit}

abbrev pub slots : ℕ
slots = 4096

-- the word is a key's, of a client below 16
abbrev pub tabled : ℕ → Bool
tabled w = ltb w 65536 && ltb (w % 256) 16

abbrev pub slot_of : ℕ → ℕ
slot_of w = w / 256 * 16 + w % 256

-- the servers of a mask hold the key of a word
unfoldable pub marked : ℕ → ℕ → List ℕ → List ℕ
marked mask w holders = cond (tabled w) (set holders (slot_of w) (bit_or (get_or holders (slot_of w) 0) mask)) holders

-- server i holds the keys of its first n versions
abbrev pub mark_versions : List ℕ → ℕ → ℕ → List ℕ → List ℕ
mark_versions keys i n holders = turns (λ place. marked (2 ^ i) (version_word keys i place)) n holders

-- the servers of a mask hold the keys of the versions received from them
abbrev pub mark_servers : List ℕ → ℕ → (ℕ → ℕ) → ℕ → List ℕ → List ℕ
mark_servers keys mask received k holders = turns (picked (has_server mask) (λ i. mark_versions keys i (received i))) k holders

-- a slot is in the table, and no two keys have one slot
pub slot-below : (w : ℕ) → tabled w ≡ true → slot_of w < slots
slot-below w e = let h : w < 65536 = ltb-true _ _ (both_left _ _ e) in let g : w % 256 < 16 = ltb-true _ _ (both_right (ltb w 65536) _ e) in omega arith

slot-one : (v w : ℕ) → tabled v ≡ true → tabled w ≡ true → slot_of v ≡ slot_of w → v ≡ w
slot-one v w d e s =
    let g : v % 256 < 16 = ltb-true _ _ (both_right (ltb v 65536) _ d) in
    let h : w % 256 < 16 = ltb-true _ _ (both_right (ltb w 65536) _ e) in
    omega arith

-- no key has a holder yet
pub record Empty (holders : List ℕ) : Type 0 where
  pub long : slots ≤ length holders
  pub zeros : (j : ℕ) → j < slots → get_or holders j 0 ≡ 0

pub empty_table : (n : ℕ) → n ≡ slots → Empty (replicate n 0)
empty_table n e = record { long = omega (arith, length-replicate {A = ℕ} n 0); zeros = λ j h. get_or-replicate {A = ℕ} n j 0 0 (omega arith) }

-- marking leaves the length
mark_long : (mask v : ℕ) (holders : List ℕ) → length (marked mask v holders) ≡ length holders
unfolding marked
mark_long mask v holders = either (λ (z : List ℕ). length z ≡ length holders) (tabled v) (length-set holders (slot_of v) (bit_or (get_or holders (slot_of v) 0) mask)) refl

versions_long : (keys : List ℕ) (s n : ℕ) (holders : List ℕ) → length (mark_versions keys s n holders) ≡ length holders
versions_long keys s n holders =
    turns_keep (λ place. marked (2 ^ s) (version_word keys s place)) (λ (z : List ℕ). length z ≡ length holders)
    (λ place z e. mark_long (2 ^ s) (version_word keys s place) z ∙ e) n holders refl

servers_long : (keys : List ℕ) (mask : ℕ) (received : ℕ → ℕ) (k : ℕ) (holders : List ℕ) → length (mark_servers keys mask received k holders) ≡ length holders
servers_long keys mask received k holders =
    turns_keep (picked (has_server mask) (λ s. mark_versions keys s (received s))) (λ (z : List ℕ). length z ≡ length holders)
    (λ s z e. either (λ (y : List ℕ). length y ≡ length holders) (has_server mask s) (versions_long keys s (received s) z ∙ e) e) k holders refl

-- whether a key's slot has a server
abbrev pub slot_has : List ℕ → ℕ → ℕ → Bool
slot_has holders w i = has_server (get_or holders (slot_of w) 0) i

-- what the slot of a key says of server i: after one word, after the versions of one server, after several servers
module _ (w i : ℕ) (t : tabled w ≡ true) where
  mark_bit : (mask v : ℕ) (holders : List ℕ) → slots ≤ length holders →
      slot_has (marked mask v holders) w i ≡ (slot_has holders w i || (eqb v w && has_server mask i))
  unfolding marked
  mark_bit mask v holders l = by_equal v w
      (λ d. rw (d, t, get_or-set_same holders (slot_of w) (bit_or (get_or holders (slot_of w) 0) mask) 0 (omega (arith, slot-below w t)), eq-eqb w w refl) (or_bit (get_or holders (slot_of w) 0) mask i))
      (λ d. by-test (tabled v)
      (λ e. rw (e, get_or-set_other holders (slot_of v) (slot_of w) (bit_or (get_or holders (slot_of v) 0) mask) 0 (λ z. d (slot-one v w e t (sym z))), ne_eqb v w d) (sym (or-false _)))
      (λ e. rw (e, ne_eqb v w d) (sym (or-false _))))

  module _ (keys : List ℕ) where
    -- server s bears the key
    abbrev bearing : ℕ → ℕ → Bool
    bearing s place = eqb (version_word keys s place) w

    versions_bit : (s n : ℕ) (holders : List ℕ) → slots ≤ length holders →
        slot_has (mark_versions keys s n holders) w i ≡ (slot_has holders w i || (any_below (bearing s) n && eqb s i))
    unfolding turns any_below
    versions_bit s zero holders l = sym (or-false _)
    versions_bit s (suc n) holders l =
        mark_bit (2 ^ s) (version_word keys s n) (mark_versions keys s n holders) (omega (arith, versions_long keys s n holders))
        ∙ rw (versions_bit s n holders l, one_bit s i)
        (or_assoc (slot_has holders w i) (any_below (bearing s) n && eqb s i) (bearing s n && eqb s i) ∙ ap (λ (b : Bool). slot_has holders w i || b) (sym (and-or_distrib_right (any_below (bearing s) n) (bearing s n) (eqb s i))))

    module _ (mask : ℕ) (received : ℕ → ℕ) (holders : List ℕ) (l : slots ≤ length holders) where
      abbrev after : ℕ → List ℕ
      after k = mark_servers keys mask received k holders

      -- another server's versions leave the bit
      other_bit : (s k : ℕ) → (s ≡ i → ⊥) → slot_has (mark_versions keys s (received s) (after k)) w i ≡ slot_has (after k) w i
      other_bit s k d = versions_bit s (received s) (after k) (omega (arith, servers_long keys mask received k holders)) ∙ rw (ne_eqb s i d, and-false (any_below (bearing s) (received s))) (or-false _)

      -- a server that the loop has not reached, and one that it has passed
      ahead_bit : (k : ℕ) → k ≤ i → slot_has (after k) w i ≡ slot_has holders w i
      unfolding turns
      ahead_bit zero h = refl
      ahead_bit (suc k) h =
          let e = ahead_bit k (omega arith) in
          either (λ (z : List ℕ). slot_has z w i ≡ slot_has holders w i) (has_server mask k) (other_bit k k (λ z. omega arith) ∙ e) e

      passed_bit : (k : ℕ) → i < k → has_server mask i ≡ true → slot_has (after k) w i ≡ (slot_has holders w i || any_below (bearing i) (received i))
      unfolding turns
      passed_bit zero h m = let z : ⊥ = omega arith in absurd z
      passed_bit (suc k) h m =
          by_equal k i
          (λ d. rw (d, m) (versions_bit i (received i) (after i) (omega (arith, servers_long keys mask received i holders)) ∙ rw (ahead_bit i (omega arith), eq-eqb i i refl, and-true (any_below (bearing i) (received i)))))
          (λ d.
          let e = passed_bit k (omega arith) m in
          either (λ (z : List ℕ). slot_has z w i ≡ (slot_has holders w i || any_below (bearing i) (received i))) (has_server mask k) (other_bit k k d ∙ e) e)

-- a table in which the holders of every key stand, of those servers that a mask has
pub record Marked (keys : List ℕ) (mask : ℕ) (received : ℕ → ℕ) (holders : List ℕ) : Type 0 where
  pub long : slots ≤ length holders
  pub bits : (w : ℕ) → tabled w ≡ true → (i : ℕ) → has_server mask i ≡ true → slot_has holders w i ≡ ltb (first_below (λ place. eqb (version_word keys i place) w) (received i)) (received i)

-- the loop over all servers leaves one, of a mask that has no others
pub servers-marked : (keys : List ℕ) (mask : ℕ) (received : ℕ → ℕ) (k : ℕ) {before holders : List ℕ} → ((i : ℕ) → has_server mask i ≡ true → i < k) → Empty before →
    holders ≡ mark_servers keys mask received k before → Marked keys mask received holders
servers-marked keys mask received k {before} {holders} few e s = record {
  long = rw s (omega (arith, e.long, servers_long keys mask received k before));
  bits = λ w t i m.
      let z : slot_has before w i ≡ false = ap (λ (x : ℕ). has_server x i) (e.zeros (slot_of w) (slot-below w t)) ∙ no_bit i in
      rw s (passed_bit w i t keys mask received before e.long k (few i m) m ∙ rw z (sym (found_any (λ place. eqb (version_word keys i place) w) (received i))));
}
