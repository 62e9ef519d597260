-- The walk up the log: which of the wanted servers lack their key at the tag come to, as a mask. At each tag only the servers that its entry wrote change.
use Rattle.std.specs.Prelude.{ℕ, ◌+◌, ◌-◌, ◌^◌, ◌%◌, ◌<◌, ◌≡◌, refl, Bool, true, false, not, ◌&&◌, ◌||◌, List, ltb}
use Rattle.std.proofs.Common.{sym, ap, ◌∙◌, arith, ltb-true, ltb-false}
use Rattle.std.proofs.Math.Bool.{or-true, or-false, and-true}
use Rattle.std.specs.Int.Bits.{bit_and, bit_or}
use Rattle.std.proofs.lemmas.Bool.{not-true, not-false}
use Rattle.ranges.specs.Tests.{by-test, not-both, both_left, both_right}
use Rattle.ranges.specs.AllLaws.{all_of, all-not, all_same}
use Rattle.ranges.specs.Last.{last_below}
use Rattle.ranges.specs.LastLaws.{last-here, last-before, last-below, last_passes, last-same}
use Rattle.keys.specs.Masks.{has_server}
use Rattle.keys.specs.MaskLaws.{some-server}
use Rattle.tables.specs.Layout.{entry_key, entry_mask}
use Rattle.coordinator.specs.Latest.{wrote, latest_tag}
use Rattle.rules.specs.Choice.{holds_key, has_version, serves, qualifies, chosen_tag}
use Rattle.keys.specs.Bits.{without, and_bit, or_bit, without_bit, no_bit, first_bit, beyond_bit}
use Rattle.holder_slots.specs.Holders.{Marked}
use Rattle.holders.specs.Looked.{holders_of, holders_hold}

-- of the servers asked for, those that lack their key: one that the entry wrote has another key, any other lacks it as before
abbrev pub lacking_after : ℕ → ℕ → ℕ → ℕ → ℕ
lacking_after lacking wanted written holding = without (bit_or lacking (bit_and wanted written)) (bit_and (bit_and wanted written) holding)

abbrev pub Lacking : List ℕ → List ℕ → (ℕ → ℕ) → ℕ → ℕ → ℕ → Type 0
Lacking keys log received wanted t lacking = (i : ℕ) → has_server lacking i ≡ (has_server wanted i && not (has_version keys log received t i))

-- what a bit becomes: l lacking before, m wanted, w written, h holding, v whether the key was held, v' whether it is
bit-after : (l m w h v v' : Bool) → l ≡ (m && not v) → (m ≡ true → w ≡ true → v' ≡ h) → (w ≡ false → v' ≡ v) → ((l || (m && w)) && not ((m && w) && h)) ≡ (m && not v')
bit-after l false w h v v' e f g = rw e
bit-after l true true h v v' e f g = rw (f refl refl, or-true l)
bit-after l true false h v v' e f g = rw (e, g refl, or-false (not v)) (and-true (not v))

-- the key of a server at a tag: at the entry's own where it wrote the server or is the first, else as at the tag before
module _ (keys log : List ℕ) (received : ℕ → ℕ) (i : ℕ) where
  at_tag : (s t : ℕ) → latest_tag log i t ≡ s → has_version keys log received t i ≡ holds_key keys received (entry_key log s) i
  at_tag s t e = ap (λ (x : ℕ). holds_key keys received (entry_key log x) i) e

  key-first : has_version keys log received 0 i ≡ holds_key keys received (entry_key log 0) i
  key-first = at_tag 0 0 (let l : latest_tag log i 0 < 1 = last-below (wrote log i) 1 (omega arith) in omega arith)

  key-written : (t : ℕ) → wrote log i (t + 1) ≡ true → has_version keys log received (t + 1) i ≡ holds_key keys received (entry_key log (t + 1)) i
  key-written t e = at_tag (t + 1) (t + 1) (last-here (wrote log i) (t + 1) e)

  key-kept : (t : ℕ) → wrote log i (t + 1) ≡ false → has_version keys log received (t + 1) i ≡ has_version keys log received t i
  key-kept t e = at_tag (latest_tag log i t) (t + 1) (last-before (wrote log i) (t + 1) e)

-- the walk, over a marked table; no server from k on is wanted
module _ (keys log : List ℕ) (received : ℕ → ℕ) (wanted k : ℕ) (few : (i : ℕ) → has_server wanted i ≡ true → i < k) where
  abbrev q : ℕ → Bool
  q = qualifies keys log wanted received k

  module _ (holders : List ℕ) (marked : Marked keys wanted received holders) where
    held_at : (t i : ℕ) → has_server wanted i ≡ true → has_server (holders_of holders keys received k (entry_key log t)) i ≡ holds_key keys received (entry_key log t) i
    held_at t i e = holders_hold holders keys received k (entry_key log t) wanted marked i (few i e) e

    pub lacking-first : {l : ℕ} → l ≡ without wanted (holders_of holders keys received k (entry_key log 0)) → Lacking keys log received wanted 0 l
    lacking-first {l} d i =
        rw d (without_bit wanted (holders_of holders keys received k (entry_key log 0)) i
        ∙ by-test (has_server wanted i)
        (λ e. rw (held_at 0 i e, key-first keys log received i))
        (λ e. rw e))

    pub lacking-next : (t l : ℕ) {r : ℕ} → Lacking keys log received wanted t l →
        r ≡ lacking_after l wanted (entry_mask log (t + 1)) (holders_of holders keys received k (entry_key log (t + 1))) → Lacking keys log received wanted (t + 1) r
    lacking-next t l f d i =
        let w = entry_mask log (t + 1) in
        let h = holders_of holders keys received k (entry_key log (t + 1)) in
        rw d (without_bit (bit_or l (bit_and wanted w)) (bit_and (bit_and wanted w) h) i
        ∙ rw (or_bit l (bit_and wanted w) i, and_bit (bit_and wanted w) h i, and_bit wanted w i)
        (bit-after (has_server l i) (has_server wanted i) (has_server w i) (has_server h i) (has_version keys log received t i) (has_version keys log received (t + 1) i)
        (f i) (λ e b. key-written keys log received i t b ∙ sym (held_at (t + 1) i e)) (key-kept keys log received i t)))

  -- where no server lacks its key the tag qualifies, and else not
  pub none_lacking : (t l : ℕ) → Lacking keys log received wanted t l → l ≡ 0 → q t ≡ true
  none_lacking t l f z =
      all_of (serves keys log wanted received t) k
      (λ i h. by-test (has_server wanted i)
      (λ e. rw e (not-false _ (sym (rw (z, no_bit i, e) at (f i)))))
      (λ e. rw e))

  pub some_lacking : (t l : ℕ) → Lacking keys log received wanted t l → l < 2 ^ 32 → (l ≡ 0 → ⊥) → q t ≡ false
  some_lacking t l f b n =
      let s = some-server l 32 (record { some = omega arith; below = b }) in
      let e : (has_server wanted s.0 && not (has_version keys log received t s.0)) ≡ true = sym (f s.0) ∙ s.2 in
      let m : has_server wanted s.0 ≡ true = both_left _ _ e in
      all-not (serves keys log wanted received t) k s.0 (few s.0 m) (rw m (not-true _ (both_right (has_server wanted s.0) _ e)))

  pub walk_begins : 0 ≡ last_below q (0 + 1)
  walk_begins = let l : last_below q 1 < 1 = last-below q 1 (omega arith) in omega arith

-- the first k servers of a mask are all that its choice asks for
module _ (keys log : List ℕ) (mask : ℕ) (received : ℕ → ℕ) (k : ℕ) {wanted : ℕ} (first : wanted ≡ mask % 2 ^ k) where
  pub few_wanted : (i : ℕ) → has_server wanted i ≡ true → i < k
  few_wanted i e = by-test (ltb i k) (λ b. ltb-true i k b) (λ b. absurd (not-both e (rw first (beyond_bit mask k i (ltb-false i k b)))))

  pub same_choice : (n : ℕ) → chosen_tag keys log wanted received k n ≡ chosen_tag keys log mask received k n
  same_choice n =
      last-same (qualifies keys log wanted received k) (qualifies keys log mask received k) n
      (λ t l. all_same (serves keys log wanted received t) (serves keys log mask received t) k (λ i h. rw (first, first_bit mask k i h)))

module _ (keys log : List ℕ) (mask : ℕ) (received : ℕ → ℕ) (k n : ℕ) (some : 0 < n) where
  -- the tag chosen is one of an entry, and it qualifies, since the opening's tag does
  pub chosen-below : chosen_tag keys log mask received k n < n
  chosen-below = last-below (qualifies keys log mask received k) n some

  pub chosen-serves : qualifies keys log mask received k 0 ≡ true → qualifies keys log mask received k (chosen_tag keys log mask received k n) ≡ true
  chosen-serves opening = last_passes (qualifies keys log mask received k) n 0 some opening

  -- the newest tag is the greatest where it qualifies
  pub newest_chosen : qualifies keys log mask received k (n - 1) ≡ true → n - 1 ≡ chosen_tag keys log mask received k n
  newest_chosen e =
      let z : n - 1 + 1 ≡ n = omega arith in
      sym (ap (last_below (qualifies keys log mask received k)) (sym z) ∙ last-here (qualifies keys log mask received k) (n - 1) e)
