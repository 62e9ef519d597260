-- The walk down the log for all servers finds for each what the search for it alone finds.
use Prim.Native.Nat.{ℕ, zero, suc, ◌+◌, ◌-◌, ◌≤◌, ◌<◌}
use Rattle.std.specs.Prelude.{◌≡◌, Bool, true, false, cond, not, ◌&&◌, ◌||◌, List, set, length, get_or, replicate}
use Rattle.std.proofs.Math.Path.{refl, sym}
use Rattle.std.proofs.Common.{ap, ◌∙◌, arith, length-set, set-set, get_or-set_same, get_or-set_other, eqb-true, eq-eqb, ne_eqb}
use Rattle.std.specs.Int.Bits.{bit_and}
use Rattle.std.proofs.lemmas.List.{get_or-replicate, set_comm, set-get_or}
use Rattle.std.proofs.lemmas.Bool.{not-false}
use Rattle.ranges.specs.Tests.{either, by_equal, by-test, both, both_left, both_right, not-both}
use Rattle.ranges.specs.Last.{last_below}
use Rattle.ranges.specs.LastLaws.{last-here, last-before, last-below, last-behind}
use Rattle.ranges.specs.Turns.{turns, turns_keep-below}
use Rattle.ranges.specs.Picked.{laid_over}
use Rattle.ranges.specs.PickedLaws.{lay_word, is-picked}
use Rattle.keys.specs.Masks.{has_server}
use Rattle.keys.specs.Bits.{without, and_bit, without_bit, no_bit}
use Rattle.tables.specs.Layout.{entry_mask}
use Rattle.coordinator.specs.Latest.{wrote, latest_tag, latest_tag_at}
use Rattle.coordinator.specs.LatestLaws.{latest-here, latest-before}
use Rattle.coordinator.proofs.LatestLaws.{latest-first}
use Rattle.log_search.specs.Tags.{wrote_any, latest_of_any}

-- numbers that fail are passed over
last_past : (p : ℕ → Bool) (m n : ℕ) → m ≤ n → ((u : ℕ) → m ≤ u → u < n → p u ≡ false) → last_below p n ≡ last_below p m
unfolding last_below
last_past p m zero h f = let e : m ≡ 0 = omega arith in rw e
last_past p m (suc n) h f =
    by_equal m (suc n)
    (λ e. ap (last_below p) (sym e))
    (λ d. rw (f n (omega arith) (omega arith)) (last_past p m n (omega arith) (λ u g l. f u g (omega arith))))

-- the cases of the search for any of several servers, as the code meets them; mask is what was read of the entry
module _ (log : List ℕ) (left t : ℕ) where
  pub any-within : latest_of_any log left t ≤ t
  any-within = omega (arith, last-below (wrote_any log left) (t + 1) (omega arith))

  module _ {mask : ℕ} (m : mask ≡ entry_mask log t) where
    pub any_here : (bit_and mask left ≡ 0 → ⊥) → t ≡ latest_of_any log left t
    any_here d = sym (last-here (wrote_any log left) t (rw (← m, ne_eqb _ _ d)))

    pub any-before : 0 < t → bit_and mask left ≡ 0 → latest_of_any log left (t - 1) ≡ latest_of_any log left t
    any-before h e =
        let n : t - 1 + 1 ≡ t = omega arith in
        rw n (sym (last-before (wrote_any log left) t (rw (← m, eq-eqb _ _ e))))

-- Tags laid twice: the servers of both. Where a server is of both, the tag that came second is the same.
module _ (v w : ℕ → ℕ) (first second all : ℕ → Bool) where
  put-turn : (b : Bool) (i j x y : ℕ) (xs : List ℕ) {ys : List ℕ} → (j ≡ i → ⊥) → ys ≡ set xs j x →
      cond b (set ys i y) ys ≡ set (cond b (set xs i y) xs) j x
  put-turn true i j x y xs d e = rw e (set_comm xs j i x y d)
  put-turn false i j x y xs d e = e

  -- a place behind those that are laid may be set before or after
  laid-put : (k j x : ℕ) (row : List ℕ) → k ≤ j → laid_over second w k (set row j x) ≡ set (laid_over second w k row) j x
  unfolding turns
  laid-put zero j x row h = refl
  laid-put (suc k) j x row h =
      put-turn (second k) k j x (w k) (laid_over second w k row) (λ e. omega arith) (laid-put k j x row (omega arith))

  one-turn : (a : Bool) (k x : ℕ) (xs : List ℕ) {z : List ℕ} → laid_over second w k xs ≡ z →
      laid_over second w k (cond a (set xs k x) xs) ≡ cond a (set z k x) z
  one-turn true k x xs e = laid-put k k x xs (omega arith) ∙ rw e
  one-turn false k x xs e = e

  both-turn : (a b c : Bool) (i : ℕ) (z : List ℕ) {ys : List ℕ} → c ≡ (a || b) → (b ≡ true → w i ≡ v i) →
      ys ≡ cond a (set z i (v i)) z → cond b (set ys i (w i)) ys ≡ cond c (set z i (v i)) z
  both-turn true true c i z d f e = rw (e, d, f refl) (set-set z i (v i) (v i))
  both-turn true false c i z d f e = rw (e, d)
  both-turn false true c i z d f e = rw (e, d, f refl)
  both-turn false false c i z d f e = rw (e, d)

  laid_both : (k : ℕ) (row : List ℕ) → ((i : ℕ) → all i ≡ (first i || second i)) → ((i : ℕ) → second i ≡ true → w i ≡ v i) →
      laid_over second w k (laid_over first v k row) ≡ laid_over all v k row
  unfolding turns
  laid_both zero row d f = refl
  laid_both (suc k) row d f =
      both-turn (first k) (second k) (all k) k (laid_over all v k row) (d k) (f k)
      (one-turn (first k) k (v k) (laid_over first v k row) (laid_both k row d f))

-- tags laid for nobody
laid_nobody : (v : ℕ → ℕ) (p : ℕ → Bool) (k : ℕ) (row : List ℕ) → ((i : ℕ) → p i ≡ false) → row ≡ laid_over p v k row
unfolding turns
laid_nobody v p zero row e = refl
laid_nobody v p (suc k) row e = rw (e k) (laid_nobody v p k row e)

-- a server may be spared whose tag stands there already
module _ (v : ℕ → ℕ) (p q : ℕ → Bool) (row : List ℕ) where
  laid-ahead : (k j : ℕ) → k ≤ j → get_or (laid_over p v k row) j 0 ≡ get_or row j 0
  laid-ahead k j h =
      let Stays : List ℕ → Type 0 = λ xs. get_or xs j 0 ≡ get_or row j 0 in
      turns_keep-below _ Stays k
      (λ i l xs e. either Stays (p i) (get_or-set_other xs i j (v i) 0 (λ d. omega arith) ∙ e) e)
      row refl

  spared-turn : (a b : Bool) (i : ℕ) (z : List ℕ) {ys : List ℕ} → ys ≡ z → (a ≡ true → b ≡ true) →
      (b ≡ true → a ≡ false → v i ≡ get_or ys i 0) → cond a (set ys i (v i)) ys ≡ cond b (set z i (v i)) z
  spared-turn true true i z e f g = rw e
  spared-turn true false i z e f g = absurd (not-both (f refl) refl)
  spared-turn false true i z {ys} e f g = rw (g refl refl, ← e) (sym (set-get_or ys i 0))
  spared-turn false false i z e f g = e

  laid_spared : (k : ℕ) → ((i : ℕ) → p i ≡ true → q i ≡ true) → ((i : ℕ) → i < k → q i ≡ true → p i ≡ false → v i ≡ get_or row i 0) →
      laid_over p v k row ≡ laid_over q v k row
  unfolding turns
  laid_spared zero f g = refl
  laid_spared (suc k) f g =
      spared-turn (p k) (q k) k (laid_over q v k row) (laid_spared k f (λ i l. g i (omega arith))) (f k)
      (λ b n. g k (omega arith) b n ∙ sym (laid-ahead k k (omega arith)))

-- the tag of a wanted server, in a row of 16 that they were laid into
pub laid_there : (p : ℕ → Bool) (v : ℕ → ℕ) (k i : ℕ) (row : List ℕ) {row' : List ℕ} → row' ≡ laid_over p v k row → 16 ≤ length row →
    k ≤ 16 → i < k → p i ≡ true → get_or row' i 0 ≡ v i
laid_there p v k i row s long few l e =
    rw s
    (is-picked (λ xs j. get_or xs j 0) (lay_word v) v (λ xs. 16 ≤ length xs) 16
    (λ j xs r. rw (length-set xs j (v j)) r)
    (λ j xs m r. get_or-set_same xs j (v j) 0 (omega arith))
    (λ j n xs m d. get_or-set_other xs j n (v j) 0 d)
    p row long k i few l e)

-- the walk has come to a tag: the servers that are no longer left have their tags, and for those left nothing behind it counts
abbrev found : ℕ → ℕ → ℕ → Bool
found wanted left i = has_server wanted i && not (has_server left i)

pub record Walked (log : List ℕ) (tag wanted k : ℕ) (row : List ℕ) (left at : ℕ) (row' : List ℕ) : Type 0 where
  pub within : at ≤ tag
  pub among : (i : ℕ) → has_server left i ≡ true → has_server wanted i ≡ true
  pub same : (i : ℕ) → has_server left i ≡ true → latest_tag log i at ≡ latest_tag log i tag
  pub laid : row' ≡ laid_over (found wanted left) (latest_tag_at log tag) k row

-- bits: w wanted, l left, m in the entry's mask
none_found : (w : Bool) → (w && not w) ≡ false
none_found true = refl
none_found false = refl

more-found : (w l m : Bool) → (l ≡ true → w ≡ true) → (w && not (l && not (m && l))) ≡ ((w && not l) || (m && l))
more-found true true true h = refl
more-found true true false h = refl
more-found true false true h = refl
more-found true false false h = refl
more-found false true m h = absurd (not-both (h refl) refl)
more-found false false true h = refl
more-found false false false h = refl

not_found : (w l : Bool) → w ≡ true → (w && not l) ≡ false → l ≡ true
not_found w true e n = refl
not_found w false e n = absurd (not-both (both w true e refl) n)

module _ (log : List ℕ) (tag wanted k : ℕ) (row : List ℕ) where
  pub walk_begins : Walked log tag wanted k row wanted tag row
  walk_begins = record {
    within = omega arith;
    among = λ i e. e;
    same = λ i e. refl;
    laid = laid_nobody (latest_tag_at log tag) (found wanted wanted) k row (λ i. none_found (has_server wanted i));
  }

  module _ {left at : ℕ} {row' : List ℕ} (w : Walked log tag wanted k row left at row') where
    -- entries that wrote none of those left are passed over
    not_written : (i t : ℕ) → has_server left i ≡ true → wrote_any log left t ≡ false → wrote log i t ≡ false
    not_written i t e n =
        let z : bit_and (entry_mask log t) left ≡ 0 = eqb-true _ _ (not-false _ n) in
        let none : (wrote log i t && has_server left i) ≡ false = sym (and_bit (entry_mask log t) left i) ∙ rw z (no_bit i) in
        by-test (wrote log i t) (λ b. absurd (not-both (both _ _ b e) none)) (λ b. b)

    pub walk_passes : {r : ℕ} → r ≡ latest_of_any log left at → Walked log tag wanted k row left r row'
    walk_passes {r} d =
        let h : r ≤ at = rw d (any-within log left at) in
        record {
          within = omega (arith, w.within);
          among = w.among;
          same = λ i e.
              sym (last_past (wrote log i) (r + 1) (at + 1) (omega arith)
              (λ u g l. not_written i u e (last-behind (wrote_any log left) (at + 1) u (omega arith) l)))
              ∙ w.same i e;
          laid = w.laid;
        }

    -- the entry come to: those of its servers that are left get its tag
    module _ (some : at ≡ 0 → ⊥) {mask : ℕ} (m : mask ≡ entry_mask log at) {left' : ℕ} (l : left' ≡ without left (bit_and mask left)) where
      left_bit : (i : ℕ) → has_server left' i ≡ (has_server left i && not (has_server mask i && has_server left i))
      left_bit i = rw l (without_bit left (bit_and mask left) i ∙ rw (and_bit mask left i))

      pub walk_finds : {row'' : List ℕ} → row'' ≡ laid_over (has_server (bit_and mask left)) (λ i. at) k row' →
          Walked log tag wanted k row left' (at - 1) row''
      walk_finds {row''} e = record {
        within = omega (arith, w.within);
        among = λ i b. w.among i (both_left _ _ (sym (left_bit i) ∙ b));
        same = λ i b.
            let still : has_server left i ≡ true = both_left _ _ (sym (left_bit i) ∙ b) in
            let not-here : has_server mask i ≡ false = by-test (has_server mask i)
            (λ c. absurd (not-both b (left_bit i ∙ rw (still, c))))
            (λ c. c) in
            latest-before log i at m refl some not-here ∙ w.same i still;
        laid = e ∙ rw w.laid
            (laid_both (latest_tag_at log tag) (λ i. at)
            (found wanted left) (has_server (bit_and mask left)) (found wanted left') k row
            (λ i. rw (left_bit i, and_bit mask left i) (more-found (has_server wanted i) (has_server left i) (has_server mask i) (w.among i)))
            (λ i b.
            let here = rw (and_bit mask left i) at b in
            latest-here log i at m refl (both_left _ _ here) ∙ w.same i (both_right (has_server mask i) _ here)));
      }

    -- where none is left all wanted have their tags; at tag 0 those left have it too, in a row of zeros
    pub walk_done : left ≡ 0 → row' ≡ laid_over (has_server wanted) (latest_tag_at log tag) k row
    walk_done z =
        w.laid
        ∙ laid_spared (latest_tag_at log tag) (found wanted left) (has_server wanted) row k
        (λ i b. both_left _ _ b)
        (λ i l b n. absurd (not-both (not_found (has_server wanted i) (has_server left i) b n) (rw z (no_bit i))))

    pub walk_ends : at ≡ 0 → k ≤ 16 → row ≡ replicate 16 0 → row' ≡ laid_over (has_server wanted) (latest_tag_at log tag) k row
    walk_ends z few zeros =
        w.laid
        ∙ laid_spared (latest_tag_at log tag) (found wanted left) (has_server wanted) row k
        (λ i b. both_left _ _ b)
        (λ i l b n.
        let still = not_found (has_server wanted i) (has_server left i) b n in
        sym (w.same i still) ∙ sym (latest-first log i at z) ∙ rw zeros (sym (get_or-replicate 16 i 0 0 (omega arith))))
