-- Each step keeps the budget: what it takes was paid for, or its begin pays.
use Prim.Native.Nat.{ℕ, suc, ◌+◌, ◌≤◌, ◌<◌}
use mathlib.Core.Path.{◌≡◌, refl}
use mathlib.Core.Option.{none}
use native.Mathlib.Omega.{arith}
use Rattle.ranges.specs.Tests.{by_equal}
use Rattle.tables.specs.declared.links.Contents.{Contents}
use Rattle.tables.specs.declared.links.Content.{Content}
use Rattle.tables.specs.declared.links.Content.TheVariants.{Request}
use Rattle.keys.specs.declared.Key.{Key}
use Rattle.rules.specs.Common.{writing, entering, coordinator, reply}
use Rattle.claim.specs.History.{changed}
use Rattle.serial.proofs.Places.{changed-same, changed_other}
use Rattle.serial.proofs.Versions.{Version}
use Rattle.serial.proofs.Press.{Shared, renumbered, Client, Press, press_of, state_in}
use Rattle.serial.proofs.Invariant.{own}
use Rattle.serial.proofs.Budget.{missing, held_in, entry_in, asks, Budget, Same, budget-kept, no-waits, no_due, asks-most, waits-most}
use Rattle.serial.proofs.Requests.{version_more, entry_more, with_link}

module _ (p : Press) (b : Budget p) (q : ℕ) (hq : q < 16) where
  abbrev c : Client
  c = p.client q

  abbrev s : Shared
  s = p.shared

  -- one step more, and nothing begun
  abbrev pub next : Shared → Shared
  next x = renumbered (s.step + 1) s.writes s.reads x

  -- nothing that is kept of keys has changed
  stays : (step writes reads : ℕ) (j : ℕ) → j < 16 → (j ≡ q → ⊥) → Same s (renumbered step writes reads s) j
  stays step writes reads j l d = record { held = λ i n. refl; entry = λ n. refl }

  -- a client that writes nothing afterwards
  pub further : (d : Client) (state : ℕ) → state_in d ≡ state → (state ≡ writing → ⊥) → (state ≡ entering → ⊥) →
      Budget (press_of (next s) (changed p.client q d))
  further d state is w e =
      budget-kept p b q hq d (next s) (stays (s.step + 1) s.writes s.reads)
      (λ i. omega (arith, no-waits (next s) q d state is w i))
      (omega (arith, no_due (next s) q d state is w e))

  -- a link of a WRITE changes, and asks for no more than it did
  pub write-link-budget : (i : ℕ) (l : Content) → state_in c ≡ writing →
      asks l (missing (held_in s i (own q c))) ≤ asks (c.link i) (missing (held_in s i (own q c))) →
      Budget (press_of (next s) (changed p.client q (with_link c i l)))
  write-link-budget i l state less =
      budget-kept p b q hq (with_link c i l) (next s) (stays (s.step + 1) s.writes s.reads)
      (λ j. by_equal j i
      (λ e. rw (e, state, changed-same c.link i l) (omega (arith, less)))
      (λ d. rw (changed_other c.link i l j d) (omega arith)))
      (rw state (omega arith))

  pub enter-link-budget : (l : Content) → state_in c ≡ entering →
      asks l (missing (entry_in s (own q c))) ≤ asks (c.link coordinator) (missing (entry_in s (own q c))) →
      Budget (press_of (next s) (changed p.client q (with_link c coordinator l)))
  enter-link-budget l state less =
      budget-kept p b q hq (with_link c coordinator l) (next s) (stays (s.step + 1) s.writes s.reads)
      (λ j. rw state (omega arith))
      (rw (state, changed-same c.link coordinator l) (omega (arith, less)))

  -- a set request is delivered, and the server did not have its key; at another server the key is kept as it was
  pub set-budget : (i : ℕ) (w : Contents) → c.link i ≡ Request w → state_in c ≡ writing → (word : ℕ) (v : Version) →
      held_in s i (own q c) ≡ none →
      ((j : ℕ) → j < 16 → (j ≡ q → ⊥) → Same s (version_more s i word v) j) →
      ((j : ℕ) → (j ≡ i → ⊥) → held_in (version_more s i word v) j (own q c) ≡ held_in s j (own q c)) →
      Budget (press_of (next (version_more s i word v)) (changed p.client q (with_link c i (reply 0))))
  set-budget i w lk state word v new same other =
      budget-kept p b q hq (with_link c i (reply 0)) (next (version_more s i word v))
      (λ j l d. let e = same j l d in record { held = e.held; entry = e.entry })
      (λ j. by_equal j i
      (λ e. rw (e, changed-same s.held i (suc (s.held i)), state, changed-same c.link i (reply 0), lk, new) (omega arith))
      (λ d.
      let k = other j d in
      rw (changed_other c.link i (reply 0) j d, k) (omega (arith, changed_other s.held i (suc (s.held i)) j d))))
      (rw state (omega arith))

  -- an entry is delivered, and the log did not have its key
  pub enter-budget : (w : Contents) → c.link coordinator ≡ Request w → state_in c ≡ entering → (key : Key) (mask n : ℕ) →
      entry_in s (own q c) ≡ none → ((j : ℕ) → j < 16 → (j ≡ q → ⊥) → Same s (entry_more s key mask) j) →
      Budget (press_of (next (entry_more s key mask)) (changed p.client q (with_link c coordinator (reply n))))
  enter-budget w lk state key mask n new same =
      budget-kept p b q hq (with_link c coordinator (reply n)) (next (entry_more s key mask))
      (λ j l d. let e = same j l d in record { held = e.held; entry = e.entry })
      (λ j. rw state (omega arith))
      (rw (state, changed-same c.link coordinator (reply n), lk, new) (omega arith))

  -- the last acknowledgement: the entry goes to the coordinator
  pub last-budget : (d : Client) → state_in d ≡ entering → state_in c ≡ writing → Budget (press_of (next s) (changed p.client q d))
  last-budget d new state =
      budget-kept p b q hq d (next s) (stays (s.step + 1) s.writes s.reads)
      (λ j. rw new (omega arith))
      (rw (new, state) (omega (arith, asks-most (d.link coordinator) (entry_in s (own q d)))))

  -- a begin of a WRITE
  pub write-budget : (d : Client) → state_in d ≡ writing →
      Budget (press_of (renumbered (s.step + 1) (s.writes + 1) s.reads s) (changed p.client q d))
  write-budget d new =
      let s' = renumbered (s.step + 1) (s.writes + 1) s.reads s in
      budget-kept p b q hq d s' (stays (s.step + 1) (s.writes + 1) s.reads)
      (λ j. omega (arith, waits-most s' j q d))
      (rw new (omega arith))

  -- a begin of a READ
  pub read-budget : (d : Client) (state : ℕ) → state_in d ≡ state → (state ≡ writing → ⊥) → (state ≡ entering → ⊥) →
      Budget (press_of (renumbered (s.step + 1) s.writes (s.reads + 1) s) (changed p.client q d))
  read-budget d state is w e =
      let s' = renumbered (s.step + 1) s.writes (s.reads + 1) s in
      budget-kept p b q hq d s' (stays (s.step + 1) s.writes (s.reads + 1))
      (λ j. omega (arith, no-waits s' q d state is w j))
      (omega (arith, no_due s' q d state is w e))
