-- Every step that the load gives is accepted, and it gives none only where none is.
use Rattle.std.specs.Prelude.{ℕ, ◌+◌, ◌-◌, ◌*◌, ◌/◌, ◌%◌, ◌≤◌, ◌<◌, refl, Bool, true, false, ◌&&◌, ◌||◌, List, eqb, leb, ltb, get_or}
use Rattle.std.proofs.Math.Path.{◌≡◌, sym}
use Rattle.std.proofs.Common.{◌∙◌}
use native.Mathlib.Omega.{arith}
use Rattle.std.proofs.Math.ListN.{length}
use borrow.Author.Tests.{lt-ltb, le-ltb, le-leb, ltb-true, ltb-false, eqb-true, eqb-false, eq-eqb, ne_eqb}
use Rattle.ranges.specs.Tests.{by-test, both}
use Rattle.keys.specs.Masks.{mask_within}
use Rattle.keys.specs.MaskLaws.{within-test}
use Rattle.tables.specs.Layout.{record_places}
use Rattle.tables.specs.Links.{targets}
use Rattle.tables.specs.Tables.{Tables, method_of, servers_of, clients_of, writes_of, reads_of, state_of, count_of}
use Rattle.rules.specs.Common.{idle, coordinator}
use Rattle.rules.specs.Open.{all_servers}
use Rattle.soundness.specs.Sound.{sound}
use Rattle.soundness.specs.Facts.{Sound, facts-sound}
use Rattle.soundness.specs.Room.{few_servers}
use Rattle.refusals.specs.Refusals.{is_retired, at_last_step, begin_fault, delivery_fault}
use Rattle.refusals.specs.Steps.{begin_write, begin_read}
use Rattle.schedule.specs.declared.Step.TheVariants.{Request, Reply}
use Rattle.workload.specs.declared.LoadStep.{LoadStep}
use Rattle.workload.specs.Next.{Refused, Given, End}
use Rattle.workload.specs.PassingLaws.{passing_at, passing-none}
use Rattle.workload.specs.Load.{advance, index_by, load_step, write_of_all, read_of_all, numbered, numbered_count, acceptable}
use Rattle.workload.specs.Load.{acceptables, picked_from, next_step}
use Rattle.workload.specs.AcceptLaws.{is_fine, write-judged, read-judged, write-told}
use Rattle.workload.specs.AcceptLaws.{read_told}
use Rattle.workload.specs.Accepts.{accepts_write, accepts_read}
use Rattle.workload.specs.ReadyLaws.{index_below}

module _ (t : Tables) (seed : ℕ) where
  abbrev numbers : List ℕ
  numbers = acceptables t

  -- what is given is one of the numbered steps, and it passes
  pub given-accepted : (seed' : ℕ) (s : LoadStep) → next_step t seed ≡ Given seed' s → acceptable t s ≡ true
  unfolding next_step picked_from
  given-accepted seed' s e =
      by-test (sound t)
      (λ d. by-test (eqb (length numbers) 0)
      (λ z. let f : End ≡ Given seed' s = rw (d, z) at e in let w : ◌≡◌ {A = ℕ} 0 1 = cc in let v : ⊥ = omega arith in absurd v)
      (λ z.
      let index = index_by (advance seed) (length numbers) in
      let f : Given (advance seed) (numbered t (get_or numbers index 0)) ≡ Given seed' s = rw (d, z) at e in
      let g : numbered t (get_or numbers index 0) ≡ s = cc in
      let some : 0 < length numbers = omega (arith, eqb-false (length numbers) 0 z) in
      rw (← g) (passing_at (λ n. acceptable t (numbered t n)) (numbered_count (clients_of t)) index
      (index_below (advance seed) (length numbers) (omega arith) some))))
      (λ d. let f : Refused 2 ≡ Given seed' s = rw d at e in let w : ◌≡◌ {A = ℕ} 0 1 = cc in let v : ⊥ = omega arith in absurd v)

  pub none-accepted : next_step t seed ≡ End → (n : ℕ) → n < numbered_count (clients_of t) → acceptable t (numbered t n) ≡ false
  unfolding next_step picked_from
  none-accepted e n h =
      by-test (sound t)
      (λ d. by-test (eqb (length numbers) 0)
      (λ z. passing-none (λ n. acceptable t (numbered t n)) (numbered_count (clients_of t)) (eqb-true (length numbers) 0 z) n h)
      (λ z. let f : Given (advance seed) (numbered t (get_or numbers (index_by (advance seed) (length numbers)) 0)) ≡ End = rw (d, z) at e in
      let w : ◌≡◌ {A = ℕ} 0 1 = cc in let v : ⊥ = omega arith in absurd v))
      (λ d. let f : Refused 2 ≡ End = rw d at e in let w : ◌≡◌ {A = ℕ} 0 1 = cc in let v : ⊥ = omega arith in absurd v)

-- sound tables are not refused
pub sound-given : (t : Tables) (seed : ℕ) → Sound t → (number : ℕ) → next_step t seed ≡ Refused number → ⊥
unfolding next_step picked_from
sound-given t seed s number e =
    let told = rw (facts-sound t s) at e in
    let w : ◌≡◌ {A = ℕ} 0 1 = by-test (eqb (length (acceptables t)) 0) (λ z. let f = rw z at told in cc) (λ z. let f = rw z at told in cc)
    in
    omega arith

-- where a begin of all servers is refused, so is one of any mask: the mask is judged by itself
no-mask_helps : (absent barred free fits spent : Bool) → eqb (begin_fault absent barred free true spent) 0 ≡ false →
    eqb (begin_fault absent barred free fits spent) 0 ≡ false
no-mask_helps true barred free fits spent e = refl
no-mask_helps false true free fits spent e = refl
no-mask_helps false false false fits spent e = refl
no-mask_helps false false true false spent e = refl
no-mask_helps false false true true spent e = e

-- the numbers of the steps
module _ (t : Tables) (q : ℕ) (h : q < clients_of t) where
  abbrev p : ℕ
  p = clients_of t

  number-write : numbered t q ≡ write_of_all t q
  unfolding numbered
  number-write = rw (lt-ltb q p h)

  number_read : numbered t (p + q) ≡ read_of_all t q
  unfolding numbered
  number_read =
      let z : p + q - p ≡ q = omega arith in
      rw (le-ltb (p + q) p (omega arith), lt-ltb (p + q) (2 * p) (omega arith), z)

  module _ (i : ℕ) (l : i < targets) where
    pub number-request : numbered t (2 * p + (targets * q + i)) ≡ load_step (Request q i) 0
    unfolding numbered
    number-request =
        let n = 2 * p + (targets * q + i) in
        let z : n - 2 * p ≡ targets * q + i = omega arith in
        let a : (targets * q + i) / targets ≡ q = omega arith in
        let b : (targets * q + i) % targets ≡ i = omega arith in
        rw (le-ltb n p (omega arith), le-ltb n (2 * p) (omega arith), lt-ltb n ((2 + targets) * p) (omega arith), z, a, b)

    pub number-reply : numbered t ((2 + targets) * p + (targets * q + i)) ≡ load_step (Reply q i) 0
    unfolding numbered
    number-reply =
        let n = (2 + targets) * p + (targets * q + i) in
        let z : n - (2 + targets) * p ≡ targets * q + i = omega arith in
        let a : (targets * q + i) / targets ≡ q = omega arith in
        let b : (targets * q + i) % targets ≡ i = omega arith in
        rw (le-ltb n p (omega arith), le-ltb n (2 * p) (omega arith), le-ltb n ((2 + targets) * p) (omega arith), z, a, b)

module _ (t : Tables) (s : Sound t) (none : (n : ℕ) → n < numbered_count (clients_of t) → acceptable t (numbered t n) ≡ false) where
  -- the mask of all servers is one that fits
  all-within : mask_within (all_servers (servers_of t)) (servers_of t) ≡ true
  all-within = within-test _ _ (rw s.log.firstmask at (s.log.entry 0 s.scalars.entries.least).mask)

  -- a client that is there, or not
  by-client : {C : Type 0} (q : ℕ) → (q < clients_of t → C) → (leb (clients_of t) q ≡ true → C) → C
  by-client q there absent =
      let p = clients_of t in
      by-test (ltb q p) (λ e. there (ltb-true q p e)) (λ e. absent (le-leb p q (ltb-false q p e)))

  pub no_write : (q mask badge : ℕ) (setpoints : List ℕ) → is_fine (begin_write q mask badge setpoints t) ≡ false
  no_write q mask badge setpoints =
      let k = servers_of t in
      sym (write-judged t s q mask badge setpoints) ∙
      by-client q
      (λ h.
      let e : acceptable t (write_of_all t q) ≡ false = rw (number-write t q h) at (none q (omega arith)) in
      let f : accepts_write t q ≡ false = write-told t s q (count_of t q + 1) ∙ e in
      let g = rw (both (mask_within (all_servers k) k) (eqb k k) all-within (eq-eqb k k refl)) at f in
      no-mask_helps (leb (clients_of t) q) (is_retired (method_of t)) (eqb (state_of t q) idle)
      (mask_within mask k && eqb (length setpoints) k) (leb record_places (writes_of t) || at_last_step t) g)
      (λ e. rw e)

  pub no_read : (q mask : ℕ) → is_fine (begin_read q mask t) ≡ false
  no_read q mask =
      let k = servers_of t in
      sym (read-judged t s q mask) ∙
      by-client q
      (λ h.
      let e : acceptable t (read_of_all t q) ≡ false = rw (number_read t q h) at (none (clients_of t + q) (omega arith)) in
      let f : accepts_read t q ≡ false = read_told t s q 0 ∙ e in
      let g = rw all-within at f in
      no-mask_helps (leb (clients_of t) q) (is_retired (method_of t)) (eqb (state_of t q) idle)
      (mask_within mask k) (leb record_places (reads_of t) || at_last_step t) g)
      (λ e. rw e)

  -- a link of a client and a target that are there, or number 3
  pub by-link : {C : Type 0} (q i : ℕ) → (q < clients_of t → i < targets → C) → (eqb (delivery_fault q i t) 0 ≡ false → C) → C
  by-link q i there fault =
      by-client q
      (λ h. by-test (ltb i targets) (λ l. there h (ltb-true i targets l))
      (λ l.
      let far : targets ≤ i = ltb-false i targets l in
      let a : ltb i (servers_of t) ≡ false = le-ltb i (servers_of t) (omega (arith, few_servers t s)) in
      let b : eqb i coordinator ≡ false = ne_eqb i coordinator (λ z. omega arith) in
      fault (by-test (leb (clients_of t) q) (λ c. rw c) (λ c. rw (c, a, b)))))
      (λ e. fault (rw e))
