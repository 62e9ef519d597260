-- What number 0 of a refusal says: no cause refuses, so the step has these facts at hand. One law for each kind of step turns the number into them.
use Rattle.std.specs.Prelude.{ℕ, suc, ◌≤◌, ◌<◌, ◌≡◌, refl, Bool, true, false, cond, ◌&&◌, ◌||◌, List, length, ltb}
use Rattle.std.proofs.Math.Bool.{not}
use Rattle.std.proofs.Common.{true≢false, arith}
use Rattle.std.proofs.Math.Dec.{eqb, leb}
use borrow.Author.Tests.{eqb-true, ltb-true, leb-false, not-false}
use Rattle.ranges.specs.Tests.{by-test, both_left, both_right}
use Rattle.keys.specs.Masks.{mask_within, Within}
use Rattle.keys.specs.MaskLaws.{within-true}
use Rattle.tables.specs.Layout.{last_step, record_places}
use Rattle.tables.specs.Links.{targets}
use Rattle.tables.specs.Tables.{Tables, method_of, servers_of, clients_of, step_of, writes_of, reads_of, state_of}
use Rattle.rules.specs.Common.{idle, coordinator}
use Rattle.soundness.specs.Sound.{long_enough, press_fits, holding, sound}
use Rattle.soundness.specs.Facts.{Long, long_facts, Press, press_facts, Sound, sound_facts}
use Rattle.soundness.specs.Room.{few_servers, server-fits}
use Rattle.rules.specs.Begin.{begun_read}
use Rattle.refusals.specs.Refusals.{is_retired, open_fault, press_opens, open_refusal, begin_fault, write_fault_if, read_fault_if, write_refusal}
use Rattle.refusals.specs.Refusals.{read_refusal, delivery_refusal, is_target, at_last_step}
use Rattle.refusals.specs.Former.{former_open_refusal, former_write_refusal, former_read_refusal, formerly_begun_read}
use Rattle.keeping.specs.States.{holding-log, holding-server}

-- a cause that is a failed test is absent: the test passed, and no later cause refuses
has : (b : Bool) (n rest : ℕ) → cond (not b) (suc n) rest ≡ 0 → (b ≡ true) × (rest ≡ 0)
has true n rest e = (refl, e)
has false n rest e = let z : ⊥ = omega arith in absurd z

-- a cause that is a passed test is absent
lacks : (b : Bool) (n rest : ℕ) → cond b (suc n) rest ≡ 0 → (b ≡ false) × (rest ≡ 0)
lacks true n rest e = let z : ⊥ = omega arith in absurd z
lacks false n rest e = (refl, e)

-- neither of two tests passed
pub neither : (a b : Bool) → (a || b) ≡ false → (a ≡ false) × (b ≡ false)
neither false b e = (refl, e)
neither true b e = absurd (true≢false e)

-- An opening.
pub record Openable (m k p : ℕ) (values : List ℕ) (t : Tables) : Type 0 where
  pub press : Press m k p
  pub setpoints : length values ≡ k
  pub long : Long k p t

-- A begin.
pub record Beginnable (q mask : ℕ) (t : Tables) : Type 0 where
  pub client : q < clients_of t
  pub free : state_of t q ≡ idle
  pub masked : Within mask (servers_of t)
  pub early : step_of t < last_step

pub record Writable (q mask : ℕ) (setpoints : List ℕ) (t : Tables) : Type 0 where
  pub begin : Beginnable q mask t
  pub part : (eqb (method_of t) 1 && eqb q 0) ≡ false
  pub values : length setpoints ≡ servers_of t
  pub few : writes_of t < record_places

pub record Readable (q mask : ℕ) (t : Tables) : Type 0 where
  pub begin : Beginnable q mask t
  pub part : (eqb (method_of t) 1 && not (eqb q 0)) ≡ false
  pub few : reads_of t < record_places

-- A delivery.
pub record Deliverable (q i : ℕ) (t : Tables) : Type 0 where
  pub client : q < clients_of t
  pub target : is_target t i ≡ true
  pub early : step_of t < last_step

module _ (m k p : ℕ) (values : List ℕ) (t : Tables) where
  -- whatever presses may be opened, as long as they are presses
  opens : (fits : Bool) → open_fault fits k p values t ≡ 0 → (fits ≡ true → Press m k p) → Openable m k p values t
  opens fits e press =
      let a = has (fits && eqb (length values) k) 0 (cond (not (long_enough k p t)) 2 0) e in
      let b = has (long_enough k p t) 1 0 a.1 in
      record {
        press = press (both_left fits (eqb (length values) k) a.0);
        setpoints = eqb-true _ _ (both_right fits (eqb (length values) k) a.0);
        long = long_facts k p t b.0;
      }

  pub openable : open_refusal m k p values t ≡ 0 → Openable m k p values t
  unfolding open_refusal
  openable e = opens (press_opens m k p) e (λ f. press_facts m k p (both_right (not (is_retired m)) (press_fits m k p) f))

  -- by the former rules
  pub former_openable : former_open_refusal m k p values t ≡ 0 → Openable m k p values t
  unfolding former_open_refusal
  former_openable e = opens (press_fits m k p) e (press_facts m k p)

-- a begin that no number refuses: every cause is absent
record Passed (absent barred free fits spent : Bool) : Type 0 where
  there : absent ≡ false
  allowed : barred ≡ false
  idling : free ≡ true
  fitting : fits ≡ true
  unspent : spent ≡ false

passed : (absent barred free fits spent : Bool) → begin_fault absent barred free fits spent ≡ 0 → Passed absent barred free fits spent
passed absent barred free fits spent e =
    let r₃ = lacks absent 2 (cond barred 4 (cond (not free) 5 (cond (not fits) 6 (cond spent 7 0)))) e in
    let r₄ = lacks barred 3 (cond (not free) 5 (cond (not fits) 6 (cond spent 7 0))) r₃.1 in
    let r₅ = has free 4 (cond (not fits) 6 (cond spent 7 0)) r₄.1 in
    let r₆ = has fits 5 (cond spent 7 0) r₅.1 in
    record { there = r₃.0; allowed = r₄.0; idling = r₅.0; fitting = r₆.0; unspent = (lacks spent 6 0 r₆.1).0 }

-- who is not barred by today's rules was not by the former
unbarred : (m : ℕ) (b : Bool) → is_retired m ≡ false → (is_retired m && b) ≡ false
unbarred m b e = rw e

-- a begin that is accepted is not barred
module _ (t : Tables) (absent barred free fits spent : Bool)
    (e : cond (not (sound t)) 2 (begin_fault absent barred free fits spent) ≡ 0) where
  allowed : barred ≡ false
  allowed = (passed absent barred free fits spent (has (sound t) 1 (begin_fault absent barred free fits spent) e).1).allowed

module _ (q mask : ℕ) (setpoints : List ℕ) (t : Tables) where
  writes : (barred : Bool) → cond (not (sound t)) 2 (write_fault_if barred q mask (length setpoints) t) ≡ 0 →
      (barred ≡ false → (eqb (method_of t) 1 && eqb q 0) ≡ false) → Writable q mask setpoints t
  writes barred e part =
      let absent = leb (clients_of t) q in
      let free = eqb (state_of t q) idle in
      let fits = mask_within mask (servers_of t) && eqb (length setpoints) (servers_of t) in
      let spent = leb record_places (writes_of t) || at_last_step t in
      let r = passed absent barred free fits spent (has (sound t) 1 (begin_fault absent barred free fits spent) e).1 in
      let left = neither (leb record_places (writes_of t)) (at_last_step t) r.unspent in
      record {
        begin = record {
          client = leb-false _ _ r.there;
          free = eqb-true _ _ r.idling;
          masked = within-true _ _ (both_left (mask_within mask (servers_of t)) (eqb (length setpoints) (servers_of t)) r.fitting);
          early = leb-false _ _ left.1;
        };
        part = part r.allowed;
        values = eqb-true _ _ (both_right (mask_within mask (servers_of t)) (eqb (length setpoints) (servers_of t)) r.fitting);
        few = leb-false _ _ left.0;
      }

  pub writable : write_refusal q mask setpoints t ≡ 0 → Writable q mask setpoints t
  unfolding write_refusal
  writable e = writes (is_retired (method_of t)) e (unbarred (method_of t) (eqb q 0))

  pub write_current : write_refusal q mask setpoints t ≡ 0 → is_retired (method_of t) ≡ false
  unfolding write_refusal
  write_current e =
      let fits = mask_within mask (servers_of t) && eqb (length setpoints) (servers_of t) in
      let spent = leb record_places (writes_of t) || at_last_step t in
      allowed t (leb (clients_of t) q) (is_retired (method_of t)) (eqb (state_of t q) idle) fits spent e

  pub former-writable : former_write_refusal q mask setpoints t ≡ 0 → Writable q mask setpoints t
  unfolding former_write_refusal
  former-writable e = writes (eqb (method_of t) 1 && eqb q 0) e (λ b. b)

module _ (q mask : ℕ) (t : Tables) where
  reads : (barred : Bool) → cond (not (sound t)) 2 (read_fault_if barred q mask t) ≡ 0 →
      (barred ≡ false → (eqb (method_of t) 1 && not (eqb q 0)) ≡ false) → Readable q mask t
  reads barred e part =
      let absent = leb (clients_of t) q in
      let free = eqb (state_of t q) idle in
      let fits = mask_within mask (servers_of t) in
      let spent = leb record_places (reads_of t) || at_last_step t in
      let r = passed absent barred free fits spent (has (sound t) 1 (begin_fault absent barred free fits spent) e).1 in
      let left = neither (leb record_places (reads_of t)) (at_last_step t) r.unspent in
      record {
        begin = record {
          client = leb-false _ _ r.there;
          free = eqb-true _ _ r.idling;
          masked = within-true _ _ r.fitting;
          early = leb-false _ _ left.1;
        };
        part = part r.allowed;
        few = leb-false _ _ left.0;
      }

  pub readable : read_refusal q mask t ≡ 0 → Readable q mask t
  unfolding read_refusal
  readable e = reads (is_retired (method_of t)) e (unbarred (method_of t) (not (eqb q 0)))

  pub former-readable : former_read_refusal q mask t ≡ 0 → Readable q mask t
  unfolding former_read_refusal
  former-readable e = reads (eqb (method_of t) 1 && not (eqb q 0)) e (λ b. b)

  -- "nothing new begins on them": the method of a READ that today's rules accept is not 1
  pub read_current : read_refusal q mask t ≡ 0 → is_retired (method_of t) ≡ false
  unfolding read_refusal
  read_current e =
      let free = eqb (state_of t q) idle in
      let spent = leb record_places (reads_of t) || at_last_step t in
      allowed t (leb (clients_of t) q) (is_retired (method_of t)) free (mask_within mask (servers_of t)) spent e

  -- so it began the same by the former
  pub as-formerly : read_refusal q mask t ≡ 0 → formerly_begun_read q mask t ≡ begun_read q mask t
  unfolding formerly_begun_read begun_read
  as-formerly e = rw (read_current e)

module _ (q i : ℕ) (t : Tables) where
  -- the tables of a delivery that is accepted are sound
  pub delivery-sound : delivery_refusal q i t ≡ 0 → Sound t
  unfolding delivery_refusal
  delivery-sound e =
      sound_facts t (has (sound t) 1 (cond (leb (clients_of t) q || not (is_target t i)) 3 (cond (at_last_step t) 7 0)) e).0

  pub deliverable : delivery_refusal q i t ≡ 0 → Deliverable q i t
  unfolding delivery_refusal
  deliverable e =
      let a = has (sound t) 1 (cond (leb (clients_of t) q || not (is_target t i)) 3 (cond (at_last_step t) 7 0)) e in
      let b = lacks (leb (clients_of t) q || not (is_target t i)) 2 (cond (at_last_step t) 7 0) a.1 in
      let n = neither (leb (clients_of t) q) (not (is_target t i)) b.0 in
      record { client = leb-false _ _ n.0; target = not-false _ n.1; early = leb-false _ _ (lacks (at_last_step t) 6 0 b.1).0 }

-- A target is a server or the coordinator.
module _ (t : Tables) (s : Sound t) (i : ℕ) (target : is_target t i ≡ true) where
  pub by-target : {C : Type 0} → (i < servers_of t → C) → (i ≡ coordinator → C) → C
  by-target server other =
      by-test (ltb i (servers_of t))
      (λ b. server (ltb-true _ _ b))
      (λ b. other (eqb-true i coordinator (rw b at target)))

  pub target_below : i < targets
  target_below = by-target (λ h. omega (arith, few_servers t s)) (λ e. omega arith)

  -- it holds something, the opening's at least
  pub holding-some : 1 ≤ holding t i
  holding-some =
      by-target
      (λ h. rw (holding-server t i (λ e. omega (arith, server-fits t s i h))) (s.server i h).held.least)
      (λ e. rw (holding-log t i e) s.scalars.entries.least)
