-- The laws of a load that is played: a pick keeps tables sound and the list's length, and a pick that gives no step is the last.
use Rattle.std.specs.Prelude.{ℕ, zero, suc, ◌+◌, ◌*◌, ◌≤◌, ◌<◌, ◌≡◌, refl, Bool, true, false, not, List, length, replicate}
use Rattle.std.proofs.Common.{sym, ◌∙◌, ap, arith}
use borrow.Author.Tests.{lt-ltb, le-ltb}
use Rattle.ranges.specs.Tests.{by_equal}
use Rattle.ranges.specs.Turns.{turns, turns-none, turns_more}
use Rattle.tables.specs.Rows.{row-length}
use Rattle.tables.specs.Tables.{Tables, servers_of}
use Rattle.soundness.specs.Sound.{sound}
use Rattle.soundness.specs.Facts.{Sound}
use Rattle.playing.specs.PlayableLaws.{step-sound}
use Rattle.workload.specs.Next.{Next}
use Rattle.workload.specs.Next as next
use Rattle.workload.specs.Load.{next_step}
use Rattle.workload_run.specs.Load.{Refused}
use Rattle.workload_run.specs.Run.{step_width, step_words, after_pick, take_step, Running, running, begun, gone_on, listed_next}
use Rattle.workload_run.specs.Run.{pick_one, load, Loaded, loaded, ended, play_load}

-- what a pick keeps
after-sound : (n : Next) (t : Tables) → Sound t → Sound (after_pick n t)
after-sound (next.Refused n) t s = s
after-sound next.End t s = s
after-sound (next.Given seed x) t s = step-sound x.step (replicate (servers_of t) x.setpoint) t s

pub pick-sound : (x : Running) → Sound x.tables → Sound (pick_one x).tables
unfolding pick_one take_step
pick-sound x s = after-sound (next_step x.tables x.progress.seed) x.tables s

list_length : (n : Next) (at : ℕ) (list : List ℕ) → length (listed_next n at list) ≡ length list
list_length (next.Refused n) at list = refl
list_length next.End at list = refl
list_length (next.Given seed x) at list = row-length step_width list at (step_words x.step x.setpoint)

pub pick-length : (x : Running) → length (pick_one x).list ≡ length x.list
unfolding pick_one
pick-length x = list_length (take_step x.tables x.progress.seed).next x.progress.given x.list

-- one step more is given, or none and all stays
gone_on_lem : {C : Type 0} (n : Next) (x : Running) → ((gone_on n x.progress).given ≡ x.progress.given + 1 → C) →
    (running (gone_on n x.progress) (listed_next n x.progress.given x.list) (after_pick n x.tables) ≡ x → C) → C
gone_on_lem (next.Refused n) x more stays = stays refl
gone_on_lem next.End x more stays = stays refl
gone_on_lem (next.Given seed s) x more stays = more refl

pub by_pick : {C : Type 0} (x : Running) → ((pick_one x).progress.given ≡ x.progress.given + 1 → C) → (pick_one x ≡ x → C) → C
unfolding pick_one take_step
by_pick x more stays = gone_on_lem (next_step x.tables x.progress.seed) x more stays

-- where a pick changes nothing, no later one does
pub stays : (x : Running) {y : Running} (n : ℕ) → y ≡ load n x → pick_one y ≡ y → (m : ℕ) → n ≤ m → y ≡ load m x
unfolding turns
stays x {y} n e f zero h = let z : n ≡ 0 = omega arith in e ∙ rw z
stays x {y} n e f (suc m) h =
    by_equal n (suc m) (λ d. e ∙ rw d)
    (λ d. sym f ∙ ap (λ (z : Running). pick_one z) (stays x n e f m (omega arith)))

-- a load on its way from x: y is where it is behind so many steps
pub record Going (x : Running) (given : ℕ) (y : Running) : Type 0 where
  pub reached : y ≡ load given x
  pub sound : Sound y.tables
  pub size : length y.list ≡ length x.list

module _ (x : Running) where
  pub going-begun : Sound x.tables → Going x 0 x
  going-begun s = record { reached = turns-none (λ n y. pick_one y) x; sound = s; size = refl }

  module _ {given : ℕ} {y : Running} (g : Going x given y) where
    pub going_on : {y' : Running} → y' ≡ pick_one y → Going x (given + 1) y'
    going_on {y'} e =
        record {
          reached = turns_more (λ n z. pick_one z) given x g.reached e;
          sound = rw e (pick-sound y g.sound);
          size = rw e (pick-length y ∙ g.size);
        }

    -- where a pick changes nothing it is where the whole load ends
    pub going-ended : {wanted : ℕ} → pick_one y ≡ y → given ≤ wanted → y ≡ load wanted x
    going-ended {wanted} e h = stays x given g.reached e wanted h

-- playing a load, as the code meets it
module _ (seed wanted : ℕ) (list : List ℕ) (t : Tables) {b : Bool} (d : b ≡ sound t) where
  pub load_unsound : not b ≡ true → loaded (Refused 2) list t ≡ play_load seed wanted list t
  unfolding play_load
  load_unsound e = rw (← d, e)

  pub load_short : not b ≡ false → length list < step_width * wanted → loaded (Refused 12) list t ≡ play_load seed wanted list t
  unfolding play_load
  load_short e h = rw (← d, e, lt-ltb _ _ h)

  pub load-played : not b ≡ false → step_width * wanted ≤ length list → {x : Loaded} →
      x ≡ ended (load wanted (running (begun seed) list t)) →
      x ≡ play_load seed wanted list t
  unfolding play_load
  load-played e h f = f ∙ rw (← d, e, le-ltb _ _ h)
