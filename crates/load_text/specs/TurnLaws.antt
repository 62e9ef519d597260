-- Laws of the turns of a load: each leaves sound tables and fewer steps, and what it prints is the next part of what was to be printed.
use Rattle.std.specs.Prelude.{ℕ, zero, suc, ◌-◌, ◌<◌, ◌≡◌, refl}
use Rattle.std.proofs.Common.{sym, arith}
use Rattle.std.proofs.Math.Path.{subst}
use mathlib.Core.List.{List, [], ◌++◌}
use Rattle.tables.specs.Tables.{Tables, servers_of}
use Rattle.rules.specs.Answer.{Answer}
use Rattle.rules.specs.Answer.{Ok, Refused}
use Rattle.soundness.specs.Facts.{Sound}
use Rattle.keeping.proofs.Steps.{open-sound}
use Rattle.workload.specs.Next.{Next}
use Rattle.workload.specs.Next as next
use Rattle.workload.specs.Load.{next_step}
use Rattle.workload_run.specs.Run.{Taken, taken, after_pick, take_step, running, begun, pick_one}
use Rattle.workload_run.specs.RunLaws.{pick-sound}
use Rattle.load_text.specs.declared.Wanted.{Wanted}
use Rattle.load_text.specs.Asked.{Asked}
use Rattle.load_text.specs.Asked.{Unreadable, Load}
use Rattle.load_text.specs.declared.Giving.{Giving}
use Rattle.load_text.specs.Given.{Given, zeros, opening, opened_by, begins, picked_by, picks, lines_from, rest_of, Gave}

-- where steps are wanted behind the opening, it left sound tables
opened-sound : (w : Wanted) (t : Tables) (a : Answer) → (opening w t).answer ≡ a → 0 < (opened_by w a (opening w t).tables).left →
    Sound (opened_by w a (opening w t).tables).tables
opened-sound w t Ok e h = open-sound w.method w.servers w.clients (zeros w) t e
opened-sound w t (Refused number) e h = let z : ⊥ = omega arith in absurd z

pub begins-sound : (asked : Asked) (t : Tables) → 0 < (begins asked t).left → Sound (begins asked t).tables
begins-sound Unreadable t h = let z : ⊥ = omega arith in absurd z
begins-sound (Load w) t h = opened-sound w t (opening w t).answer refl h

-- a turn in code leaves sound tables where its definition does, and as few steps
module _ {g : Given} {at : ℕ} {out : List ℕ} {r : Giving} {out' : List ℕ} {t' : Tables} (gave : Gave g at out r out' t') where
  pub gave-sound : (0 < g.left → Sound g.tables) → 0 < r.left → Sound t'
  gave-sound s h = subst Sound (sym gave.tables) (s (omega (arith, h, gave.left)))

  pub gave-less : {left : ℕ} → g.left < left → r.left < left
  gave-less h = omega (arith, h, gave.left)

-- a pick, as the code meets it
module _ (left seed : ℕ) (t : Tables) where
  pub gave-picked : {n : Next} {t' : Tables} → taken n t' ≡ take_step t seed → {k : ℕ} → k ≡ servers_of t →
      {at : ℕ} {out : List ℕ} {r : Giving} {out' : List ℕ} → ((x : Tables) → Gave (picked_by n k left seed x) at out r out' x) →
      Gave (picks left seed t) at out r out' t'
  unfolding picks
  gave-picked {n} {t'} e d {at} {out} {r} {out'} g =
      subst (λ (y : Taken). Gave (picked_by y.next (servers_of t) left seed y.tables) at out r out' t') e
      (subst (λ (m : ℕ). Gave (picked_by n m left seed t') at out r out' t') d (g t'))

  picked_tables : (n : Next) (t' : Tables) → (picked_by n (servers_of t) left seed t').tables ≡ t'
  picked_tables (next.Refused number) t' = refl
  picked_tables next.End t' = refl
  picked_tables (next.Given seed' s) t' = refl

  pub picks-sound : Sound t → Sound (picks left seed t).tables
  unfolding picks pick_one
  picks-sound s = rw (picked_tables (take_step t seed).next (take_step t seed).tables) (pick-sound (running (begun seed) [] t) s)

  picked-less : (n : Next) (t' : Tables) → 0 < left → (picked_by n (servers_of t) left seed t').left < left
  picked-less (next.Refused number) t' h = h
  picked-less next.End t' h = h
  picked-less (next.Given seed' s) t' h = omega arith

  pub picks-less : 0 < left → (picks left seed t).left < left
  unfolding picks
  picks-less h = picked-less (take_step t seed).next (take_step t seed).tables h

-- where a pick gives no step, no later one does
ended : (n seed : ℕ) (t : Tables) → take_step t seed ≡ taken next.End t → lines_from n seed t ≡ []
unfolding lines_from picks
ended zero seed t e = refl
ended (suc n) seed t e = rw e (ended n seed t e)

refused : (n seed number : ℕ) (t : Tables) → take_step t seed ≡ taken (next.Refused number) t → lines_from n seed t ≡ []
unfolding lines_from picks
refused zero seed number t e = refl
refused (suc n) seed number t e = rw e (refused n seed number t e)

by_next : (n seed : ℕ) (t : Tables) (x : Next) → take_step t seed ≡ taken x (after_pick x t) →
    lines_from (suc n) seed t ≡ (picks (suc n) seed t).text ++ rest_of (picks (suc n) seed t)
unfolding lines_from picks
by_next n seed t (next.Refused number) e = rw e (refused n seed number t e)
by_next n seed t next.End e = rw e (ended n seed t e)
by_next n seed t (next.Given seed' s) e =
    let d : suc n - 1 ≡ n = omega arith in
    rw (e, d)

-- what was to be printed is what the turn prints and what is still to be printed then
pub lines_later : (left seed : ℕ) (t : Tables) → 0 < left → lines_from left seed t ≡ (picks left seed t).text ++ rest_of (picks left seed t)
unfolding take_step
lines_later zero seed t h = let z : ⊥ = omega arith in absurd z
lines_later (suc n) seed t h = by_next n seed t (next_step t seed) refl
