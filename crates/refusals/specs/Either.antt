-- A step is stopped by a number, or by none: what both ways leave has a property, so the step leaves it.
use Rattle.std.specs.Prelude.{ℕ, zero, suc, ◌≡◌, refl}
use Rattle.std.proofs.Common.{arith}
use Rattle.tables.specs.Tables.{Tables}
use Rattle.rules.specs.Answer.{Ok}
use Rattle.rules.specs.declared.Arrival.TheVariants as arrival
use Rattle.rules.specs.Answers.{Left, left, Arrived}
use Rattle.rules.specs.Request.{refused}
use Rattle.rules.specs.Reply.{said}
use Rattle.refusals.specs.Steps.{unless, unless_arrived}
use Rattle.refusals.specs.Former.{unless_former}

pub by_refusal : (P : Left → Type 0) (n : ℕ) (x : Left) (t : Tables) → ((m : ℕ) → n ≡ m → P (refused m t)) → (n ≡ 0 → P x) → P (unless n x t)
by_refusal P zero x t no' yes' = yes' refl
by_refusal P (suc n) x t no' yes' = no' (suc n) refl

pub by_refusal-arrived : (P : Arrived → Type 0) (n : ℕ) (x : Arrived) (t : Tables) → ((m : ℕ) → n ≡ m → P (said (arrival.Refused m) t)) → (n ≡ 0 → P x) → P (unless_arrived n x t)
by_refusal-arrived P zero x t no' yes' = yes' refl
by_refusal-arrived P (suc n) x t no' yes' = no' (suc n) refl

-- a step that answers *ok* was stopped by none
pub unstopped : (n : ℕ) (x t : Tables) → (unless n (left Ok x) t).answer ≡ Ok → n ≡ 0
unstopped zero x t e = refl
unstopped (suc n) x t e = let z : ◌≡◌ {A = ℕ} 0 1 = cc in let w : ⊥ = omega arith in absurd w

-- the former rules accept, or today's rules answer
pub by_former : (P : Left → Type 0) (n : ℕ) (former today : Left) → (n ≡ 0 → P former) → P today → P (unless_former n former today)
by_former P zero former today yes' no' = yes' refl
by_former P (suc n) former today yes' no' = no'
