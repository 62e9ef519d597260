-- The cases of a pick that is played, as the code meets them.
use Rattle.std.specs.Prelude.{ℕ, zero, suc, ◌+◌, ◌-◌, ◌*◌, length, ◌≤◌, ◌≡◌, refl, List, take, replicate}
use Rattle.std.proofs.Common.{◌∙◌, ap, arith, append_assoc}
use Rattle.tables.specs.Tables.{Tables, servers_of}
use borrow.Rule.Slice.PartMut.{put_mid}
use Rattle.std.proofs.lemmas.List.{drop-drop}
use Rattle.std.proofs.lemmas.List.Edits.{sets-eq}
use Rattle.schedule.specs.declared.Step.{Step}
use Rattle.schedule.specs.declared.Step.TheVariants as step
use Rattle.playing.specs.Played.{Played, played}
use Rattle.workload.specs.declared.LoadStep.{LoadStep}
use Rattle.workload.specs.Next.{Next}
use Rattle.workload.specs.Next as next
use Rattle.workload.specs.Load.{load_played, next_step}
use Rattle.workload_run.specs.declared.Progress.{Progress}
use Rattle.workload_run.specs.Run.{step_width, step_words, listed, after_pick, Taken, taken, take_step, running, gone_on}
use Rattle.workload_run.specs.Run.{listed_next, pick_one}

-- the setpoint for each server, out of as many as a store can have
take_same : (m n v : ℕ) → m ≤ n → take m (replicate n v) ≡ replicate m v
take_same zero n v h = refl
take_same (suc m) zero v h = let z : ⊥ = omega arith in absurd z
take_same (suc m) (suc n) v h = rw (take_same m n v (omega arith))

pub given-played : (t : Tables) (s : LoadStep) {n : ℕ} {x : Played} → n ≡ servers_of t → n ≤ 16 →
    x ≡ played s.step (take n (replicate 16 s.setpoint)) t → x.tables ≡ (load_played t s).tables
given-played t s {n} d h e = ap (λ (p : Played). p.tables) e ∙ rw (take_same n 16 s.setpoint h, d)

-- four words copied to their place in the list are its row
words_four : (step : Step) (setpoint : ℕ) → length (step_words step setpoint) ≡ step_width
words_four step.Unreadable v = refl
words_four (step.Open m k p) v = refl
words_four (step.BeginWrite q mask badge) v = refl
words_four (step.BeginRead q mask) v = refl
words_four (step.Request q i) v = refl
words_four (step.Reply q i) v = refl
words_four (step.Lose q i) v = refl
words_four (step.Resend q i) v = refl

pub row_listed : (list : List ℕ) (at : ℕ) (s : LoadStep) {row : List ℕ} → step_width * at + step_width ≤ length list →
    row ≡ step_words s.step s.setpoint →
    put_mid (step_width * at) (step_width * at + step_width - step_width * at) list row ≡ listed list at s
row_listed list at s {row} h e =
    let size : length row ≡ 4 = rw e (words_four s.step s.setpoint) in
    let more : 4 * at + 4 - 4 * at ≡ 4 = omega arith in
    rw (← e, sets-eq row list (4 * at) (omega (arith, size)), size, more, drop-drop 4 (4 * at) list, append_assoc)

-- what a pick gave, by its case
pub taken_by : (t : Tables) (seed : ℕ) {r c x : Next} {t' : Tables} → r ≡ next_step t seed → r ≡ c → x ≡ c → t' ≡ after_pick c t →
    taken x t' ≡ take_step t seed
unfolding take_step
taken_by t seed e d g f = rw (g, f, ← e, d)

pub picked-one : (p : Progress) (list : List ℕ) (t : Tables) {n : Next} {t' : Tables} {r : Progress} {list' : List ℕ} →
    taken n t' ≡ take_step t p.seed →
    (r ≡ gone_on n p) × (list' ≡ listed_next n p.given list) → running r list' t' ≡ pick_one (running p list t)
unfolding pick_one
picked-one p list t e f = rw (← e, f.0, f.1)

-- where a pick gives no step, all stays as it is
pub picked-none : (p : Progress) (list : List ℕ) (t : Tables) {t' : Tables} → taken next.End t' ≡ take_step t p.seed →
    (t' ≡ t) × (pick_one (running p list t) ≡ running p list t)
unfolding pick_one take_step
picked-none p list t e =
    let n : next.End ≡ next_step t p.seed = ap (λ (y : Taken). y.next) e in
    (ap (λ (y : Taken). y.tables) e ∙ rw (← n), rw (← n))
