-- Each printed line is read as its step, and that step was accepted.
use Rattle.std.specs.Prelude.{ℕ, zero, suc, ◌≡◌, refl, true, List, [], ◌∷◌, ◌++◌, replicate}
use Rattle.std.proofs.Common.{sym, ap, subst, ◌∙◌, arith}
use Rattle.std.proofs.Math.Seq.{append_snoc}
use Rattle.tables.specs.Tables.{Tables, servers_of}
use Rattle.rules.specs.Answer.{Ok}
use Rattle.soundness.specs.Facts.{Sound}
use Rattle.soundness.specs.Room.{few_servers}
use Rattle.keeping.proofs.Steps.{open-sound}
use Rattle.schedule.specs.declared.Step.TheVariants.{Open}
use Rattle.schedule.specs.Lines.{lines_of}
use Rattle.schedule.specs.Steps.{Named, step_text}
use Rattle.schedule.specs.ReadBack.{step_line}
use Rattle.playing.specs.Played.{Played, played, played_line}
use Rattle.playing.specs.PlayableLaws.{step-sound}
use Rattle.workload.specs.Next.{Next}
use Rattle.workload.specs.Next as next
use Rattle.workload.specs.Load.{load_played, is_accepted, next_step}
use Rattle.workload.proofs.ClaimLaws as workload
use Rattle.workload_run.specs.Run.{taken, after_pick, take_step}
use Rattle.load_text.specs.declared.Wanted.{Wanted}
use Rattle.load_text.specs.Asked.{Load}
use Rattle.load_text.specs.Given.{zeros, opening, picks, lines_from, load_text}
use Rattle.load_text.specs.GivenLaws.{fitting}
use Rattle.load_text.specs.TurnLaws.{lines_later}
use Rattle.load_text.specs.FitLaws.{equally, line-played, opening-played, given_small}
use Rattle.load_text.specs.Claim.{AllAccepted, Claim}

-- a line that is played as an accepted step, and lines that are accepted behind it
one_more : (n : Named) (rest : List ℕ) (t : Tables) (p : Played) → played_line (step_text n) t ≡ p → is_accepted p.shown.word ≡ true →
    AllAccepted (lines_of rest) p.tables → AllAccepted (lines_of ((step_text n ++ (10 ∷ [])) ++ rest)) t
unfolding AllAccepted
one_more n rest t p e fine more =
    let split : lines_of ((step_text n ++ (10 ∷ [])) ++ rest) ≡ step_text n ∷ lines_of rest =
    ap lines_of (append_snoc (step_text n) 10 rest) ∙ step_line n rest in
    subst (λ (l : List (List ℕ)). AllAccepted l t) (sym split)
    (subst (λ (q : Played). (is_accepted q.shown.word ≡ true) × AllAccepted (lines_of rest) q.tables) (sym e) (fine, more))

no_lines : (t : Tables) → AllAccepted (lines_of []) t
unfolding AllAccepted lines_of
no_lines t = tt

-- a pick, by what it gives; the lines behind it are accepted
by_next : (n seed : ℕ) (t : Tables) → Sound t → ((seed' : ℕ) (t' : Tables) → Sound t' → AllAccepted (lines_of (lines_from n seed' t')) t') →
    (x : Next) → next_step t seed ≡ x → take_step t seed ≡ taken x (after_pick x t) → AllAccepted (lines_of (lines_from (suc n) seed t)) t
unfolding lines_from picks
by_next n seed t s more (next.Refused number) is e = rw e (more seed t s)
by_next n seed t s more next.End is e = rw e (more seed t s)
by_next n seed t s more (next.Given seed' x) is e =
    let k = servers_of t in
    let small = given_small t s seed seed' x is in
    let left = (load_played t x).tables in
    rw e (one_more (equally x.step k x.setpoint) (lines_from n seed' left) t (load_played t x)
    (line-played t k x.setpoint (few_servers t s) small.1 x.step small.0)
    ((workload.theorem).given t seed seed' x is)
    (more seed' left (step-sound x.step (replicate k x.setpoint) t s)))

lines-accepted : (n seed : ℕ) (t : Tables) → Sound t → AllAccepted (lines_of (lines_from n seed t)) t
unfolding lines_from take_step
lines-accepted zero seed t s = no_lines t
lines-accepted (suc n) seed t s = by_next n seed t s (λ seed' t' s'. lines-accepted n seed' t' s') (next_step t seed) refl refl

-- the opening's line, and those behind it
load-accepted : (w : Wanted) (t : Tables) → (opening w t).answer ≡ Ok → AllAccepted (lines_of (load_text (Load w) t)) t
unfolding played
load-accepted w t ok =
    let m = w.method in
    let k = w.servers in
    let p = w.clients in
    let press = fitting m k p t (zeros w) ok in
    let left = (opening w t).tables in
    rw ok (one_more (equally (Open m k p) k 0) (lines_from w.steps w.seed left) t (played (Open m k p) (zeros w) t)
    (opening-played t m k p (omega (arith, press.method.most)) press.servers.most (omega (arith, press.clients.most)))
    (rw ok)
    (lines-accepted w.steps w.seed left (open-sound m k p (zeros w) t ok)))

pub theorem : Claim
theorem = record { accepted = load-accepted; later = lines_later }
