-- Each step of a load fits a line of a schedule, and so does its opening: the yard plays the printed line as that step.
use Rattle.std.specs.Prelude.{ℕ, zero, suc, ◌+◌, ◌*◌, ◌^◌, ◌≤◌, ◌<◌, Bool, cond, List, [], ◌∷◌, ◌++◌, eqb, ltb, get_or}
use Rattle.std.proofs.Math.Path.{◌≡◌, refl, subst}
use Rattle.std.proofs.Common.{ap, append-nil, length-append}
use Rattle.std.proofs.Math.Nat.{pow-le-pow_right}
use native.Mathlib.Omega.{arith}
use Rattle.std.proofs.Math.ListN.{length, replicate, length-replicate, get_or-append}
use Rattle.std.proofs.Math.Seq.{get_or-append_seam}
use borrow.Author.Tests.{ltb-true, ltb-false, eqb-false}
use Rattle.ranges.specs.Tests.{by-test}
use Rattle.tables.specs.Links.{targets}
use Rattle.tables.specs.Tables.{Tables, servers_of, clients_of}
use Rattle.rules.specs.Open.{all_servers}
use Rattle.soundness.specs.Sound.{sound}
use Rattle.soundness.specs.Facts.{Sound}
use Rattle.soundness.specs.Room.{few_servers, few_clients}
use Rattle.schedule.specs.declared.Step.{Step}
use Rattle.schedule.specs.declared.Step.TheVariants.{Unreadable, Open, BeginWrite, BeginRead, Request, Reply, Lose, Resend}
use Rattle.schedule.specs.Decimal.{decimal, spaced_all}
use Rattle.schedule.specs.DecimalLaws.{word_short, two_short}
use Rattle.schedule.specs.Steps.{line_most, Named, alone, line_numbers, step_text}
use Rattle.schedule.specs.ReadBack.{AllFit, FitsLine, AllShort, spaced_short}
use Rattle.schedule.proofs.ReadBack.{step_back}
use Rattle.playing.specs.Played.{played, played_line}
use Rattle.workload.specs.declared.LoadStep.{LoadStep}
use Rattle.workload.specs.Next.{Refused, End, Given}
use Rattle.workload.specs.Passing.{passing}
use Rattle.workload.specs.Load.{advance, index_by, numbered, numbered_count, acceptable, acceptables, picked_from, next_step}
use Rattle.workload.specs.ReadyLaws.{index_below}

-- a step with the same setpoint for each of some servers
abbrev pub equally : Step → ℕ → ℕ → Named
equally step k v = record { step = step; setpoints = replicate k v }

-- the yard plays a line as the step that it is read as
back-played : (t : Tables) (n : Named) → FitsLine n → played_line (step_text n) t ≡ played n.step n.setpoints t
back-played t n f = ap (λ (m : Named). played m.step m.setpoints t) (step_back n f)

equal_fit : (k v : ℕ) → v ≤ 4294967295 → AllFit (replicate k v)
equal_fit zero v h = tt
equal_fit (suc k) v h = (h, equal_fit k v h)

fit_short : (l : List ℕ) → AllFit l → AllShort 10 l
fit_short [] f = tt
fit_short (n ∷ rest) f = (word_short n (omega (arith, f.0)), fit_short rest f.1)

-- 18 numbers fit a line, whatever they are
short-line : (n : Named) → AllFit (line_numbers n.step n.setpoints) → length (line_numbers n.step n.setpoints) ≤ 18 →
    length (step_text n) ≤ line_most
short-line n f h =
    let l = line_numbers n.step n.setpoints in
    omega (arith, spaced_short 10 l (fit_short l f))

-- a number of a line takes a space and its digits
number_short : (n most : ℕ) (rest : List ℕ) → length (decimal n) ≤ most →
    length (spaced_all (n ∷ rest)) ≤ 1 + most + length (spaced_all rest)
unfolding spaced_all
number_short n most rest h = rw (length-append (decimal n) (spaced_all rest)) (omega (arith, h))

-- A step that the load may give, of two numbers and perhaps setpoints: beside 16 setpoints of any size a WRITE's client and badge have
-- two digits. It gives no losses.
abbrev pub Small : Step → Type 0
Small Unreadable = ⊥
Small (Open method servers clients) = ⊥
Small (BeginWrite client mask badge) = (client < 100) × ((mask ≤ 4294967295) × (badge < 100))
Small (BeginRead client mask) = (client ≤ 4294967295) × (mask ≤ 4294967295)
Small (Request client target) = (client ≤ 4294967295) × (target ≤ 4294967295)
Small (Reply client target) = (client ≤ 4294967295) × (target ≤ 4294967295)
Small (Lose client target) = ⊥
Small (Resend client target) = ⊥

module _ (t : Tables) (k v : ℕ) (few : k ≤ 16) (fits : v ≤ 4294967295) where
  pub line-played : (step : Step) → Small step → played_line (step_text (equally step k v)) t ≡ played step (replicate k v) t
  unfolding played
  line-played Unreadable f = absurd f
  line-played (Open method servers clients) f = absurd f
  line-played (BeginWrite q mask badge) f =
      let l = replicate k v in
      let all : AllFit (q ∷ mask ∷ badge ∷ l) = (omega (arith, f.0), (f.1.0, (omega (arith, f.1.1), equal_fit k v fits))) in
      let a = number_short q 2 (mask ∷ badge ∷ l) (two_short q f.0) in
      let b = number_short mask 10 (badge ∷ l) (word_short mask (omega (arith, f.1.0))) in
      let d = number_short badge 2 l (two_short badge f.1.1) in
      let e = spaced_short 10 l (fit_short l (equal_fit k v fits)) in
      back-played t (equally (BeginWrite q mask badge) k v) (record {
        numbers = all;
        size = omega (arith, a, b, d, e, length-replicate k v);
        shape = omega (arith, f.1.1);
      })
  line-played (BeginRead q mask) f =
      let n = alone (BeginRead q mask) in
      back-played t n (record { numbers = (f.0, (f.1, tt)); size = short-line n (f.0, (f.1, tt)) (omega arith); shape = refl })
  line-played (Request q i) f =
      let n = alone (Request q i) in
      back-played t n (record { numbers = (f.0, (f.1, tt)); size = short-line n (f.0, (f.1, tt)) (omega arith); shape = refl })
  line-played (Reply q i) f =
      let n = alone (Reply q i) in
      back-played t n (record { numbers = (f.0, (f.1, tt)); size = short-line n (f.0, (f.1, tt)) (omega arith); shape = refl })
  line-played (Lose q i) f = absurd f
  line-played (Resend q i) f = absurd f

-- the opening's numbers are small, and its setpoints 0
zeros_short : (k : ℕ) → AllShort 2 (replicate k 0)
zeros_short zero = tt
zeros_short (suc k) = (two_short 0 (omega arith), zeros_short k)

pub opening-played : (t : Tables) (m k p : ℕ) → m < 100 → k ≤ 16 → p < 100 →
    played_line (step_text (equally (Open m k p) k 0)) t ≡ played (Open m k p) (replicate k 0) t
opening-played t m k p a b c =
    let l = m ∷ k ∷ p ∷ replicate k 0 in
    let short : AllShort 2 l = (two_short m a, (two_short k (omega arith), (two_short p c, zeros_short k))) in
    back-played t (equally (Open m k p) k 0) (record {
      numbers = (omega arith, (omega arith, (omega arith, equal_fit k 0 (omega arith))));
      size = omega (arith, spaced_short 2 l short, length-replicate {A = ℕ} k 0);
      shape = tt;
    })

-- The numbers that are listed are below n.
passing-below : (test : ℕ → Bool) (n i : ℕ) → i < length (passing test n) → get_or (passing test n) i 0 < n
unfolding passing
passing-below test zero i h = let z : ⊥ = omega arith in absurd z
passing-below test (suc n) i h =
    let front = passing test n in
    by-test (ltb i (length front))
    (λ l.
    let m : i < length front = ltb-true i (length front) l in
    rw (get_or-append front (cond (test n) (n ∷ []) []) 0 i m) (omega (arith, passing-below test n i m)))
    (λ l. by-test (test n)
    (λ e.
    let m : i < length (front ++ (n ∷ [])) = rw e at h in
    let d : i ≡ length front = omega (arith, ltb-false i (length front) l, length-append front (n ∷ [])) in
    rw (e, d, get_or-append_seam front n [] 0) (omega arith))
    (λ e.
    let m : i < length front = rw (e, append-nil front) at h in
    let z : ⊥ = omega (arith, ltb-false i (length front) l) in
    absurd z))

-- A numbered step, and its setpoint.
abbrev SmallStep : LoadStep → Type 0
SmallStep s = Small s.step × (s.setpoint ≤ 4294967295)

module _ (t : Tables) (s : Sound t) where
  mask_small : all_servers (servers_of t) ≤ 4294967295
  mask_small =
      let p : 2 ^ servers_of t ≤ 2 ^ 16 = pow-le-pow_right (omega arith) (few_servers t s) in
      omega arith

  numbered_small : (n : ℕ) → n < numbered_count (clients_of t) → SmallStep (numbered t n)
  unfolding numbered
  numbered_small n h =
      let p = clients_of t in
      let few = few_clients t s in
      by-test (ltb n p)
      (λ a.
      let l : n < p = ltb-true n p a in
      rw a ((omega arith, (mask_small, omega arith)), omega (arith, (s.client n l).count.most)))
      (λ a. rw a (by-test (ltb n (2 * p))
      (λ b. rw b ((omega (arith, ltb-true n (2 * p) b), mask_small), omega arith))
      (λ b. rw b (by-test (ltb n ((2 + targets) * p))
      (λ c. rw c ((omega (arith, ltb-true n ((2 + targets) * p) c), omega arith), omega arith))
      (λ c. rw c ((omega arith, omega arith), omega arith))))))

  pub given_small : (seed seed' : ℕ) (x : LoadStep) → next_step t seed ≡ Given seed' x → SmallStep x
  unfolding next_step picked_from
  given_small seed seed' x e =
      let numbers = acceptables t in
      by-test (sound t)
      (λ d. by-test (eqb (length numbers) 0)
      (λ z. let f : End ≡ Given seed' x = rw (d, z) at e in let w : ◌≡◌ {A = ℕ} 0 1 = cc in let v : ⊥ = omega arith in absurd v)
      (λ z.
      let index = index_by (advance seed) (length numbers) in
      let f : Given (advance seed) (numbered t (get_or numbers index 0)) ≡ Given seed' x = rw (d, z) at e in
      let g : numbered t (get_or numbers index 0) ≡ x = cc in
      let some : 0 < length numbers = omega (arith, eqb-false (length numbers) 0 z) in
      subst SmallStep g (numbered_small (get_or numbers index 0)
      (passing-below (λ n. acceptable t (numbered t n)) (numbered_count (clients_of t)) index
      (index_below (advance seed) (length numbers) (omega arith) some)))))
      (λ d. let f : Refused 2 ≡ Given seed' x = rw d at e in let w : ◌≡◌ {A = ℕ} 0 1 = cc in let v : ⊥ = omega arith in absurd v)
