-- Laws of the opening of a load: what one that is accepted knows, and that with more than 16 servers it is refused whatever its setpoints.
use Rattle.std.specs.Prelude.{ℕ, ◌+◌, ◌-◌, ◌≤◌, ◌<◌, ◌≡◌, min, cond, not, List, length, take, replicate, leb}
use Rattle.std.proofs.Common.{sym, ap, subst, ◌∙◌, arith, take_at, leb-true, leb-false}
use Rattle.std.proofs.Math.Bool.{false}
use Rattle.std.proofs.lemmas.List.{length-replicate, replicate-append-replicate}
use Rattle.ranges.specs.Tests.{by-test, both_right}
use Rattle.tables.specs.Tables.{Tables}
use Rattle.rules.specs.Answer.{Answer}
use Rattle.rules.specs.Answer.{Ok, Refused}
use Rattle.rules.specs.Answers.{Left, left}
use Rattle.rules.specs.Open.{opened}
use Rattle.soundness.specs.Sound.{press_fits}
use Rattle.soundness.specs.Facts.{Press, press_facts}
use Rattle.refusals.specs.Refusals.{is_retired, press_opens, open_refusal}
use Rattle.refusals.specs.Steps.{open'}
use Rattle.refusals.specs.Either.{unstopped}
use Rattle.keeping.specs.Accepted.{openable}
use Rattle.load_text.specs.declared.Wanted.{Wanted}
use Rattle.load_text.specs.Asked.{Load}
use Rattle.load_text.specs.declared.Giving.{Giving}
use Rattle.load_text.specs.Given.{zeros, opening, opened_by, begins, Gave}

-- some of a row of equal numbers
pub take-equal : (n m v : ℕ) → n ≤ m → take n (replicate m v) ≡ replicate n v
take-equal n m v h =
    let e : n + (m - n) ≡ m = omega (arith, h) in
    ap (λ (k : ℕ). take n (replicate k v)) (sym e)
    ∙ (ap (take n) (sym (replicate-append-replicate n (m - n) v)) ∙ take_at (replicate n v) (replicate (m - n) v) n (length-replicate n v))

-- a place that was all zeros keeps its size
pub zeros-size : (n : ℕ) {size : ℕ} → size ≡ length {A = ℕ} (replicate n 0) → n ≡ size
zeros-size n e = sym (e ∙ length-replicate {A = ℕ} n 0)

module _ (m k p : ℕ) (t : Tables) where
  -- a press of more than 16 servers is refused whatever its setpoints
  too_many : 16 < k → (setpoints : List ℕ) → open' m k p setpoints t ≡ left (Refused 1) t
  unfolding open' open_refusal
  too_many h setpoints =
      let unfit : press_opens m k p ≡ false = by-test (press_opens m k p)
      (λ e.
      let fits = press_facts m k p (both_right (not (is_retired m)) (press_fits m k p) e) in
      let z : ⊥ = omega (arith, fits.servers.most, h) in absurd z)
      (λ e. e) in
      rw unfit

  -- so 16 of them are enough to open with
  pub enough : {n : ℕ} → n ≡ min k 16 → open' m k p (replicate n 0) t ≡ open' m k p (replicate k 0) t
  enough {n} e =
      by-test (leb k 16)
      (λ f. let same : n ≡ k = omega (arith, e, leb-true k 16 f) in rw same)
      (λ f. let h : 16 < k = leb-false k 16 f in too_many h (replicate n 0) ∙ sym (too_many h (replicate k 0)))

  -- and one that is accepted has no more
  pub fitting : (setpoints : List ℕ) → (open' m k p setpoints t).answer ≡ Ok → Press m k p
  unfolding open'
  fitting setpoints a = (openable m k p setpoints t (unstopped (open_refusal m k p setpoints t) (opened m k p setpoints t) t a)).press

-- The opening of a load, as the code meets it: with a row of 16 zeros at hand.
pub at_hand : (k : ℕ) {n : ℕ} → n ≡ min k 16 → n ≤ 16
at_hand k e = omega (arith, e)

module _ (w : Wanted) (t : Tables) {n : ℕ} (is : n ≡ min w.servers 16) where
  module _ {a : Answer} {t' : Tables} (e : left a t' ≡ open' w.method w.servers w.clients (take n (replicate 16 0)) t) where
    opens : left a t' ≡ opening w t
    opens = e ∙ rw (take-equal n 16 0 (at_hand w.servers is)) (enough w.method w.servers w.clients t is)

    pub accepted_few : a ≡ Ok → w.servers ≤ 16
    accepted_few ok =
        (fitting w.method w.servers w.clients t (zeros w) (sym (ap (λ (l : Left). l.answer) opens) ∙ ok)).servers.most

    pub gave-opened : {at : ℕ} {out : List ℕ} {r : Giving} {out' : List ℕ} → Gave (opened_by w a t') at out r out' t' →
        Gave (begins (Load w) t) at out r out' t'
    gave-opened {at} {out} {r} {out'} g = subst (λ (l : Left). Gave (opened_by w l.answer l.tables) at out r out' t') opens g
