-- Every step leaves tables that a schedule may be played on, and before an opening it is refused by 2.
use Rattle.std.specs.Prelude.{ℕ, zero, suc, ◌≤◌, ◌≡◌, false, List, length}
use Rattle.std.proofs.Math.Path.{refl, ap}
use Rattle.std.proofs.Common.{arith}
use Rattle.tables.specs.Layout.{count_words}
use Rattle.tables.specs.Tables.{Tables, method_of}
use Rattle.rules.specs.Answer.{Ok, Refused}
use Rattle.rules.specs.declared.Arrival.TheVariants as arrival
use Rattle.rules.specs.Answers.{Left, left, Arrived}
use Rattle.rules.specs.Open.{opened}
use Rattle.rules.specs.Reply.{said}
use Rattle.soundness.specs.Sound.{sound}
use Rattle.soundness.specs.Facts.{Sound, sound_facts}
use Rattle.refusals.specs.Refusals.{open_refusal, write_refusal, read_refusal, delivery_refusal}
use Rattle.refusals.specs.Steps.{unless, open', begin_write, begin_read, deliver_request, deliver_reply, lose, resend}
use Rattle.keeping.specs.Accepted.{openable}
use Rattle.keeping.proofs.Opening.{opened-sound}
use Rattle.keeping.proofs.Steps.{open_keeps, begin_write-sound, begin_read-sound, deliver_request-sound, deliver_reply-sound}
use Rattle.keeping.proofs.Steps.{lose-sound, resend-sound}
use Rattle.ranges.specs.Tests.{by-test}
use Rattle.schedule.specs.declared.Step.{Step}
use Rattle.schedule.specs.declared.Step.TheVariants.{Unreadable, Open, BeginWrite, BeginRead, Request, Reply, Lose, Resend}
use Rattle.printing.specs.declared.Word.TheVariants.{No}
use Rattle.playing.specs.Played.{showing, plainly, noted, mask_or_zero, played}
use Rattle.playing.specs.Playable.{Playable}

pub sound-playable : (t : Tables) → Sound t → Playable t
sound-playable t s = record { long = s.long.counts; sound = λ h. s }

-- tables of zeros, as they stand before the first line
pub unopened-playable : (t : Tables) → count_words ≤ length t.counts → method_of t ≡ 0 → Playable t
unopened-playable t long e = record { long = long; sound = λ h. let z : ⊥ = omega (arith, h, e) in absurd z }

module _ (t : Tables) (unopened : method_of t ≡ 0) where
  -- tables that were not opened are not sound
  not_sound : sound t ≡ false
  not_sound = by-test (sound t) (λ e. let s = sound_facts t e in let z : ⊥ = omega (arith, s.scalars.press.method.least, unopened) in absurd z) (λ e. e)

  pub write-unopened : (q mask badge : ℕ) (setpoints : List ℕ) → begin_write q mask badge setpoints t ≡ left (Refused 2) t
  unfolding begin_write write_refusal
  write-unopened q mask badge setpoints = rw not_sound

  pub read-unopened : (q mask : ℕ) → begin_read q mask t ≡ left (Refused 2) t
  unfolding begin_read read_refusal
  read-unopened q mask = rw not_sound

  pub request-unopened : (q i : ℕ) → deliver_request q i t ≡ left (Refused 2) t
  unfolding deliver_request delivery_refusal
  request-unopened q i = rw not_sound

  pub reply-unopened : (q i : ℕ) → deliver_reply q i t ≡ said (arrival.Refused 2) t
  unfolding deliver_reply delivery_refusal
  reply-unopened q i = rw not_sound

  pub lose-unopened : (q i : ℕ) → lose q i t ≡ left (Refused 2) t
  unfolding lose delivery_refusal
  lose-unopened q i = rw not_sound

  pub resend-unopened : (q i : ℕ) → resend q i t ≡ left (Refused 2) t
  unfolding resend delivery_refusal
  resend-unopened q i = rw not_sound

  -- "Before any opening, steps give 2."
  pub begin-write_early : (q mask badge : ℕ) (setpoints : List ℕ) →
      showing (plainly (No 2)) t ≡ played (BeginWrite q mask badge) setpoints t
  unfolding played
  begin-write_early q mask badge setpoints = rw (write-unopened q mask badge setpoints)

  pub begin-read_early : (q mask : ℕ) (setpoints : List ℕ) → showing (plainly (No 2)) t ≡ played (BeginRead q mask) setpoints t
  unfolding played
  begin-read_early q mask setpoints = rw (read-unopened q mask)

  pub request_early : (q i : ℕ) (setpoints : List ℕ) → showing (plainly (No 2)) t ≡ played (Request q i) setpoints t
  unfolding played
  request_early q i setpoints = rw (request-unopened q i)

  -- the mask counts for a READ alone
  pub reply_early : (q i : ℕ) (setpoints : List ℕ) → showing (noted (No 2) (mask_or_zero t.clients q)) t ≡ played (Reply q i) setpoints t
  unfolding played
  reply_early q i setpoints = rw (reply-unopened q i)

  pub lose_early : (q i : ℕ) (setpoints : List ℕ) → showing (plainly (No 2)) t ≡ played (Lose q i) setpoints t
  unfolding played
  lose_early q i setpoints = rw (lose-unopened q i)

  pub resend_early : (q i : ℕ) (setpoints : List ℕ) → showing (plainly (No 2)) t ≡ played (Resend q i) setpoints t
  unfolding played
  resend_early q i setpoints = rw (resend-unopened q i)

-- every step keeps sound tables sound
pub step-sound : (step : Step) (setpoints : List ℕ) (t : Tables) → Sound t → Sound (played step setpoints t).tables
unfolding played
step-sound Unreadable setpoints t s = s
step-sound (Open method k panels) setpoints t s = open_keeps method k panels setpoints t s
step-sound (BeginWrite q mask badge) setpoints t s = begin_write-sound q mask badge setpoints t s
step-sound (BeginRead q mask) setpoints t s = begin_read-sound q mask t s
step-sound (Request q i) setpoints t s = deliver_request-sound q i t s
step-sound (Reply q i) setpoints t s = deliver_reply-sound q i t s
step-sound (Lose q i) setpoints t s = lose-sound q i t s
step-sound (Resend q i) setpoints t s = resend-sound q i t s

module _ (t : Tables) (p : Playable t) where
  -- by whether the store was opened: of a step that is refused by 2 before, and keeps sound tables sound
  by-opening : {l : Tables} → (method_of t ≡ 0 → l ≡ t) → (Sound t → Sound l) → (n : ℕ) → method_of t ≡ n → Playable l
  by-opening before behind zero e = rw (before e) p
  by-opening before behind (suc n) e = sound-playable _ (behind (p.sound (omega (arith, e))))

  open-playable : (method k panels : ℕ) (setpoints : List ℕ) (n : ℕ) → open_refusal method k panels setpoints t ≡ n → Playable (unless n (left Ok (opened method k panels setpoints t)) t).tables
  open-playable method k panels setpoints zero e =
      sound-playable _ (opened-sound method k panels setpoints t (openable method k panels setpoints t e))
  open-playable method k panels setpoints (suc n) e = p

  -- every step leaves tables that may be played on
  pub step-playable : (step : Step) (setpoints : List ℕ) → Playable (played step setpoints t).tables
  unfolding played open'
  step-playable Unreadable setpoints = p
  step-playable (Open method k panels) setpoints = open-playable method k panels setpoints (open_refusal method k panels setpoints t) refl
  step-playable (BeginWrite q mask badge) setpoints =
      by-opening (λ e. ap (λ (l : Left). l.tables) (write-unopened t e q mask badge setpoints)) (begin_write-sound q mask badge setpoints t)
      (method_of t) refl
  step-playable (BeginRead q mask) setpoints =
      by-opening (λ e. ap (λ (l : Left). l.tables) (read-unopened t e q mask)) (begin_read-sound q mask t) (method_of t) refl
  step-playable (Request q i) setpoints =
      by-opening (λ e. ap (λ (l : Left). l.tables) (request-unopened t e q i)) (deliver_request-sound q i t) (method_of t) refl
  step-playable (Reply q i) setpoints =
      by-opening (λ e. ap (λ (a : Arrived). a.tables) (reply-unopened t e q i)) (deliver_reply-sound q i t) (method_of t) refl
  step-playable (Lose q i) setpoints =
      by-opening (λ e. ap (λ (l : Left). l.tables) (lose-unopened t e q i)) (lose-sound q i t) (method_of t) refl
  step-playable (Resend q i) setpoints =
      by-opening (λ e. ap (λ (l : Left). l.tables) (resend-unopened t e q i)) (resend-sound q i t) (method_of t) refl
