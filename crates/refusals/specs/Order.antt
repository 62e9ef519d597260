-- "the lowest number counts": tables that are not sound give 2, whatever else a step asks; and what a retired method gives.
use Rattle.std.specs.Prelude.{ℕ, ◌≡◌, refl, true, false, List, length, eqb, leb}
use Rattle.tables.specs.Tables.{Tables, method_of, clients_of}
use Rattle.soundness.specs.Sound.{long_enough, press_fits, sound}
use Rattle.refusals.specs.Refusals.{is_retired, open_refusal, write_refusal, read_refusal, delivery_refusal}

module _ (t : Tables) (unsound : sound t ≡ false) where
  pub write_by_2 : (q mask : ℕ) (setpoints : List ℕ) → write_refusal q mask setpoints t ≡ 2
  unfolding write_refusal
  write_by_2 q mask setpoints = rw unsound

  pub read_by_2 : (q mask : ℕ) → read_refusal q mask t ≡ 2
  unfolding read_refusal
  read_by_2 q mask = rw unsound

  pub delivery_by_2 : (q i : ℕ) → delivery_refusal q i t ≡ 2
  unfolding delivery_refusal
  delivery_by_2 q i = rw unsound

-- "An opening with method 1 returns 1", for every k and p
pub open_by_1 : (k p : ℕ) (setpoints : List ℕ) (t : Tables) → open_refusal 1 k p setpoints t ≡ 1
unfolding open_refusal
open_by_1 k p setpoints t = refl

-- an opening by another method that fits, with its setpoints and on tables that are long enough, is refused by none
pub open_by-none : (m k p : ℕ) (setpoints : List ℕ) (t : Tables) → is_retired m ≡ false → press_fits m k p ≡ true →
    eqb (length setpoints) k ≡ true → long_enough k p t ≡ true → open_refusal m k p setpoints t ≡ 0
unfolding open_refusal
open_by-none m k p setpoints t current fits given long = rw (current, fits, given, long)

-- "any begin on such tables returns 4": of a client that is there, whatever else it asks
module _ (t : Tables) (s : sound t ≡ true) (retired : is_retired (method_of t) ≡ true) (q : ℕ) (there : leb (clients_of t) q ≡ false) where
  pub write_by_4 : (mask : ℕ) (setpoints : List ℕ) → write_refusal q mask setpoints t ≡ 4
  unfolding write_refusal
  write_by_4 mask setpoints = rw (s, there, retired)

  pub read_by_4 : (mask : ℕ) → read_refusal q mask t ≡ 4
  unfolding read_refusal
  read_by_4 mask = rw (s, there, retired)
