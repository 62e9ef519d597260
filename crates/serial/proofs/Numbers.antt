-- Number 8 is none of those that the refusals in order give.
use Prim.Native.Nat.{ℕ}
use mathlib.Core.Path.{◌≡◌}
use mathlib.Core.Bool.{Bool, not, ◌&&◌, ◌||◌}
use mathlib.Core.List.{List}
use native.Mathlib.Omega.{arith}
use lib.ListN.{length}
use lib.Dec.{eqb, leb}
use Rattle.ranges.specs.Tests.{either}
use Rattle.keys.specs.Masks.{mask_within}
use Rattle.tables.specs.Layout.{record_places}
use Rattle.tables.specs.Tables.{Tables, method_of, servers_of, clients_of, writes_of, reads_of, state_of}
use Rattle.rules.specs.Common.{idle}
use Rattle.soundness.specs.Sound.{long_enough, sound}
use Rattle.refusals.specs.Refusals.{is_retired, press_opens, open_refusal, begin_fault, write_refusal, read_refusal, at_last_step, is_target}
use Rattle.refusals.specs.Refusals.{delivery_refusal}

abbrev pub NotEight : ℕ → Type 0
NotEight n = n ≡ 8 → ⊥

pub open-number : (method k p : ℕ) (setpoints : List ℕ) (t : Tables) → NotEight (open_refusal method k p setpoints t)
unfolding open_refusal
open-number method k p setpoints t =
    either NotEight (not (press_opens method k p && eqb (length setpoints) k)) (λ e. omega arith)
    (either NotEight (not (long_enough k p t)) (λ e. omega arith) (λ e. omega arith))

begin-number : (absent barred free fits spent : Bool) → NotEight (begin_fault absent barred free fits spent)
begin-number absent barred free fits spent =
    either NotEight absent (λ e. omega arith)
    (either NotEight barred (λ e. omega arith)
    (either NotEight (not free) (λ e. omega arith)
    (either NotEight (not fits) (λ e. omega arith)
    (either NotEight spent (λ e. omega arith) (λ e. omega arith)))))

module _ (t : Tables) (q : ℕ) where
  pub write-number : (mask : ℕ) (setpoints : List ℕ) → NotEight (write_refusal q mask setpoints t)
  unfolding write_refusal
  write-number mask setpoints =
      either NotEight (not (sound t)) (λ e. omega arith)
      (begin-number (leb (clients_of t) q) (is_retired (method_of t)) (eqb (state_of t q) idle)
      (mask_within mask (servers_of t) && eqb (length setpoints) (servers_of t)) (leb record_places (writes_of t) || at_last_step t))

  pub read_number : (mask : ℕ) → NotEight (read_refusal q mask t)
  unfolding read_refusal
  read_number mask =
      either NotEight (not (sound t)) (λ e. omega arith)
      (begin-number (leb (clients_of t) q) (is_retired (method_of t)) (eqb (state_of t q) idle) (mask_within mask (servers_of t))
      (leb record_places (reads_of t) || at_last_step t))

  pub delivery-number : (i : ℕ) → NotEight (delivery_refusal q i t)
  unfolding delivery_refusal
  delivery-number i =
      either NotEight (not (sound t)) (λ e. omega arith)
      (either NotEight (leb (clients_of t) q || not (is_target t i)) (λ e. omega arith)
      (either NotEight (at_last_step t) (λ e. omega arith) (λ e. omega arith)))
