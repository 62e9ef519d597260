-- The steps on tables that are not sound, as the code meets them: number 2, with all as before.
use Rattle.std.specs.Prelude.{ℕ, ◌≡◌, Bool, false, List}
use Rattle.std.proofs.Common.{sym, ◌∙◌}
use Rattle.tables.specs.Tables.{Tables}
use Rattle.rules.specs.Answer.{Refused}
use Rattle.rules.specs.declared.Arrival.TheVariants as arrival
use Rattle.rules.specs.declared.Delivered.{Delivered}
use Rattle.rules.specs.Answers.{left, arrived, nothing_shown}
use Rattle.soundness.specs.Sound.{sound}
use Rattle.refusals.specs.Refusals.{write_refusal, read_refusal, delivery_refusal}
use Rattle.refusals.specs.Steps.{begin_write, begin_read, deliver_request, deliver_reply, lose, resend}

module _ (t : Tables) {b : Bool} (d : b ≡ sound t) (e : b ≡ false) where
  unsound : sound t ≡ false
  unsound = sym d ∙ e

  pub unsound-write : (q mask badge : ℕ) (setpoints : List ℕ) → left (Refused 2) t ≡ begin_write q mask badge setpoints t
  unfolding begin_write write_refusal
  unsound-write q mask badge setpoints = rw unsound

  pub unsound-read : (q mask : ℕ) → left (Refused 2) t ≡ begin_read q mask t
  unfolding begin_read read_refusal
  unsound-read q mask = rw unsound

  pub unsound-request : (q i : ℕ) → left (Refused 2) t ≡ deliver_request q i t
  unfolding deliver_request delivery_refusal
  unsound-request q i = rw unsound

  pub unsound_loss : (q i : ℕ) → left (Refused 2) t ≡ lose q i t
  unfolding lose delivery_refusal
  unsound_loss q i = rw unsound

  pub unsound-resend : (q i : ℕ) → left (Refused 2) t ≡ resend q i t
  unfolding resend delivery_refusal
  unsound-resend q i = rw unsound

  pub unsound-reply : (q i : ℕ) {x : Delivered} → x ≡ nothing_shown (arrival.Refused 2) → arrived x t ≡ deliver_reply q i t
  unfolding deliver_reply delivery_refusal
  unsound-reply q i f = rw (unsound, f)
