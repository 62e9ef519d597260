-- Of specs/ClaimLaws: what cites a theorem there that a changed definition can make fail.
use Rattle.std.specs.Prelude.{ℕ, ◌+◌, ◌*◌, ◌<◌, false}
use Rattle.std.proofs.Math.Path.{◌≡◌, sym}
use Rattle.std.proofs.Common.{◌∙◌}
use native.Mathlib.Omega.{arith}
use Rattle.tables.specs.Links.{targets}
use Rattle.tables.specs.Tables.{Tables, clients_of}
use Rattle.soundness.specs.Facts.{Sound}
use Rattle.refusals.specs.Steps.{deliver_request, deliver_reply}
use Rattle.playing.specs.Played.{played}
use Rattle.workload.specs.Load.{numbered, numbered_count, acceptable}
use Rattle.workload.specs.AcceptLaws.{is_fine, is_fine_arrival, request-judged, reply-judged}
use Rattle.workload.specs.Claim.{Nothing, Claim}
use Rattle.workload.specs.ClaimLaws.{by-link, given-accepted, no_read, no_write, none-accepted, number-reply, number-request}

module _ (t : Tables) (s : Sound t) (none : (n : ℕ) → n < numbered_count (clients_of t) → acceptable t (numbered t n) ≡ false) where
  no-request : (q i : ℕ) → is_fine (deliver_request q i t) ≡ false
  unfolding played
  no-request q i =
      (by-link t s none) q i
      (λ h l. rw (number-request t q h i l) at (none (2 * clients_of t + (targets * q + i)) (omega arith)))
      (λ e. sym (request-judged t s q i) ∙ rw e)

  no-reply : (q i : ℕ) → is_fine_arrival (deliver_reply q i t) ≡ false
  unfolding played
  no-reply q i =
      (by-link t s none) q i
      (λ h l. rw (number-reply t q h i l) at (none ((2 + targets) * clients_of t + (targets * q + i)) (omega arith)))
      (λ e. sym (reply-judged t s q i) ∙ rw e)

  nothing-accepted : Nothing t
  nothing-accepted = record { writes = no_write t s none; reads = no_read t s none; requests = no-request; replies = no-reply }

pub theorem : Claim
theorem = record { given = given-accepted; none = none-accepted; nothing = λ t seed s e. nothing-accepted t s (none-accepted t seed e) }
