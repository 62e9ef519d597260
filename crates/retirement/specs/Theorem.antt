-- On tables of method 1 nothing new begins: the one theorem, over every list of steps up to the next accepted opening.
use Rattle.std.specs.Prelude.{ℕ, ◌≡◌, refl, Bool, true, false, List, [], ◌∷◌}
use Rattle.std.proofs.Common.{sym, ◌∙◌, true≢false, eq-eqb}
use Rattle.ranges.specs.Each.{Each}
use Rattle.tables.specs.Tables.{Tables, method_of}
use Rattle.rules.specs.Answer.{Answer}
use Rattle.rules.specs.Answer.{Ok}
use Rattle.rules.specs.Answers.{Left, left}
use Rattle.rules.specs.Open.{opened}
use Rattle.rules.specs.Begin.{begun_write, begun_read}
use Rattle.rules.specs.Request.{request_delivered}
use Rattle.rules.specs.Reply.{reply_delivered}
use Rattle.rules.specs.Loss.{link_lost, link_resent}
use Rattle.soundness.specs.Room.{few_servers}
use Rattle.refusals.specs.Refusals.{is_retired, open_refusal, write_refusal, read_refusal, delivery_refusal}
use Rattle.refusals.specs.Steps.{badge_of, open', begin_write, begin_read, deliver_request, deliver_reply, lose, resend}
use Rattle.refusals.specs.Either.{by_refusal, by_refusal-arrived}
use Rattle.keeping.specs.Accepted.{write_current, read_current, delivery-sound, deliverable, target_below}
use Rattle.claim.specs.Steps.{Step, opening, beginning-write, beginning-read, request, reply, losing, resending, Event, Played, play, run}
use Rattle.claim.specs.Steps.{begun-write, begun-read, requested, replied, lost, resent}
use Rattle.claim.specs.Steps as event
use Rattle.retirement.specs.Claim.{Unopened, Unbegun, NothingNew, Retired}
use Rattle.retirement.specs.Unmoved.{Unmoved, unmoved-same, unmoved_then}

-- a step that opens nothing: it begins nothing, and leaves what is counted
abbrev pub Stays : Tables → Event → Tables → Type 0
Stays t e t' = Unopened e → Unbegun e × Unmoved t t'

module _ (t : Tables) (method : method_of t ≡ 1) where
  abbrev pub Leaving : (Answer → Event) → Left → Type 0
  Leaving event x = Stays t (event x.answer) x.tables

  -- no begin is accepted: its method would not be 1
  pub retired : is_retired (method_of t) ≡ false → ⊥
  retired e = true≢false (sym (eq-eqb (method_of t) 1 method) ∙ e)
