-- The theorems for the public steps: an accepted opening leaves sound tables, and each step on sound tables leaves sound tables, refused or accepted.
-- What an accepted step leaves is by facts in the laws that these cite; only here does number 0 of a refusal give the facts.
use Rattle.std.specs.Prelude.{ℕ, ◌≡◌, refl, Bool, not, List, leb}
use Rattle.std.proofs.Common.{mod-lt, arith}
use Rattle.tables.specs.Layout.{last_step}
use Rattle.tables.specs.Tables.{Tables, step_of}
use Rattle.rules.specs.Answer.{Ok}
use Rattle.rules.specs.Answers.{left}
use Rattle.rules.specs.Open.{opened}
use Rattle.rules.specs.Begin.{begun_write, begun_read}
use Rattle.rules.specs.Request.{request_delivered}
use Rattle.rules.specs.Reply.{reply_delivered}
use Rattle.rules.specs.Loss.{link_lost, link_resent}
use Rattle.soundness.specs.Facts.{Sound}
use Rattle.refusals.specs.Refusals.{at_last_step, open_refusal, write_refusal, read_refusal, delivery_refusal}
use Rattle.refusals.specs.Steps.{badge_of, open', begin_write, begin_read, deliver_request, deliver_reply, lose, resend}
use Rattle.refusals.specs.Either.{by_refusal, by_refusal-arrived, unstopped}
use Rattle.keeping.specs.Accepted.{openable, writable, readable, as-formerly, deliverable}
use Rattle.keeping.specs.Frame.{Kept, kept_same}

-- whether a step may follow a step number: the last is 2^32 − 1
abbrev pub may_step : ℕ → Bool
may_step step = not (leb last_step step)

pub may_step_lem : (t : Tables) → may_step (step_of t) ≡ not (at_last_step t)
may_step_lem t = refl
