-- Of specs/Fields: what cites a theorem there that a changed definition can make fail.
use Rattle.std.specs.Prelude.{ℕ, zero, suc, ◌+◌, ◌^◌, ◌≤◌, ◌<◌, ◌≡◌, refl, Bool, true, false, List, [], ◌∷◌, length, ltb}
use Rattle.std.proofs.Common.{sym, ap, ap₂, subst, ◌∙◌, arith, ltb-true, ltb-false, ne_eqb}
use Rattle.std.proofs.Math.Option.{Option, none, some, none-ne-some, some-injective}
use Rattle.std.proofs.Math.Nat.{pow-succ'}
use Rattle.ranges.specs.Tests.{either, by-test, not-both}
use Rattle.ranges.specs.Each.{Each}
use Rattle.keys.specs.Masks.{has_server}
use Rattle.keys.specs.MaskLaws.{no-server}
use Rattle.tables.specs.declared.links.Content.{Content}
use Rattle.tables.specs.declared.links.Content.TheVariants.{Nothing, Request, Reply, Lost}
use Rattle.tables.specs.Tables.{Tables, content_at}
use Rattle.rules.specs.Answer.{Answer}
use Rattle.rules.specs.Answer as answer
use Rattle.rules.specs.declared.Arrival.{Arrival}
use Rattle.rules.specs.declared.Arrival.TheVariants as arrival
use Rattle.rules.specs.declared.Delivered.{Delivered}
use Rattle.claim.specs.Steps.{Event, opened, begun-write, begun-read, requested, replied, lost, resent, Played}
use Rattle.claim.specs.History.{Value, value_of, Transaction, Doing, nothing, writing, tagged, reading, History, changed}
use Rattle.claim.specs.History.{begun, delivered, entered, wrote, showed, arrived, missed, repeated, opened_with, at_coordinator}
use Rattle.claim.specs.History.{after, history}
use Rattle.claim.specs.Row.{row, walked, Shows, Walk, at, RealTime}
use Rattle.claim.specs.Claim.{enough, EndsAt, Unfinished, IsReply, LeavesReply, AnswersAt, Answers, Claim}
use Rattle.claim.specs.Decided.{Test, always, never, meaning, both, only_if, each, below, equal, most, less, is}
use Rattle.claim.specs.Fields.{Field, Idle, Says, answered, answers_at, arrived-idle, begun-idle, client_of, clients_below, complete, delivered-idle, ends, entered-idle, every-tag, here, in_time, in_time_lem, is_unfinished, missed-idle, read_after_read, read_after_write, repeated-idle, says_tag, tags, unfinished, walk, walks, whole, whose, write_after_read, write_after_write}

-- The claim is its fields: it says each of them, and no more.
module _ (steps : List Played) (h : History) where
  pub claim_says : Claim steps h → (f : Field) → Says f steps h
  claim_says c walk = c.walk
  claim_says c whole = c.whole
  claim_says c complete = c.complete
  claim_says c read_after_read = in_time_lem steps h c.real_time false false
  claim_says c write_after_read = in_time_lem steps h c.real_time false true
  claim_says c read_after_write = in_time_lem steps h c.real_time true false
  claim_says c write_after_write = in_time_lem steps h c.real_time true true
  claim_says c answered = c.answered
  claim_says c ends = c.ends
  claim_says c unfinished = c.unfinished
  claim_says c tags = c.tags
  claim_says c whose = c.whose

module _ (j : ℕ) where
  after-idle : (e : Event) (h : History) → Idle j h → client_of e < j → Idle j (after e h)
  after-idle (opened method k p setpoints answer.Ok) h idle l = refl
  after-idle (opened method k p setpoints (answer.Refused n)) h idle l = idle
  after-idle (begun-write q mask badge setpoints answer.Ok) h idle l = begun-idle j h idle q (λ e. omega arith) (h.doing q) _
  after-idle (begun-write q mask badge setpoints (answer.Refused n)) h idle l = idle
  after-idle (begun-read q mask answer.Ok) h idle l = begun-idle j h idle q (λ e. omega arith) (h.doing q) _
  after-idle (begun-read q mask (answer.Refused n)) h idle l = idle
  after-idle (requested q i answer.Ok) h idle l =
      let other : j ≡ q → ⊥ = λ e. omega arith in
      either (Idle j) (at_coordinator i) (entered-idle j h idle q other (h.doing q)) (delivered-idle j h idle q other (h.doing q))
  after-idle (requested q i (answer.Refused n)) h idle l = idle
  after-idle (replied q i d) h idle l = arrived-idle j h idle q (λ e. omega arith) d.arrival d i
  after-idle (lost q i answer.Ok) h idle l = missed-idle j h idle q (λ e. omega arith) _ (h.doing q)
  after-idle (lost q i (answer.Refused n)) h idle l = idle
  after-idle (resent q i answer.Ok) h idle l = repeated-idle j h idle q (λ e. omega arith) (h.doing q)
  after-idle (resent q i (answer.Refused n)) h idle l = idle

  history-idle : (steps : List Played) (h : History) → Idle j h → clients_below steps ≤ j → Idle j (history steps h)
  history-idle [] h idle l = idle
  history-idle (x ∷ xs) h idle l = history-idle xs (after x.event h) (after-idle x.event h idle (omega arith)) (omega arith)

-- ---- every field of what an opening's list of steps tells

module _ (method : ℕ) (setpoints : List ℕ) (steps : List Played) where
  pub none-reading : (q : ℕ) → clients_below steps ≤ q → Unfinished (here method setpoints steps).extra ((here method setpoints steps).doing q)
  none-reading q l = subst (Unfinished (here method setpoints steps).extra) (sym (history-idle q steps (opened_with method setpoints) refl l)) tt

  abbrev pub test : (f : Field) → Test (Says f steps (here method setpoints steps))
  test walk = walks (here method setpoints steps).initial (row (here method setpoints steps))
  test whole = each (λ x. most x.tag (here method setpoints steps).tags) (here method setpoints steps).reads
  test complete = equal (length (row (here method setpoints steps))) ((here method setpoints steps).tags + length (here method setpoints steps).reads)
  test read_after_read = in_time false false (row (here method setpoints steps))
  test write_after_read = in_time false true (row (here method setpoints steps))
  test read_after_write = in_time true false (row (here method setpoints steps))
  test write_after_write = in_time true true (row (here method setpoints steps))
  test answered = each (λ x. answers_at x.event x.tables) steps
  test ends = each (λ x. only_if (is false x.is_write) (equal x.deliveries (enough (here method setpoints steps).extra x.mask x.losses))) (row (here method setpoints steps))
  test unfinished =
      meaning (below (λ q. is_unfinished (here method setpoints steps).extra ((here method setpoints steps).doing q)) (clients_below steps))
      (λ f q. by-test (ltb q (clients_below steps)) (λ b. f q (ltb-true _ _ b)) (λ b. none-reading q (ltb-false _ _ b)))
      (λ f q l. f q)
  test tags =
      meaning (below (λ t. says_tag ((here method setpoints steps).said (suc t)) (suc t)) (here method setpoints steps).tags)
      (every-tag method setpoints steps)
      (λ f t l a e. f (suc t) a (omega arith) l e)
  test whose = equal (here method setpoints steps).astray 0
