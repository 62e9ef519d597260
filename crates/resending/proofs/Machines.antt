-- Of specs/Machines: what cites a theorem there that a changed definition can make fail.
use Rattle.std.specs.Prelude.{ℕ, ◌<◌, ◌≡◌, true, false, List, [], ◌∷◌}
use Rattle.std.proofs.Common.{sym, ap, ◌∙◌, subst}
use Rattle.ranges.specs.Tests.{by-test, not-both}
use Rattle.tables.specs.Links.{targets, is_empty}
use Rattle.tables.specs.Tables.{Tables, clients_of, content_at}
use Rattle.tables.specs.declared.links.Content.{Content}
use Rattle.tables.specs.declared.links.Content.TheVariants.{Nothing}
use Rattle.rules.specs.Answer.{Answer}
use Rattle.rules.specs.Answer.{Ok, Refused}
use Rattle.rules.specs.Loss.{sent_by}
use Rattle.soundness.specs.Facts.{Sound}
use Rattle.claim.specs.Steps.{Event, opened, begun-write, begun-read, requested, replied, lost, resent, Played, Machine, run}
use Rattle.claim.specs.History.{History, opened_with}
use Rattle.serial.proofs.Openings.{Starts}
use Rattle.resending.specs.Claim.{sent_after, Again, RepeatsAt, Repeats, SendsAgain}
use Rattle.resending.specs.Carried.{Carried}
use Rattle.resending.specs.Machines.{Carrying, Given, Started, at_event, given-after}

module _ {S : Type 0} (machine : Machine S) (m : Carrying machine) where
  repeats : (q i : ℕ) (steps : List S) (t : Tables) (sent : Content) → Sound t → Given t q i sent → Repeats q i t sent (run machine steps t)
  repeats q i [] t sent s g = tt
  repeats q i (step ∷ steps) t sent s g =
      let x = machine step t in
      let c = m.carries step t s in (
        at_event t q i sent g x.event x.tables c.sent,
        repeats q i steps x.tables (sent_after (content_at t q i) (content_at x.tables q i) sent) c.sound (given-after t q i sent g x c),
      )

  pub sends-again : SendsAgain machine
  sends-again first t method k p setpoints e steps q i =
      let start = (machine first t).tables in
      let s : Started (opened_with method setpoints) start = subst (λ (x : Event). Starts Started x start) e (m.starts first t) in
      repeats q i steps start Nothing s.sound (λ l n full. absurd (not-both (s.empty q i l n) full))
