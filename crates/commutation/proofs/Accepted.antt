-- Of specs/Accepted: what cites a theorem there that a changed definition can make fail.
use Rattle.std.specs.Prelude.{ℕ, zero, suc, ◌<◌, ◌≡◌, refl, true}
use Rattle.std.proofs.Common.{ap, sym, ◌∙◌, arith}
use Rattle.std.proofs.lemmas.Bool.{lt-leb}
use Rattle.tables.specs.Layout.{clients_field, servers_field, last_step}
use Rattle.tables.specs.Tables.{Tables, servers_of, clients_of, step_of, state_of, mask_of, content_at}
use Rattle.tables.specs.Links.{targets}
use Rattle.tables.specs.declared.links.Contents.{Contents}
use Rattle.tables.specs.declared.links.Content.TheVariants.{Request}
use Rattle.rules.specs.Answer.{Ok}
use Rattle.rules.specs.Answers.{Left}
use Rattle.rules.specs.Request.{request_delivered}
use Rattle.soundness.specs.Sound.{uses}
use Rattle.soundness.specs.Facts.{Sound, facts-sound}
use Rattle.refusals.specs.Cases.{delivers}
use Rattle.refusals.specs.Refusals.{delivery_refusal}
use Rattle.refusals.specs.Steps.{unless, deliver_request}
use Rattle.keeping.specs.Accepted.{Deliverable, deliverable, target_below}
use Rattle.keeping.specs.Links.{link-asks, request-kind}
use Rattle.keeping.specs.States.{set-server, get-server, entering-target}
use Rattle.keeping.specs.States as states
use Rattle.keeping.proofs.Steps.{deliver_request-sound}
use Rattle.claim.specs.Steps.{request, requested, run, play}
use Rattle.commutation.specs.Claim.{Swapped}
use Rattle.commutation.specs.Equal.{differ}
use Rattle.commutation.specs.Local.{Asking, AtTarget}
use Rattle.commutation.proofs.Delivered.{answer-behind, delivered_swap, delivered-count, delivered_step}
use Rattle.commutation.specs.Accepted.{accepted, at_target, goes_through, here, moved, u, u'}

-- Two accepted requests at different targets, on sound tables.
module _ (q i r j : ℕ) (t : Tables) (s : Sound t) (apart : i ≡ j → ⊥) where
  module _ (d : Deliverable q i t) (e : (request_delivered q i t).answer ≡ Ok) (su : Sound (u q i r j t s apart)) (d' : Deliverable r j (u q i r j t s apart))
      (e' : (request_delivered r j (u q i r j t s apart)).answer ≡ Ok) where
    -- the second may be delivered first: it is of the same press, and the first was early enough
    sooner_deliverable : Deliverable r j t
    sooner_deliverable =
        moved r j (u q i r j t s apart) t (sym (delivered-count q i t (here q i r j t s apart d e su d' e') clients_field (omega arith)))
        (sym (delivered-count q i t (here q i r j t s apart d e su d' e') servers_field (omega arith))) d.early d'

    there : AtTarget r j t
    there = at_target r j t s sooner_deliverable

    -- the answer of the second, if it comes first
    sooner : (request_delivered r j t).answer ≡ Ok
    sooner = sym (answer-behind q i r j t (here q i r j t s apart d e su d' e') there apart) ∙ e'

    sound-between : Sound (u' q i r j t s apart)
    sound-between = rw (goes_through r j t s sooner_deliverable) at (deliver_request-sound r j t s)

    same_step : step_of (u' q i r j t s apart) ≡ step_of (u q i r j t s apart)
    same_step = delivered_step r j t there sooner s.long.counts ∙ sym (delivered_step q i t (here q i r j t s apart d e su d' e') e s.long.counts)

    -- and the first second, with the step number that the second had
    later_deliverable : Deliverable q i (u' q i r j t s apart)
    later_deliverable =
        moved q i t (u' q i r j t s apart) (delivered-count r j t there clients_field (omega arith)) (delivered-count r j t there servers_field (omega arith))
        (rw same_step d'.early) d

    -- so no number stops either
    through : Swapped play t (request q i) (request r j)
    through =
        let equal : (deliver_request q i (deliver_request r j t).tables).tables ≡ (deliver_request r j (deliver_request q i t).tables).tables =
        rw (
          goes_through r j t s sooner_deliverable,
          goes_through q i (u' q i r j t s apart) sound-between later_deliverable,
          goes_through q i t s d,
          goes_through r j (u q i r j t s apart) su d',
        ) (delivered_swap q i r j t (here q i r j t s apart d e su d' e') there apart) in
        record {
          sooner = rw (goes_through r j t s sooner_deliverable, goes_through q i t s d, goes_through r j (u q i r j t s apart) su d')
              (ap (requested r j) (sym (answer-behind q i r j t (here q i r j t s apart d e su d' e') there apart)));
          later = rw (goes_through r j t s sooner_deliverable, goes_through q i (u' q i r j t s apart) sound-between later_deliverable, goes_through q i t s d)
              (ap (requested q i) (answer-behind r j q i t there (here q i r j t s apart d e su d' e') (λ z. apart (sym z))));
          tables = equal;
          behind = λ rest. ap (run play rest) equal;
        }

  pub requests_swap : (deliver_request q i t).answer ≡ Ok → (deliver_request r j (deliver_request q i t).tables).answer ≡ Ok →
      Swapped play t (request q i) (request r j)
  requests_swap e e' =
      let d = accepted q i t e in
      let g = goes_through q i t s d in
      let su : Sound (u q i r j t s apart) = rw g at (deliver_request-sound q i t s) in
      let e'' : (deliver_request r j (u q i r j t s apart)).answer ≡ Ok = rw g at e' in
      let d' = accepted r j (u q i r j t s apart) e'' in
      through d (rw g at e) su d' (rw (goes_through r j (u q i r j t s apart) su d') at e'')
