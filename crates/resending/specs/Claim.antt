-- "A panel now also keeps its WRITE's badge and, in state 4, the keys it asks for, so that it can send them again": what is sent again on a
-- link is exactly what that link was first sent for its transaction. It goes by what the links hold before and after each step.
use Rattle.std.specs.Prelude.{ℕ, ◌≡◌, cond, List, [], ◌∷◌}
use Rattle.tables.specs.Links.{is_empty}
use Rattle.tables.specs.Tables.{Tables, content_at}
use Rattle.tables.specs.declared.links.Content.{Content}
use Rattle.tables.specs.declared.links.Content.TheVariants.{Nothing}
use Rattle.rules.specs.Answer.{Answer}
use Rattle.rules.specs.Answer.{Ok, Refused}
use Rattle.claim.specs.Steps.{Event, opened, begun-write, begun-read, requested, replied, lost, resent, Played, Machine}
use Rattle.claim.specs.History.{BehindOpenings}

-- What a link was first sent since it last held nothing: what it holds behind the step that found it empty. A transaction sends to a target
-- once, or, of a WRITE or of a READ by B, once to its stations and once to the head, each on a link that is empty then.
abbrev pub sent_after : Content → Content → Content → Content
sent_after before now sent = cond (is_empty before) now sent

-- "a panel sends a lost request again": an accepted resend on this link leaves what it was first sent
abbrev pub Again : Answer → ℕ → ℕ → ℕ → ℕ → Content → Content → Type 0
Again Ok p j q i now sent = p ≡ q → j ≡ i → now ≡ sent
Again (Refused n) p j q i now sent = Unit {0}

abbrev pub RepeatsAt : Event → ℕ → ℕ → Content → Content → Type 0
RepeatsAt (opened method k p setpoints answer) q i now sent = Unit {0}
RepeatsAt (begun-write p mask badge setpoints answer) q i now sent = Unit {0}
RepeatsAt (begun-read p mask answer) q i now sent = Unit {0}
RepeatsAt (requested p j answer) q i now sent = Unit {0}
RepeatsAt (replied p j d) q i now sent = Unit {0}
RepeatsAt (lost p j answer) q i now sent = Unit {0}
RepeatsAt (resent p j answer) q i now sent = Again answer p j q i now sent

-- along a list of played steps, from the tables that it begins with and what the link was first sent there
abbrev pub Repeats : ℕ → ℕ → Tables → Content → List Played → Type 0
Repeats q i t sent [] = Unit {0}
Repeats q i t sent (x ∷ xs) =
    RepeatsAt x.event q i (content_at x.tables q i) sent ×
    Repeats q i x.tables (sent_after (content_at t q i) (content_at x.tables q i) sent) xs

-- Of a machine: behind every accepted opening, on every link. An opening leaves all links empty.
abbrev pub SendsAgain : {S : Type 0} → Machine S → Type 0
SendsAgain machine = BehindOpenings machine (λ start played h. (q i : ℕ) → Repeats q i start Nothing played)
