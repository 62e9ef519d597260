-- Demand 3: the claim about a list of played steps and the history that they tell.
use Rattle.std.specs.Prelude.{ℕ, ◌+◌, ◌*◌, ◌≤◌, ◌<◌, ◌≡◌, false, List, length}
use Rattle.std.proofs.Math.Option.{some}
use Rattle.ranges.specs.Each.{Each}
use Rattle.keys.specs.Masks.{servers_in}
use Rattle.tables.specs.declared.links.Content.{Content}
use Rattle.tables.specs.declared.links.Content.TheVariants.{Nothing, Request, Reply, Lost}
use Rattle.tables.specs.Tables.{Tables, content_at}
use Rattle.rules.specs.Answer.{Answer}
use Rattle.rules.specs.Answer.{Ok, Refused}
use Rattle.claim.specs.Steps.{Event, opened, begun-write, begun-read, requested, replied, lost, resent, Played, Machine}
use Rattle.claim.specs.History.{Transaction, Doing, nothing, writing, tagged, reading, History, history, BehindOpenings}
use Rattle.claim.specs.Row.{row, Walk, RealTime}

-- the deliveries at which a READ of a mask ends: two for each station, what the method adds, "one … more for each of its lost replies"
abbrev pub enough : ℕ → ℕ → ℕ → ℕ
enough extra mask losses = 2 * servers_in mask + extra + losses

abbrev pub EndsAt : ℕ → Transaction → Type 0
EndsAt extra x = x.is_write ≡ false → x.deliveries ≡ enough extra x.mask x.losses

-- "an unfinished READ has had fewer of them than the number at which it ends"
abbrev pub Unfinished : ℕ → Doing → Type 0
Unfinished extra nothing = Unit {0}
Unfinished extra (writing mask badge setpoints begin) = Unit {0}
Unfinished extra (tagged tag) = Unit {0}
Unfinished extra (reading mask begin deliveries losses) = deliveries < enough extra mask losses

-- "A request is answered when its delivery leaves the reply on that link."
abbrev pub IsReply : Content → Type 0
IsReply Nothing = ⊥
IsReply (Request w) = ⊥
IsReply (Reply w) = Unit {0}
IsReply Lost = ⊥

abbrev pub LeavesReply : Answer → Content → Type 0
LeavesReply Ok content = IsReply content
LeavesReply (Refused n) content = Unit {0}

abbrev pub AnswersAt : Event → Tables → Type 0
AnswersAt (opened method k p setpoints answer) t = Unit {0}
AnswersAt (begun-write q mask badge setpoints answer) t = Unit {0}
AnswersAt (begun-read q mask answer) t = Unit {0}
AnswersAt (requested q i answer) t = LeavesReply answer (content_at t q i)
AnswersAt (replied q i d) t = Unit {0}
AnswersAt (lost q i answer) t = Unit {0}
AnswersAt (resent q i answer) t = Unit {0}

abbrev pub Answers : Played → Type 0
Answers x = AnswersAt x.event x.tables

pub record Claim (steps : List Played) (h : History) : Type 0 where
  -- every READ shows at each station of its mask exactly the value just then
  pub walk : Walk h.initial (row h)
  -- the tagged WRITEs and finished READs stand in one row: a READ's tag is that of the opening or of a tagged WRITE, and the row has as many as there are
  pub whole : Each (λ x. x.tag ≤ h.tags) h.reads
  pub complete : length (row h) ≡ h.tags + length h.reads
  -- of any two in the row, one that finished before the other began stands before it
  pub real_time : RealTime (row h)
  -- each accepted request delivery leaves the reply on that link
  pub answered : Each Answers steps
  -- a READ of m stations ends at exactly its 2m-th delivery under A, its (2m + 2)-th under B and C, one more for each lost reply
  pub ends : Each (EndsAt h.extra) (row h)
  -- and an unfinished one has had fewer
  pub unfinished : (q : ℕ) → Unfinished h.extra (h.doing q)
  -- *write* answers the tag that the WRITE got by order
  pub tags : (tag answer : ℕ) → 1 ≤ tag → tag ≤ h.tags → h.said tag ≡ some answer → answer ≡ tag
  -- every accepted step belongs to a transaction, and every *write* and *read* ends one of its kind
  pub whose : h.astray ≡ 0

-- The whole of it, of a machine: behind every accepted opening, what was played has the claim.
abbrev pub Demand3 : {S : Type 0} → Machine S → Type 0
Demand3 machine = BehindOpenings machine (λ start played h. Claim played (history played h))
