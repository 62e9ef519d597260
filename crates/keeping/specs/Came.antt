-- What is at hand when a reply is delivered: its link holds nothing from now on, and the client's other links stay.
use Rattle.std.specs.Prelude.{ℕ, ◌+◌, ◌≤◌, ◌<◌, ◌≡◌, true, List, length, eqb}
use Rattle.std.proofs.Common.{sym, ◌∙◌, arith, ne_eqb, eqb-true}
use Rattle.ranges.specs.Tests.{by_equal}
use Rattle.keys.specs.Masks.{Within}
use Rattle.tables.specs.Rows.{HasRow}
use Rattle.tables.specs.Layout.{last_step, client_width, client_word, count_field, mask_field, record_field, state_field, tag_field, setpoints_field}
use Rattle.tables.specs.Layout.{write_badge_field}
use Rattle.tables.specs.Links.{targets, link_width}
use Rattle.tables.specs.LinkLaws.{link-length}
use Rattle.tables.specs.Tables.{Tables, servers_of, clients_of, step_of, state_of, mask_of, received_of, write_badge_of, with_clients}
use Rattle.tables.specs.declared.links.Content.TheVariants.{Nothing}
use Rattle.rules.specs.Common.{idle, asking_all, coordinator, pending}
use Rattle.rules.specs.Reply.{emptied, received_in}
use Rattle.soundness.specs.Sound.{uses, received_sound}
use Rattle.soundness.specs.Facts.{KeptFacts, ClientFacts, Sound}
use Rattle.soundness.specs.Room.{client-row, link_row_lem}
use Rattle.keeping.specs.Links.{link_word, kind_on, LinkAsks, link-asks, link-empty, put_same, put_other, put_beside}
use Rattle.keeping.specs.States.{received_none, not-all}
use Rattle.keeping.specs.Frame.{Kept, kept_in}
use Rattle.keeping.specs.Moves.{Moves, moves-numbers, same_entries}
use Rattle.keeping.specs.Rounds.{unused-empty}
use Rattle.keeping.specs.Replied.{replied_tables, Moving, going-moves}

-- A reply stands on link (q, i), of a client and a target that are there.
pub record Came (q i : ℕ) (t : Tables) : Type 0 where
  pub sound : Sound t
  pub client : q < clients_of t
  pub target : i < targets
  pub early : step_of t < last_step
  pub kind : kind_on t q i ≡ 2

module _ {q i : ℕ} {t : Tables} (a : Came q i t) where
  pub facts : ClientFacts t q
  facts = a.sound.client q a.client

  pub asks : LinkAsks t q i
  asks = link-asks t q i (facts.link i a.target)

  pub used : uses (state_of t q) (mask_of t q) i ≡ true
  used = asks.used (λ e. omega (arith, a.kind))

  pub row_room : HasRow client_width t.clients q
  row_room = client-row t a.sound q a.client

  pub busy : (state_of t q ≡ idle → ⊥) → Within (mask_of t q) (servers_of t)
  busy e = record { some = facts.masked e; below = facts.mask }

  abbrev pub rest : List ℕ
  rest = emptied q i t

  pub gone : link_word rest q i 0 ≡ 0
  gone = put_same t.links q i Nothing 0 (link_row_lem t a.sound q a.client i a.target) (omega arith)

  pub beside : (j f : ℕ) → (j ≡ i → ⊥) → f < link_width → link_word rest q j f ≡ link_word t.links q j f
  beside j f e g = put_beside t.links q i Nothing j f e g

  pub kinds : (j : ℕ) → j < targets → link_word rest q j 0 ≤ 3
  kinds j h = by_equal j i (λ e. rw (e, gone) (omega arith)) (λ e. rw (beside j 0 e (omega arith)) (facts.link j h).kind)

  pub elsewhere : (p j f : ℕ) → (p ≡ q → ⊥) → j < targets → f < link_width → link_word rest p j f ≡ link_word t.links p j f
  elsewhere p j f e h g = put_other t.links q i Nothing p j f a.target h (λ z. e z.0) g

  pub rest_long : length rest ≡ length t.links
  rest_long = link-length t.links q i Nothing

  -- nothing is received outside state 5
  pub received-zero : (state_of t q ≡ asking_all → ⊥) → (j : ℕ) → j < targets → received_of t q j ≡ 0
  received-zero e j h = received_none t q j (not-all t q j e) (facts.received j h)

  -- where only the coordinator's link is in use, nothing is left
  pub none_beside : ((j : ℕ) → uses (state_of t q) (mask_of t q) j ≡ eqb j coordinator) → (j : ℕ) → j < targets → link_word rest q j 0 ≡ 0
  none_beside only j h =
      by_equal j i
      (λ e. rw e gone)
      (λ e. let here : i ≡ coordinator = eqb-true i coordinator (sym (only i) ∙ used) in
      beside j 0 e (omega arith) ∙ unused-empty t q j (facts.link j h) (only j ∙ ne_eqb j coordinator (λ z. e (z ∙ sym here))))

  -- "wait": replies are still to come. The row stays but for a setpoint and its badge, or an n.
  module _ (clients' : List ℕ) (v : Moving q clients' rest t) (same : (f : ℕ) → f < setpoints_field → client_word clients' q f ≡ client_word t.clients q f)
      (badge : client_word clients' q write_badge_field ≡ write_badge_of t q)
      (kept : (j : ℕ) → j < servers_of t → KeptFacts (with_clients clients' t) q j)
      (received : (j : ℕ) → j < targets → (j ≡ i → ⊥) → received_in clients' q j ≡ received_of t q j) (more : pending rest q ≡ true) where
    abbrev pub waiting : Tables
    waiting = replied_tables clients' rest t.writes t.reads t

    pub waiting-moves : Moves q t waiting
    waiting-moves = going-moves q clients' rest t a.sound a.client a.early v
