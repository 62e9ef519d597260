-- What a step that no refusal stops finds: sound tables, a client and its row and links.
use Prim.Native.Nat.{ℕ, ◌≤◌, ◌<◌}
use mathlib.Core.Path.{◌≡◌, sym, ap, ◌∙◌}
use native.Mathlib.Omega.{arith}
use Rattle.ranges.specs.Tests.{by_equal}
use Rattle.tables.specs.Rows.{HasRow}
use Rattle.tables.specs.Layout.{client_width, client_word}
use Rattle.tables.specs.Links.{targets, HasLinks, link_width, link_row}
use Rattle.tables.specs.Tables.{Tables, servers_of, clients_of, content_at}
use Rattle.tables.specs.declared.links.Content.{Content}
use Rattle.tables.specs.declared.links.Content.TheVariants.{Nothing}
use Rattle.rules.specs.Common.{coordinator}
use Rattle.soundness.specs.Facts.{Sound}
use Rattle.soundness.specs.Room.{few_servers, client-fits, client-row, client-links, link_row_lem}
use Rattle.serial.proofs.Press.{weight, view}
use Rattle.serial.proofs.View.{within_at}

pub record Ready (t : Tables) (q : ℕ) : Type 0 where
  pub sound : Sound t
  pub client : q < clients_of t

module _ (t : Tables) (q : ℕ) (r : Ready t q) where
  pub few : servers_of t ≤ 16
  few = few_servers t r.sound

  pub in_range : q < 16
  in_range = client-fits t r.sound q r.client

  pub has-row : HasRow client_width t.clients q
  has-row = client-row t r.sound q r.client

  pub has-link : (i : ℕ) → i < targets → HasRow link_width t.links (link_row q i)
  has-link = link_row_lem t r.sound q r.client

  pub has-links : HasLinks t.links q
  has-links = client-links t r.sound q r.client

-- a word of the row and a link as the view has them
pub row_at : (t : Tables) (q f : ℕ) → f < client_width → ((view t).client q).row f ≡ client_word t.clients q f
row_at t q f l = within_at client_width 0 (client_word t.clients q) f l

pub link_at_lem : (t : Tables) (q i : ℕ) → i < targets → ((view t).client q).link i ≡ content_at t q i
link_at_lem t q i l = within_at targets Nothing (content_at t q) i l

-- a link that holds something is not empty
pub not-empty : {A : Type 0} (l : Content) → 0 < weight l → l ≡ Nothing → A
not-empty l h e = let z : ⊥ = omega (arith, ap weight e) in absurd z

-- where only the coordinator's link holds anything, as in states 2 and 3, a link that holds something is that one
pub at-coordinator : (link : ℕ → Content) (i : ℕ) → i < targets → {l : Content} → link i ≡ l → 0 < weight l → ((j : ℕ) → j < coordinator → link j ≡ Nothing) → i ≡ coordinator
at-coordinator link i hi {l} is full others = by_equal i coordinator (λ e. e) (λ d. not-empty l full (sym is ∙ others i (omega arith)))
