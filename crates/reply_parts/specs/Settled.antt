-- What the replies of a WRITE and of a READ rely on alike, and what the link emptied leaves.
use Rattle.std.specs.Prelude.{ℕ, ◌+◌, ◌≡◌, Bool, List}
use Rattle.std.proofs.Common.{sym, ◌∙◌}
use Rattle.tables.specs.Rows.{HasRow}
use Rattle.tables.specs.Layout.{count_at, step_field, client_width, client_word, record_field, record_width}
use Rattle.tables.specs.Links.{put_link}
use Rattle.tables.specs.Tables.{Tables}
use Rattle.tables.specs.declared.links.Content.TheVariants.{Nothing}
use Rattle.rules.specs.Common.{counted, pending}
use Rattle.rules.specs.Reply.{emptied}
use Rattle.step_parts.specs.Waiting.{KindsFit}

-- what `settle` leaves; the kinds of the client's links stay among the four
pub record Settled (counts links : List ℕ) (q i step : ℕ) (counts' links' : List ℕ) : Type 0 where
  pub stepped : step ≡ count_at counts step_field + 1
  pub counted' : counts' ≡ counted counts
  pub emptied : links' ≡ put_link links q i Nothing
  pub fit : KindsFit links q → KindsFit links' q

-- the client's record of a READ or a WRITE is there
pub record GotReady (clients records : List ℕ) (q : ℕ) : Type 0 where
  pub row : HasRow client_width clients q
  pub recorded : HasRow record_width records (client_word clients q record_field)

-- s is what `settle` left, b whether a link is pending then
module _ (q i : ℕ) (t : Tables) {step : ℕ} {counts links : List ℕ} (s : Settled t.counts t.links q i step counts links) where
  pub is-pending : {b v : Bool} → b ≡ pending links q → b ≡ v → pending (emptied q i t) q ≡ v
  is-pending p e = rw s.emptied at (sym p ∙ e)
