-- A link gets a content, and the step counts: what `step_parts::fill` relies on, and what it leaves.
use Rattle.std.specs.Prelude.{ℕ, ◌+◌, ◌<◌, ◌≤◌, ◌≡◌, List, length}
use Rattle.tables.specs.Rows.{HasRow}
use Rattle.tables.specs.Layout.{last_step, count_at, count_words, step_field}
use Rattle.tables.specs.Links.{link_width, link_row, put_link}
use Rattle.tables.specs.declared.links.Content.{Content}
use Rattle.rules.specs.Common.{counted}

-- the link is there, and the step number can grow
pub record Fillable (counts links : List ℕ) (q i : ℕ) : Type 0 where
  pub counted : count_words ≤ length counts
  pub stepped : count_at counts step_field < last_step
  pub linked : HasRow link_width links (link_row q i)

pub record Filled (counts links : List ℕ) (q i : ℕ) (content : Content) (step : ℕ) (counts' links' : List ℕ) : Type 0 where
  pub stepped : step ≡ count_at counts step_field + 1
  pub counted' : counts' ≡ counted counts
  pub linked : links' ≡ put_link links q i content
