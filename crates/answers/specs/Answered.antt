-- What an answer leaves: the reply in the request's place, and one step more.
use Rattle.std.specs.Prelude.{ℕ, ◌≡◌, List}
use Rattle.tables.specs.Links.{put_link}
use Rattle.tables.specs.Tables.{Tables, tables_of}
use Rattle.tables.specs.declared.links.Content.{Content}
use Rattle.rules.specs.Answer.{Answer}
use Rattle.rules.specs.Answer.{Ok}
use Rattle.rules.specs.Answers.{Left, left}
use Rattle.rules.specs.Common.{counted}

-- what `answered_by` leaves
pub record Answered (counts links : List ℕ) (q i : ℕ) (content : Content) (answer : Answer) (counts' links' : List ℕ) : Type 0 where
  pub fine : answer ≡ Ok
  pub counted' : counts' ≡ counted counts
  pub linked : links' ≡ put_link links q i content

-- only the counts and the links change
abbrev pub replaced : Answer → List ℕ → List ℕ → Tables → Left
replaced r counts links t = left r (tables_of counts t.clients links t.keys t.values t.log t.writes t.reads)
