-- The tables that are lent together: to be read, and to be changed.
use Rattle.std.specs.Prelude.{◌≡◌, ℕ, List, length}
use Rattle.std.specs.Borrow.{MutBor}
use Rattle.tables.specs.Tables.{Tables, tables_of}
use Rattle.tables.specs.declared.lent.Lent.{Lent}
use Rattle.tables.specs.declared.lent.Press.{Press}

-- the tables as they are lent to who reads them
abbrev pub tables_lent : Lent → Tables
tables_lent l = tables_of l.counts.now l.clients.now l.links.now l.keys.now l.values.now l.log.now l.writes.now l.reads.now

-- the tables as they are in a press
abbrev pub tables_in : Press → Tables
tables_in p = tables_of p.counts.now p.clients.now p.links.now p.keys.now p.values.now p.log.now p.writes.now p.reads.now

-- a slice that is lent is the same as before, so that who lent it finds in it what was changed, and as long as before
abbrev pub Same : MutBor (List ℕ) → MutBor (List ℕ) → Type 0
Same s s' = (s'.ghost_name ≡ s.ghost_name) × (length s'.now ≡ length s.now)

-- all that are lent
pub record SameLent (p q : Press) : Type 0 where
  pub counts : Same p.counts q.counts
  pub clients : Same p.clients q.clients
  pub links : Same p.links q.links
  pub keys : Same p.keys q.keys
  pub values : Same p.values q.values
  pub log : Same p.log q.log
  pub writes : Same p.writes q.writes
  pub reads : Same p.reads q.reads
