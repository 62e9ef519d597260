-- A step that appends no version and no log entry. It changes its client's row and links, the records, and of the counts only
-- those of steps, WRITEs and READs: all steps but the delivery of a set or an enter request.
use Rattle.std.specs.Prelude.{ℕ, ◌+◌, ◌≤◌, ◌<◌, ◌≡◌, List, length}
use Rattle.std.proofs.Common.{ap, arith, length-set, get_or-set_same, get_or-set_other}
use Rattle.ranges.specs.Sum.{sum_below}
use Rattle.tables.specs.Rows.{word_at}
use Rattle.tables.specs.Layout.{last_step, count_words, count_at, step_field, writes_field, reads_field, held_field, record_places, client_width}
use Rattle.tables.specs.Layout.{client_word, version_word, value_width, value_row, entry_width, clients_field, entries_field, method_field}
use Rattle.tables.specs.Layout.{servers_field}
use Rattle.tables.specs.Links.{targets, link_width}
use Rattle.tables.specs.Tables.{Tables, clients_of, step_of, entries_of, writes_of, reads_of, held_of, count_of}
use Rattle.rules.specs.Common.{counted}
use Rattle.soundness.specs.Sound.{holding}
use Rattle.soundness.specs.Facts.{Between, ClientFacts, WriteFacts, ReadFacts, RecordsFacts, Sound}
use Rattle.keeping.specs.Links.{link_word}
use Rattle.keeping.specs.Frame.{Numbers, Lengths, Grows, Kept}

pub record Moves (q : ℕ) (t t' : Tables) : Type 0 where
  pub count : (f : ℕ) → (f ≡ step_field → ⊥) → (f ≡ writes_field → ⊥) → (f ≡ reads_field → ⊥) → count_at t'.counts f ≡ count_at t.counts f
  pub keys : t'.keys ≡ t.keys
  pub values : t'.values ≡ t.values
  pub log : t'.log ≡ t.log
  pub row : (p f : ℕ) → (p ≡ q → ⊥) → f < client_width → client_word t'.clients p f ≡ client_word t.clients p f
  pub link : (p i f : ℕ) → (p ≡ q → ⊥) → i < targets → f < link_width → link_word t'.links p i f ≡ link_word t.links p i f
  pub lengths : Lengths t t'

module _ (q : ℕ) (t t' : Tables) (m : Moves q t t') where
  pub same_entries : entries_of t' ≡ entries_of t
  same_entries = m.count entries_field (λ e. omega arith) (λ e. omega arith) (λ e. omega arith)

  pub same_held : (i : ℕ) → held_of t' i ≡ held_of t i
  same_held i = m.count (held_field + i) (λ e. omega arith) (λ e. omega arith) (λ e. omega arith)

  pub same-holding : (i : ℕ) → holding t' i ≡ holding t i
  same-holding i = rw (same_entries, same_held i)

  pub moves-numbers : Numbers t t'
  moves-numbers =
      record {
        method = m.count method_field (λ e. omega arith) (λ e. omega arith) (λ e. omega arith);
        servers = m.count servers_field (λ e. omega arith) (λ e. omega arith) (λ e. omega arith);
        clients = m.count clients_field (λ e. omega arith) (λ e. omega arith) (λ e. omega arith);
        entries = omega (arith, same_entries);
        held = λ i h. omega (arith, same_held i);
      }

  pub moves_grows : Grows q t t'
  moves_grows =
      record {
        numbers = moves-numbers;
        lengths = m.lengths;
        row = m.row;
        link = m.link;
        key = λ i place h l. ap (λ (words : List ℕ). version_word words i place) m.keys;
        value = λ i place f h l g. ap (λ (words : List ℕ). word_at value_width words (value_row i place) f) m.values;
        entry = λ tag f h l. ap (λ (words : List ℕ). word_at entry_width words tag f) m.log;
      }

-- What such a step proves anew.
pub record Anew (q : ℕ) (t t' : Tables) : Type 0 where
  pub step : Between 1 (step_of t') last_step
  pub writes : writes_of t' ≤ record_places
  pub reads : reads_of t' ≤ record_places
  pub client : ClientFacts t' q
  pub counts : sum_below (count_of t') (clients_of t) ≡ writes_of t'
  pub write : (n : ℕ) → n < writes_of t' → WriteFacts t' n
  pub read : (n : ℕ) → n < reads_of t' → ReadFacts t' n
  pub records : (p : ℕ) → p < clients_of t → RecordsFacts t' p

-- one step more: the other counts stay
module _ (counts : List ℕ) where
  pub counted_other : (f : ℕ) → (f ≡ step_field → ⊥) → count_at (counted counts) f ≡ count_at counts f
  counted_other f d = get_or-set_other counts step_field f _ 0 d

  pub counted_step : count_words ≤ length counts → count_at (counted counts) step_field ≡ count_at counts step_field + 1
  counted_step h = get_or-set_same counts step_field _ 0 (omega arith)

  pub counted-length : length (counted counts) ≡ length counts
  counted-length = length-set counts step_field _
