-- "Open sets method, k, p, k setpoints; all else empty or 0; version, log and record places not in use stay as they were."
use Rattle.std.specs.Prelude.{ℕ, ◌+◌, ◌-◌, ◌^◌, List, [], ◌∷◌, get_or, set, length, replicate}
use Rattle.std.proofs.lemmas.List.Edits.{sets}
use Rattle.ranges.specs.Turns.{turns}
use Rattle.keys.specs.Keys.{opening, key_word}
use Rattle.tables.specs.Layout.{held_field, put_version_word, put_value, put_entry}
use Rattle.tables.specs.Tables.{Tables, tables_of}

abbrev pub cleared : List ℕ → List ℕ
cleared words = replicate (length words) 0

-- a server holds one version
abbrev pub hold_one : ℕ → List ℕ → List ℕ
hold_one i counts = set counts (held_field + i) 1

-- method, k, p, step 1 and one log entry, in the order of their fields; no WRITE and no READ; each of the k servers holds one version
abbrev pub opened_counts : ℕ → ℕ → ℕ → List ℕ → List ℕ
opened_counts method k p counts = turns hold_one k (sets (cleared counts) 0 (method ∷ k ∷ p ∷ 1 ∷ 1 ∷ []))

-- the first version of each of the k servers is the opening's: "the opening has badge 0"
abbrev pub open_key : ℕ → List ℕ → List ℕ
open_key i keys = put_version_word keys i 0 (key_word opening)

abbrev pub open_value : List ℕ → ℕ → List ℕ → List ℕ
open_value setpoints i values = put_value values i 0 0 (get_or setpoints i 0)

-- "tag 0 is the opening's key with all k stations"
abbrev pub all_servers : ℕ → ℕ
all_servers k = 2 ^ k - 1

abbrev pub opened : ℕ → ℕ → ℕ → List ℕ → Tables → Tables
opened method k p setpoints t =
    tables_of
    (opened_counts method k p t.counts)
    (cleared t.clients)
    (cleared t.links)
    (turns open_key k t.keys)
    (turns (open_value setpoints) k t.values)
    (put_entry t.log 0 opening (all_servers k))
    t.writes
    t.reads
