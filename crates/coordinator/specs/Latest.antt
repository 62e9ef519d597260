-- "The key of station i at tag t is that of the latest log entry, at t or before it, whose mask has i".
use Rattle.std.specs.Prelude.{ℕ, ◌+◌, Bool, List}
use Rattle.ranges.specs.Last.{last_below}
use Rattle.keys.specs.declared.Key.{Key}
use Rattle.keys.specs.Keys.{key_word}
use Rattle.keys.specs.Masks.{has_server}
use Rattle.tables.specs.Layout.{entry_key, entry_mask}
use Rattle.coordinator.specs.declared.Latest.{Latest}

-- the entry at a tag wrote the server
abbrev pub wrote : List ℕ → ℕ → ℕ → Bool
wrote log i t = has_server (entry_mask log t) i

-- the tag at which the server was last written, at t or before it; 0, the opening's, where no entry wrote it
abbrev pub latest_tag : List ℕ → ℕ → ℕ → ℕ
latest_tag log i t = last_below (wrote log i) (t + 1)

abbrev pub latest_key : List ℕ → ℕ → ℕ → Key
latest_key log i t = entry_key log (latest_tag log i t)

-- "The search back through the log therefore promises key and tag."
abbrev pub entry_at : List ℕ → ℕ → Latest
entry_at log t = record { key = entry_key log t; tag = t }

abbrev pub latest_of : List ℕ → ℕ → ℕ → Latest
latest_of log i t = entry_at log (latest_tag log i t)

-- "its reply has the last tag and all k keys", and each key the tag that it comes from: a server's at a tag
abbrev pub latest_word : List ℕ → ℕ → ℕ → ℕ
latest_word log t i = key_word (latest_key log i t)

abbrev pub latest_tag_at : List ℕ → ℕ → ℕ → ℕ
latest_tag_at log t i = latest_tag log i t
