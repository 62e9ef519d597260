-- The entries beside a frame's fixed values: keys as numbers, badges, and tags, setpoints or masks; their values in a frame, four for each
-- entry.
use Rattle.std.specs.Prelude.{ℕ, ◌+◌, ◌*◌, ◌/◌, ◌%◌, List, ◌++◌, Bool, cond, not, ◌&&◌, ◌||◌, eqb, leb, get_or}
use Rattle.ranges.specs.Laid.{built}
use Rattle.frame_table.specs.Table.{has_badges, entry_place, owner_place, badge_place, number_place, entry_fields}

-- of entry i among a frame's values: its key as a number, as `key_word` has it, its badge, and its tag, setpoint or mask
abbrev pub key_in : List ℕ → ℕ → ℕ
key_in vs i = get_or vs (entry_place + entry_fields * i) 0 * 256 + get_or vs (owner_place + entry_fields * i) 0

abbrev pub badge_in : List ℕ → ℕ → ℕ
badge_in vs i = get_or vs (badge_place + entry_fields * i) 0

abbrev pub number_in : List ℕ → ℕ → ℕ
number_in vs i = get_or vs (number_place + entry_fields * i) 0

-- value j of the entries: count, client, badge, or 0 where the kind's entries have none, and tag, setpoint or mask
unfoldable pub entry_value : Bool → List ℕ → List ℕ → List ℕ → ℕ → ℕ
entry_value badged keys badges numbers j =
    cond (eqb (j % entry_fields) 0) (get_or keys (j / entry_fields) 0 / 256)
    (cond (eqb (j % entry_fields) 1) (get_or keys (j / entry_fields) 0 % 256)
    (cond (eqb (j % entry_fields) 2) (cond badged (get_or badges (j / entry_fields) 0) 0) (get_or numbers (j / entry_fields) 0)))

-- the fixed values, which begin with the kind, and those of so many entries behind them
abbrev pub values_by : List ℕ → List ℕ → List ℕ → List ℕ → ℕ → List ℕ
values_by fixed keys badges numbers entries =
    fixed ++ built (entry_value (has_badges (get_or fixed 0 0)) keys badges numbers) (entry_fields * entries)

-- as many places for keys and for numbers as there are entries, and for badges where the kind's entries have them, which is kind 10
abbrev pub enough : ℕ → ℕ → ℕ → ℕ → ℕ → Bool
enough kind entries keys badges numbers = leb entries keys && (leb entries numbers && (not (has_badges kind) || leb entries badges))
