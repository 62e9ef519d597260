-- The table of document 01's section "Frames", by kind.
use Rattle.std.specs.Prelude.{ℕ, ◌+◌, ◌*◌, List, [], ◌∷◌, Bool, cond, not, ◌&&◌, eqb, get_or}
use Rattle.frame_table.specs.declared.Field.{Field}
use Rattle.frame_table.specs.declared.Shape.{Shape}

-- What a field holds. A kind that lacks a field has `none` there: no bits, and value 0.
abbrev pub none : ℕ
none = 0

abbrev pub kind : ℕ
kind = 1

abbrev pub client : ℕ
client = 2

abbrev pub server : ℕ
server = 3

abbrev pub coord : ℕ
coord = 4

abbrev pub tag : ℕ
tag = 5

-- "tag 8, from 1"
abbrev pub tag1 : ℕ
tag1 = 6

abbrev pub count : ℕ
count = 7

-- "In kinds 1 and 3 the key's panel is the header's and its count at least 1."
abbrev pub count1 : ℕ
count1 = 8

-- the client of a key; "a key of count 0 with a panel above 0" is broken
abbrev pub of : ℕ
of = 9

-- "In kinds 1 and 3 the key's panel is the header's"
abbrev pub own : ℕ
own = 10

-- "a 16-bit badge number, 0 allowed"
abbrev pub badge : ℕ
badge = 11

-- a setpoint
abbrev pub value : ℕ
value = 12

-- "A zero mask is broken"
abbrev pub mask : ℕ
mask = 13

-- "number 5 (1 to 16)"
abbrev pub keys : ℕ
keys = 14

-- "n−1 in 8"
abbrev pub less : ℕ
less = 15

-- How the table is laid out: these numbers stand here only. A row's places, from 0: the field that says how many entries there are, an
-- entry's first field, which is its key's count, its key's client, its badge, and its last, which is its tag, setpoint or mask.
abbrev pub many_place : ℕ
many_place = 8

abbrev pub entry_place : ℕ
entry_place = 9

abbrev pub owner_place : ℕ
owner_place = 10

abbrev pub badge_place : ℕ
badge_place = 11

abbrev pub number_place : ℕ
number_place = 12

-- how many fields header and fixed body have together, and an entry; how many kinds there are, with 0, and how many sorts of fields
abbrev pub fixed_fields : ℕ
fixed_fields = entry_place

abbrev pub entry_fields : ℕ
entry_fields = 4

abbrev pub kinds : ℕ
kinds = 13

abbrev pub sorts : ℕ
sorts = 16

-- "Header: kind 4 bits, panel 4, target 5"
abbrev pub header_bits : ℕ
header_bits = 13

-- The table by kind: "station or head target, fixed body bits, bits per entry".
-- "Version records hold it after the key, as do frame kinds 1 and 10; kind 8 has it before the setpoint"
-- until the kind is read; set, set done, enter, entered, which keys, keys, get, got, get all, all, get log, log
abbrev pub by_kind : List (List ℕ)
by_kind =
    (server ∷ 0 ∷ 0 ∷ [])
    ∷ (server ∷ 60 ∷ 0 ∷ [])
    ∷ (server ∷ 0 ∷ 0 ∷ [])
    ∷ (coord ∷ 28 ∷ 0 ∷ [])
    ∷ (coord ∷ 8 ∷ 0 ∷ [])
    ∷ (coord ∷ 0 ∷ 0 ∷ [])
    ∷ (coord ∷ 13 ∷ 20 ∷ [])
    ∷ (server ∷ 12 ∷ 0 ∷ [])
    ∷ (server ∷ 48 ∷ 0 ∷ [])
    ∷ (server ∷ 0 ∷ 0 ∷ [])
    ∷ (server ∷ 8 ∷ 60 ∷ [])
    ∷ (coord ∷ 0 ∷ 0 ∷ [])
    ∷ (coord ∷ 8 ∷ 28 ∷ [])
    ∷ []

-- a row of it
abbrev pub shape : List ℕ → Shape
shape columns = record { target = get_or columns 0 0; body = get_or columns 1 0; entry = get_or columns 2 0 }

abbrev pub shape_of : ℕ → Shape
shape_of kind = shape (get_or by_kind kind [])

-- Beside the table, which fields make up those bits: of the fixed body tag, key's count and client, badge, setpoint or mask, how many
-- entries; of an entry key's count and client, badge, and tag, setpoint or mask. `row_right` proves that their bits are the table's.
abbrev pub fields : ℕ → ℕ → ℕ → ℕ → ℕ → ℕ → ℕ → ℕ → ℕ → ℕ → List ℕ
fields t c p b x n c' p' b' x' = t ∷ c ∷ p ∷ b ∷ x ∷ n ∷ c' ∷ p' ∷ b' ∷ x' ∷ []

abbrev pub bare : List ℕ
bare = fields none none none none none none none none none none

abbrev pub bodies : List (List ℕ)
bodies =
    bare
    ∷ fields none count1 own badge value none none none none none
    ∷ bare
    ∷ fields none count1 own none mask none none none none none
    ∷ fields tag1 none none none none none none none none none
    ∷ bare
    ∷ fields tag none none none none keys count of none tag
    ∷ fields none count of none none none none none none none
    ∷ fields none none none badge value none none none none none
    ∷ bare
    ∷ fields none none none none none less count of badge value
    ∷ bare
    ∷ fields none none none none none less count of none mask
    ∷ []

-- what the fields of a frame hold, place by place: "Header: kind 4 bits, panel 4, target 5", then the body's and an entry's
abbrev pub row_with : ℕ → List ℕ → List ℕ
row_with target body = kind ∷ client ∷ target ∷ body

abbrev pub row_of : ℕ → List ℕ
row_of k = row_with (shape_of k).target (get_or bodies k bare)

unfoldable pub sort_at : ℕ → ℕ → ℕ
sort_at kind place = get_or (row_of kind) place none

-- a field's bits, its least and its greatest value
abbrev pub limit_row : ℕ → ℕ → ℕ → Field
limit_row width least most = record { width = width; least = least; most = most }

-- by what it holds: none, kind, client, server, coord; tag, tag1, count, count1; of, own; badge, value, mask, keys, less
abbrev pub limit_rows : List Field
limit_rows =
    limit_row 0 0 0
    ∷ limit_row 4 1 12
    ∷ limit_row 4 0 15
    ∷ limit_row 5 0 15
    ∷ limit_row 5 16 16
    ∷ limit_row 8 0 255
    ∷ limit_row 8 1 255
    ∷ limit_row 8 0 255
    ∷ limit_row 8 1 255
    ∷ limit_row 4 0 15
    ∷ limit_row 4 0 15
    ∷ limit_row 16 0 65535
    ∷ limit_row 32 0 4294967295
    ∷ limit_row 16 1 65535
    ∷ limit_row 5 1 16
    ∷ limit_row 8 0 255
    ∷ []

abbrev pub limits_of : ℕ → Field
limits_of sort = get_or limit_rows sort (limit_row 0 0 0)

unfoldable pub bits_of : ℕ → ℕ
bits_of sort = (limits_of sort).width

unfoldable pub least_of : ℕ → ℕ → ℕ
least_of sort client = cond (eqb sort own) client (limits_of sort).least

-- `before` is the value of the field before: of a key's client, the key's count
unfoldable pub most_of : ℕ → ℕ → ℕ → ℕ
most_of sort client before =
    cond (eqb sort own) client (cond (eqb sort of && eqb before 0) 0 (limits_of sort).most)

-- a frame has at most as many entries as n−1 in 8 bits can say
abbrev pub most_entries : ℕ
most_entries = 256

-- how many entries, by the value that says it
unfoldable pub entries_in : ℕ → ℕ → ℕ
entries_in kind v = cond (eqb (sort_at kind many_place) less) (v + 1) v

-- how many a frame's values say that there are
abbrev pub entries_said : List ℕ → ℕ
entries_said vs = entries_in (get_or vs 0 0) (get_or vs many_place 0)

-- how many values a frame with so many entries has
abbrev pub values_for : ℕ → ℕ
values_for entries = fixed_fields + entry_fields * entries

-- an entry has a badge behind its key
unfoldable pub has_badges : ℕ → Bool
has_badges kind = not (eqb (sort_at kind badge_place) none)
