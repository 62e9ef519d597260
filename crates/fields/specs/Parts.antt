-- "Reading and writing one field goes byte by byte, with a part of a byte first and last": a field as it is followed in the listing.
-- A part is told by its byte's place, its width, and how many bits of the byte stand behind it; a whole byte has 8 bits, and none behind.
use Rattle.std.specs.Prelude.{ℕ, zero, suc, ◌+◌, ◌-◌, ◌*◌, ◌/◌, ◌%◌, ◌^◌, List, cond, leb, get_or, set}

-- the part of a byte: without the bits before it, then without those behind it; 0 behind the end of the bytes
unfoldable pub part_at : List ℕ → ℕ → ℕ → ℕ → ℕ
part_at bytes place width behind = get_or bytes place 0 % 2 ^ (width + behind) / 2 ^ behind

-- a byte with v in that part: the bits before it as they were, v, the bits behind it as they were
unfoldable pub with_part : ℕ → ℕ → ℕ → ℕ → ℕ
with_part byte width behind v =
    byte / 2 ^ (width + behind) * 2 ^ (width + behind) + v % 2 ^ width * 2 ^ behind + byte % 2 ^ behind

-- the bytes with such a byte at a place; behind their end nothing is put
unfoldable pub put_part : List ℕ → ℕ → ℕ → ℕ → ℕ → List ℕ
put_part bytes place width behind v = set bytes place (with_part (get_or bytes place 0) width behind v)

-- how many bits of its first byte a field can have; of a field with more, how many whole bytes follow, and the 1 to 8 bits of its last
abbrev pub free_of : ℕ → ℕ
free_of at = 8 - at % 8

abbrev pub whole_of : ℕ → ℕ → ℕ
whole_of at w = (w - free_of at - 1) / 8

abbrev pub left_of : ℕ → ℕ → ℕ
left_of at w = (w - free_of at - 1) % 8 + 1

-- the first part, `free` bits to the end of its byte, and the n whole bytes behind it
unfoldable pub up_to : List ℕ → ℕ → ℕ → ℕ → ℕ
up_to bytes place free zero = part_at bytes place free 0
up_to bytes place free (suc n) = up_to bytes place free n * 256 + part_at bytes (place + suc n) 8 0

-- the number in the w bits from `at` on: within one byte; or the first part, the whole bytes, and a last part of what is left
unfoldable pub field_by_bytes : List ℕ → ℕ → ℕ → ℕ
field_by_bytes bytes at w =
    let place = at / 8 in
    let free = free_of at in
    let whole = whole_of at w in
    let left = left_of at w in
    cond (leb w free)
    (part_at bytes place w (free - w))
    (up_to bytes place free whole * 2 ^ left + part_at bytes (place + whole + 1) left (8 - left))

-- v into the first part and the n whole bytes behind it: the lowest bits of v go into the last of these bytes
unfoldable pub put_up_to : List ℕ → ℕ → ℕ → ℕ → ℕ → List ℕ
put_up_to bytes place free zero v = put_part bytes place free 0 v
put_up_to bytes place free (suc n) v = put_up_to (put_part bytes (place + suc n) 8 0 v) place free n (v / 256)

-- the bytes with v in the w bits from `at` on: within one byte; or its lowest bits into the last part, and the others ahead of it
unfoldable pub put_by_bytes : List ℕ → ℕ → ℕ → ℕ → List ℕ
put_by_bytes bytes at w v =
    let place = at / 8 in
    let free = free_of at in
    let whole = whole_of at w in
    let left = left_of at w in
    cond (leb w free)
    (put_part bytes place w (free - w) v)
    (put_up_to (put_part bytes (place + whole + 1) left (8 - left) v) place free whole (v / 2 ^ left))
