-- A format: fields in a row, each with its width and its test; what stands behind a field may go by the field's value.
-- What it is to read bytes by a format, and to write values by it.
use Rattle.std.specs.Prelude.{ℕ, ◌+◌, ◌-◌, ◌*◌, ◌/◌, ◌^◌, List, [], ◌∷◌, Bool, true, false, cond, ◌&&◌, leb, ltb, eqb, length, replicate}
use Rattle.fields.specs.Bits.{field_at, put_field}

pub data Grammar : Type 0 where
  end : Grammar
  field : ℕ → (ℕ → Bool) → (ℕ → Grammar) → Grammar

-- what reading gives: the values, or the number that refuses the bytes
pub data Outcome : Type 0 where
  got : List ℕ → Outcome
  fault : ℕ → Outcome

unfoldable pub ahead : ℕ → Outcome → Outcome
ahead v (got vs) = got (v ∷ vs)
ahead v (fault n) = fault n

-- "frame cut short" gives 10, and "frame field wrong" 11; "the first fault decides"
unfoldable pub judged : Bool → Bool → Outcome → Outcome
judged whole right rest = cond whole (cond right rest (fault 11)) (fault 10)

-- "zero bits to the next byte": behind the last field less than a byte is left, and it is zero; "padding not zero, bytes after it" give 11
unfoldable pub ended : List ℕ → ℕ → Outcome
ended bytes at =
    judged true (leb (8 * length bytes) (at + 7) && eqb (field_at bytes at (8 * length bytes - at)) 0) (got [])

-- "Fields are read in order"
unfoldable pub read : Grammar → List ℕ → ℕ → Outcome
read end bytes at = ended bytes at
read (field w ok rest) bytes at =
    let v = field_at bytes at w in
    let o = ahead v (read (rest v) bytes (at + w)) in
    judged (leb (at + w) (8 * length bytes)) (ok v) o

-- the values are those of a frame
unfoldable pub good : Grammar → List ℕ → Bool
good end [] = true
good end (v ∷ vs) = false
good (field w ok rest) [] = false
good (field w ok rest) (v ∷ vs) = (ltb v (2 ^ w) && ok v) && good (rest v) vs

-- how many bits their fields have
unfoldable pub size : Grammar → List ℕ → ℕ
size end vs = 0
size (field w ok rest) [] = 0
size (field w ok rest) (v ∷ vs) = w + size (rest v) vs

-- their fields laid into bytes, one behind the other
unfoldable pub lay : Grammar → List ℕ → List ℕ → ℕ → List ℕ
lay end vs bytes at = bytes
lay (field w ok rest) [] bytes at = bytes
lay (field w ok rest) (v ∷ vs) bytes at = lay (rest v) vs (put_field bytes at w v) (at + w)

abbrev pub zeros : ℕ → List ℕ
zeros n = replicate n 0

-- the frame of the values: their fields over zero bits, up to the next byte
unfoldable pub frame : Grammar → List ℕ → List ℕ
frame g vs = lay g vs (zeros ((size g vs + 7) / 8)) 0
