-- A recording, and when it is one: "Each stores up to 4,096 frames in order: their lengths, and their bytes end to end."
use Rattle.std.specs.Prelude.{ℕ, ◌+◌, List, [], ◌∷◌, Bool, true, false, not, ◌&&◌, ◌||◌, leb, eqb, length, take, drop}
use Rattle.fields.specs.Bits.{field_at}
use Rattle.formats.specs.Grammar.{Outcome, got, fault}
use Rattle.frames.specs.Frames.{found}

-- its frames: the first has as many bytes as the first length says, the next stands behind it, and so on
unfoldable pub frames_of : List ℕ → List ℕ → List (List ℕ)
frames_of [] bytes = []
frames_of (n ∷ lengths) bytes = take n bytes ∷ frames_of lengths (drop n bytes)

-- "up to 4,096 frames"
abbrev pub most_frames : ℕ
most_frames = 4096

-- all lengths together
unfoldable pub total : List ℕ → ℕ
total [] = 0
total (n ∷ lengths) = n + total lengths

-- "a frame that gives 10 or 11"
unfoldable pub broken : Outcome → Bool
broken (got vs) = false
broken (fault n) = eqb n 10 || eqb n 11

abbrev pub readable : List ℕ → Bool
readable frame = not (broken (found frame))

unfoldable pub all_readable : List (List ℕ) → Bool
all_readable [] = true
all_readable (frame ∷ frames) = readable frame && all_readable frames

-- none of the three causes: "More frames, lengths not adding up to the bytes, or a frame that gives 10 or 11 return 16"
unfoldable pub well_made : List ℕ → List ℕ → Bool
well_made lengths bytes =
    leb (length lengths) most_frames && (eqb (length bytes) (total lengths) && all_readable (frames_of lengths bytes))

-- ---- links

-- "Header: kind 4 bits, panel 4, target 5"
abbrev pub client_of : List ℕ → ℕ
client_of frame = field_at frame 4 4

abbrev pub target_of : List ℕ → ℕ
target_of frame = field_at frame 8 5

-- a frame of the link of a client and a target
unfoldable pub is_on : ℕ → ℕ → List ℕ → Bool
is_on client target frame = eqb (client_of frame) client && eqb (target_of frame) target
