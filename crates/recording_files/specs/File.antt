-- The file of a recording, as the program takes it (docs/USING.md): 4 bytes, most significant first, the number of frames n; n times 4
-- bytes, each frame's length; then the frames' bytes. An empty file is an empty recording.
use Rattle.std.specs.Prelude.{ℕ, ◌+◌, ◌*◌, List, [], ◌∷◌, ◌++◌, Bool, ◌||◌, leb, eqb, length, get_or, drop}
use Rattle.ranges.specs.Laid.{built}
use Rattle.printing.specs.Texts.{spaced}
use Rattle.printing.specs.StepTexts.{refusal_text}
use Rattle.recordings.specs.Compared.{Compared}
use Rattle.recordings.specs.Compared.{Agree, Differ, Refused}
use Rattle.recordings.specs.Comparing.{compared}

-- the number in the four bytes from a place on; behind the end of the file bytes are 0
unfoldable pub word_at : List ℕ → ℕ → ℕ
word_at file at = ((get_or file at 0 * 256 + get_or file (at + 1) 0) * 256 + get_or file (at + 2) 0) * 256 + get_or file (at + 3) 0

-- how many frames it says that it has, and where their bytes begin
abbrev pub frames_in : List ℕ → ℕ
frames_in file = word_at file 0

abbrev pub bytes_place : List ℕ → ℕ
bytes_place file = 4 + 4 * frames_in file

-- a file that is not cut: it is empty, or has all its lengths
unfoldable pub is_file : List ℕ → Bool
is_file file = eqb (length file) 0 || leb (bytes_place file) (length file)

-- length i, the lengths, and the bytes of the frames
abbrev pub length_at : List ℕ → ℕ → ℕ
length_at file i = word_at file (4 + 4 * i)

unfoldable pub lengths_in : List ℕ → List ℕ
lengths_in file = built (length_at file) (frames_in file)

unfoldable pub bytes_in : List ℕ → List ℕ
bytes_in file = drop (bytes_place file) file

-- two files compared
unfoldable pub compared_files : List ℕ → List ℕ → Compared
compared_files file file' = compared (lengths_in file) (bytes_in file) (lengths_in file') (bytes_in file')

-- what is printed: `agree`, `differ panel target place`, `no 16`, each with byte 10
abbrev pub differ_text : ℕ → ℕ → ℕ → List ℕ
differ_text client target place =
    ((((100 ∷ 105 ∷ 102 ∷ 102 ∷ 101 ∷ 114 ∷ []) ++ spaced client) ++ spaced target) ++ spaced place) ++ (10 ∷ [])

abbrev pub compared_text : Compared → List ℕ
compared_text Agree = 97 ∷ 103 ∷ 114 ∷ 101 ∷ 101 ∷ 10 ∷ []
compared_text (Differ client target place) = differ_text client target place
compared_text (Refused n) = refusal_text n

-- the longest has at most so many bytes
abbrev pub text_most : ℕ
text_most = 40
