-- Two recordings compared: "Two recordings agree exactly when, for every panel and target, the frames of that link are equal in both and in
-- equal order; frames of different links may have crossed."
use Rattle.std.specs.Prelude.{ℕ, zero, suc, ◌/◌, ◌%◌, List, [], ◌∷◌, Bool, true, false, cond, ◌&&◌, eqb}
use Rattle.recordings.specs.Place.{Place}
use Rattle.recordings.specs.Place.{Nowhere, At}
use Rattle.recordings.specs.Compared.{Compared}
use Rattle.recordings.specs.Compared.{Agree, Differ, Refused}
use Rattle.recordings.specs.Recording.{frames_of, well_made, is_on}

-- "the frames of that link", in order
unfoldable pub frames_on : ℕ → ℕ → List (List ℕ) → List (List ℕ)
frames_on client target [] = []
frames_on client target (frame ∷ frames) =
    cond (is_on client target frame) (frame ∷ frames_on client target frames) (frames_on client target frames)

-- equal bytes
unfoldable pub same : List ℕ → List ℕ → Bool
same [] [] = true
same [] (y ∷ ys) = false
same (x ∷ xs) [] = false
same (x ∷ xs) (y ∷ ys) = eqb x y && same xs ys

unfoldable pub further : Place → Place
further Nowhere = Nowhere
further (At n) = At (suc n)

-- "the place, from 0, of its first differing or missing frame on that link"
unfoldable pub first_difference : List (List ℕ) → List (List ℕ) → Place
first_difference [] [] = Nowhere
first_difference [] (y ∷ ys) = At 0
first_difference (x ∷ xs) [] = At 0
first_difference (x ∷ xs) (y ∷ ys) = cond (same x y) (further (first_difference xs ys)) (At 0)

-- The links in order, by panel, then by target: sixteen panels, each with seventeen targets.
abbrev pub targets : ℕ
targets = 17

abbrev pub links : ℕ
links = 272

abbrev pub client_at : ℕ → ℕ
client_at link = link / targets

abbrev pub target_at : ℕ → ℕ
target_at link = link % targets

unfoldable pub difference_on : ℕ → ℕ → List (List ℕ) → List (List ℕ) → Place
difference_on client target xs ys = first_difference (frames_on client target xs) (frames_on client target ys)

-- a link's difference, or what the links behind it have
unfoldable pub or_else : ℕ → Place → Compared → Compared
or_else link Nowhere behind = behind
or_else link (At n) behind = Differ (client_at link) (target_at link) n

-- "Otherwise the lowest panel, then lowest target, with a difference is named": of the n links from a link on
unfoldable pub from_link : List (List ℕ) → List (List ℕ) → ℕ → ℕ → Compared
from_link xs ys zero link = Agree
from_link xs ys (suc n) link = or_else link (difference_on (client_at link) (target_at link) xs ys) (from_link xs ys n (suc link))

-- "More frames, lengths not adding up to the bytes, or a frame that gives 10 or 11 return 16, ahead of any comparing."
unfoldable pub compared : List ℕ → List ℕ → List ℕ → List ℕ → Compared
compared lengths bytes lengths' bytes' =
    cond (well_made lengths bytes && well_made lengths' bytes')
    (from_link (frames_of lengths bytes) (frames_of lengths' bytes') links 0)
    (Refused 16)
