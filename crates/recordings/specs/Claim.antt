-- What E8 says of comparing, without the way it is computed.
use Rattle.std.specs.Prelude.{ℕ, ◌≤◌, ◌<◌, ◌≡◌, List, [], true, false, ◌&&◌, length, get_or}
use Rattle.recordings.specs.Compared.{Compared}
use Rattle.recordings.specs.Compared.{Agree, Differ, Refused}
use Rattle.recordings.specs.Recording.{frames_of, well_made}
use Rattle.recordings.specs.Comparing.{frames_on}

-- "for every panel and target, the frames of that link are equal in both and in equal order"
abbrev pub Agreeing : List (List ℕ) → List (List ℕ) → Type 0
Agreeing xs ys = (client target : ℕ) → client < 16 → target < 17 → frames_on client target xs ≡ frames_on client target ys

-- two rows of frames both have a place, and the same frame there
pub record SameAt (xs ys : List (List ℕ)) (n : ℕ) : Type 0 where
  pub there : n < length xs
  pub there_too : n < length ys
  pub equal : get_or xs n [] ≡ get_or ys n []

-- "its first differing or missing frame": one row has the place, they are not the same there, and they are at every place before it
pub record First (xs ys : List (List ℕ)) (n : ℕ) : Type 0 where
  pub some : length xs ≤ n → length ys ≤ n → ⊥
  pub differs : SameAt xs ys n → ⊥
  pub before : (m : ℕ) → m < n → SameAt xs ys m

-- "the lowest panel, then lowest target, with a difference …, and the place, from 0, of its first differing or missing frame on that link"
pub record Named (xs ys : List (List ℕ)) (client target n : ℕ) : Type 0 where
  pub client_there : client < 16
  pub target_there : target < 17
  pub lower_clients : (c t : ℕ) → c < client → t < 17 → frames_on c t xs ≡ frames_on c t ys
  pub lower-targets : (t : ℕ) → t < target → frames_on client t xs ≡ frames_on client t ys
  pub first : First (frames_on client target xs) (frames_on client target ys) n

-- Of any function from two recordings to an answer.
module _ (compare : List ℕ → List ℕ → List ℕ → List ℕ → Compared) where
  -- of two recordings: each answer exactly where the request says
  pub record Right (lengths bytes lengths' bytes' : List ℕ) : Type 0 where
    -- "return 16, ahead of any comparing"
    pub refused : (well_made lengths bytes && well_made lengths' bytes') ≡ false → compare lengths bytes lengths' bytes' ≡ Refused 16
    pub refused_only : (n : ℕ) → compare lengths bytes lengths' bytes' ≡ Refused n
        → (n ≡ 16) × ((well_made lengths bytes && well_made lengths' bytes') ≡ false)
    -- "Two recordings agree exactly when"
    pub agree : (well_made lengths bytes && well_made lengths' bytes') ≡ true → Agreeing (frames_of lengths bytes) (frames_of lengths' bytes')
        → compare lengths bytes lengths' bytes' ≡ Agree
    pub agree_only : compare lengths bytes lengths' bytes' ≡ Agree
        → ((well_made lengths bytes && well_made lengths' bytes') ≡ true) × Agreeing (frames_of lengths bytes) (frames_of lengths' bytes')
    -- "Otherwise … is named"
    pub differ : (client target n : ℕ) → (well_made lengths bytes && well_made lengths' bytes') ≡ true
        → Named (frames_of lengths bytes) (frames_of lengths' bytes') client target n
        → compare lengths bytes lengths' bytes' ≡ Differ client target n
    pub differ_only : (client target n : ℕ) → compare lengths bytes lengths' bytes' ≡ Differ client target n
        → ((well_made lengths bytes && well_made lengths' bytes') ≡ true)
        × Named (frames_of lengths bytes) (frames_of lengths' bytes') client target n

  pub record Claim : Type 0 where
    pub right : (lengths bytes lengths' bytes' : List ℕ) → Right lengths bytes lengths' bytes'
    -- "Swapping the recordings changes nothing."
    pub swapped : (lengths bytes lengths' bytes' : List ℕ) → compare lengths bytes lengths' bytes' ≡ compare lengths' bytes' lengths bytes
