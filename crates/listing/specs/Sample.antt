-- The definitions at work: document 01's sample, and records in no order of begins with what ties, what is untagged and what is unfinished.
use Rattle.std.specs.Prelude.{ℕ, ◌≡◌, refl}
use mathlib.Core.List.{List, [], ◌∷◌, ◌++◌, flat_map}
use Rattle.ranges.specs.Sum.{sum_below}
use Rattle.ranges.specs.Inserted.{inserted}
use Rattle.tables.specs.Tables.{Tables, tables_of}
use Rattle.listing.specs.Register.{places_below, passing, inserted_all, write, read, listed_to, register, register_words}

-- the counts and the records alone: entries, WRITEs and READs begun
abbrev recorded : ℕ → ℕ → ℕ → List ℕ → List ℕ → Tables
recorded entries writes reads writeRecords readRecords = tables_of (2 ∷ 2 ∷ 2 ∷ 15 ∷ entries ∷ writes ∷ reads ∷ []) [] [] [] [] [] writeRecords readRecords

-- panel 0's WRITE of both stations, tagged 1, from step 2 to 15; panel 1's READ of both at tag 0, from step 4 to 14
unfoldable pub sample : Tables
sample = recorded 2 1 1 (0 ∷ 1 ∷ 1 ∷ 2 ∷ 15 ∷ 0 ∷ []) (1 ∷ 3 ∷ 0 ∷ 4 ∷ 14 ∷ 0 ∷ [])

-- `R 0 1 4 14 1` and `W 1 0 1 2 15 0`, each with kind and mask besides
pub sample-listed : register_words sample ≡ (1 ∷ 0 ∷ 1 ∷ 3 ∷ 4 ∷ 14 ∷ 1 ∷ 0 ∷ []) ++ (0 ∷ 1 ∷ 0 ∷ 1 ∷ 2 ∷ 15 ∷ 0 ∷ 0 ∷ [])
unfolding sample flat_map listed_to inserted_all inserted passing places_below sum_below
sample-listed = refl

-- WRITEs: 0 and 3 of tag 2, 1 untagged and unfinished, 2 of tag 1 and unfinished. READs: 1 is at tag 0, 3 unfinished, and 4, 0 and 2 are at tag 1: 4 began
-- first, though its record stands last; 0 and 2 tie, though 2 ended before 0. The WRITEs' badges are 7, 8, 9 and 65535; what stands in a
-- READ's record there is none.
unfoldable pub mixed : Tables
mixed =
    recorded 3 4 5
    ((0 ∷ 1 ∷ 2 ∷ 2 ∷ 9 ∷ 7 ∷ []) ++ ((1 ∷ 1 ∷ 0 ∷ 10 ∷ 0 ∷ 8 ∷ []) ++
    ((2 ∷ 1 ∷ 1 ∷ 4 ∷ 0 ∷ 9 ∷ []) ++ (0 ∷ 2 ∷ 2 ∷ 10 ∷ 20 ∷ 65535 ∷ []))))
    ((3 ∷ 1 ∷ 1 ∷ 11 ∷ 18 ∷ 5 ∷ []) ++ ((4 ∷ 1 ∷ 0 ∷ 6 ∷ 17 ∷ 0 ∷ []) ++
    ((5 ∷ 2 ∷ 1 ∷ 11 ∷ 14 ∷ 5 ∷ []) ++ ((3 ∷ 3 ∷ 0 ∷ 19 ∷ 0 ∷ 0 ∷ []) ++ (4 ∷ 2 ∷ 1 ∷ 9 ∷ 10 ∷ 5 ∷ [])))))

pub mixed-listed : register mixed ≡ read 1 ∷ write 2 ∷ read 4 ∷ read 0 ∷ read 2 ∷ write 0 ∷ write 3 ∷ []
unfolding mixed listed_to inserted_all inserted passing places_below
mixed-listed = refl

-- Overlaps: READ 1 overlaps all four WRITEs, finished or not. WRITE 0 ended at 9, where READ 4 began, and WRITEs 1 and 3 began at 10, where
-- READ 4 ended, so READ 4 overlaps WRITE 2 alone; READs 0 and 2 began behind the end of WRITE 0, and overlap the other three.
pub mixed-words : register_words mixed ≡
    (1 ∷ 0 ∷ 4 ∷ 1 ∷ 6 ∷ 17 ∷ 4 ∷ 0 ∷ []) ++ ((0 ∷ 1 ∷ 2 ∷ 1 ∷ 4 ∷ 0 ∷ 0 ∷ 9 ∷ []) ++
    ((1 ∷ 1 ∷ 4 ∷ 2 ∷ 9 ∷ 10 ∷ 1 ∷ 0 ∷ []) ++ ((1 ∷ 1 ∷ 3 ∷ 1 ∷ 11 ∷ 18 ∷ 3 ∷ 0 ∷ []) ++ ((1 ∷ 1 ∷ 5 ∷ 2 ∷ 11 ∷ 14 ∷ 3 ∷ 0 ∷ []) ++
    ((0 ∷ 2 ∷ 0 ∷ 1 ∷ 2 ∷ 9 ∷ 0 ∷ 7 ∷ []) ++ (0 ∷ 2 ∷ 0 ∷ 2 ∷ 10 ∷ 20 ∷ 0 ∷ 65535 ∷ []))))))
unfolding mixed flat_map listed_to inserted_all inserted passing places_below sum_below
mixed-words = refl
