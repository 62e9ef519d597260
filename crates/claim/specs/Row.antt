-- The row, and the walk along it.
use Rattle.std.specs.Prelude.{ℕ, zero, suc, ◌<◌, ◌≡◌, true, false, cond, ◌&&◌, List, [], ◌∷◌, ◌++◌, length, get_or, eqb}
use Rattle.std.proofs.Math.Option.{some}
use Rattle.keys.specs.Masks.{has_server}
use Rattle.claim.specs.History.{Value, Transaction, no_write, History}

-- the READs of a tag, in their order
unfoldable pub reads_of : ℕ → List Transaction → List Transaction
reads_of tag [] = []
reads_of tag (x ∷ xs) = cond (eqb x.tag tag) (x ∷ reads_of tag xs) (reads_of tag xs)

-- WRITEs by tag, each READ behind the WRITE of its own tag and ahead of the next, those of tag 0 first of all, equal tags by begin.
-- "Refused steps, untagged WRITEs and unfinished READs are not in the row."
unfoldable pub row_to : History → ℕ → List Transaction
row_to h zero = reads_of 0 h.reads
row_to h (suc tag) = row_to h tag ++ (h.write (suc tag) ∷ reads_of (suc tag) h.reads)

abbrev pub row : History → List Transaction
row h = row_to h h.tags

-- "A WRITE sets the value of each station in its mask to the setpoint that its begin gave for that station. A READ changes none"
abbrev pub walked : (ℕ → Value) → Transaction → ℕ → Value
walked values x i = cond (x.is_write && has_server x.mask i) (x.value i) (values i)

-- "at each station in its mask it shows the value just then"
abbrev pub Shows : (ℕ → Value) → Transaction → Type 0
Shows values x = x.is_write ≡ false → (i : ℕ) → has_server x.mask i ≡ true → x.value i ≡ values i

-- "The row is walked with k values, at first the opening's."
abbrev pub Walk : (ℕ → Value) → List Transaction → Type 0
Walk values [] = Unit {0}
Walk values (x ∷ xs) = Shows values x × Walk (walked values x) xs

-- what stands at a place of a row
abbrev pub at : List Transaction → ℕ → Transaction
at row n = get_or row n no_write

-- of any two in the row, one that finished before the other began stands before it
abbrev pub RealTime : List Transaction → Type 0
RealTime row = (m n end : ℕ) → m < length row → n < length row → (at row m).end ≡ some end → end < (at row n).begin → m < n
