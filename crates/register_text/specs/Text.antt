-- "then, at the end of the text, the register: `W tag panel count begin end` (`-` unfinished), `R tag panel begin end overlap`";
-- document 02: "The register's W line ends with it", the badge
use Rattle.std.specs.Prelude.{ℕ, zero, suc, ◌*◌, cond, eqb, take, drop, get_or}
use mathlib.Core.List.{List, [], ◌++◌, flat_map}
use Rattle.tables.specs.Tables.{Tables, method_of}
use Rattle.printing.specs.Texts.{write_text, read_text}
use Rattle.printing.specs.Sizes.{record_most}
use Rattle.listing.specs.Register.{line_width, most_lines, line_words, register}

-- The line of a row of words, which stand as listing lays them.
abbrev pub row_text : List ℕ → List ℕ
row_text row =
    let kind = get_or row 0 0 in
    let tag = get_or row 1 0 in
    let client = get_or row 2 0 in
    let count = get_or row 3 0 in
    let begin = get_or row 4 0 in
    let end = get_or row 5 0 in
    let overlap = get_or row 6 0 in
    let badge = get_or row 7 0 in
    cond (eqb kind 0) (write_text tag client count begin end badge) (read_text tag client begin end overlap)

-- the lines of the first n rows of a list
unfoldable pub rows_text : List ℕ → ℕ → List ℕ
rows_text list zero = []
rows_text list (suc n) = row_text (take line_width list) ++ rows_text (drop line_width list) n

-- all lines of the register
abbrev pub register_text : Tables → List ℕ
register_text t = flat_map (λ line. row_text (line_words t line)) (register t)

-- the bytes of the longest register
abbrev pub register_most : ℕ
register_most = record_most * most_lines

-- "Kept per opening": before any there is none
unfoldable pub register_printed : Tables → List ℕ
register_printed t = cond (eqb (method_of t) 0) [] (register_text t)
