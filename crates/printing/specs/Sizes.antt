-- How many bytes the texts have at most: the space that a function asks for, and where it promises to end.
use Rattle.std.specs.Prelude.{ℕ, ◌+◌, ◌*◌}

-- a byte and a number of 32 bits, which has ten digits
abbrev pub marked_most : ℕ
marked_most = 1 + 10

-- ` station=setpoint@tag#badge`: a station has two digits
abbrev pub server_most : ℕ
server_most = 1 + 2 + marked_most + marked_most + marked_most

-- those of 16 stations
abbrev pub shown_most : ℕ
shown_most = 16 * server_most

-- the longest answer: ` read`, the tag, and what it shows of each station
abbrev pub word_most : ℕ
word_most = 5 + marked_most + shown_most

-- its line: a line's number, which has 20 digits, and byte 10 besides
abbrev pub answer_most : ℕ
answer_most = 20 + word_most + 1

-- a line of a letter and so many numbers, with byte 10
abbrev pub row_most : ℕ → ℕ
row_most n = 1 + marked_most * n + 1

-- a line of the register has at most six
abbrev pub record_most : ℕ
record_most = row_most 6
