-- Document 01's sample: the text of "The yard program" computes to what document 01 prints for it, every answer and then the register,
-- on the definition that the contract of `text_run::play_text` cites. Texts are bytes, each line below its letters.
use Rattle.std.specs.Prelude.{ℕ, ◌*◌, ◌≡◌, List, [], ◌∷◌, ◌++◌, replicate}
use Rattle.tables.specs.Layout.{count_words, client_width, server_places, value_width, log_places, entry_width, record_places, record_width}
use Rattle.tables.specs.Links.{targets, link_width}
use Rattle.tables.specs.Tables.{Tables, tables_of}
use Rattle.texts.specs.Text.{print_of}

-- the input
unfoldable pub text : List ℕ
text =
    -- O 2 2 2 1200 30
    79 ∷ 32 ∷ 50 ∷ 32 ∷ 50 ∷ 32 ∷ 50 ∷ 32 ∷ 49 ∷ 50 ∷ 48 ∷ 48 ∷ 32 ∷ 51 ∷ 48 ∷ 10 ∷
    -- W 0 3 0 1800 45
    87 ∷ 32 ∷ 48 ∷ 32 ∷ 51 ∷ 32 ∷ 48 ∷ 32 ∷ 49 ∷ 56 ∷ 48 ∷ 48 ∷ 32 ∷ 52 ∷ 53 ∷ 10 ∷
    -- > 0 0
    62 ∷ 32 ∷ 48 ∷ 32 ∷ 48 ∷ 10 ∷
    -- R 1 3
    82 ∷ 32 ∷ 49 ∷ 32 ∷ 51 ∷ 10 ∷
    -- > 1 16
    62 ∷ 32 ∷ 49 ∷ 32 ∷ 49 ∷ 54 ∷ 10 ∷
    -- > 0 1
    62 ∷ 32 ∷ 48 ∷ 32 ∷ 49 ∷ 10 ∷
    -- < 0 0
    60 ∷ 32 ∷ 48 ∷ 32 ∷ 48 ∷ 10 ∷
    -- < 0 1
    60 ∷ 32 ∷ 48 ∷ 32 ∷ 49 ∷ 10 ∷
    -- > 0 16
    62 ∷ 32 ∷ 48 ∷ 32 ∷ 49 ∷ 54 ∷ 10 ∷
    -- < 1 16
    60 ∷ 32 ∷ 49 ∷ 32 ∷ 49 ∷ 54 ∷ 10 ∷
    -- > 1 0
    62 ∷ 32 ∷ 49 ∷ 32 ∷ 48 ∷ 10 ∷
    -- < 1 0
    60 ∷ 32 ∷ 49 ∷ 32 ∷ 48 ∷ 10 ∷
    -- > 1 1
    62 ∷ 32 ∷ 49 ∷ 32 ∷ 49 ∷ 10 ∷
    -- < 1 1
    60 ∷ 32 ∷ 49 ∷ 32 ∷ 49 ∷ 10 ∷
    -- < 0 16
    60 ∷ 32 ∷ 48 ∷ 32 ∷ 49 ∷ 54 ∷ 10 ∷ []

-- the answers, each behind its line's number
unfoldable pub answers : List ℕ
answers =
    -- 1 ok
    49 ∷ 32 ∷ 111 ∷ 107 ∷ 10 ∷
    -- 2 ok
    50 ∷ 32 ∷ 111 ∷ 107 ∷ 10 ∷
    -- 3 ok
    51 ∷ 32 ∷ 111 ∷ 107 ∷ 10 ∷
    -- 4 ok
    52 ∷ 32 ∷ 111 ∷ 107 ∷ 10 ∷
    -- 5 ok
    53 ∷ 32 ∷ 111 ∷ 107 ∷ 10 ∷
    -- 6 ok
    54 ∷ 32 ∷ 111 ∷ 107 ∷ 10 ∷
    -- 7 wait
    55 ∷ 32 ∷ 119 ∷ 97 ∷ 105 ∷ 116 ∷ 10 ∷
    -- 8 next
    56 ∷ 32 ∷ 110 ∷ 101 ∷ 120 ∷ 116 ∷ 10 ∷
    -- 9 ok
    57 ∷ 32 ∷ 111 ∷ 107 ∷ 10 ∷
    -- 10 next
    49 ∷ 48 ∷ 32 ∷ 110 ∷ 101 ∷ 120 ∷ 116 ∷ 10 ∷
    -- 11 ok
    49 ∷ 49 ∷ 32 ∷ 111 ∷ 107 ∷ 10 ∷
    -- 12 wait
    49 ∷ 50 ∷ 32 ∷ 119 ∷ 97 ∷ 105 ∷ 116 ∷ 10 ∷
    -- 13 ok
    49 ∷ 51 ∷ 32 ∷ 111 ∷ 107 ∷ 10 ∷
    -- 14 read 0 0=1200@0#0 1=30@0#0
    49 ∷ 52 ∷ 32 ∷ 114 ∷ 101 ∷ 97 ∷ 100 ∷ 32 ∷ 48 ∷
    32 ∷ 48 ∷ 61 ∷ 49 ∷ 50 ∷ 48 ∷ 48 ∷ 64 ∷ 48 ∷ 35 ∷ 48 ∷ 32 ∷ 49 ∷ 61 ∷ 51 ∷ 48 ∷ 64 ∷ 48 ∷ 35 ∷ 48 ∷ 10 ∷
    -- 15 write 1
    49 ∷ 53 ∷ 32 ∷ 119 ∷ 114 ∷ 105 ∷ 116 ∷ 101 ∷ 32 ∷ 49 ∷ 10 ∷ []

-- "then, at the end of the text, the register"
unfoldable pub lines : List ℕ
lines =
    -- R 0 1 4 14 1
    82 ∷ 32 ∷ 48 ∷ 32 ∷ 49 ∷ 32 ∷ 52 ∷ 32 ∷ 49 ∷ 52 ∷ 32 ∷ 49 ∷ 10 ∷
    -- W 1 0 1 2 15 0
    87 ∷ 32 ∷ 49 ∷ 32 ∷ 48 ∷ 32 ∷ 49 ∷ 32 ∷ 50 ∷ 32 ∷ 49 ∷ 53 ∷ 32 ∷ 48 ∷ 10 ∷ []

-- tables just long enough for two clients and two servers, all zero
unfoldable pub zeros : Tables
zeros =
    tables_of (replicate count_words 0) (replicate (client_width * 2) 0) (replicate (link_width * (targets * 2)) 0)
    (replicate (server_places * 2) 0) (replicate (value_width * (server_places * 2)) 0) (replicate (entry_width * log_places) 0)
    (replicate (record_width * record_places) 0) (replicate (record_width * record_places) 0)

-- what the text prints
abbrev pub SamplePrinted : Type 0
SamplePrinted = print_of text zeros ≡ answers ++ lines
