-- "It prints line number, from 1, and answer (a READ's setpoints as `station=setpoint`, stations rising), `no` and the number when refused, then,
-- at the end of the text, the register"; document 02: "A READ must show the badge (`0=1800@1#7`)". Texts are lists of bytes.
use Rattle.std.specs.Prelude.{ℕ, cond, List, [], ◌∷◌, ◌++◌, eqb, get_or}
use Rattle.ranges.specs.Turns.{turns}
use Rattle.keys.specs.Masks.{has_server}
use Rattle.schedule.specs.Decimal.{decimal, spaced_all}
use Rattle.printing.specs.declared.Word.{Word}
use Rattle.printing.specs.declared.Word.TheVariants.{Ok, Wait, Next, Write, Read, No}

-- a number behind a byte, and behind one space
abbrev pub marked : ℕ → ℕ → List ℕ
marked byte n = byte ∷ decimal n

abbrev pub spaced : ℕ → List ℕ
spaced n = marked 32 n

-- ` station=setpoint@tag#badge`
abbrev pub server_text : ℕ → ℕ → ℕ → ℕ → List ℕ
server_text server setpoint tag badge = ((spaced server ++ marked 61 setpoint) ++ marked 64 tag) ++ marked 35 badge

-- a server's, where the mask has it
abbrev pub masked_text : ℕ → List ℕ → List ℕ → List ℕ → ℕ → List ℕ
masked_text mask setpoints tags badges server =
    cond (has_server mask server) (server_text server (get_or setpoints server 0) (get_or tags server 0) (get_or badges server 0)) []

-- those of the servers below n, rising
abbrev pub servers_below : ℕ → List ℕ → List ℕ → List ℕ → ℕ → List ℕ
servers_below mask setpoints tags badges n = turns (λ server text. text ++ masked_text mask setpoints tags badges server) n []

-- ` ok`, ` wait`, ` next`, ` write TAG`, ` read TAG` with setpoints, tags and badges of the mask's servers, ` no NUMBER`
abbrev pub word_text : Word → ℕ → List ℕ → List ℕ → List ℕ → List ℕ
word_text Ok mask setpoints tags badges = 32 ∷ 111 ∷ 107 ∷ []
word_text Wait mask setpoints tags badges = 32 ∷ 119 ∷ 97 ∷ 105 ∷ 116 ∷ []
word_text Next mask setpoints tags badges = 32 ∷ 110 ∷ 101 ∷ 120 ∷ 116 ∷ []
word_text (Write tag) mask setpoints tags badges = (32 ∷ 119 ∷ 114 ∷ 105 ∷ 116 ∷ 101 ∷ []) ++ spaced tag
word_text (Read tag) mask setpoints tags badges =
    ((32 ∷ 114 ∷ 101 ∷ 97 ∷ 100 ∷ []) ++ spaced tag) ++ servers_below mask setpoints tags badges 16
word_text (No number) mask setpoints tags badges = (32 ∷ 110 ∷ 111 ∷ []) ++ spaced number

-- the line that answers the line of a number
abbrev pub answer_text : ℕ → Word → ℕ → List ℕ → List ℕ → List ℕ → List ℕ
answer_text number word mask setpoints tags badges = (decimal number ++ word_text word mask setpoints tags badges) ++ (10 ∷ [])

-- the end step, `-` where there is none: an end of 0
abbrev pub end_text : ℕ → List ℕ
end_text end = cond (eqb end 0) (32 ∷ 45 ∷ []) (spaced end)

-- "`W tag panel count begin end` (`-` unfinished)"; document 02: "The register's W line ends with it", the badge
abbrev pub write_text : ℕ → ℕ → ℕ → ℕ → ℕ → ℕ → List ℕ
write_text tag client count begin end badge =
    ((((87 ∷ []) ++ spaced_all (tag ∷ client ∷ count ∷ begin ∷ [])) ++ end_text end) ++ spaced badge) ++ (10 ∷ [])

-- a line of a byte and some numbers
abbrev pub row_text : ℕ → List ℕ → List ℕ
row_text byte numbers = ((byte ∷ []) ++ spaced_all numbers) ++ (10 ∷ [])

-- "`R tag panel begin end overlap`"
abbrev pub read_text : ℕ → ℕ → ℕ → ℕ → ℕ → List ℕ
read_text tag client begin end overlap = row_text 82 (tag ∷ client ∷ begin ∷ end ∷ overlap ∷ [])
