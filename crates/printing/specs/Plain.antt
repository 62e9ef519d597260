-- An answer without the servers that it shows, for a printer that has them at hand only where they are shown. Nothing here is to believe:
-- the laws tie it to `word_text` and `answer_text`.
use Rattle.std.specs.Prelude.{ℕ, ◌+◌, Bool, true, false, cond, List, [], ◌∷◌, ◌++◌}
use Rattle.schedule.specs.Decimal.{decimal}
use Rattle.printing.specs.declared.Word.{Word}
use Rattle.printing.specs.declared.Word.TheVariants.{Ok, Wait, Next, Write, Read, No}
use Rattle.printing.specs.Texts.{spaced}
use Rattle.printing.specs.Sizes.{marked_most}

-- whether an answer shows servers: a READ's alone does
abbrev pub shows_servers : Word → Bool
shows_servers Ok = false
shows_servers Wait = false
shows_servers Next = false
shows_servers (Write tag) = false
shows_servers (Read tag) = true
shows_servers (No number) = false

-- the text of an answer, without the servers
abbrev pub plain_text : Word → List ℕ
plain_text Ok = 32 ∷ 111 ∷ 107 ∷ []
plain_text Wait = 32 ∷ 119 ∷ 97 ∷ 105 ∷ 116 ∷ []
plain_text Next = 32 ∷ 110 ∷ 101 ∷ 120 ∷ 116 ∷ []
plain_text (Write tag) = (32 ∷ 119 ∷ 114 ∷ 105 ∷ 116 ∷ 101 ∷ []) ++ spaced tag
plain_text (Read tag) = (32 ∷ 114 ∷ 101 ∷ 97 ∷ 100 ∷ []) ++ spaced tag
plain_text (No number) = (32 ∷ 110 ∷ 111 ∷ []) ++ spaced number

-- at most ` write` and a tag; where servers are shown, ` read` and a tag
abbrev pub plain_room : ℕ
plain_room = 6 + marked_most

abbrev pub plain_most : Word → ℕ
plain_most w = cond (shows_servers w) (5 + marked_most) plain_room

-- the line that it is
abbrev pub plain_answer : ℕ → Word → List ℕ
plain_answer number w = (decimal number ++ plain_text w) ++ (10 ∷ [])
