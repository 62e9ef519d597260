-- "Each link (panel, target) holds nothing, a request or a reply with its contents." A row of four words: kind, key, number, badge.
use Rattle.std.specs.Prelude.{ℕ, ◌+◌, ◌*◌, ◌≤◌, Bool, true, false, cond, List, [], ◌∷◌, length, eqb}
use Rattle.keys.specs.Keys.{key_word, key_at_word, FitsByte}
use Rattle.tables.specs.Rows.{word_at, put_row}
use Rattle.tables.specs.declared.links.Contents.{Contents}
use Rattle.tables.specs.declared.links.Content.{Content}
use Rattle.tables.specs.declared.links.Content.TheVariants.{Nothing, Request, Reply, Lost}
use Rattle.tables.specs.declared.links.Link.{Link}

-- targets of a client: servers 0 to 15, and 16, the coordinator
abbrev pub targets : ℕ
targets = 17

abbrev pub link_width : ℕ
link_width = 4

abbrev pub link_row : ℕ → ℕ → ℕ
link_row q i = targets * q + i

-- word f of a link: 0 its kind, 1 its key, 2 its number, 3 its badge
abbrev pub link_word : List ℕ → ℕ → ℕ → ℕ → ℕ
link_word links q i f = word_at link_width links (link_row q i) f

-- all links of a client are there
abbrev pub HasLinks : List ℕ → ℕ → Type 0
HasLinks links q = link_width * link_row q targets ≤ length links

-- a content as the words of its row; nothing is all 0; "A lost link is a fourth link content"
abbrev pub content_words : Content → List ℕ
content_words Nothing = 0 ∷ 0 ∷ 0 ∷ 0 ∷ []
content_words (Request w) = 1 ∷ key_word w.key ∷ w.number ∷ w.badge ∷ []
content_words (Reply w) = 2 ∷ key_word w.key ∷ w.number ∷ w.badge ∷ []
content_words Lost = 3 ∷ 0 ∷ 0 ∷ 0 ∷ []

-- kind 1 is a request, 2 a reply, 3 lost, any other nothing
abbrev pub content_of : ℕ → Contents → Content
content_of kind w = cond (eqb kind 1) (Request w) (cond (eqb kind 2) (Reply w) (cond (eqb kind 3) Lost Nothing))

abbrev pub contents_of : ℕ → ℕ → ℕ → Contents
contents_of key number badge = record { key = key_at_word key; number = number; badge = badge }

unfoldable pub link_at : List ℕ → ℕ → ℕ → Link
link_at links q i =
    record { content = content_of (link_word links q i 0) (contents_of (link_word links q i 1) (link_word links q i 2) (link_word links q i 3)) }

unfoldable pub put_link : List ℕ → ℕ → ℕ → Content → List ℕ
put_link links q i content = put_row link_width links (link_row q i) (content_words content)

-- nothing stands on the link; a lost link is not empty: its client waits for it
abbrev pub is_empty : Content → Bool
is_empty Nothing = true
is_empty (Request w) = false
is_empty (Reply w) = false
is_empty Lost = false

-- the key of a content has a count and a client of a byte each
abbrev pub ContentFits : Content → Type 0
ContentFits Nothing = Unit {0}
ContentFits (Request w) = FitsByte w.key
ContentFits (Reply w) = FitsByte w.key
ContentFits Lost = Unit {0}
