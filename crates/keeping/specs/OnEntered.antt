-- "The tag's arrival ends the WRITE."
use Rattle.std.specs.Prelude.{ℕ, ◌+◌, ◌<◌, ◌≡◌, List, [], ◌∷◌}
use Rattle.std.proofs.Math.Path.{refl}
use Rattle.std.proofs.Common.{◌∙◌, arith}
use Rattle.tables.specs.Layout.{client_width, client_word, count_field, mask_field, received_field, setpoints_field, state_field, tag_field, tags_field}
use Rattle.tables.specs.Layout.{write_badge_field}
use Rattle.tables.specs.Links.{contents_of}
use Rattle.tables.specs.Tables.{Tables, entries_of, state_of, mask_of}
use Rattle.tables.specs.declared.links.Contents.{Contents}
use Rattle.rules.specs.Common.{idle, entering, asking_all}
use Rattle.rules.specs.Reply.{emptied, on_entered}
use Rattle.soundness.specs.Sound.{key_on}
use Rattle.soundness.specs.Room.{few_servers}
use Rattle.keeping.specs.Links.{number_on, contents_on}
use Rattle.keeping.specs.States.{uses-entering, entered-tag, asks_none}
use Rattle.keeping.specs.Frame.{Kept}
use Rattle.keeping.specs.Moves.{moves-numbers, same_entries}
use Rattle.keeping.specs.Rows.{put, Put, put_all, last_put, put-read, put-before, put_elsewhere, put-length}
use Rattle.keeping.specs.Rounds.{idle-client}
use Rattle.keeping.specs.Replied.{Moving, ended-moves}
use Rattle.keeping.specs.Came.{Came, facts, asks, row_room, elsewhere, rest_long, received-zero, none_beside}

module _ (q i : ℕ) (t : Tables) (a : Came q i t) (state : state_of t q ≡ entering) where
  abbrev pub w : Contents
  w = contents_on t q i

  abbrev number : ℕ
  number = number_on t q i

  abbrev pub rest : List ℕ
  rest = emptied q i t

  abbrev pub puts_entered : List Put
  puts_entered = put tag_field number ∷ put state_field idle ∷ []

  pub entered_moving : Moving q (put_all puts_entered q t.clients) rest t
  entered_moving = record { row = λ p f e h. put_elsewhere q puts_entered t.clients p f refl h e; link = elsewhere a; clients = put-length q puts_entered t.clients; links = rest_long a }

  pub entered-word : (g : ℕ) → g < client_width → client_word (put_all puts_entered q t.clients) q g ≡ last_put puts_entered (client_word t.clients q g) g
  entered-word g h = put-read q puts_entered t.clients g (client_word t.clients q g) (row_room a) refl h refl

  pub tag-within : number < entries_of t
  tag-within = (entered-tag t i number (rw state at ((asks a).reply a.kind))).1
