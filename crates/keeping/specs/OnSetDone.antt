-- "When the last acknowledgement arrives, key and mask go to the head."
use Rattle.std.specs.Prelude.{ℕ, ◌+◌, ◌*◌, ◌<◌, ◌≡◌, refl, true, false, List, [], ◌∷◌, get_or, eqb}
use Rattle.std.proofs.Common.{sym, ◌∙◌, arith, eqb-true}
use Rattle.std.proofs.lemmas.Bool.{eqb-false}
use Rattle.ranges.specs.Tests.{by-test, both}
use Rattle.keys.specs.Keys.{key_of, key_word}
use Rattle.keys.specs.Masks.{mask_within}
use Rattle.keys.specs.MaskLaws.{within-test}
use Rattle.tables.specs.Layout.{client_width, client_word, count_field, mask_field, received_field, record_field, setpoints_field, state_field, tag_field, tags_field}
use Rattle.tables.specs.Layout.{write_badge_field}
use Rattle.tables.specs.Links.{link_width, put_link, contents_of}
use Rattle.tables.specs.LinkLaws.{link-length}
use Rattle.tables.specs.Tables.{Tables, method_of, servers_of, state_of, count_of, mask_of}
use Rattle.tables.specs.declared.links.Contents.{Contents}
use Rattle.tables.specs.declared.links.Content.{Content}
use Rattle.rules.specs.Common.{writing, entering, asking_all, coordinator, request, pending}
use Rattle.rules.specs.Reply.{emptied, on_set_done}
use Rattle.soundness.specs.Sound.{uses, key_on, own_key}
use Rattle.soundness.specs.Facts.{Between}
use Rattle.soundness.specs.Room.{client-fits, link_row_lem, few_servers}
use Rattle.keeping.specs.Links.{link_word, contents_on, badge_on, none-pending, put_same, put_other, put_beside}
use Rattle.keeping.specs.States.{no-badge, own-count, asks_none, none_received, not-all, uses-entering, request-entering}
use Rattle.keeping.specs.States.{allowed-entering}
use Rattle.keeping.specs.Frame.{Kept}
use Rattle.keeping.specs.Moves.{Moves, moves-numbers, same_entries}
use Rattle.keeping.specs.Rows.{put, Put, put_all, last_put, put-read, put-before, put_elsewhere, put-length}
use Rattle.keeping.specs.Rounds.{Sent, sent-client}
use Rattle.keeping.specs.Replied.{replied_tables, Moving, going-moves}
use Rattle.keeping.specs.Came.{Came, facts, row_room, busy, kinds, elsewhere, rest_long, received-zero}

module _ (q i : ℕ) (t : Tables) (a : Came q i t) (state : state_of t q ≡ writing) where
  abbrev w : Contents
  w = contents_on t q i

  abbrev pub rest : List ℕ
  rest = emptied q i t

  pub stays : Moving q t.clients rest t
  stays = record { row = λ p f e h. refl; link = elsewhere a; clients = refl; links = rest_long a }

  pub not_five : state_of t q ≡ asking_all → ⊥
  not_five e = omega (arith, state)

  -- "key and mask go to the head"
  abbrev pub enter : Content
  enter = request (key_of (count_of t q) q) (mask_of t q)

  abbrev pub enters : List ℕ
  enters = put_link rest q coordinator enter

  abbrev pub puts_next : List Put
  puts_next = put state_field entering ∷ []

  abbrev pub next : Tables
  next = replied_tables (put_all puts_next q t.clients) enters t.writes t.reads t

  pub next_moving : Moving q (put_all puts_next q t.clients) enters t
  next_moving =
      record {
        row = λ p f e h. put_elsewhere q puts_next t.clients p f refl h e;
        link = λ p j f e h g. put_other rest q coordinator enter p j f (omega arith) h (λ z. e z.0) g ∙ elsewhere a p j f e h g;
        clients = put-length q puts_next t.clients;
        links = link-length rest q coordinator enter ∙ rest_long a;
      }

  pub next-moves : Moves q t next
  next-moves = going-moves q (put_all puts_next q t.clients) enters t a.sound a.client a.early next_moving

  pub next_word : (g : ℕ) → g < client_width → client_word next.clients q g ≡ last_put puts_next (client_word t.clients q g) g
  next_word g h = put-read q puts_next t.clients g (client_word t.clients q g) (row_room a) refl h refl

  pub enter-word : (f : ℕ) → f < link_width →
      link_word enters q coordinator f ≡ get_or (1 ∷ key_word (key_of (count_of t q) q) ∷ mask_of t q ∷ 0 ∷ []) f 0
  enter-word f g = put_same rest q coordinator enter f (rw (rest_long a) (link_row_lem t a.sound q a.client coordinator (omega arith))) g
