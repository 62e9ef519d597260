-- "B: … its reply has the last tag and all k keys; then as A."
use Rattle.std.specs.Prelude.{ℕ, ◌+◌, ◌-◌, ◌≤◌, ◌<◌, ◌≡◌, List, [], ◌∷◌}
use Rattle.std.proofs.Math.Path.{refl}
use Rattle.std.proofs.Common.{◌∙◌, arith}
use Rattle.keys.specs.Masks.{has_server}
use Rattle.coordinator.specs.Latest.{latest_key}
use Rattle.tables.specs.Layout.{client_word, count_field, mask_field, received_field, record_field, setpoints_field, state_field, tag_field}
use Rattle.tables.specs.Links.{targets, HasLinks, contents_of}
use Rattle.tables.specs.Tables.{Tables, method_of, servers_of, entries_of, state_of, mask_of}
use Rattle.tables.specs.declared.links.Contents.{Contents}
use Rattle.tables.specs.declared.links.Content.{Content}
use Rattle.rules.specs.Common.{asking_keys, asking_setpoints, request}
use Rattle.rules.specs.Begin.{sent_gets, kept_asking}
use Rattle.rules.specs.Reply.{emptied, on_keys}
use Rattle.soundness.specs.Sound.{key_on}
use Rattle.soundness.specs.Room.{few_servers, client-links}
use Rattle.keeping.specs.Links.{number_on, contents_on}
use Rattle.keeping.specs.States.{uses-keys, keys-target, holding-log, keys-told, allowed_setpoints}
use Rattle.keeping.specs.Frame.{Kept, kept_in}
use Rattle.keeping.specs.Moves.{moves-numbers, same_entries}
use Rattle.keeping.specs.Rows.{put, Put, put_all, last_put}
use Rattle.keeping.specs.Asked.{Asked, asked-keys}
use Rattle.keeping.specs.Rounds.{sent-client, sent_others, sent-length}
use Rattle.keeping.specs.Gets.{gets-sent}
use Rattle.keeping.specs.Replied.{Moving, going-moves}
use Rattle.keeping.specs.Came.{Came, facts, asks, used, busy, elsewhere, rest_long, received-zero, none_beside}

module _ (q i : ℕ) (t : Tables) (a : Came q i t) (state : state_of t q ≡ asking_keys) where
  abbrev pub w : Contents
  w = contents_on t q i

  abbrev number : ℕ
  number = number_on t q i

  abbrev pub rest : List ℕ
  rest = emptied q i t

  abbrev pub last_known : ℕ
  last_known = number - 1

  abbrev puts_keys : List Put
  puts_keys = put tag_field last_known ∷ put state_field asking_setpoints ∷ []

  -- the row as the words put, the tags and the keys kept leave it
  abbrev pub row : List ℕ
  row = kept_asking q (mask_of t q) t.log last_known (servers_of t) (put_all puts_keys q t.clients)

  abbrev get : ℕ → Content
  get j = request (latest_key t.log j last_known) 0

  abbrev pub gets : List ℕ
  gets = sent_gets q (mask_of t q) t.log last_known (servers_of t) rest

  pub known-within : last_known < entries_of t
  known-within =
      let f = keys-told t i number (rw state at ((asks a).reply a.kind)) in
      let all = holding-log t i (keys-target (mask_of t q) i (rw state at (used a))) in
      omega (arith, f.least, f.most)

  pub rest_room : HasLinks rest q
  rest_room = rw (rest_long a) (client-links t a.sound q a.client)

  few : servers_of t ≤ targets
  few = omega (arith, few_servers t a.sound)

  pub row-asked : Asked q puts_keys t row
  row-asked =
      asked-keys q puts_keys t a.sound a.client refl refl (mask_of t q) last_known known-within refl

  pub keys_moving : Moving q row gets t
  keys_moving =
      record {
        row = row-asked.elsewhere;
        link = λ p j f e h g. sent_others q (servers_of t) (has_server (mask_of t q)) get rest few rest_room f g p j e h ∙ elsewhere a p j f e h g;
        clients = row-asked.long;
        links = sent-length q (servers_of t) (has_server (mask_of t q)) get rest few rest_room ∙ rest_long a;
      }

  pub keys-word : (g : ℕ) → g < setpoints_field → client_word row q g ≡ last_put puts_keys (client_word t.clients q g) g
  keys-word = row-asked.word
