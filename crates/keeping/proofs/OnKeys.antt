-- Of specs/OnKeys: what cites a theorem there that a changed definition can make fail.
use Rattle.std.specs.Prelude.{ℕ, ◌+◌, ◌-◌, ◌≤◌, ◌<◌, ◌≡◌, List, [], ◌∷◌}
use Rattle.std.proofs.Math.Path.{refl}
use Rattle.std.proofs.Common.{◌∙◌, arith}
use Rattle.keys.specs.Masks.{has_server}
use Rattle.coordinator.specs.Latest.{latest_key}
use Rattle.tables.specs.Layout.{client_word, count_field, mask_field, received_field, record_field, setpoints_field, state_field, tag_field}
use Rattle.tables.specs.Links.{targets, HasLinks, contents_of}
use Rattle.tables.specs.Tables.{Tables, method_of, servers_of, entries_of, state_of, mask_of}
use Rattle.tables.specs.declared.links.Contents.{Contents}
use Rattle.tables.specs.declared.links.Content.{Content}
use Rattle.rules.specs.Common.{asking_keys, asking_setpoints, request}
use Rattle.rules.specs.Begin.{sent_gets, kept_asking}
use Rattle.rules.specs.Reply.{emptied, on_keys}
use Rattle.soundness.specs.Sound.{key_on}
use Rattle.soundness.specs.Room.{few_servers, client-links}
use Rattle.keeping.specs.Links.{number_on, contents_on}
use Rattle.keeping.specs.States.{uses-keys, keys-target, holding-log, keys-told, allowed_setpoints}
use Rattle.keeping.specs.Frame.{Kept, kept_in}
use Rattle.keeping.specs.Moves.{moves-numbers, same_entries}
use Rattle.keeping.specs.Rows.{put, Put, put_all, last_put}
use Rattle.keeping.specs.Asked.{Asked, asked-keys}
use Rattle.keeping.specs.Rounds.{sent-client, sent_others, sent-length}
use Rattle.keeping.specs.Gets.{gets-sent}
use Rattle.keeping.proofs.Replied.{going-kept}
use Rattle.keeping.specs.Replied.{Moving, going-moves}
use Rattle.keeping.specs.Came.{Came, facts, asks, used, busy, elsewhere, rest_long, received-zero, none_beside}
use Rattle.keeping.specs.OnKeys.{gets, keys-word, keys_moving, known-within, last_known, rest, rest_room, row, row-asked, w}

module _ (q i : ℕ) (t : Tables) (a : Came q i t) (state : state_of t q ≡ asking_keys) where
  pub keys-delivered : Kept q t (on_keys (w q i t a state) q i t).tables
  unfolding on_keys
  keys-delivered =
      let after = (on_keys (w q i t a state) q i t).tables in
      let m = going-moves q (row q i t a state) (gets q i t a state) t a.sound a.client a.early (keys_moving q i t a state) in
      let n = moves-numbers q t after m in
      going-kept q (row q i t a state) (gets q i t a state) t a.sound a.client a.early (keys_moving q i t a state) (rw (keys-word q i t a state state_field (omega arith), state)) (rw (keys-word q i t a state state_field (omega arith), state)) (keys-word q i t a state count_field (omega arith)) (keys-word q i t a state record_field (omega arith))
      (sent-client after q
      (gets-sent q (mask_of t q) (last_known q i t a state) (rest q i t a state) t after a.sound n a.client (known-within q i t a state) (busy a (λ e. omega (arith, state))) (none_beside a (λ j. rw state (uses-keys (mask_of t q) j))) (rest_room q i t a state) refl (keys-word q i t a state state_field (omega arith)) (keys-word q i t a state mask_field (omega arith))
      (allowed_setpoints (method_of t) q (rw state at (facts a).allowed))
      (rw (keys-word q i t a state count_field (omega arith)) (facts a).count.most)
      (rw (keys-word q i t a state tag_field (omega arith), same_entries q t after m) (known-within q i t a state))
      (rw (row-asked q i t a state).badge (facts a).badge)
      (kept_in t after n q (row-asked q i t a state).kept)
      (λ j h. (row-asked q i t a state).beyond (received_field + j) (omega arith) (omega arith) ∙ received-zero a (λ e. omega (arith, state)) j h)))
