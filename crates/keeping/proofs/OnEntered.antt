-- Of specs/OnEntered: what cites a theorem there that a changed definition can make fail.
use Rattle.std.specs.Prelude.{ℕ, ◌+◌, ◌<◌, ◌≡◌, List, [], ◌∷◌}
use Rattle.std.proofs.Math.Path.{refl}
use Rattle.std.proofs.Common.{◌∙◌, arith}
use Rattle.tables.specs.Layout.{client_width, client_word, count_field, mask_field, received_field, setpoints_field, state_field, tag_field, tags_field}
use Rattle.tables.specs.Layout.{write_badge_field}
use Rattle.tables.specs.Links.{contents_of}
use Rattle.tables.specs.Tables.{Tables, entries_of, state_of, mask_of}
use Rattle.tables.specs.declared.links.Contents.{Contents}
use Rattle.rules.specs.Common.{idle, entering, asking_all}
use Rattle.rules.specs.Reply.{emptied, on_entered}
use Rattle.soundness.specs.Sound.{key_on}
use Rattle.soundness.specs.Room.{few_servers}
use Rattle.keeping.specs.Links.{number_on, contents_on}
use Rattle.keeping.specs.States.{uses-entering, entered-tag, asks_none}
use Rattle.keeping.proofs.Frame.{kept_stay}
use Rattle.keeping.specs.Frame.{Kept}
use Rattle.keeping.specs.Moves.{moves-numbers, same_entries}
use Rattle.keeping.specs.Rows.{put, Put, put_all, last_put, put-read, put-before, put_elsewhere, put-length}
use Rattle.keeping.specs.Rounds.{idle-client}
use Rattle.keeping.proofs.Replied.{ended-write-kept}
use Rattle.keeping.specs.Replied.{Moving, ended-moves}
use Rattle.keeping.specs.Came.{Came, facts, asks, row_room, elsewhere, rest_long, received-zero, none_beside}
use Rattle.keeping.specs.OnEntered.{entered-word, entered_moving, puts_entered, rest, tag-within, w}

module _ (q i : ℕ) (t : Tables) (a : Came q i t) (state : state_of t q ≡ entering) where
  pub entered-delivered : Kept q t (on_entered (w q i t a state) q i t).tables
  unfolding on_entered
  entered-delivered =
      let clients' = put_all (puts_entered q i t a state) q t.clients in
      let after = (on_entered (w q i t a state) q i t).tables in
      let m = ended-moves q clients' (rest q i t a state) t a.sound a.client a.early (entered_moving q i t a state) (rw state) (rw state) in
      let n = moves-numbers q t after m in
      let not_five : state_of t q ≡ asking_all → ⊥ = λ e. omega (arith, state) in
      ended-write-kept q clients' (rest q i t a state) t a.sound a.client a.early (entered_moving q i t a state) (rw state) (rw state) (entered-word q i t a state state_field (omega arith)) (entered-word q i t a state count_field (omega arith))
      (idle-client after q (record {
        state = entered-word q i t a state state_field (omega arith);
        count = rw (entered-word q i t a state count_field (omega arith)) (facts a).count.most;
        mask = rw (entered-word q i t a state mask_field (omega arith), n.servers) (facts a).mask;
        tag = rw (entered-word q i t a state tag_field (omega arith), same_entries q t after m) (tag-within q i t a state);
        badge = rw (entered-word q i t a state write_badge_field (omega arith)) (facts a).badge;
        kept =
            kept_stay t after n q (few_servers t a.sound)
            (λ f g h d. put-before q (puts_entered q i t a state) t.clients setpoints_field f refl (omega arith))
            (λ j. asks_none after q j (λ e. omega (arith, entered-word q i t a state state_field (omega arith)))) (facts a).kept;
        link = none_beside a (λ j. rw state (uses-entering (mask_of t q) j));
        received = λ j h. put-before q (puts_entered q i t a state) t.clients setpoints_field (received_field + j) refl (omega arith) ∙ received-zero a not_five j h;
      }))
