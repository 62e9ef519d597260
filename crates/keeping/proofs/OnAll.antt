-- Of specs/OnAll: what cites a theorem there that a changed definition can make fail.
use Rattle.std.specs.Prelude.{ℕ, ◌+◌, ◌≤◌, ◌<◌, ◌≡◌, refl, true, false, ◌&&◌, List, [], ◌∷◌, length, eqb, ltb}
use Rattle.std.proofs.Common.{sym, ◌∙◌, ap, arith, eq-eqb, lt-ltb}
use Rattle.std.proofs.Math.Bool.{or-true}
use Rattle.ranges.specs.Tests.{by-test, by_equal, both}
use Rattle.ranges.specs.LastLaws.{last-below}
use Rattle.keys.specs.Masks.{has_server}
use Rattle.tables.specs.Rows.{HasRow, word_same}
use Rattle.tables.specs.Layout.{client_width, client_word, setpoints_field, received_field, count_field, mask_field, state_field, tag_field}
use Rattle.tables.specs.Layout.{tags_field, badges_field, write_badge_field}
use Rattle.tables.specs.Links.{targets, is_empty, contents_of}
use Rattle.tables.specs.Tables.{Tables, servers_of, entries_of, state_of, mask_of, received_of, content_at, with_clients}
use Rattle.tables.specs.declared.links.Contents.{Contents}
use Rattle.rules.specs.Words.{every}
use Rattle.rules.specs.WordsLaws.{kept_other, kept_there, kept-not, kept-length}
use Rattle.rules.specs.Common.{idle, asking_all, coordinator, pending}
use Rattle.rules.specs.Choice.{qualifies}
use Rattle.rules.specs.Reply.{emptied, received_in, setpoint_at, badge_at, kept_setpoints, kept_badges, forgotten, tag_chosen, ended_by_c, on_all}
use Rattle.soundness.specs.Sound.{uses, holding, key_on}
use Rattle.soundness.specs.Facts.{Between, KeptFacts}
use Rattle.soundness.specs.Room.{few_servers}
use Rattle.keeping.specs.Links.{number_on, contents_on, kind-empty, none-pending}
use Rattle.keeping.specs.States.{asks_none, holding-log, arrived, received-some, some_received, uses-all, all_told}
use Rattle.keeping.specs.Frame.{Kept, kept_in, kept_row}
use Rattle.keeping.specs.Moves.{moves-numbers, same_entries, same-holding}
use Rattle.keeping.specs.Rows.{put, Put, put_all, last_put, put-read, put-before, put_skip, put_elsewhere, put-length}
use Rattle.keeping.specs.Told.{chosen-within, chosen_held}
use Rattle.keeping.specs.Rounds.{idle-client}
use Rattle.keeping.proofs.Replied.{ended-read-kept}
use Rattle.keeping.specs.Replied.{replied_tables, Moving, going-moves, finished-moves}
use Rattle.keeping.proofs.Came.{waiting_kept}
use Rattle.keeping.specs.Came.{Came, facts, asks, used, row_room, gone, beside, kinds, elsewhere, rest_long}
use Rattle.keeping.specs.OnAll.{badged_other, behind, chosen, end-word, end_kept, end_moving, end_received, end_row, low_word, n-behind, n-between, n-here, n_beside, n_kept, n_low, n_moving, rest, row, unbadged, w, within}

module _ (q i : ℕ) (t : Tables) (a : Came q i t) (state : state_of t q ≡ asking_all) where
  all-waits : pending (rest q i t a state) q ≡ true → Kept q t (replied_tables (row q i t a state) (rest q i t a state) t.writes t.reads t)
  all-waits more =
      let after = replied_tables (row q i t a state) (rest q i t a state) t.writes t.reads t in
      let m = going-moves q (row q i t a state) (rest q i t a state) t a.sound a.client a.early (n_moving q i t a state) in
      let here : arrived after q i ≡ true =
      both (eqb (state_of after q) asking_all) (uses (state_of after q) (mask_of after q) i && is_empty (content_at after q i))
      (eq-eqb (state_of after q) asking_all (n_low q i t a state state_field (omega arith) ∙ state))
      (both (uses (state_of after q) (mask_of after q) i) (is_empty (content_at after q i)) (rw (n_low q i t a state state_field (omega arith), n_low q i t a state mask_field (omega arith)) (used a)) (kind-empty (rest q i t a state) q i (gone a))) in
      let held : holding after i ≡ holding t i = same-holding q t after m i in
      waiting_kept a (row q i t a state) (n_moving q i t a state) (λ f h. n_low q i t a state f (omega arith)) (n-behind q i t a state write_badge_field (omega arith))
      (n_kept q i t a state) (λ j h e. n_beside q i t a state j e) more
      (some_received after q i here (rw (n-here q i t a state, held) (n-between q i t a state)))

  -- all replies are in: a tag is chosen, and a version of each masked server
  module _ (none : pending (rest q i t a state) q ≡ false) where
    all-ends : Kept q t (ended_by_c (chosen q i t a state none) (row q i t a state) q (rest q i t a state) t).tables
    all-ends =
        let m = finished-moves q (chosen q i t a state none) (end_row q i t a state none) (rest q i t a state) t a.sound a.client a.early (end_moving q i t a state none) (rw state) (rw state) (within q i t a state none) in
        let count = end-word q i t a state none count_field (omega arith) ∙ low_word q i t a state none count_field (omega arith) in
        ended-read-kept q (chosen q i t a state none) (end_row q i t a state none) (rest q i t a state) t a.sound a.client a.early (end_moving q i t a state none) (rw state) (rw state) (within q i t a state none)
        (end-word q i t a state none state_field (omega arith)) count
        (idle-client _ q (record {
          state = end-word q i t a state none state_field (omega arith);
          count = rw count (facts a).count.most;
          mask = rw (end-word q i t a state none mask_field (omega arith) ∙ low_word q i t a state none mask_field (omega arith), (moves-numbers q t _ m).servers) (facts a).mask;
          tag = rw (end-word q i t a state none tag_field (omega arith), same_entries q t _ m) (within q i t a state none);
          badge = rw (behind q i t a state none write_badge_field (omega arith) (omega arith)
              ∙ (badged_other q i t a state none q write_badge_field (omega arith) (λ z. omega (arith, z.2, few_servers t a.sound))
              ∙ unbadged q i t a state none write_badge_field (omega arith) (omega arith))) (facts a).badge;
          kept = kept_in t _ (moves-numbers q t _ m) q (end_kept q i t a state none);
          link = λ j h. none-pending (rest q i t a state) q j h (kinds a j h) none;
          received = end_received q i t a state none;
        }))

  pub all-delivered : Kept q t (on_all (w q i t a state) q i t).tables
  unfolding on_all
  all-delivered = by-test (pending (rest q i t a state) q) (λ b. rw b (all-waits b)) (λ b. rw b (all-ends b))
