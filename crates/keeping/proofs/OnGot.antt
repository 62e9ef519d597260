-- Of specs/OnGot: what cites a theorem there that a changed definition can make fail.
use Rattle.std.specs.Prelude.{ℕ, ◌+◌, ◌≤◌, ◌<◌, ◌≡◌, refl, true, List, [], ◌∷◌, ltb}
use Rattle.std.proofs.Common.{sym, ◌∙◌, arith, lt-ltb, eq-eqb}
use Rattle.ranges.specs.Tests.{by-test, by_equal}
use Rattle.tables.specs.Layout.{client_width, client_word, setpoints_field, received_field, count_field, mask_field, state_field, tag_field}
use Rattle.tables.specs.Layout.{tags_field, badges_field, write_badge_field, asked_field}
use Rattle.tables.specs.Links.{targets}
use Rattle.tables.specs.Tables.{Tables, servers_of, state_of, tag_of, received_of, kept_badge_of, with_clients}
use Rattle.tables.specs.declared.links.Contents.{Contents}
use Rattle.rules.specs.Common.{idle, asking_setpoints, asking_all, pending}
use Rattle.rules.specs.Reply.{emptied, received_in, on_got}
use Rattle.soundness.specs.Facts.{KeptFacts}
use Rattle.soundness.specs.Room.{server-fits, few_servers}
use Rattle.keeping.specs.Links.{number_on, badge_on, contents_on, none-pending}
use Rattle.keeping.specs.States.{asks_none, badge-carried, masked-server, none_received, not-all, uses_setpoints}
use Rattle.keeping.specs.Frame.{Kept, kept_in}
use Rattle.keeping.specs.Moves.{moves-numbers, same_entries}
use Rattle.keeping.specs.Rows.{Avoids, put, Put, put_all, put-read, put-before, put_skip, put_elsewhere, put-length}
use Rattle.keeping.specs.Rounds.{idle-client}
use Rattle.keeping.proofs.Replied.{ended-read-kept}
use Rattle.keeping.specs.Replied.{replied_tables, Moving, finished-moves}
use Rattle.keeping.proofs.Came.{waiting_kept}
use Rattle.keeping.specs.Came.{Came, facts, asks, used, row_room, kinds, elsewhere, rest_long, received-zero}
use Rattle.keeping.specs.OnGot.{between_skips, beyond_skips, got, got_kept, got_last, got_low, got_moving, last-kept, last_moving, last_received, last_state, last_word, not-all_state, rest, state-behind, w}

module _ (q i : ℕ) (t : Tables) (a : Came q i t) (state : state_of t q ≡ asking_setpoints) where
  got-waits : pending (rest q i t a state) q ≡ true → Kept q t (replied_tables (put_all (got q i t a state) q t.clients) (rest q i t a state) t.writes t.reads t)
  got-waits more =
      let after = replied_tables (put_all (got q i t a state) q t.clients) (rest q i t a state) t.writes t.reads t in
      let received : (j : ℕ) → j < targets → received_in (put_all (got q i t a state) q t.clients) q j ≡ received_of t q j =
      λ j h. put_skip q (got q i t a state) t.clients (received_field + j) (between_skips q i t a state (received_field + j) (omega arith) (omega arith)) in
      waiting_kept a (put_all (got q i t a state) q t.clients) (got_moving q i t a state) (got_low q i t a state) (beyond_skips q i t a state write_badge_field (omega arith)) (got_kept q i t a state)
      (λ j h e. received j h) more
      (none_received after q i (not-all after q i (λ e. not-all_state q i t a state (sym (got_low q i t a state state_field (omega arith)) ∙ e)))
      (received i a.target ∙ received-zero a (not-all_state q i t a state) i a.target))

  pub got-delivered : Kept q t (on_got (w q i t a state) q i t).tables
  unfolding on_got
  got-delivered =
      let clients' = put_all (got_last q i t a state) q t.clients in
      let m = finished-moves q (tag_of t q) clients' (rest q i t a state) t a.sound a.client a.early (last_moving q i t a state) (rw state) (rw state) (facts a).tag in
      by-test (pending (rest q i t a state) q)
      (λ b. rw b (got-waits b))
      (λ b. rw b
      (ended-read-kept q (tag_of t q) clients' (rest q i t a state) t a.sound a.client a.early (last_moving q i t a state) (rw state) (rw state) (facts a).tag (last_state q i t a state) (last_word q i t a state count_field (omega arith) (λ e. omega arith))
      (idle-client _ q (record {
        state = last_state q i t a state;
        count = rw (last_word q i t a state count_field (omega arith) (λ e. omega arith)) (facts a).count.most;
        mask = rw (last_word q i t a state mask_field (omega arith) (λ e. omega arith), (moves-numbers q t _ m).servers) (facts a).mask;
        tag = rw (last_word q i t a state tag_field (omega arith) (λ e. omega arith), same_entries q t _ m) (facts a).tag;
        badge = rw (state-behind q i t a state write_badge_field (omega arith) ∙ beyond_skips q i t a state write_badge_field (omega arith)) (facts a).badge;
        kept = kept_in t _ (moves-numbers q t _ m) q (last-kept q i t a state);
        link = λ j h. none-pending (rest q i t a state) q j h (kinds a j h) b;
        received = last_received q i t a state;
      }))))
