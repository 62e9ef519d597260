-- Of specs/OnSetDone: what cites a theorem there that a changed definition can make fail.
use Rattle.std.specs.Prelude.{ℕ, ◌+◌, ◌*◌, ◌<◌, ◌≡◌, refl, true, false, List, [], ◌∷◌, get_or, eqb}
use Rattle.std.proofs.Common.{sym, ◌∙◌, arith, eqb-true}
use Rattle.std.proofs.lemmas.Bool.{eqb-false}
use Rattle.ranges.specs.Tests.{by-test, both}
use Rattle.keys.specs.Keys.{key_of, key_word}
use Rattle.keys.specs.Masks.{mask_within}
use Rattle.keys.specs.MaskLaws.{within-test}
use Rattle.tables.specs.Layout.{client_width, client_word, count_field, mask_field, received_field, record_field, setpoints_field, state_field, tag_field, tags_field}
use Rattle.tables.specs.Layout.{write_badge_field}
use Rattle.tables.specs.Links.{link_width, put_link, contents_of}
use Rattle.tables.specs.LinkLaws.{link-length}
use Rattle.tables.specs.Tables.{Tables, method_of, servers_of, state_of, count_of, mask_of}
use Rattle.tables.specs.declared.links.Contents.{Contents}
use Rattle.tables.specs.declared.links.Content.{Content}
use Rattle.rules.specs.Common.{writing, entering, asking_all, coordinator, request, pending}
use Rattle.rules.specs.Reply.{emptied, on_set_done}
use Rattle.soundness.specs.Sound.{uses, key_on, own_key}
use Rattle.soundness.specs.Facts.{Between}
use Rattle.soundness.specs.Room.{client-fits, link_row_lem, few_servers}
use Rattle.keeping.specs.Links.{link_word, contents_on, badge_on, none-pending, put_same, put_other, put_beside}
use Rattle.keeping.specs.States.{no-badge, own-count, asks_none, none_received, not-all, uses-entering, request-entering}
use Rattle.keeping.specs.States.{allowed-entering}
use Rattle.keeping.proofs.Frame.{kept_stay}
use Rattle.keeping.specs.Frame.{Kept}
use Rattle.keeping.specs.Moves.{Moves, moves-numbers, same_entries}
use Rattle.keeping.specs.Rows.{put, Put, put_all, last_put, put-read, put-before, put_elsewhere, put-length}
use Rattle.keeping.specs.Rounds.{Sent, sent-client}
use Rattle.keeping.proofs.Replied.{going-kept}
use Rattle.keeping.specs.Replied.{replied_tables, Moving, going-moves}
use Rattle.keeping.proofs.Came.{waiting_kept}
use Rattle.keeping.specs.Came.{Came, facts, row_room, busy, kinds, elsewhere, rest_long, received-zero}
use Rattle.keeping.specs.OnSetDone.{enter, enter-word, enters, next, next-moves, next_moving, next_word, not_five, puts_next, rest, stays}

module _ (q i : ℕ) (t : Tables) (a : Came q i t) (state : state_of t q ≡ writing) where
  set-waits : pending (rest q i t a state) q ≡ true → Kept q t (replied_tables t.clients (rest q i t a state) t.writes t.reads t)
  set-waits more =
      waiting_kept a t.clients (stays q i t a state) (λ f h. refl) refl (facts a).kept (λ j h e. refl) more
      (none_received (replied_tables t.clients (rest q i t a state) t.writes t.reads t) q i (not-all (replied_tables t.clients (rest q i t a state) t.writes t.reads t) q i (not_five q i t a state)) (received-zero a (not_five q i t a state) i a.target))

  next-sent : pending (rest q i t a state) q ≡ false → Sent (next q i t a state) q
  next-sent none =
      let n = moves-numbers q t (next q i t a state) (next-moves q i t a state) in
      let st = next_word q i t a state state_field (omega arith) in
      let mask = next_word q i t a state mask_field (omega arith) in
      let count : Between 1 (count_of t q) 255 = rw state at (facts a).count in
      let only : (j : ℕ) → uses (state_of (next q i t a state) q) (mask_of (next q i t a state) q) j ≡ eqb j coordinator = λ j. rw (st, mask) (uses-entering (mask_of t q) j) in
      let fits = client-fits t a.sound q a.client in
      let word = count_of t q * 256 + q in
      let key : own_key q word ≡ true = own-count q (count_of t q) count (omega arith) in
      let masked = busy a (λ e. omega (arith, state)) in
      record {
        allowed = rw (n.method, st) (allowed-entering (method_of t) q (rw state at (facts a).allowed));
        count = rw (st, next_word q i t a state count_field (omega arith)) count;
        mask = rw (mask, n.servers) masked;
        tag = rw (next_word q i t a state tag_field (omega arith), same_entries q t (next q i t a state) (next-moves q i t a state)) (facts a).tag;
        badge = rw (next_word q i t a state write_badge_field (omega arith)) (facts a).badge;
        kept =
            kept_stay t (next q i t a state) n q (few_servers t a.sound)
            (λ f g h d. put-before q (puts_next q i t a state) t.clients setpoints_field f refl (omega arith))
            (λ j. asks_none (next q i t a state) q j (λ e. omega (arith, st))) (facts a).kept;
        some = (coordinator, omega arith, only coordinator);
        asked = λ j h u. rw (eqb-true j coordinator (sym (only j) ∙ u)) (enter-word q i t a state 0 (omega arith));
        good = λ j h u.
            rw (eqb-true j coordinator (sym (only j) ∙ u), st, enter-word q i t a state 1 (omega arith), enter-word q i t a state 2 (omega arith), request-entering (next q i t a state) q word (mask_of t q), n.servers)
            (both (own_key q word) (mask_within (mask_of t q) (servers_of t)) key (within-test (mask_of t q) (servers_of t) masked));
        badged = λ j h u. no-badge writing (state_of (next q i t a state) q) (badge_on (next q i t a state) q j) (λ e. omega (arith, st));
        rest = λ j h u. put_beside (rest q i t a state) q coordinator (enter q i t a state) j 0 (eqb-false j coordinator (sym (only j) ∙ u)) (omega arith) ∙ none-pending (rest q i t a state) q j h (kinds a j h) none;
        received = λ j h. put-before q (puts_next q i t a state) t.clients setpoints_field (received_field + j) refl (omega arith) ∙ received-zero a (not_five q i t a state) j h;
      }

  set_next : pending (rest q i t a state) q ≡ false → Kept q t (next q i t a state)
  set_next none =
      going-kept q (put_all (puts_next q i t a state) q t.clients) (enters q i t a state) t a.sound a.client a.early (next_moving q i t a state) (rw (next_word q i t a state state_field (omega arith), state)) (rw (next_word q i t a state state_field (omega arith), state)) (next_word q i t a state count_field (omega arith)) (next_word q i t a state record_field (omega arith)) (sent-client (next q i t a state) q (next-sent none))

  pub set_done : Kept q t (on_set_done q i t).tables
  unfolding on_set_done
  set_done = by-test (pending (rest q i t a state) q) (λ b. rw b (set-waits b)) (λ b. rw b (set_next b))
