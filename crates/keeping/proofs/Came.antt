-- Of specs/Came: what cites a theorem there that a changed definition can make fail.
use Rattle.std.specs.Prelude.{ℕ, ◌+◌, ◌≤◌, ◌<◌, ◌≡◌, true, List, length, eqb}
use Rattle.std.proofs.Common.{sym, ◌∙◌, arith, ne_eqb, eqb-true}
use Rattle.ranges.specs.Tests.{by_equal}
use Rattle.keys.specs.Masks.{Within}
use Rattle.tables.specs.Rows.{HasRow}
use Rattle.tables.specs.Layout.{last_step, client_width, client_word, count_field, mask_field, record_field, state_field, tag_field, setpoints_field}
use Rattle.tables.specs.Layout.{write_badge_field}
use Rattle.tables.specs.Links.{targets, link_width}
use Rattle.tables.specs.LinkLaws.{link-length}
use Rattle.tables.specs.Tables.{Tables, servers_of, clients_of, step_of, state_of, mask_of, received_of, write_badge_of, with_clients}
use Rattle.tables.specs.declared.links.Content.TheVariants.{Nothing}
use Rattle.rules.specs.Common.{idle, asking_all, coordinator, pending}
use Rattle.rules.specs.Reply.{emptied, received_in}
use Rattle.soundness.specs.Sound.{uses, received_sound}
use Rattle.soundness.specs.Facts.{KeptFacts, ClientFacts, Sound}
use Rattle.soundness.specs.Room.{client-row, link_row_lem}
use Rattle.keeping.specs.Links.{link_word, kind_on, LinkAsks, link-asks, link-empty, put_same, put_other, put_beside}
use Rattle.keeping.specs.States.{received_none, not-all}
use Rattle.keeping.proofs.Frame.{link-kept, received-kept}
use Rattle.keeping.specs.Frame.{Kept, kept_in}
use Rattle.keeping.specs.Moves.{Moves, moves-numbers, same_entries}
use Rattle.keeping.specs.Rounds.{unused-empty}
use Rattle.keeping.proofs.Replied.{going-kept}
use Rattle.keeping.specs.Replied.{replied_tables, Moving, going-moves}
use Rattle.keeping.specs.Came.{Came, beside, facts, gone, rest, waiting, waiting-moves}

module _ {q i : ℕ} {t : Tables} (a : Came q i t) where
  -- "wait": replies are still to come. The row stays but for a setpoint and its badge, or an n.
  module _ (clients' : List ℕ) (v : Moving q clients' (rest a) t) (same : (f : ℕ) → f < setpoints_field → client_word clients' q f ≡ client_word t.clients q f)
      (badge : client_word clients' q write_badge_field ≡ write_badge_of t q)
      (kept : (j : ℕ) → j < servers_of t → KeptFacts (with_clients clients' t) q j)
      (received : (j : ℕ) → j < targets → (j ≡ i → ⊥) → received_in clients' q j ≡ received_of t q j) (more : pending (rest a) q ≡ true) where
    waiting-client : received_sound (waiting a clients' v same badge kept received more) q i ≡ true → ClientFacts (waiting a clients' v same badge kept received more) q
    waiting-client here =
        let n = moves-numbers q t (waiting a clients' v same badge kept received more) (waiting-moves a clients' v same badge kept received more) in
        let c = facts a in
        let state = same state_field (omega arith) in
        let mask = same mask_field (omega arith) in
        record {
          allowed = rw (n.method, state) c.allowed;
          count = rw (state, same count_field (omega arith)) c.count;
          mask = rw (n.servers, mask) c.mask;
          masked = λ e. rw mask (c.masked (λ z. e (state ∙ z)));
          tag = rw (same tag_field (omega arith), same_entries q t (waiting a clients' v same badge kept received more) (waiting-moves a clients' v same badge kept received more)) c.tag;
          badge = rw badge c.badge;
          kept = kept_in t (waiting a clients' v same badge kept received more) n q kept;
          link = λ j h. by_equal j i (λ e. rw e (link-empty (waiting a clients' v same badge kept received more) q i (gone a))) (λ e. link-kept t (waiting a clients' v same badge kept received more) n q j h state mask (λ f g. beside a j f e g) (c.link j h));
          received = λ j h. by_equal j i (λ e. rw e here) (λ e. received-kept t (waiting a clients' v same badge kept received more) n q j h state mask (λ f g. beside a j f e g) (received j h e) (c.received j h));
          busy = λ e. more;
        }

    pub waiting_kept : received_sound (waiting a clients' v same badge kept received more) q i ≡ true → Kept q t (waiting a clients' v same badge kept received more)
    waiting_kept here =
        going-kept q clients' (rest a) t a.sound a.client a.early v (rw (same state_field (omega arith))) (rw (same state_field (omega arith))) (same count_field (omega arith)) (same record_field (omega arith)) (waiting-client here)
