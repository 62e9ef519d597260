-- Of specs/Placed: what cites a theorem there that a changed definition can make fail.
use Rattle.std.specs.Prelude.{ℕ, ◌<◌, ◌≡◌, refl, true, get_or}
use Rattle.std.proofs.Common.{arith}
use Rattle.ranges.specs.Tests.{by_equal}
use Rattle.keys.specs.declared.Key.{Key}
use Rattle.keys.specs.Keys.{key_word}
use Rattle.tables.specs.Layout.{last_step, count_at, step_field, entries_field, method_field, reads_field, servers_field, writes_field}
use Rattle.tables.specs.Links.{targets, link_width, content_words}
use Rattle.tables.specs.LinkLaws.{link-length}
use Rattle.tables.specs.Tables.{Tables, clients_of, step_of, state_of, mask_of}
use Rattle.tables.specs.declared.links.Content.{Content}
use Rattle.tables.specs.declared.links.Content.TheVariants.{Lost}
use Rattle.rules.specs.Common.{writing, asking_setpoints, set_request, got_reply}
use Rattle.rules.specs.Request.{answered_by}
use Rattle.soundness.specs.Sound.{uses, request_sound, reply_sound, badge_sound, received_sound}
use Rattle.soundness.specs.Facts.{ClientFacts, LinkFacts, Sound}
use Rattle.soundness.specs.Room.{few_servers, link_row_lem}
use Rattle.keeping.specs.Links.{link_word, kind_on, kind-full, pending_at, put_same, put_other, link-asks, link-request}
use Rattle.keeping.specs.Links.{link-reply, link_lost}
use Rattle.keeping.specs.States.{received_none, none_received, not-empty}
use Rattle.keeping.proofs.Moves.{moved-kept}
use Rattle.keeping.specs.Moves.{Moves, Anew, moves-numbers, counted_other, counted_step, counted-length}
use Rattle.keeping.proofs.Frame.{reply-kept, link-kept, received-kept, kept_stay}
use Rattle.keeping.specs.Frame.{Numbers, Kept, request-kept, write_kept, read_kept}
use Rattle.keeping.specs.Placed.{after, new, other, placed-numbers, placed_moves, placed_received, same, still-used}

-- something stands on the link of client q to target i
module _ (q i : ℕ) (t : Tables) (s : Sound t) (client : q < clients_of t) (target : i < targets) (early : step_of t < last_step)
    (full : kind_on t q i ≡ 0 → ⊥) where
  module _ (content : Content) where
    -- the link is full, and sound, with what stands on it now
    module _ (linked : LinkFacts (after q i t s client target early full content) q i) (full' : kind_on (after q i t s client target early full content) q i ≡ 0 → ⊥) where
      placed-client : ClientFacts (after q i t s client target early full content) q
      placed-client =
          let c = s.client q client in
          record {
            allowed = rw (same q i t s client target early full content method_field (λ e. omega arith)) c.allowed;
            count = c.count;
            mask = rw (same q i t s client target early full content servers_field (λ e. omega arith)) c.mask;
            masked = c.masked;
            tag = rw (same q i t s client target early full content entries_field (λ e. omega arith)) c.tag;
            badge = c.badge;
            kept = kept_stay t (after q i t s client target early full content) (placed-numbers q i t s client target early full content) q (few_servers t s) (λ f g h e. refl) (λ j e. e) c.kept;
            link = λ j h. by_equal j i (λ e. rw e linked)
                (λ d. link-kept t (after q i t s client target early full content) (placed-numbers q i t s client target early full content) q j h refl refl (λ f l. other q i t s client target early full content q j f (λ e. d e.1) h l) (c.link j h));
            received = λ j h. by_equal j i (λ e. rw e (placed_received q i t s client target early full content linked full'))
                (λ d. received-kept t (after q i t s client target early full content) (placed-numbers q i t s client target early full content) q j h refl refl (λ f l. other q i t s client target early full content q j f (λ e. d e.1) h l) refl (c.received j h));
            busy = λ d. pending_at (after q i t s client target early full content).links q i target linked.kind full';
          }

      placed-anew : Anew q t (after q i t s client target early full content)
      placed-anew =
          let entries = same q i t s client target early full content entries_field (λ e. omega arith) in
          let writes = same q i t s client target early full content writes_field (λ e. omega arith) in
          let reads = same q i t s client target early full content reads_field (λ e. omega arith) in
          record {
            step = rw (counted_step t.counts s.long.counts) (record { least = omega arith; most = omega arith });
            writes = rw writes s.scalars.writes;
            reads = rw reads s.scalars.reads;
            client = placed-client;
            counts = rw writes s.counts;
            write = λ n h.
                let w = s.write n (rw writes at h) in
                write_kept t (after q i t s client target early full content) (placed-numbers q i t s client target early full content) n refl refl refl (rw entries w.tag) w;
            read = λ n h.
                let r = s.read n (rw reads at h) in
                read_kept t (after q i t s client target early full content) (placed-numbers q i t s client target early full content) n refl refl (rw entries r.tag) r;
            records = λ p h. record { write = rw writes (s.records p h).write; read = rw reads (s.records p h).read };
          }

      placed-kept : Kept q t (after q i t s client target early full content)
      placed-kept = moved-kept q t (after q i t s client target early full content) s (placed_moves q i t s client target early full content) placed-anew

  -- a request that the state sends
  pub request-placed : (key : Key) (badge number : ℕ) → request_sound (state_of t q) q (key_word key) number t ≡ true →
      badge_sound writing (state_of t q) badge ≡ true → Kept q t (answered_by (set_request key badge number) q i t).tables
  request-placed key badge number good badged =
      let sent = set_request key badge number in
      let kind = new q i t s client target early full sent 0 (omega arith) in
      placed-kept sent
      (link-request (after q i t s client target early full sent) q i kind (still-used q i t s client target early full)
      (rw (new q i t s client target early full sent 1 (omega arith), new q i t s client target early full sent 2 (omega arith))
      (request-kept t (after q i t s client target early full sent) (placed-numbers q i t s client target early full sent) (state_of t q) q (key_word key) number good))
      (rw (new q i t s client target early full sent 3 (omega arith)) badged))
      (λ e. omega (arith, kind))

  -- a reply that the state gets back
  pub reply-placed : (badge number : ℕ) → reply_sound (state_of t q) i number t ≡ true →
      badge_sound asking_setpoints (state_of t q) badge ≡ true → Kept q t (answered_by (got_reply badge number) q i t).tables
  reply-placed badge number good badged =
      let sent = got_reply badge number in
      let kind = new q i t s client target early full sent 0 (omega arith) in
      placed-kept sent
      (link-reply (after q i t s client target early full sent) q i kind (still-used q i t s client target early full)
      (rw (new q i t s client target early full sent 2 (omega arith)) (reply-kept t (after q i t s client target early full sent) (placed-numbers q i t s client target early full sent) (state_of t q) i number target good))
      (rw (new q i t s client target early full sent 3 (omega arith)) badged))
      (λ e. omega (arith, kind))

  -- a loss: "sound wherever the panel waits for that link"
  pub lost-placed : Kept q t (answered_by Lost q i t).tables
  lost-placed =
      let kind = new q i t s client target early full Lost 0 (omega arith) in
      placed-kept Lost (link_lost (after q i t s client target early full Lost) q i kind (still-used q i t s client target early full)) (λ e. omega (arith, kind))
