-- Sound tables are ready for an opening, the begins, the delivery of a request, a loss and a resend.
use Rattle.std.specs.Prelude.{ℕ, ◌<◌, ◌≡◌, true, ◌&&◌, List}
use Rattle.std.proofs.Common.{sym, ◌∙◌, arith}
use Rattle.ranges.specs.Tests.{both_left, both_right}
use Rattle.ranges.specs.SumLaws.{sum-part}
use Rattle.tables.specs.Layout.{reads_field}
use Rattle.tables.specs.Links.{targets}
use Rattle.tables.specs.Tables.{Tables, servers_of, clients_of, state_of, count_of, mask_of, content_at}
use Rattle.tables.specs.declared.links.Contents.{Contents}
use Rattle.tables.specs.declared.links.Content.TheVariants.{Request, Reply, Lost}
use Rattle.rules.specs.Common.{asking_setpoints}
use Rattle.step_parts.specs.Filled.{Fillable}
use Rattle.soundness.specs.Sound.{uses, reply_sound, badge_sound, content_sound}
use Rattle.soundness.specs.Facts.{Sound}
use Rattle.soundness.specs.Room.{few_servers, server-fits, keys-row, values-row, client-fits, client-row, client-links, link_row_lem}
use Rattle.soundness.specs.Room.{write-row, next-write, next-read}
use Rattle.history.specs.Ready.{BeginReady}
use Rattle.read_asks.specs.Ready.{AskReady}
use Rattle.begins.specs.Ready.{WriteReady}
use Rattle.server_requests.specs.Ready.{AtServer}
use Rattle.requests.specs.Ready.{Asks, RequestReady}
use Rattle.losses.specs.Ready.{Sends, ResendReady}
use Rattle.opening.specs.Ready.{OpenReady}
use Rattle.keeping.specs.Accepted.{Openable, Writable, Readable, Deliverable, target_below}
use Rattle.keeping.specs.States.{set-server, get-server, uses_setpoints, masked-server}

pub open-ready : (m k p : ℕ) (setpoints : List ℕ) (t : Tables) → Openable m k p setpoints t → OpenReady t.counts t.keys t.values t.log setpoints k
open-ready m k p setpoints t o =
    record { counted = o.long.counts; servers = o.press.servers.most; given = o.setpoints; keyed = o.long.keys; valued = o.long.values; logged = omega (arith, o.long.log) }

module _ (t : Tables) (s : Sound t) where
  pub write-ready : (q mask : ℕ) (setpoints : List ℕ) → Writable q mask setpoints t → WriteReady t.counts t.clients t.links t.writes q setpoints
  write-ready q mask setpoints w =
      let h = w.begin.client in
      record {
        begin = record { counted = s.long.counts; kinded = omega arith; stepped = w.begin.early; placed = next-write t s w.few; begun = omega (arith, w.few) };
        client = client-fits t s q h;
        row = client-row t s q h;
        linked = client-links t s q h;
        count = omega (arith, sum-part (count_of t) (clients_of t) q h, s.counts, w.few);
        servers = few_servers t s;
        given = w.values;
      }

  pub read-ready : (q mask : ℕ) → Readable q mask t → AskReady t.counts t.clients t.links q
  read-ready q mask r =
      let h = r.begin.client in
      record {
        counted = s.long.counts;
        servers = few_servers t s;
        row = client-row t s q h;
        linked = client-links t s q h;
      }

  pub read-begins : (q mask : ℕ) → Readable q mask t → BeginReady t.counts t.reads reads_field
  read-begins q mask r = record { counted = s.long.counts; kinded = omega arith; stepped = r.begin.early; placed = next-read t s r.few; begun = omega (arith, r.few) }

  -- a delivery at (q, i)
  module _ (q i : ℕ) (d : Deliverable q i t) where
    pub target : i < targets
    target = target_below t s i d.target

    pub fillable : Fillable t.counts t.links q i
    fillable = record { counted = s.long.counts; stepped = d.early; linked = link_row_lem t s q d.client i target }

    -- what a link holds is what its state uses the target for, and its contents are in range
    pub reply-used : (w : Contents) → content_at t q i ≡ Reply w → uses (state_of t q) (mask_of t q) i ≡ true
    unfolding content_sound
    reply-used w e =
        both_left (uses (state_of t q) (mask_of t q) i)
        (reply_sound (state_of t q) i w.number t && badge_sound asking_setpoints (state_of t q) w.badge)
        (rw e at ((s.client q d.client).link i target).content)

    pub reply-sound : (w : Contents) → content_at t q i ≡ Reply w → reply_sound (state_of t q) i w.number t ≡ true
    unfolding content_sound
    reply-sound w e =
        both_left (reply_sound (state_of t q) i w.number t) (badge_sound asking_setpoints (state_of t q) w.badge)
        (both_right (uses (state_of t q) (mask_of t q) i)
        (reply_sound (state_of t q) i w.number t && badge_sound asking_setpoints (state_of t q) w.badge)
        (rw e at ((s.client q d.client).link i target).content))

    at-server : i < servers_of t → AtServer t.counts t.keys t.values i
    at-server l =
        record {
          room = record { server = server-fits t s i l; counted = s.long.counts; keyed = keys-row t s i l; valued = values-row t s i l };
          held = (s.server i l).held.most;
        }

    asks : (w : Contents) → content_at t q i ≡ Request w → Asks t.counts t.clients t.keys t.values t.log t.writes q i
    asks w e =
        record {
          set = λ z. at-server (set-server t s q i d.client target w e z);
          enter = λ z. record {
            room = record { counted = s.long.counts; logged = s.long.log };
            few = s.scalars.entries.most;
            row = client-row t s q d.client;
            recorded = write-row t s q d.client (rw z);
          };
          get = λ z. at-server (get-server t s q i d.client target w e z);
        }

    pub request-ready : RequestReady t.counts t.clients t.links t.keys t.values t.log t.writes q i
    request-ready = record { fillable = fillable; row = client-row t s q d.client; target = target; asks = asks }

    -- a lost link is one that its state uses
    lost-used : content_at t q i ≡ Lost → uses (state_of t q) (mask_of t q) i ≡ true
    unfolding content_sound
    lost-used e = rw e at ((s.client q d.client).link i target).content

    sends : content_at t q i ≡ Lost → Sends t.clients q i
    sends e =
        record {
          client = client-fits t s q d.client;
          row = client-row t s q d.client;
          count = omega (arith, (s.client q d.client).count.most);
          target = target;
          server = λ z. server-fits t s i
              (masked-server t s q i d.client (sym (uses_setpoints (mask_of t q) i) ∙ (rw z at (lost-used e))));
        }

    pub resend-ready : ResendReady t.counts t.clients t.links q i
    resend-ready = record { fillable = fillable; sends = sends }
