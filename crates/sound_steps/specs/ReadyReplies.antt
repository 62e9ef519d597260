-- Sound tables are ready for the delivery of a reply.
use Rattle.std.specs.Prelude.{ℕ, ◌+◌, ◌*◌, ◌≤◌, ◌<◌, ◌≡◌, false, List, length}
use Rattle.std.proofs.Common.{sym, ◌∙◌, arith, length-set}
use Rattle.tables.specs.Rows.{HasRow}
use Rattle.tables.specs.Layout.{client_width, received_field, server_places}
use Rattle.tables.specs.Links.{put_link}
use Rattle.tables.specs.Tables.{Tables, clients_of, servers_of, entries_of, state_of, mask_of, record_of, content_at}
use Rattle.tables.specs.declared.links.Contents.{Contents}
use Rattle.tables.specs.declared.links.Content.TheVariants.{Nothing, Reply}
use Rattle.rules.specs.Common.{asking_keys, asking_setpoints, asking_all, coordinator, pending}
use Rattle.step_parts.specs.Waiting.{KindsFit}
use Rattle.rules.specs.Reply.{received_in, got_number}
use Rattle.soundness.specs.Sound.{holding}
use Rattle.soundness.specs.Facts.{Sound, Between}
use Rattle.soundness.specs.Room.{few_servers, server-fits, client-fits, client-row, client-links, write-row, read-row, log-entries}
use Rattle.choice.specs.Ready.{ChoiceReady}
use Rattle.read_replies.specs.Ready.{KeysReady}
use Rattle.choice_replies.specs.Ready.{Concludable, AllReady}
use Rattle.keeping.specs.Accepted.{Deliverable}
use Rattle.keeping.specs.Told.{told_held, log-told, opening-qualifies}
use Rattle.keeping.specs.States.{uses_setpoints, by_state, keys-target, masked-server, holding-log, keys-told, all_told}
use Rattle.sound_steps.specs.ReplyStates.{Brings, ReplyReady}
use Rattle.sound_steps.specs.Ready.{target, fillable, reply-used, reply-sound}

module _ (t : Tables) (s : Sound t) where
  kinds_fit : (q : ℕ) → q < clients_of t → KindsFit t.links q
  kinds_fit q l i b = ((s.client q l).link i b).kind

  module _ (q i : ℕ) (d : Deliverable q i t) (w : Contents) (e : content_at t q i ≡ Reply w) where
    -- state 3: the number is that of entries
    keys-ready : state_of t q ≡ asking_keys → KeysReady t.counts t.clients t.log q w.number
    keys-ready z =
        let b = keys-told t i w.number (rw z at (reply-sound t s q i d w e)) in
        let m : w.number ≤ entries_of t = rw (holding-log t i (keys-target (mask_of t q) i (rw z at (reply-used t s q i d w e)))) at b.most in
        record {
          row = client-row t s q d.client;
          servers = few_servers t s;
          some = b.least;
          few = omega (arith, s.scalars.entries.most);
          logged = log-entries t s w.number m;
        }

    -- state 4: a masked server answered
    got_from : state_of t q ≡ asking_setpoints → i < 16
    got_from z = server-fits t s i (masked-server t s q i d.client (sym (uses_setpoints (mask_of t q) i) ∙ (rw z at (reply-used t s q i d w e))))

    -- state 5
    module _ (z : state_of t q ≡ asking_all) where
      abbrev told : List ℕ
      told = got_number w q i t

      number-between : Between 1 w.number (holding t i)
      number-between = all_told t i w.number (rw z at (reply-sound t s q i d w e))

      told-length : length told ≡ length t.clients
      told-length = length-set t.clients (client_width * q + (received_field + i)) w.number

      told-row : HasRow client_width told q
      told-row = rw told-length (client-row t s q d.client)

      server-most : (j : ℕ) → j < servers_of t → received_in told q j ≤ server_places
      server-most j l =
          omega (arith, told_held t s q i w.number d.client (target t s q i d) z number-between j l, (s.server j l).held.most)

      choice-ready : ChoiceReady told t.keys t.values q (servers_of t)
      choice-ready =
          record {
            servers = few_servers t s;
            received = λ j l. record { server = server-fits t s j l; row = told-row; held = omega (arith, server-most j l, s.long.keys); count = server-most j l };
            valued = s.long.values;
          }

      concludable : pending (put_link t.links q i Nothing) q ≡ false →
          Concludable told t.keys t.log t.reads q (mask_of t q) (servers_of t) (record_of t q)
      concludable none =
          let m = log-told t s q i w.number d.client (target t s q i d) z number-between none in
          record {
            row = told-row;
            recorded = read-row t s q d.client (rw z);
            some = m.least;
            entries = omega (arith, m.most, s.scalars.entries.most);
            logged = log-entries t s (received_in told q coordinator) m.most;
            opening = opening-qualifies t s q i w.number d.client (target t s q i d) z number-between none;
          }

      all-ready : AllReady t.counts t.clients t.links t.keys t.values t.log t.reads q i w.number
      all-ready =
          record {
            row = client-row t s q d.client;
            target = target t s q i d;
            linked = client-links t s q d.client;
            kinds = kinds_fit q d.client;
            last = λ none. (choice-ready, concludable none);
          }

    brings : Brings t.counts t.clients t.links t.keys t.values t.log t.writes t.reads q i w.number
    brings =
        record {
          done = λ z. record { client = client-fits t s q d.client; row = client-row t s q d.client; count = omega (arith, (s.client q d.client).count.most) };
          entered = λ z. record { row = client-row t s q d.client; recorded = write-row t s q d.client (rw z) };
          told = keys-ready;
          got = λ z. (got_from z, record { row = client-row t s q d.client; recorded = read-row t s q d.client (rw z) });
          all = λ a b c f. all-ready (by_state (mask_of t q) i (state_of t q) (reply-used t s q i d w e) (λ y. absurd (a y)) (λ y. absurd (b y)) (λ y. absurd (c y)) (λ y. absurd (f y)) (λ y. y));
        }

  pub reply-ready : (q i : ℕ) → Deliverable q i t → ReplyReady t.counts t.clients t.links t.keys t.values t.log t.writes t.reads q i
  reply-ready q i d = record {
    fillable = fillable t s q i d;
    row = client-row t s q d.client;
    linked = client-links t s q d.client;
    kinds = kinds_fit q d.client;
    brings = λ w e. brings q i d w e;
  }
