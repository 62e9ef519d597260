-- Begins keep the tie: the record stands in the next place, and the step's number is the transaction's begin.
use Rattle.std.specs.Prelude.{ℕ, suc, ◌+◌, ◌<◌, ◌≡◌, true, List, [], ◌∷◌, eqb}
use Rattle.std.proofs.Math.Path.{refl}
use Rattle.std.proofs.Common.{◌∙◌, mod-lt, arith, add-one}
use Rattle.std.proofs.Math.ListN.{get_or}
use Rattle.ranges.specs.Tests.{either}
use Rattle.keys.specs.Masks.{has_server}
use Rattle.coordinator.specs.Latest.{latest_tag_at, latest_word}
use Rattle.tables.specs.Layout.{client_width, client_word, state_field, count_field, mask_field, tag_field, record_field, setpoints_field}
use Rattle.tables.specs.Layout.{tags_field, write_badge_field, asked_field, entries_field, writes_field, reads_field, put_begun}
use Rattle.tables.specs.Tables.{Tables, method_of, servers_of, clients_of, step_of, entries_of, writes_of, reads_of}
use Rattle.rules.specs.Words.{every}
use Rattle.rules.specs.WordsLaws.{kept_other}
use Rattle.rules.specs.Common.{asking_keys, asking_setpoints, asking_all}
use Rattle.rules.specs.Common as rules
use Rattle.rules.specs.Begin.{next_count, begun_write, kept_tags, kept_asking, Asking}
use Rattle.refusals.specs.Former.{last_tag, asking_by_a, formerly_asking, formerly_begun_read}
use Rattle.soundness.specs.Sound.{is_reading}
use Rattle.soundness.specs.Room.{few_servers, client-row}
use Rattle.rules.specs.Answer.{Ok}
use Rattle.keeping.specs.Accepted.{Writable, Readable}
use Rattle.keeping.specs.Begins.{begun_other, begun_more, begun_step}
use Rattle.keeping.proofs.BeginWrite.{begun_write-kept}
use Rattle.keeping.proofs.BeginRead.{begun_read-kept}
use Rattle.keeping.specs.Rows.{Put, put, put_all, last_put, in_row, put-read}
use Rattle.claim.specs.Steps.{begun-write, begun-read}
use Rattle.refusals.specs.Steps.{badge_of}
use Rattle.claim.specs.History.{writing, reading, History, begun, after}
use Rattle.register_order.specs.Agreement.{at_rest, Agrees}
use Rattle.register_order.specs.Machines.{Follows}
use Rattle.register_order.specs.Grown.{more}
use Rattle.register_order.specs.Laws.{Counts, as-next, write-begins, read-begins}

module _ (t : Tables) (h : History) (numbers : List ℕ) (a : Agrees t h numbers) where
  -- the tags and keys that a client keeps stand behind its state and the place of its record
  pub asked-behind : (q mask tag : ℕ) (clients : List ℕ) (f : ℕ) → f < tags_field →
      client_word (kept_asking q mask t.log tag (servers_of t) clients) q f ≡ client_word clients q f
  asked-behind q mask tag clients f l =
      let few = few_servers t a.sound in
      kept_other asked_field (has_server mask) (latest_word t.log tag) q (servers_of t) (omega arith)
      (kept_tags q mask t.log tag (servers_of t) clients) q f (omega arith) (λ e. omega (arith, e.1))
      ∙ kept_other tags_field (has_server mask) (latest_tag_at t.log tag) q (servers_of t) (omega arith) clients q f
      (omega arith) (λ e. omega (arith, e.1))

  module _ (q mask badge : ℕ) (setpoints : List ℕ) (b : Writable q mask setpoints t) where
    abbrev puts : List Put
    puts =
        put state_field rules.writing
        ∷ put mask_field mask
        ∷ put record_field (writes_of t)
        ∷ put count_field (next_count t q)
        ∷ put write_badge_field (badge_of badge)
        ∷ []

    client : q < clients_of t
    client = b.begin.client

    written : (f : ℕ) → f < setpoints_field →
        client_word (begun_write q mask (badge_of badge) setpoints t).clients q f ≡ last_put puts (client_word t.clients q f) f
    unfolding begun_write
    written f l =
        kept_other setpoints_field every (λ i. get_or setpoints i 0) q (servers_of t) (omega (arith, few_servers t a.sound))
        (put_all puts q t.clients) q f (omega arith) (λ z. omega (arith, z.1))
        ∙ put-read q puts t.clients f _ (client-row t a.sound q client) refl (omega arith) refl

    write_counts : Counts t (begun_write q mask (badge_of badge) setpoints t) (entries_of t) (writes_of t + 1) (reads_of t)
    unfolding begun_write
    write_counts =
        let long = a.sound.long.counts in
        record {
          entries = begun_other writes_field t.counts long (omega arith) (λ z. omega arith) entries_field (λ z. omega arith) (λ z. omega arith);
          writes = begun_more writes_field t.counts long (omega arith) (λ z. omega arith);
          reads = begun_other writes_field t.counts long (omega arith) (λ z. omega arith) reads_field (λ z. omega arith) (λ z. omega arith);
          step = begun_step writes_field t.counts long (omega arith) (λ z. omega arith);
        }

    begun_records : (begun_write q mask (badge_of badge) setpoints t).writes ≡ put_begun t.writes (writes_of t) q (next_count t q)
        (step_of t + 1) (badge_of badge)
    unfolding begun_write
    begun_records = refl

    same_reads : (begun_write q mask (badge_of badge) setpoints t).reads ≡ t.reads
    unfolding begun_write
    same_reads = refl

    write_agrees :
        Agrees (begun_write q mask (badge_of badge) setpoints t)
        (begun (h.doing q) q (writing mask (badge_of badge) setpoints h.clock) h) (more numbers (step_of t + 1))
    write_agrees =
        rw (at_rest t numbers q (h.doing q) (a.clients q client) b.begin.free)
        (write-begins t (begun_write q mask (badge_of badge) setpoints t) h numbers a q client
        (begun_write-kept q mask (badge_of badge) setpoints t a.sound b (mod-lt badge (omega arith)))
        (next_count t q) (badge_of badge) begun_records same_reads write_counts b.few
        (written state_field (omega arith)) (written record_field (omega arith)) mask setpoints)

    write_step : step_of (begun_write q mask (badge_of badge) setpoints t) ≡ suc (step_of t)
    write_step = write_counts.step ∙ add-one (step_of t)

    pub write_follows : Follows t h numbers
        (record { event = begun-write q mask badge setpoints Ok; tables = begun_write q mask (badge_of badge) setpoints t })
    write_follows = record {
      agrees =
          as-next t h numbers a (begun_write q mask (badge_of badge) setpoints t)
          (after (begun-write q mask badge setpoints Ok) h) write_agrees;
      step = write_step;
    }

  module _ (q mask : ℕ) (b : Readable q mask t) where
    abbrev read_puts : ℕ → List Put
    read_puts state = put state_field state ∷ put mask_field mask ∷ put record_field (reads_of t) ∷ []

    abbrev read_puts_a : List Put
    read_puts_a = put state_field asking_setpoints ∷ put mask_field mask ∷ put record_field (reads_of t) ∷ put tag_field (last_tag t) ∷ []

    reader : q < clients_of t
    reader = b.begin.client

    asked : (puts : List Put) → in_row puts ≡ true → (f : ℕ) → f < client_width → client_word (put_all puts q t.clients) q f ≡ last_put puts (client_word t.clients q f) f
    asked puts inside f l = put-read q puts t.clients f _ (client-row t a.sound q reader) inside l refl

    asked_a : (f : ℕ) → f < tags_field → client_word (asking_by_a q mask t).clients q f ≡ last_put read_puts_a (client_word t.clients q f) f
    asked_a f l = asked-behind q mask (last_tag t) (put_all read_puts_a q t.clients) f l ∙ asked read_puts_a refl f (omega arith)

    -- whatever the method, the client reads and knows the place of its record
    abbrev Asks : Asking → Type 0
    Asks x = (is_reading (client_word x.clients q state_field) ≡ true) × (client_word x.clients q record_field ≡ reads_of t)

    asks : Asks (formerly_asking (method_of t) q mask t)
    asks =
        either Asks (eqb (method_of t) 1)
        (rw (asked_a state_field (omega arith)) refl, asked_a record_field (omega arith))
        (either Asks (eqb (method_of t) 2)
        (rw (asked (read_puts asking_keys) refl state_field (omega arith)) refl, asked (read_puts asking_keys) refl record_field (omega arith))
        (rw (asked (read_puts asking_all) refl state_field (omega arith)) refl, asked (read_puts asking_all) refl record_field (omega arith)))

    read_counts : Counts t (formerly_begun_read q mask t) (entries_of t) (writes_of t) (reads_of t + 1)
    unfolding formerly_begun_read
    read_counts =
        let long = a.sound.long.counts in
        record {
          entries = begun_other reads_field t.counts long (omega arith) (λ z. omega arith) entries_field (λ z. omega arith) (λ z. omega arith);
          writes = begun_other reads_field t.counts long (omega arith) (λ z. omega arith) writes_field (λ z. omega arith) (λ z. omega arith);
          reads = begun_more reads_field t.counts long (omega arith) (λ z. omega arith);
          step = begun_step reads_field t.counts long (omega arith) (λ z. omega arith);
        }

    read_agrees : Agrees (formerly_begun_read q mask t) (begun (h.doing q) q (reading mask h.clock 0 0) h)
        (more numbers (step_of t + 1))
    unfolding formerly_begun_read
    read_agrees =
        rw (at_rest t numbers q (h.doing q) (a.clients q reader) b.begin.free)
        (read-begins t (formerly_begun_read q mask t) h numbers a q reader (begun_read-kept q mask t a.sound b)
        mask refl refl read_counts b.few asks.0 asks.1)

    read_step : step_of (formerly_begun_read q mask t) ≡ suc (step_of t)
    read_step = read_counts.step ∙ add-one (step_of t)

    pub read_follows : Follows t h numbers (record { event = begun-read q mask Ok; tables = formerly_begun_read q mask t })
    read_follows = record {
      agrees = as-next t h numbers a (formerly_begun_read q mask t) (after (begun-read q mask Ok) h) read_agrees;
      step = read_step;
    }
