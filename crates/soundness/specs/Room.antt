-- Sound tables have room: what is in use of a press, its clients and links, its servers' versions, the log and the records, lies within the tables. A step that reads or
-- writes there cites it from here.
use Rattle.std.specs.Prelude.{ℕ, ◌*◌, ◌≤◌, ◌<◌, ◌≡◌, true, length}
use Rattle.std.proofs.Common.{arith}
use Rattle.tables.specs.Rows.{HasRow}
use Rattle.tables.specs.Layout.{client_width, server_places, HasValues, log_places, entry_width, record_places, record_width}
use Rattle.tables.specs.Links.{targets, HasLinks, link_width, link_row}
use Rattle.tables.specs.Tables.{Tables, servers_of, clients_of, entries_of, writes_of, reads_of, state_of, record_of}
use Rattle.soundness.specs.Sound.{is_writing, is_reading}
use Rattle.soundness.specs.Facts.{Sound, Doing, doing_facts}

module _ (t : Tables) (s : Sound t) where
  pub few_servers : servers_of t ≤ 16
  few_servers = s.scalars.press.servers.most

  pub few_clients : clients_of t ≤ 16
  few_clients = s.scalars.press.clients.most

  -- a server
  module _ (i : ℕ) (h : i < servers_of t) where
    pub server-fits : i < 16
    server-fits = omega (arith, few_servers)

    pub keys-row : HasRow server_places t.keys i
    keys-row = omega (arith, s.long.keys)

    pub values-row : HasValues t.values i
    values-row = omega (arith, s.long.values)

  -- a client, its links, and its record in progress
  module _ (q : ℕ) (h : q < clients_of t) where
    pub client-fits : q < 16
    client-fits = omega (arith, few_clients)

    pub client-row : HasRow client_width t.clients q
    client-row = omega (arith, s.long.clients)

    pub client-links : HasLinks t.links q
    client-links = omega (arith, s.long.links)

    pub link_row_lem : (i : ℕ) → i < targets → HasRow link_width t.links (link_row q i)
    link_row_lem i l = omega (arith, client-links)

    pub write_open : is_writing (state_of t q) ≡ true → Doing t.writes (writes_of t) q (record_of t q)
    write_open w = doing_facts t.writes (writes_of t) q (record_of t q) (rw w at (s.records q h).write)

    pub read_open : is_reading (state_of t q) ≡ true → Doing t.reads (reads_of t) q (record_of t q)
    read_open w = doing_facts t.reads (reads_of t) q (record_of t q) (rw w at (s.records q h).read)

    pub write-row : is_writing (state_of t q) ≡ true → HasRow record_width t.writes (record_of t q)
    write-row w = omega (arith, (write_open w).within, s.scalars.writes, s.long.writes)

    pub read-row : is_reading (state_of t q) ≡ true → HasRow record_width t.reads (record_of t q)
    read-row w = omega (arith, (read_open w).within, s.scalars.reads, s.long.reads)

  -- the first entries of the log, and the place of the next
  pub log-entries : (n : ℕ) → n ≤ entries_of t → entry_width * n ≤ length t.log
  log-entries n h = omega (arith, s.scalars.entries.most, s.long.log)

  pub next-entry : entries_of t < log_places → HasRow entry_width t.log (entries_of t)
  next-entry h = omega (arith, s.long.log)

  -- the place of the next record
  pub next-write : writes_of t < record_places → HasRow record_width t.writes (writes_of t)
  next-write h = omega (arith, s.long.writes)

  pub next-read : reads_of t < record_places → HasRow record_width t.reads (reads_of t)
  next-read h = omega (arith, s.long.reads)
