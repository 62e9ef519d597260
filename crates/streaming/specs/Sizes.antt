-- The sizes of the program's tables, which follow from their layouts: they serve 16 servers and 16 clients.
use Rattle.std.specs.Prelude.{ℕ, ◌*◌}
use Rattle.tables.specs.Layout.{count_words, client_width, server_places, value_width, entry_width, log_places, record_width, record_places}
use Rattle.tables.specs.Links.{link_width, targets}

-- "16 stations", "16 panels"
abbrev pub most_servers : ℕ
most_servers = 16

abbrev pub most_clients : ℕ
most_clients = 16

abbrev pub clients_size : ℕ
clients_size = client_width * most_clients

abbrev pub links_size : ℕ
links_size = link_width * (targets * most_clients)

abbrev pub keys_size : ℕ
keys_size = server_places * most_servers

abbrev pub values_size : ℕ
values_size = value_width * (server_places * most_servers)

abbrev pub log_size : ℕ
log_size = entry_width * log_places

abbrev pub records_size : ℕ
records_size = record_width * record_places
