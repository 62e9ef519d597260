-- A frame of every kind, worked out by hand from document 01's table by kind.
-- It is of client 2 and server 1, so that client, server and 0 are all different.
use Rattle.std.specs.Prelude.{ℕ, ◌*◌, ◌≡◌, refl, List, [], ◌∷◌, replicate}
use Rattle.ranges.specs.All.{any_below}
use Rattle.ranges.specs.First.{first_from}
use Rattle.ranges.specs.Last.{last_below}
use Rattle.ranges.specs.Turns.{turns}
use Rattle.ranges.specs.Laid.{built}
use Rattle.fields.specs.Bits.{bit_of, with_bit, set_bit, put_field}
use Rattle.formats.specs.Grammar.{size, lay, frame}
use Rattle.frame_table.specs.Table.{sort_at, bits_of, entries_in, has_badges}
use Rattle.formats.specs.Format.{left_after, place_after, next_of, entries, fixed, format}
use Rattle.tables.specs.Layout.{count_words, client_width, server_places, value_width, log_places, entry_width, record_places, record_width}
use Rattle.tables.specs.Links.{targets, link_width, link_at, put_link}
use Rattle.tables.specs.Tables.{Tables, tables_of}
use Rattle.server.specs.Held.{appended}
use Rattle.coordinator.specs.Log.{entered}
use Rattle.rules.specs.Open as rules
use Rattle.rules.specs.Begin.{begun_write, begun_read}
use Rattle.rules.specs.Request.{on_new_set, on_set, on_new_enter, on_enter, on_which_keys, on_get, on_get_all, on_request_in, request_delivered}
use Rattle.rules.specs.Reply.{on_set_done, on_entered, on_keys, on_got, on_all, on_reply_in, reply_delivered}
use Rattle.formats.specs.Entries.{entry_value}
use Rattle.frames.specs.Entries.{values_of}
use Rattle.frames.specs.Frames.{frame_of}
use Rattle.wire.specs.OnLink.{OnLink, empty, carries, request_in, reply_in, on_link}
use Rattle.wire.specs.Examples.{asked, replied}

-- ---- a press with two servers and three clients, just opened

unfoldable pub blank : Tables
blank =
    tables_of (replicate count_words 0) (replicate (client_width * 3) 0) (replicate (link_width * (targets * 3)) 0)
    (replicate (server_places * 2) 0) (replicate (value_width * (server_places * 2)) 0) (replicate (entry_width * log_places) 0)
    (replicate (record_width * record_places) 0) (replicate (record_width * record_places) 0)

unfoldable pub opened : ℕ → Tables
opened method = rules.opened method 2 3 (1200 ∷ 30 ∷ []) blank

-- client 2 changes server 1 alone, with badge 7: `W 2 2 7 1800 45`, `> 2 1`, `< 2 1`, `> 2 16`, `< 2 16`
unfoldable pub setting : ℕ → Tables
setting method = begun_write 2 2 7 (1800 ∷ 45 ∷ []) (opened method)

unfoldable pub stored : ℕ → Tables
stored method = asked 2 1 (setting method)

unfoldable pub entering : ℕ → Tables
entering method = replied 2 1 (stored method)

unfoldable pub logged : ℕ → Tables
logged method = asked 2 16 (entering method)

-- and reads it back: `R 2 2`; by B then `> 2 16`, `< 2 16`, `> 2 1`; by C `> 2 1`, `> 2 16`
unfoldable pub reading : ℕ → Tables
reading method = begun_read 2 2 (replied 2 16 (logged method))

unfoldable pub keys_told : Tables
keys_told = asked 2 16 (reading 2)

unfoldable pub getting : Tables
getting = replied 2 16 keys_told

unfoldable pub all_told : Tables
all_told = asked 2 16 (asked 2 1 (reading 3))

-- ---- the bytes that cross

abbrev pub bytes_of : OnLink → List ℕ
bytes_of empty = []
bytes_of (carries m keys badges numbers) = frame_of m keys badges numbers

abbrev pub to_server : Tables → List ℕ
to_server t = bytes_of (on_link 2 1 t)

abbrev pub to_head : Tables → List ℕ
to_head t = bytes_of (on_link 2 16 t)

pub record Kinds : Type 0 where
  -- kind 1, client 2, target 1, key 1 of client 2, badge 7, setpoint 45
  pub set : to_server (setting 2) ≡ 0x12 ∷ 0x08 ∷ 0x09 ∷ 0x00 ∷ 0x03 ∷ 0x80 ∷ 0x00 ∷ 0x00 ∷ 0x16 ∷ 0x80 ∷ []
  -- kind 2, client 2, target 1
  pub set_done : to_server (stored 2) ≡ 0x22 ∷ 0x08 ∷ []
  -- kind 3, client 2, target 16, key 1 of client 2, mask 2
  pub enter : to_head (entering 2) ≡ 0x32 ∷ 0x80 ∷ 0x09 ∷ 0x00 ∷ 0x01 ∷ 0x00 ∷ []
  -- kind 4, tag 1
  pub entered_at : to_head (logged 2) ≡ 0x42 ∷ 0x80 ∷ 0x08 ∷ []
  pub which-keys : to_head (reading 2) ≡ 0x52 ∷ 0x80 ∷ []
  -- kind 6, tag 1, two keys: the opening's with tag 0, and key 1 of client 2 with tag 1
  pub keys-told : to_head keys_told ≡ 0x62 ∷ 0x80 ∷ 0x08 ∷ 0x80 ∷ 0x00 ∷ 0x00 ∷ 0x04 ∷ 0x80 ∷ 0x40 ∷ []
  pub get : to_server getting ≡ 0x72 ∷ 0x08 ∷ 0x09 ∷ 0x00 ∷ []
  -- kind 8, badge 7, setpoint 45
  pub got : to_server (asked 2 1 getting) ≡ 0x82 ∷ 0x08 ∷ 0x00 ∷ 0x38 ∷ 0x00 ∷ 0x00 ∷ 0x01 ∷ 0x68 ∷ []
  pub get-all : to_server (reading 3) ≡ 0x92 ∷ 0x08 ∷ []
  -- kind 10, two versions: the opening's 30 with badge 0, and 45 of key 1 of client 2 with badge 7
  pub all :
      to_server all_told
      ≡ 0xA2 ∷ 0x08 ∷ 0x08 ∷ 0x00 ∷ 0x00 ∷ 0x00 ∷ 0x00 ∷ 0x00 ∷ 0x00 ∷ 0x0F
      ∷ 0x00 ∷ 0x90 ∷ 0x00 ∷ 0x38 ∷ 0x00 ∷ 0x00 ∷ 0x01 ∷ 0x68 ∷ []
  pub get-log : to_head (reading 3) ≡ 0xB2 ∷ 0x80 ∷ []
  -- kind 12, two entries: the opening's mask 3, and mask 2 of key 1 of client 2
  pub log : to_head all_told ≡ 0xC2 ∷ 0x80 ∷ 0x08 ∷ 0x00 ∷ 0x00 ∷ 0x01 ∷ 0x80 ∷ 0x90 ∷ 0x00 ∷ 0x10 ∷ []

pub kinds : Kinds
unfolding blank opened setting stored entering logged reading keys_told getting all_told on_link request_in reply_in turns any_below first_from
    last_below link_at put_link appended entered begun_write begun_read on_new_set on_set on_new_enter on_enter on_which_keys on_get on_get_all
    on_request_in request_delivered
    on_set_done on_entered on_keys on_got on_all on_reply_in reply_delivered built bit_of with_bit set_bit put_field size lay frame sort_at bits_of
    entries_in has_badges left_after place_after next_of entries fixed format entry_value values_of frame_of
kinds =
    record {
      set = refl;
      set_done = refl;
      enter = refl;
      entered_at = refl;
      which-keys = refl;
      keys-told = refl;
      get = refl;
      got = refl;
      get-all = refl;
      all = refl;
      get-log = refl;
      log = refl;
    }
