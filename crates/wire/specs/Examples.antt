-- What links hold on the way of document 01's sample and of a READ by C, one checked table.
use Rattle.std.specs.Prelude.{ℕ, ◌*◌, ◌≡◌, refl, [], ◌∷◌, replicate}
use Rattle.ranges.specs.All.{any_below}
use Rattle.ranges.specs.First.{first_from}
use Rattle.ranges.specs.Last.{last_below}
use Rattle.ranges.specs.Turns.{turns}
use Rattle.keys.specs.Keys.{key_of}
use Rattle.fields.specs.Bits.{bit_of, with_bit, set_bit, put_field}
use Rattle.formats.specs.Grammar.{size, lay, frame}
use Rattle.frame_table.specs.Table.{sort_at, bits_of, entries_in, has_badges}
use Rattle.formats.specs.Format.{left_after, place_after, next_of, entries, fixed, format}
use Rattle.tables.specs.Layout.{count_words, client_width, server_places, value_width, log_places, entry_width, record_places, record_width}
use Rattle.tables.specs.Links.{targets, link_width, link_at, put_link}
use Rattle.tables.specs.Tables.{Tables, tables_of}
use Rattle.server.specs.Held.{appended}
use Rattle.coordinator.specs.Log.{entered}
use Rattle.rules.specs.Open as rules
use Rattle.rules.specs.Begin.{begun_write, begun_read}
use Rattle.rules.specs.Request.{on_new_set, on_set, on_new_enter, on_enter, on_which_keys, on_get, on_get_all, on_request_in, request_delivered}
use Rattle.rules.specs.Reply.{on_set_done, on_entered, on_keys, on_got, on_all, on_reply_in, reply_delivered}
use Rattle.rules.specs.Loss.{link_lost}
use Rattle.frames.specs.declared.Message.TheVariants.{Set, SetDone, Enter, Entered, WhichKeys, Keys, Get, Got, GetAll, All, GetLog, Log}
use Rattle.frames.specs.Written.{Length, Refused}
use Rattle.ranges.specs.Laid.{built}
use Rattle.formats.specs.Entries.{entry_value}
use Rattle.frames.specs.Entries.{values_of}
use Rattle.frames.specs.Frames.{frame_of, fits}
use Rattle.wire.specs.OnLink.{empty, carries, alone, request_in, reply_in, on_link}
use Rattle.wire.specs.Sending.{sent, sent_from}

-- ---- a press with two servers and two clients, just opened, and the accepted steps

unfoldable pub blank : Tables
blank =
    tables_of (replicate count_words 0) (replicate (client_width * 2) 0) (replicate (link_width * (targets * 2)) 0)
    (replicate (server_places * 2) 0) (replicate (value_width * (server_places * 2)) 0) (replicate (entry_width * log_places) 0)
    (replicate (record_width * record_places) 0) (replicate (record_width * record_places) 0)

unfoldable pub opened : ℕ → Tables
opened method = rules.opened method 2 2 (1200 ∷ 30 ∷ []) blank

abbrev pub asked : ℕ → ℕ → Tables → Tables
asked q i t = (request_delivered q i t).tables

abbrev pub replied : ℕ → ℕ → Tables → Tables
replied q i t = (reply_delivered q i t).tables

-- document 01's sample, by B: `W 0 3 0 1800 45`, `> 0 0`, `R 1 3`, `> 1 16`
unfoldable pub write_begun : Tables
write_begun = begun_write 0 3 0 (1800 ∷ 45 ∷ []) (opened 2)

unfoldable pub keys_answered : Tables
keys_answered = asked 1 16 (begun_read 1 3 (asked 0 0 write_begun))

-- `> 0 1`, `< 0 0`, `< 0 1`: both servers have stored; `> 0 16`: the log has two entries
unfoldable pub both_stored : Tables
both_stored = replied 0 1 (replied 0 0 (asked 0 1 keys_answered))

unfoldable pub write_entered : Tables
write_entered = asked 0 16 both_stored

-- `< 1 16`
unfoldable pub keys_arrived : Tables
keys_arrived = replied 1 16 write_entered

-- C: client 1 reads, server 0 answers, client 0 writes to both, with badge 9
unfoldable pub read_begun : Tables
read_begun = begun_read 1 3 (opened 3)

unfoldable pub written_behind : Tables
written_behind = asked 0 1 (asked 0 0 (begun_write 0 3 9 (1800 ∷ 45 ∷ []) (asked 1 0 read_begun)))

-- then the WRITE is entered, and server 1 and the coordinator answer
unfoldable pub all_answered : Tables
all_answered = asked 1 16 (asked 1 1 (asked 0 16 (replied 0 1 (replied 0 0 written_behind))))

pub record Examples : Type 0 where
  pub idle-link : on_link 0 0 (opened 2) ≡ empty
  pub set-sent : on_link 0 1 write_begun ≡ alone (Set 0 1 (key_of 1 0) 0 45)
  pub set-lost : on_link 0 1 (link_lost 0 1 write_begun).tables ≡ empty
  pub head_later : on_link 0 16 write_begun ≡ empty
  pub set_done : on_link 0 0 keys_answered ≡ alone (SetDone 0 0)
  pub keys-asked : on_link 1 16 (begun_read 1 3 (opened 2)) ≡ alone (WhichKeys 1)
  pub keys-told : on_link 1 16 keys_answered ≡ carries (Keys 1 0 2) (0 ∷ 0 ∷ []) [] (0 ∷ 0 ∷ [])
  pub enter-sent : on_link 0 16 both_stored ≡ alone (Enter 0 (key_of 1 0) 3)
  pub tag-told : on_link 0 16 write_entered ≡ alone (Entered 0 1)
  -- the log has grown since: the reply is that of the moment of answering
  pub keys_as-told : on_link 1 16 write_entered ≡ carries (Keys 1 0 2) (0 ∷ 0 ∷ []) [] (0 ∷ 0 ∷ [])
  pub get-sent : on_link 1 0 keys_arrived ≡ alone (Get 1 0 (key_of 0 0))
  pub got_back : on_link 1 0 (asked 1 0 keys_arrived) ≡ alone (Got 1 0 0 1200)
  -- by C
  pub all_asked : on_link 1 0 read_begun ≡ alone (GetAll 1 0)
  pub log-asked : on_link 1 16 read_begun ≡ alone (GetLog 1)
  -- server 0 holds two versions now, and answered with the first
  pub first-version : on_link 1 0 all_answered ≡ carries (All 1 0 1) (0 ∷ []) (0 ∷ []) (1200 ∷ [])
  pub both_versions : on_link 1 1 all_answered ≡ carries (All 1 1 2) (0 ∷ 256 ∷ []) (0 ∷ 9 ∷ []) (30 ∷ 45 ∷ [])
  pub log-told : on_link 1 16 all_answered ≡ carries (Log 1 2) (0 ∷ 256 ∷ []) [] (3 ∷ 3 ∷ [])
  -- the frame, the bytes behind it, and too few bytes
  pub frame-sent :
      sent_from (on_link 0 0 write_begun) (replicate 12 7)
      ≡ sent (Length 10) (0x10 ∷ 0x00 ∷ 0x08 ∷ 0x00 ∷ 0x00 ∷ 0x00 ∷ 0x00 ∷ 0x03 ∷ 0x84 ∷ 0x00 ∷ 7 ∷ 7 ∷ [])
  pub frame_too_long : sent_from (on_link 0 0 write_begun) (replicate 9 7) ≡ sent (Refused 12) (replicate 9 7)
  pub nothing-sent : sent_from (on_link 0 16 write_begun) (replicate 7 7) ≡ sent (Refused 9) (replicate 7 7)

pub examples : Examples
unfolding blank opened write_begun keys_answered both_stored write_entered keys_arrived read_begun written_behind all_answered on_link request_in
    reply_in sent_from turns any_below first_from last_below link_at put_link appended entered begun_write begun_read on_new_set on_set on_new_enter
    on_enter on_which_keys
    on_get on_get_all on_request_in request_delivered on_set_done on_entered on_keys on_got on_all on_reply_in reply_delivered link_lost built bit_of with_bit
    set_bit put_field size lay frame sort_at bits_of entries_in has_badges left_after place_after next_of entries fixed format entry_value
    values_of frame_of fits
examples =
    record {
      idle-link = refl;
      set-sent = refl;
      set-lost = refl;
      head_later = refl;
      set_done = refl;
      keys-asked = refl;
      keys-told = refl;
      enter-sent = refl;
      tag-told = refl;
      keys_as-told = refl;
      get-sent = refl;
      got_back = refl;
      all_asked = refl;
      log-asked = refl;
      first-version = refl;
      both_versions = refl;
      log-told = refl;
      frame-sent = refl;
      frame_too_long = refl;
      nothing-sent = refl;
    }
