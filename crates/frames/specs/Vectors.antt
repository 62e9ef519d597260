-- Document 01's starred cards of frames, one checked table; with two more that tell 10 from 11, frames of kinds 6, 8 and 10, and the
-- longest frames.
use Rattle.std.specs.Prelude.{◌≡◌, refl, true, false, List, [], ◌∷◌, ℕ}
use Rattle.fields.specs.Bits.{bit_of, with_bit, bit_at, set_bit, field_at, put_field}
use Rattle.formats.specs.Grammar.{ahead, judged, ended, read, good, size, lay, frame}
use Rattle.frame_table.specs.Columns.{length_by}
use Rattle.frame_table.specs.Table.{sort_at, bits_of, least_of, most_of, shape_of, entries_in, has_badges}
use Rattle.formats.specs.Format.{field_of, within, left_after, place_after, next_of, entries, fixed, format}
use Rattle.keys.specs.Keys.{key_of}
use Rattle.frames.specs.declared.Message.{Message}
use Rattle.frames.specs.declared.Message.TheVariants.{Set, Keys, Got, All}
use Rattle.frames.specs.Reading.{Reading}
use Rattle.frames.specs.Reading.{Read, Refused}
use Rattle.ranges.specs.Laid.{built}
use Rattle.frames.specs.Messages.{message_at, message_of}
use Rattle.formats.specs.Entries.{entry_value}
use Rattle.frames.specs.Entries.{values_of}
use Rattle.frames.specs.Frames.{has_places, writable, frame_of, reading_of, keys_read, badges_read, numbers_read, found}

-- kind 1, client 2, server 3, key (1, 2), badge 0, 1800
abbrev pub set_message : Message
set_message = Set 2 3 (key_of 1 2) 0 1800

-- its first nine bytes
abbrev pub set_frame : List ℕ → List ℕ
set_frame rest = 0x12 ∷ 0x18 ∷ 0x09 ∷ 0x00 ∷ 0x00 ∷ 0x00 ∷ 0x00 ∷ 0x03 ∷ 0x84 ∷ rest

-- kind 6, client 2, the log's last tag 0; one entry: key (1, 2) with tag 255. The two tags are not tied to one another.
abbrev pub keys_message : Message
keys_message = Keys 2 0 1

-- 0110 0010 10000 00000000 00001, then 00000001 0010 11111111, then two bits of padding
abbrev pub keys_frame : List ℕ
keys_frame = 0x62 ∷ 0x80 ∷ 0x00 ∷ 0x40 ∷ 0x4B ∷ 0xFC ∷ []

-- kind 8, client 2, server 3, badge 7, 1800
abbrev pub got_message : Message
got_message = Got 2 3 7 1800

-- 1000 0010 00011, then 0000000000000111, then 32 bits of setpoint and three of padding
abbrev pub got_frame : List ℕ
got_frame = 0x82 ∷ 0x18 ∷ 0x00 ∷ 0x38 ∷ 0x00 ∷ 0x00 ∷ 0x38 ∷ 0x40 ∷ []

-- kind 10, client 2, server 3; one entry: key (1, 2), badge 7, 1800
abbrev pub all_message : Message
all_message = All 2 3 1

-- 1010 0010 00011 00000000, then 00000001 0010 0000000000000111, then 32 bits of setpoint and seven of padding
abbrev pub all_frame : List ℕ
all_frame = 0xA2 ∷ 0x18 ∷ 0x00 ∷ 0x09 ∷ 0x00 ∷ 0x03 ∷ 0x80 ∷ 0x00 ∷ 0x03 ∷ 0x84 ∷ 0x00 ∷ []

-- read with no places for entries
abbrev pub reads : List ℕ → Reading
reads bytes = reading_of (found bytes) [] [] []

pub record Cards : Type 0 where
  pub written : frame_of set_message [] [] [] ≡ set_frame (0x00 ∷ [])
  pub read_back : reads (set_frame (0x00 ∷ [])) ≡ Read set_message
  pub last_byte_01 : reads (set_frame (0x01 ∷ [])) ≡ Refused 11
  pub another_00 : reads (set_frame (0x00 ∷ 0x00 ∷ [])) ≡ Refused 11
  pub no_bytes : reads [] ≡ Refused 10
  -- the card as it was without a badge
  pub without-badge : reads (0x12 ∷ 0x18 ∷ 0x09 ∷ 0x00 ∷ 0x00 ∷ 0x03 ∷ 0x84 ∷ 0x00 ∷ []) ≡ Refused 10
  -- the count is a field of its own, and the first fault decides
  pub count-zero : reads (0x10 ∷ 0x00 ∷ 0x00 ∷ []) ≡ Refused 11
  pub cut-behind-count : reads (0x10 ∷ 0x00 ∷ 0x08 ∷ []) ≡ Refused 10
  -- "an 8-bit tag after each key": it is the entry's number; it is read back, needs its place, and is not writable above 255
  pub keys-written : frame_of keys_message (258 ∷ []) [] (255 ∷ []) ≡ keys_frame
  pub keys_back : reading_of (found keys_frame) (0 ∷ []) [] (0 ∷ []) ≡ Read keys_message
  pub key-stored : keys_read (found keys_frame) (0 ∷ []) [] (0 ∷ []) ≡ 258 ∷ []
  pub tag-stored : numbers_read (found keys_frame) (0 ∷ []) [] (0 ∷ []) ≡ 255 ∷ []
  pub no-place_for-tag : reading_of (found keys_frame) (0 ∷ []) [] [] ≡ Refused 12
  pub tag-writable : writable keys_message (258 ∷ []) [] (255 ∷ []) ≡ true
  pub tag_too_great : writable keys_message (258 ∷ []) [] (256 ∷ []) ≡ false
  -- "kind 8 has it before the setpoint"
  pub got-written : frame_of got_message [] [] [] ≡ got_frame
  pub got_back : reads got_frame ≡ Read got_message
  -- "Version records hold it after the key, as do frame kinds 1 and 10": it is read back, needs its place, and is not writable above 65,535
  pub all-written : frame_of all_message (258 ∷ []) (7 ∷ []) (1800 ∷ []) ≡ all_frame
  pub all_back : reading_of (found all_frame) (0 ∷ []) (0 ∷ []) (0 ∷ []) ≡ Read all_message
  pub badge-stored : badges_read (found all_frame) (0 ∷ []) (0 ∷ []) (0 ∷ []) ≡ 7 ∷ []
  pub setpoint-stored : numbers_read (found all_frame) (0 ∷ []) (0 ∷ []) (0 ∷ []) ≡ 1800 ∷ []
  pub no-place_for-badge : reading_of (found all_frame) (0 ∷ []) [] (0 ∷ []) ≡ Refused 12
  pub badge-writable : writable all_message (258 ∷ []) (65535 ∷ []) (1800 ∷ []) ≡ true
  pub badge_too_great : writable all_message (258 ∷ []) (65536 ∷ []) (1800 ∷ []) ≡ false
  -- a kind whose entries have no badge leaves the badges alone
  pub badges-alone : badges_read (found keys_frame) (0 ∷ []) (9 ∷ []) (0 ∷ []) ≡ 9 ∷ []
  -- the longest frames of kinds 6, 10 and 12
  pub longest-keys : length_by (shape_of 6) 16 ≡ 44
  pub longest-all : length_by (shape_of 10) 256 ≡ 1923
  pub longest-log : length_by (shape_of 12) 256 ≡ 899

pub cards : Cards
unfolding bit_of with_bit bit_at set_bit field_at put_field ahead judged ended read good size lay frame sort_at bits_of least_of most_of entries_in
    has_badges length_by field_of within left_after place_after next_of entries fixed format built message_at message_of entry_value values_of
    has_places writable frame_of reading_of keys_read badges_read numbers_read
cards =
    record {
      written = refl;
      read_back = refl;
      last_byte_01 = refl;
      another_00 = refl;
      no_bytes = refl;
      without-badge = refl;
      count-zero = refl;
      cut-behind-count = refl;
      keys-written = refl;
      keys_back = refl;
      key-stored = refl;
      tag-stored = refl;
      no-place_for-tag = refl;
      tag-writable = refl;
      tag_too_great = refl;
      got-written = refl;
      got_back = refl;
      all-written = refl;
      all_back = refl;
      badge-stored = refl;
      setpoint-stored = refl;
      no-place_for-badge = refl;
      badge-writable = refl;
      badge_too_great = refl;
      badges-alone = refl;
      longest-keys = refl;
      longest-all = refl;
      longest-log = refl;
    }
