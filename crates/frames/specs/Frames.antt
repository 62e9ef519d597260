-- What the reader and the writer of frames answer and leave. This is what their promises cite.
use Rattle.std.specs.Prelude.{ℕ, List, ◌++◌, Bool, cond, ◌&&◌, leb, length, drop}
use Rattle.formats.specs.Grammar.{Outcome, got, fault, read, good, frame}
use Rattle.frame_table.specs.Table.{has_badges}
use Rattle.formats.specs.Format.{format}
use Rattle.formats.specs.Entries.{key_in, badge_in, number_in, enough}
use Rattle.frames.specs.declared.Message.{Message}
use Rattle.frames.specs.Reading.{Reading}
use Rattle.frames.specs.Reading as reading
use Rattle.frames.specs.Written.{Written}
use Rattle.frames.specs.Written as written
use Rattle.ranges.specs.Laid.{laid}
use Rattle.frames.specs.Messages.{entries_of, message_of}
use Rattle.frames.specs.Entries.{kind_of, values_of}

-- the lent slices have a place for each entry of a message
unfoldable pub has_places : Message → List ℕ → List ℕ → List ℕ → Bool
has_places m keys badges numbers = enough (kind_of m) (entries_of m) (length keys) (length badges) (length numbers)

-- ---- writing

-- a message with its entries that can be written: "message not writable" otherwise
unfoldable pub writable : Message → List ℕ → List ℕ → List ℕ → Bool
writable m keys badges numbers = has_places m keys badges numbers && good format (values_of m keys badges numbers)

-- its frame
unfoldable pub frame_of : Message → List ℕ → List ℕ → List ℕ → List ℕ
frame_of m keys badges numbers = frame format (values_of m keys badges numbers)

unfoldable pub fits : Message → List ℕ → List ℕ → List ℕ → List ℕ → Bool
fits m keys badges numbers bytes = leb (length (frame_of m keys badges numbers)) (length bytes)

-- 11 where it is not writable, then 12 where the lent bytes are too few, else the frame's length
unfoldable pub written_of : Message → List ℕ → List ℕ → List ℕ → List ℕ → Written
written_of m keys badges numbers bytes =
    cond (writable m keys badges numbers)
    (cond (fits m keys badges numbers bytes) (written.Length (length (frame_of m keys badges numbers))) (written.Refused 12))
    (written.Refused 11)

-- the frame, and the bytes behind it as before; all as before where it is refused
unfoldable pub bytes_written : Message → List ℕ → List ℕ → List ℕ → List ℕ → List ℕ
bytes_written m keys badges numbers bytes =
    cond (writable m keys badges numbers && fits m keys badges numbers bytes)
    (frame_of m keys badges numbers ++ drop (length (frame_of m keys badges numbers)) bytes)
    bytes

-- ---- reading

-- what was found in the bytes, with the slices lent for its entries: "12 is for frames otherwise good"
unfoldable pub reading_of : Outcome → List ℕ → List ℕ → List ℕ → Reading
reading_of (fault n) keys badges numbers = reading.Refused n
reading_of (got vs) keys badges numbers =
    cond (has_places (message_of vs) keys badges numbers) (reading.Read (message_of vs)) (reading.Refused 12)

-- the entries' keys at the first places, and those behind as before; all as before where it is refused
unfoldable pub keys_read : Outcome → List ℕ → List ℕ → List ℕ → List ℕ
keys_read (fault n) keys badges numbers = keys
keys_read (got vs) keys badges numbers =
    cond (has_places (message_of vs) keys badges numbers) (laid (key_in vs) (entries_of (message_of vs)) keys) keys

-- their badges likewise, and all as before where the kind's entries have none
unfoldable pub badges_read : Outcome → List ℕ → List ℕ → List ℕ → List ℕ
badges_read (fault n) keys badges numbers = badges
badges_read (got vs) keys badges numbers =
    cond (has_places (message_of vs) keys badges numbers && has_badges (kind_of (message_of vs)))
    (laid (badge_in vs) (entries_of (message_of vs)) badges)
    badges

unfoldable pub numbers_read : Outcome → List ℕ → List ℕ → List ℕ → List ℕ
numbers_read (fault n) keys badges numbers = numbers
numbers_read (got vs) keys badges numbers =
    cond (has_places (message_of vs) keys badges numbers) (laid (number_in vs) (entries_of (message_of vs)) numbers) numbers

abbrev pub found : List ℕ → Outcome
found bytes = read format bytes 0
