-- What writing the frame of a link answers and leaves. This is what the promises cite.
use Rattle.std.specs.Prelude.{ℕ, Bool, cond, not, ◌||◌, List, ◌++◌, leb, length, drop}
use Rattle.tables.specs.Tables.{Tables, clients_of}
use Rattle.soundness.specs.Sound.{sound}
use Rattle.refusals.specs.Refusals.{is_target}
use Rattle.frames.specs.Written.{Written}
use Rattle.frames.specs.Written.{Length, Refused}
use Rattle.frames.specs.Meanings.{Meaning, written_meaning}
use Rattle.frames.specs.Frames.{frame_of, fits}
use Rattle.wire.specs.OnLink.{OnLink, empty, carries, on_link}

-- the answer, what it means in document 01's numbers, and the lent bytes afterwards
pub record Sent : Type 0 where
  pub answer : Written
  pub meaning : Meaning
  pub bytes : List ℕ

abbrev pub sent : Written → List ℕ → Sent
sent answer bytes = record { answer = answer; meaning = written_meaning answer; bytes = bytes }

abbrev pub refused : ℕ → List ℕ → Sent
refused n bytes = sent (Refused n) bytes

-- 9 "link has no such request or reply", 12 "lent space too small for the frame"; else the frame, with the bytes behind it as before
unfoldable pub sent_from : OnLink → List ℕ → Sent
sent_from empty bytes = refused 9 bytes
sent_from (carries m keys badges numbers) bytes =
    cond (fits m keys badges numbers bytes)
    (sent (Length (length (frame_of m keys badges numbers)))
    (frame_of m keys badges numbers ++ drop (length (frame_of m keys badges numbers)) bytes))
    (refused 12 bytes)

-- 3 "no such panel or target"
abbrev pub is_absent : ℕ → ℕ → Tables → Bool
is_absent q i t = leb (clients_of t) q || not (is_target t i)

-- the frame of link (q, i) into lent bytes: 2 "tables not sound", then 3, 9 and 12, and all as before
unfoldable pub link_frame : ℕ → ℕ → Tables → List ℕ → Sent
link_frame q i t bytes =
    cond (not (sound t)) (refused 2 bytes)
    (cond (is_absent q i t) (refused 3 bytes)
    (sent_from (on_link q i t) bytes))
