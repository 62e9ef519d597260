-- Of specs/Trip: what cites a theorem there that a changed definition can make fail.
use Rattle.std.specs.Prelude.{ℕ, ◌*◌, ◌/◌, ◌%◌, ◌<◌, refl, Bool, true, false, eqb, get_or}
use Rattle.std.proofs.Math.Path.{◌≡◌, sym, ap, subst}
use Rattle.std.proofs.Common.{◌∙◌}
use Rattle.std.proofs.Math.Bool.{cond}
use mathlib.Core.List.{List, [], ◌∷◌, ◌++◌}
use native.Mathlib.Omega.{arith}
use Rattle.std.proofs.Math.ListN.{length, take, drop, get_or-append}
use Rattle.std.proofs.Math.Seq.{take_at, take-length}
use borrow.Author.Tests.{lt-leb}
use Rattle.ranges.specs.Tests.{either, by-test}
use Rattle.fields.specs.BitLaws.{Bytes}
use Rattle.formats.specs.Grammar.{frame}
use Rattle.frame_table.specs.Table.{sort_at, has_badges, entry_fields}
use Rattle.formats.specs.Format.{format}
use Rattle.tables.specs.Tables.{Tables, state_of, content_at}
use Rattle.tables.specs.declared.links.Contents.{Contents}
use Rattle.tables.specs.declared.links.Content.{Content}
use Rattle.tables.specs.declared.links.Content.TheVariants.{Nothing, Request, Reply, Lost}
use Rattle.soundness.specs.Facts.{Sound, facts-sound}
use Rattle.frames.specs.declared.Message.{Message}
use Rattle.frames.specs.Reading.{Read}
use Rattle.frames.specs.Written.{Length, Refused}
use Rattle.ranges.specs.LaidLaws.{built-length, built-same}
use Rattle.frames.specs.Messages.{entries_of, fixed_of}
use Rattle.formats.specs.Entries.{entry_value}
use Rattle.frames.specs.Entries.{kind_of, values_of}
use Rattle.frames.specs.Frames.{has_places, writable, frame_of, fits, reading_of, keys_read, badges_read, numbers_read, found}
use Rattle.frames.specs.RoundTrip.{message_round_trip, keys_round_trip, badges_round_trip, numbers_round_trip, message_only}
use Rattle.wire.specs.OnLink.{OnLink, empty, carries, alone, request_in, reply_in, on_link_by, on_link}
use Rattle.wire.specs.Sending.{Sent, sent, sent_from, link_frame}
use Rattle.wire.specs.Known.{Present}
use Rattle.wire.proofs.Always.{always-writable}
use Rattle.wire.specs.Always.{Words, CanBeWritten}
use Rattle.wire.specs.Trip.{Exact, ExactOn, ReadAs, frame-first, front, front_if, reply_exact, request_exact, written-frame}

content_exact : (c : Content) (q i : ℕ) (t : Tables) → ExactOn (on_link_by c q i t)
unfolding ExactOn
content_exact Nothing q i t = tt
content_exact Lost q i t = tt
content_exact (Request w) q i t = request_exact (state_of t q) w q i
content_exact (Reply w) q i t = reply_exact (state_of t q) w q i t

link_exact : (q i : ℕ) (t : Tables) → ExactOn (on_link q i t)
unfolding on_link
link_exact q i t = content_exact (content_at t q i) q i t

-- ---- a frame goes by the first entries of its rows

module _ (q i : ℕ) (t : Tables) (s : Sound t) (words : Words t.links t.values) (a : Present q i t) (m : Message)
    (keys badges numbers : List ℕ) (held : on_link q i t ≡ carries m keys badges numbers) where
  can : writable m keys badges numbers ≡ true
  can = subst CanBeWritten held (always-writable t s words q i a)

  exact : Exact m keys badges numbers
  unfolding ExactOn
  exact = subst ExactOn held (link_exact q i t)

  module _ (bytes : List ℕ) where
    -- accepted: the answer is the frame's length, and the frame stands at the front
    module _ (n : ℕ) (accepted : (link_frame q i t bytes).answer ≡ Length n) where
      module _ (keys' badges' numbers' : List ℕ) (room : has_places m keys' badges' numbers' ≡ true) where
        -- what was written is read back as the message and entries it was written from
        pub link_round_trip : ReadAs (take n (link_frame q i t bytes).bytes) m keys badges numbers keys' badges' numbers'
        link_round_trip =
            record {
              message =
                  ap (λ (f : List ℕ). reading_of (found f) keys' badges' numbers') (written-frame q i t s words a m keys badges numbers held bytes n accepted)
                  ∙ message_round_trip m keys badges numbers can keys' badges' numbers' room;
              keys-stored =
                  ap (λ (f : List ℕ). keys_read (found f) keys' badges' numbers') (written-frame q i t s words a m keys badges numbers held bytes n accepted)
                  ∙ keys_round_trip m keys badges numbers can keys' badges' numbers' room
                  ∙ front (entries_of m) keys keys' exact.all-keys;
              badges-stored =
                  ap (λ (f : List ℕ). badges_read (found f) keys' badges' numbers') (written-frame q i t s words a m keys badges numbers held bytes n accepted)
                  ∙ badges_round_trip m keys badges numbers can keys' badges' numbers' room
                  ∙ front_if (has_badges (kind_of m)) (entries_of m) badges badges' exact.all_badges;
              numbers-stored =
                  ap (λ (f : List ℕ). numbers_read (found f) keys' badges' numbers') (written-frame q i t s words a m keys badges numbers held bytes n accepted)
                  ∙ numbers_round_trip m keys badges numbers can keys' badges' numbers' room
                  ∙ front (entries_of m) numbers numbers' exact.all-numbers;
            }

      -- no other bytes are read as they
      module _ (keys' badges' numbers' received : List ℕ) (right : Bytes received) where
        pub link_only :
            ReadAs received m keys badges numbers keys' badges' numbers' → received ≡ take n (link_frame q i t bytes).bytes
        link_only r =
            message_only received keys' badges' numbers' m right r.message
            ∙ (λ j. frame_of m (r.keys-stored j) (r.badges-stored j) (r.numbers-stored j))
            ∙ frame-first m keys badges numbers exact (drop (length keys) keys') (drop (length badges) badges')
            (drop (length numbers) numbers')
            ∙ sym (written-frame q i t s words a m keys badges numbers held bytes n accepted)
