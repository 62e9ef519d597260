-- Of specs/Answers: what cites a theorem there that a changed definition can make fail.
use Rattle.std.specs.Prelude.{ℕ, ◌≡◌, refl, Bool, true, false, not, List, leb}
use Rattle.std.proofs.Common.{sym, subst, ◌∙◌, arith, leb-false}
use Rattle.std.proofs.lemmas.Bool.{not-false}
use Rattle.ranges.specs.Tests.{by-test}
use Rattle.tables.specs.Tables.{Tables, tables_of, clients_of, entries_of, state_of, mask_of}
use Rattle.tables.specs.declared.links.Contents.{Contents}
use Rattle.rules.specs.Common.{asking_all}
use Rattle.soundness.specs.Sound.{sound}
use Rattle.soundness.specs.Facts.{Between, Sound, facts-sound}
use Rattle.refusals.specs.Refusals.{is_target}
use Rattle.keeping.specs.Accepted.{neither}
use Rattle.keeping.specs.Links.{number_on, contents_on, kind_on, request-kind, request-words, reply-kind, reply-words}
use Rattle.keeping.specs.States.{by_state}
use Rattle.frames.specs.Frames.{fits, written_of, bytes_written}
use Rattle.wire.specs.OnLink.{OnLink, empty, carries, on_link}
use Rattle.wire.specs.Sending.{Sent, refused, sent_from, is_absent, link_frame}
use Rattle.wire.specs.Known.{Present, few_servers, client-fits, target_below, is-server, asks, used}
use Rattle.wire.specs.Known.{set-badge, entered-tag, keys_held, got-badge, log_held, all_held}
use Rattle.wire.proofs.Always.{always-writable}
use Rattle.wire.specs.Always.{Words, CanBeWritten}
use Rattle.wire.specs.Ready.{LogReady, EverythingReady, RequestReady, ReplyReady, LinkReady}
use Rattle.wire.specs.Cases.{wrote_from}
use Rattle.wire.specs.Answers.{can_write, is_present}

-- sound tables
module _ (q i : ℕ) (t : Tables) (s : Sound t) (bytes : List ℕ) {b : Bool} (d : b ≡ is_absent q i t) where
  pub frame-written : (e : b ≡ false) → Words t.links t.values → {x : Sent} → x ≡ wrote_from (on_link q i t) bytes → x ≡ link_frame q i t bytes
  unfolding link_frame
  frame-written e w o = rw (facts-sound t s, ← d, e)
      (o ∙ can_write (on_link q i t) bytes (always-writable t s w q i (is_present q i t s bytes d e)))

-- ---- sound tables are ready
