-- What the public functions answer, by their cases; and that sound tables are ready for what they call.
use Rattle.std.specs.Prelude.{ℕ, ◌≡◌, refl, Bool, true, false, not, List, leb}
use Rattle.std.proofs.Common.{sym, subst, ◌∙◌, arith, leb-false}
use Rattle.std.proofs.lemmas.Bool.{not-false}
use Rattle.ranges.specs.Tests.{by-test}
use Rattle.tables.specs.Tables.{Tables, tables_of, clients_of, entries_of, state_of, mask_of}
use Rattle.tables.specs.declared.links.Contents.{Contents}
use Rattle.rules.specs.Common.{asking_all}
use Rattle.soundness.specs.Sound.{sound}
use Rattle.soundness.specs.Facts.{Between, Sound, facts-sound}
use Rattle.refusals.specs.Refusals.{is_target}
use Rattle.keeping.specs.Accepted.{neither}
use Rattle.keeping.specs.Links.{number_on, contents_on, kind_on, request-kind, request-words, reply-kind, reply-words}
use Rattle.keeping.specs.States.{by_state}
use Rattle.frames.specs.Frames.{fits, written_of, bytes_written}
use Rattle.wire.specs.OnLink.{OnLink, empty, carries, on_link}
use Rattle.wire.specs.Sending.{Sent, refused, sent_from, is_absent, link_frame}
use Rattle.wire.specs.Known.{Present, few_servers, client-fits, target_below, is-server, asks, used}
use Rattle.wire.specs.Known.{set-badge, entered-tag, keys_held, got-badge, log_held, all_held}
use Rattle.wire.specs.Always.{Words, CanBeWritten}
use Rattle.wire.specs.Ready.{LogReady, EverythingReady, RequestReady, ReplyReady, LinkReady}
use Rattle.wire.specs.Cases.{wrote_from}

-- what can be written is never refused by 11
pub can_write : (o : OnLink) (bytes : List ℕ) → CanBeWritten o → wrote_from o bytes ≡ sent_from o bytes
unfolding wrote_from sent_from written_of bytes_written
can_write empty bytes w = refl
can_write (carries m keys badges numbers) bytes w = rw w (by-test (fits m keys badges numbers bytes) (λ f. rw f) (λ f. rw f))

-- tables that are not sound
pub frame_unsound : (q i : ℕ) (t : Tables) (bytes : List ℕ) {b : Bool} → b ≡ sound t → not b ≡ true → refused 2 bytes ≡ link_frame q i t bytes
unfolding link_frame
frame_unsound q i t bytes d e = rw (← d, e)

-- sound tables
module _ (q i : ℕ) (t : Tables) (s : Sound t) (bytes : List ℕ) {b : Bool} (d : b ≡ is_absent q i t) where
  pub frame_absent : b ≡ true → refused 3 bytes ≡ link_frame q i t bytes
  unfolding link_frame
  frame_absent e = rw (facts-sound t s, ← d, e)

  pub is_present : b ≡ false → Present q i t
  is_present e = let n = neither (leb (clients_of t) q) (not (is_target t i)) (sym d ∙ e) in record { client = leb-false _ _ n.0; target = not-false _ n.1 }

module _ (q i : ℕ) (t : Tables) (s : Sound t) (a : Present q i t) where
  abbrev number : ℕ
  number = number_on t q i

  -- entries that the log holds
  log-ready : Between 1 number (entries_of t) → LogReady t.log number
  log-ready b = record { some = b.least; few = omega (arith, b.most, s.scalars.entries.most); logged = omega (arith, b.most, s.scalars.entries.most, s.long.log) }

  module _ (came : kind_on t q i ≡ 2) where
    later-ready : state_of t q ≡ asking_all → EverythingReady t.keys t.values t.log number i
    later-ready e =
        record {
          head = λ c. log-ready (log_held t s q i a came e c);
          server = λ d.
              let l = is-server t s q i a d in
              let b = all_held t s q i a came e d in
              let m = (s.server i l).held.most in
              record {
                server = omega (arith, few_servers t s q i a);
                few = omega (arith, b.most);
                keyed = omega (arith, b.most, s.long.keys);
                valued = omega (arith, b.most, s.long.values);
              };
        }

    came-ready : ReplyReady t.counts t.keys t.values t.log (state_of t q) (contents_on t q i) i
    came-ready =
        record {
          counted = s.long.counts;
          servers = few_servers t s q i a;
          entered = λ e. omega (arith, (entered-tag t s q i a came e).1, s.scalars.entries.most);
          keyed = λ e. log-ready (keys_held t s q i a came e);
          got = got-badge t s q i a came;
          everything = λ l.
              by_state (mask_of t q) i (state_of t q) (used t s q i a (λ z. omega arith))
              (λ e. absurd (l.not-writing e))
              (λ e. absurd (l.not-entering e))
              (λ e. absurd (l.not-keys e))
              (λ e. absurd (l.not_setpoints e))
              later-ready;
        }

  pub link-ready : (writes reads : List ℕ) → LinkReady q i (tables_of t.counts t.clients t.links t.keys t.values t.log writes reads)
  link-ready writes reads =
      let h = a.client in
      record {
        client = client-fits t s q i a;
        target = target_below t s q i a;
        row = omega (arith, s.long.clients);
        linked = omega (arith, target_below t s q i a, s.long.links);
        request = λ w e.
            let k = (asks t s q i a).kind in
            subst (RequestReady (state_of t q)) (request-words t.links q i w k e)
            (record { set = set-badge t s q i a (request-kind t.links q i w k e) });
        reply = λ w e.
            let k = (asks t s q i a).kind in
            subst (λ (w : Contents). ReplyReady t.counts t.keys t.values t.log (state_of t q) w i)
            (reply-words t.links q i w k e) (came-ready (reply-kind t.links q i w k e));
      }
