-- The cases of the delivery of a reply to a READ by A or B, as the code meets them.
use Rattle.std.specs.Prelude.{ℕ, ◌-◌, ◌≡◌, Bool, true, false, List}
use Rattle.std.proofs.Common.{arith}
use Rattle.tables.specs.Layout.{put_client_word, state_field, tag_field, setpoints_field, tags_field, badges_field}
use Rattle.tables.specs.Tables.{Tables, tables_of, servers_of, mask_of, tag_of, record_of}
use Rattle.tables.specs.declared.links.Contents.{Contents}
use Rattle.rules.specs.declared.Arrival.TheVariants.{Wait, Next}
use Rattle.rules.specs.WordsLaws.{shown_other}
use Rattle.rules.specs.Answers.{arrived}
use Rattle.rules.specs.Common.{idle, asking_setpoints, pending, ended_record, tagged_record}
use Rattle.rules.specs.Begin.{sent_gets, kept_asking}
use Rattle.rules.specs.Reply.{said, on_keys, got_value, on_got}
use Rattle.reply_parts.specs.Settled.{Settled, is-pending}
use Rattle.read_replies.specs.Ready.{row_shown}

-- s is what `settle` left, b whether a link is pending then
module _ (q i : ℕ) (t : Tables) {step : ℕ} {counts links : List ℕ} (s : Settled t.counts t.links q i step counts links) where
  module _ {b : Bool} (p : b ≡ pending links q) where
    -- state 4; setpoint and badge are put, mask, place and tag are what was read before
    module _ (w : Contents) {clients : List ℕ} (g : clients ≡ got_value w q i t) where
      pub got-waits : b ≡ true →
          said Wait (tables_of counts clients links t.keys t.values t.log t.writes t.reads) ≡ on_got w q i t
      unfolding on_got
      got-waits e = rw (is-pending q i t s p e, g, s.counted', s.emptied)

      -- the state is no part of what is shown
      pub got-ends : {clients' reads : List ℕ} {place tag : ℕ} → b ≡ false → place ≡ record_of t q → tag ≡ tag_of t q →
          clients' ≡ put_client_word clients q state_field idle → reads ≡ ended_record place step (tagged_record place tag t.reads) →
          arrived (row_shown (tag_of t q) clients' q (mask_of t q))
          (tables_of counts clients' links t.keys t.values t.log t.writes reads)
          ≡ on_got w q i t
      unfolding on_got
      got-ends e p' a c r =
          let row = got_value w q i t in
          rw (
            is-pending q i t s p e,
            c,
            r,
            g,
            p',
            a,
            shown_other setpoints_field row q state_field idle (mask_of t q) (omega arith) (omega arith),
            shown_other tags_field row q state_field idle (mask_of t q) (omega arith) (omega arith),
            shown_other badges_field row q state_field idle (mask_of t q) (omega arith) (omega arith),
            s.stepped,
            s.counted',
            s.emptied,
          )

  -- state 3
  pub keys-ask : (w : Contents) {clients links' : List ℕ} {mask k : ℕ} → mask ≡ mask_of t q → k ≡ servers_of t →
      clients
      ≡ kept_asking q mask t.log (w.number - 1) k
      (put_client_word (put_client_word t.clients q tag_field (w.number - 1)) q state_field asking_setpoints) →
      links' ≡ sent_gets q mask t.log (w.number - 1) k links →
      said Next (tables_of counts clients links' t.keys t.values t.log t.writes t.reads) ≡ on_keys w q i t
  unfolding on_keys
  keys-ask w m k c l = rw (c, l, m, k, s.counted', s.emptied)
