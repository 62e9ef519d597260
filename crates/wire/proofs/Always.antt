-- Of specs/Always: what cites a theorem there that a changed definition can make fail.
use Rattle.std.specs.Prelude.{ℕ, ◌-◌, ◌/◌, ◌%◌, ◌^◌, ◌≤◌, ◌<◌, ◌≡◌, true, ◌&&◌, List, [], ltb, get_or}
use Rattle.std.proofs.Math.Path.{refl}
use Rattle.std.proofs.Common.{subst, arith, lt_of_lt_of_le, pow_mono, ltb-true, eq-eqb, ne_eqb}
use Rattle.ranges.specs.Tests.{by_equal, both_left, both_right}
use Rattle.keys.specs.Keys.{key_at_word}
use Rattle.keys.specs.KeyLaws.{key_back}
use Rattle.keys.specs.Masks.{Within}
use Rattle.tables.specs.Rows.{word_at}
use Rattle.tables.specs.Layout.{entry_width, entry_mask, version_word, version_badge, version_setpoint}
use Rattle.tables.specs.Tables.{Tables, servers_of, clients_of, entries_of, held_of, state_of, mask_of, content_at}
use Rattle.tables.specs.declared.links.Contents.{Contents}
use Rattle.tables.specs.declared.links.Content.{Content}
use Rattle.tables.specs.declared.links.Content.TheVariants.{Nothing, Request, Reply, Lost}
use Rattle.coordinator.specs.Latest.{latest_tag, latest_word, latest_tag_at}
use Rattle.coordinator.specs.LatestLaws.{latest-within}
use Rattle.rules.specs.Common.{coordinator}
use Rattle.soundness.specs.Sound.{between, key_in_range, key_on}
use Rattle.soundness.specs.Facts.{Between, between_facts, EntryFacts, Sound}
use Rattle.keeping.specs.Links.{kind_on, number_on, badge_on, contents_on, request-kind, request-words, reply-kind, reply-words}
use Rattle.keeping.specs.States.{by_state, range-below}
use Rattle.ranges.specs.Laid.{built}
use Rattle.ranges.specs.LaidLaws.{built-length, built_at}
use Rattle.frames.specs.Frames.{writable}
use Rattle.wire.specs.OnLink.{OnLink, empty, carries, alone, request_in, keys_reply, all_reply, log_reply, reply_in, on_link_by, on_link}
use Rattle.wire.specs.Known.{Present, few_servers, client-fits, is-server, asks, used, writing-server, setpoints-server, set_key}
use Rattle.wire.specs.Known.{set-badge, enter_key, enter-mask, get_key, entered-tag, keys_held, got-badge, log_held, all_held}
use Rattle.wire.specs.Writable.{KeyFits, WordFits, set-writable, set_done-writable, enter-writable, entered-writable, which-keys-writable, keys-writable, get-writable, got-writable, get-all-writable, all-writable, get-log-writable, log-writable}
use Rattle.wire.specs.Always.{CanBeWritten, Words, all_can, badge, keys_can, log_can, not-empty, number, q-fits, request_can}

module _ (t : Tables) (s : Sound t) (words : Words t.links t.values) (q i : ℕ) (a : Present q i t) where
  module _ (came : kind_on t q i ≡ 2) where
    reply_can : CanBeWritten (reply_in (state_of t q) (contents_on t q i) q i t)
    unfolding reply_in
    reply_can =
        by_state (mask_of t q) i (state_of t q) (used t s q i a (not-empty t s words q i a came))
        (λ e. rw e (set_done-writable q (q-fits t s words q i a) i (writing-server t s q i a (not-empty t s words q i a came) e)))
        (λ e. let g = entered-tag t s q i a came e in rw e (entered-writable q (q-fits t s words q i a) (number t s words q i a) g.0 (omega (arith, g.1, s.scalars.entries.most))))
        (λ e. rw e (keys_can t s q a.client (number t s words q i a) (keys_held t s q i a came e)))
        (λ e.
        rw e
        (got-writable q (q-fits t s words q i a) i (setpoints-server t s q i a (not-empty t s words q i a came) e) (badge t s words q i a) (number t s words q i a) (got-badge t s q i a came e) (words.link _)))
        (λ e.
        rw e
        (by_equal i coordinator
        (λ c. rw (eq-eqb i coordinator c) (log_can t s q a.client (number t s words q i a) (log_held t s q i a came e c)))
        (λ d. rw (ne_eqb i coordinator d) (all_can t s q a.client words.value i (is-server t s q i a d) (number t s words q i a) (all_held t s q i a came e d)))))

  by_content : (c : Content) → content_at t q i ≡ c → CanBeWritten (on_link_by c q i t)
  by_content Nothing e = tt
  by_content Lost e = tt
  by_content (Request w) e =
      let k = (asks t s q i a).kind in
      subst (λ (w : Contents). CanBeWritten (alone (request_in (state_of t q) w q i))) (request-words t.links q i w k e) (request_can t s words q i a (request-kind t.links q i w k e))
  by_content (Reply w) e =
      let k = (asks t s q i a).kind in
      subst (λ (w : Contents). CanBeWritten (reply_in (state_of t q) w q i t)) (reply-words t.links q i w k e)
      (reply_can (reply-kind t.links q i w k e))

  -- what a link of sound tables holds can be written
  pub always-writable : CanBeWritten (on_link q i t)
  unfolding on_link
  always-writable = by_content (content_at t q i) refl
