-- The delivery of a request keeps sound tables sound: first what it appends, if anything, then the reply that takes the request's place.
use Rattle.std.specs.Prelude.{ℕ, ◌+◌, ◌≤◌, ◌≡◌, set, leb, ltb}
use Rattle.std.proofs.Math.Path.{refl}
use Rattle.std.proofs.Common.{subst}
use Rattle.std.proofs.Math.Bool.{true}
use native.Mathlib.Omega.{arith}
use borrow.Author.Tests.{ltb-true, lt-ltb, le-leb, eqb-true}
use Rattle.ranges.specs.Tests.{by-test, by_equal, both, both_left, both_right}
use Rattle.ranges.specs.FirstLaws.{first_found}
use Rattle.keys.specs.Keys.{key_word}
use Rattle.keys.specs.KeyLaws.{key_back}
use Rattle.keys.specs.Masks.{mask_within}
use Rattle.keys.specs.MaskLaws.{within-true}
use Rattle.tables.specs.Layout.{version_badge, version_setpoint, entries_field, server_places, log_places, entry_word, put_entry}
use Rattle.tables.specs.Tables.{Tables, servers_of, clients_of, entries_of, held_of, state_of, mask_of, content_at}
use Rattle.tables.specs.declared.links.Contents.{Contents}
use Rattle.tables.specs.declared.links.Content.{Content}
use Rattle.tables.specs.declared.links.Content.TheVariants.{Nothing, Request, Reply, Lost}
use Rattle.server.specs.Held.{stored, appended, first_bearing, holds}
use Rattle.coordinator.specs.Log.{entered, enter_left, entry_bears, first_entry, has_key}
use Rattle.rules.specs.Common.{writing, entering, asking_keys, asking_setpoints, asking_all}
use Rattle.rules.specs.Request.{answered, stored_by, entered_by, on_set, on_new_set, on_enter, on_new_enter, on_which_keys, on_get, on_get_all}
use Rattle.rules.specs.Request.{on_request_in, on_request, request_delivered}
use Rattle.soundness.specs.Sound.{uses, reply_sound, holding, key_on, own_key, key_in_range}
use Rattle.soundness.specs.Facts.{facts-between, ClientFacts, Sound}
use Rattle.keeping.specs.Accepted.{Deliverable, target_below, holding-some}
use Rattle.keeping.specs.Links.{kind_on, number_on, badge_on, contents_on, LinkAsks, request-kind, request-words, link-asks}
use Rattle.keeping.specs.States.{by_state, keys-target, masked-server, holding-log, own_key_lem, own_in_range, uses-writing}
use Rattle.keeping.specs.States.{request-writing, request-entering, reply-writing, reply-entering, reply-keys, reply_setpoints}
use Rattle.keeping.specs.States.{reply-all, uses_setpoints, badge-carried, carried-badge}
use Rattle.keeping.specs.Frame.{Kept, kept_same}
use Rattle.keeping.specs.Appends.{stored_step, entered_step, entry_more}

-- The delivery, by the state of the client. The request's words are those of the link.
module _ (q i : ℕ) (t : Tables) (s : Sound t) (d : Deliverable q i t) (asked : kind_on t q i ≡ 1) where
  abbrev pub w : Contents
  w = contents_on t q i

  c : ClientFacts t q
  c = s.client q d.client

  pub asks : LinkAsks t q i
  asks = link-asks t q i (c.link i (target_below t s i d.target))

  pub used : uses (state_of t q) (mask_of t q) i ≡ true
  used = asks.used (λ e. omega arith)

  -- the key of a WRITE's request is the client's own
  own_back : own_key q (key_on t q i) ≡ true → key_word w.key ≡ key_on t q i
  own_back o = let b = (own_key_lem (clients_of t) q (key_on t q i) o).0.most in key_back (key_on t q i) (omega arith)

  pub own : own_key q (key_on t q i) ≡ true → key_in_range (clients_of t) (key_word w.key) ≡ true
  own o = rw (own_back o) (own_in_range (clients_of t) q (key_on t q i) d.client o)

  -- an enter request: the client's own key, and its mask
  pub entering_key : state_of t q ≡ entering → own_key q (key_on t q i) ≡ true
  entering_key e =
      both_left (own_key q (key_on t q i)) (mask_within (number_on t q i) (servers_of t)) (rw (e, request-entering) at (asks.request asked))

  -- "a head that has it answers its first tag": not 0, where the opening's key stands
  pub first-tag : state_of t q ≡ entering → has_key t.log w.key (entries_of t) ≡ true → 1 ≤ first_entry t.log w.key (entries_of t)
  first-tag e b =
      let o = entering_key e in
      let key = (own_key_lem (clients_of t) q (key_on t q i) o).0.least in
      let tag = first_entry t.log w.key (entries_of t) in
      by_equal tag 0
      (λ z.
      let found = (first_found (entry_bears t.log w.key) (entries_of t)).here (ltb-true _ _ b) in
      let opens : entry_word t.log 0 ≡ key_word w.key = eqb-true _ _ (rw z at found) in
      omega (arith, own_back o, s.log.firstkey))
      (λ z. omega arith)
