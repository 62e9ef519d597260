-- C: what a client that asks all was told, with the reply that arrives now. Each n is at most what is held. Where no link holds anything any
-- more, every target in use has answered: so the tag chosen qualifies, and the version chosen of each masked server is one that it holds.
use Rattle.std.specs.Prelude.{ℕ, ◌+◌, ◌≤◌, ◌<◌, ◌≡◌, refl, true, false, ◌&&◌, List, eqb}
use Rattle.std.proofs.Common.{sym, ◌∙◌, arith, lt-ltb, ltb-true, eq-eqb}
use Rattle.std.proofs.Math.Bool.{or-true}
use Rattle.ranges.specs.Tests.{by-test, by_equal, not-both, both}
use Rattle.ranges.specs.AllLaws.{any_at, all_at, all_of}
use Rattle.ranges.specs.FirstLaws.{first_below_lem}
use Rattle.ranges.specs.LastLaws.{last-below, last_passes}
use Rattle.keys.specs.Masks.{has_server}
use Rattle.tables.specs.Rows.{word_same, word_other}
use Rattle.tables.specs.Layout.{client_width, received_field}
use Rattle.tables.specs.Links.{targets, is_empty, link_at, put_link}
use Rattle.tables.specs.LinkLaws.{link_other}
use Rattle.tables.specs.Tables.{Tables, servers_of, clients_of, entries_of, held_of, state_of, mask_of, received_of, content_at}
use Rattle.tables.specs.declared.links.Content.TheVariants.{Nothing}
use Rattle.coordinator.specs.Latest.{latest_tag, latest_key}
use Rattle.coordinator.specs.LatestLaws.{latest-within}
use Rattle.server.specs.Held.{first_bearing, bears}
use Rattle.rules.specs.Common.{asking_all, coordinator, filled, pending}
use Rattle.rules.specs.Choice.{serves, qualifies, chosen_place}
use Rattle.rules.specs.Reply.{received_in, put_received, tag_chosen}
use Rattle.soundness.specs.Sound.{uses, holding}
use Rattle.soundness.specs.Facts.{Sound, Between}
use Rattle.soundness.specs.Room.{server-fits, client-row}
use Rattle.keeping.specs.States.{uses-all, holding-server, arrived, received_none, received-some}

module _ (t : Tables) (s : Sound t) where
  -- the opening's version is the first of each server, and its key is the server's at tag 0
  opening_key : (i : ℕ) → i < servers_of t → bears t.keys i (latest_key t.log i 0) 0 ≡ true
  opening_key i l =
      let z : latest_tag t.log i 0 ≡ 0 = omega (arith, latest-within t.log i 0) in
      rw (z, s.log.firstkey, (s.server i l).first)

  module _ (q i number : ℕ) (client : q < clients_of t) (target : i < targets) (state : state_of t q ≡ asking_all)
      (between : Between 1 number (holding t i)) where
    abbrev told : List ℕ
    told = put_received t.clients q i number

    pub told_here : received_in told q i ≡ number
    told_here = word_same client_width t.clients q (received_field + i) number (client-row t s q client) (omega arith)

    pub told_other : (j : ℕ) → j < targets → (j ≡ i → ⊥) → received_in told q j ≡ received_of t q j
    told_other j l n =
        word_other client_width t.clients q (received_field + i) number q (received_field + j) (omega arith) (omega arith)
        (λ y. n (omega (arith, y.1)))

    received-most : (j : ℕ) → j < targets → received_of t q j ≤ holding t j
    received-most j l =
        let r = (s.client q client).received j l in
        by-test (arrived t q j) (λ b. (received-some t q j b r).most) (λ b. omega (arith, received_none t q j b r))

    pub told-most : (j : ℕ) → j < targets → received_in told q j ≤ holding t j
    told-most j l = by_equal j i (λ y. rw (y, told_here) between.most) (λ y. rw (told_other j l y) (received-most j l))

    pub told_held : (j : ℕ) → j < servers_of t → received_in told q j ≤ held_of t j
    told_held j l =
        let f = server-fits t s j l in
        rw (holding-server t j (λ y. omega arith)) at (told-most j (omega arith))

    module _ (none : pending (put_link t.links q i Nothing) q ≡ false) where
      -- each target in use has answered
      pub told-some : (j : ℕ) → j < targets → uses (state_of t q) (mask_of t q) j ≡ true → 0 < received_in told q j
      told-some j l u =
          by_equal j i (λ y. rw (y, told_here) between.least)
          (λ y.
          let same : link_at (put_link t.links q i Nothing) q j ≡ link_at t.links q j =
          link_other t.links q i Nothing q j target l (λ x. y x.1) in
          let free : is_empty (content_at t q j) ≡ true =
          by-test (is_empty (content_at t q j)) (λ b. b)
          (λ b. absurd (not-both (any_at (filled (put_link t.links q i Nothing) q) targets j l (rw (same, b))) none)) in
          let in' : arrived t q j ≡ true =
          both (eqb (state_of t q) asking_all) (uses (state_of t q) (mask_of t q) j && is_empty (content_at t q j)) (eq-eqb _ _ state)
          (both (uses (state_of t q) (mask_of t q) j) (is_empty (content_at t q j)) u free) in
          rw (told_other j l y) (received-some t q j in' ((s.client q client).received j l)).least)

      -- the log, in whole or in part
      pub log-told : Between 1 (received_in told q coordinator) (entries_of t)
      log-told =
          let u : uses (state_of t q) (mask_of t q) coordinator ≡ true =
          rw (state, uses-all (mask_of t q) coordinator) (or-true (has_server (mask_of t q) coordinator)) in
          record { least = told-some coordinator (omega arith) u; most = told-most coordinator (omega arith) }

      -- tag 0 qualifies: each masked server has sent its first version at least
      pub opening-qualifies : qualifies t.keys t.log (mask_of t q) (received_in told q) (servers_of t) 0 ≡ true
      opening-qualifies =
          all_of (serves t.keys t.log (mask_of t q) (received_in told q) 0) (servers_of t)
          (λ j l. by-test (has_server (mask_of t q) j)
          (λ b.
          let u : uses (state_of t q) (mask_of t q) j ≡ true = rw (state, uses-all (mask_of t q) j, b) in
          rw b (lt-ltb (first_bearing t.keys j (latest_key t.log j 0) (received_in told q j)) (received_in told q j)
          (first_below_lem (bears t.keys j (latest_key t.log j 0)) (received_in told q j) 0
          (told-some j (omega (arith, server-fits t s j l)) u) (opening_key j l))))
          (λ b. rw b))

      abbrev chosen : ℕ
      chosen = tag_chosen told q t

      pub chosen-within : chosen < entries_of t
      chosen-within =
          let n = received_in told q coordinator in
          let below : chosen < n =
          last-below (qualifies t.keys t.log (mask_of t q) (received_in told q) (servers_of t)) n log-told.least in
          omega (arith, log-told.most)

      -- the version of a masked server at the tag chosen is held
      pub chosen_held : (j : ℕ) → j < servers_of t → has_server (mask_of t q) j ≡ true →
          chosen_place t.keys t.log (received_in told q) chosen j < held_of t j
      chosen_held j l m =
          let all =
          last_passes (qualifies t.keys t.log (mask_of t q) (received_in told q) (servers_of t)) (received_in told q coordinator) 0
          log-told.least opening-qualifies in
          let one : serves t.keys t.log (mask_of t q) (received_in told q) chosen j ≡ true =
          all_at (serves t.keys t.log (mask_of t q) (received_in told q) chosen) (servers_of t) all j l in
          let found = ltb-true (chosen_place t.keys t.log (received_in told q) chosen j) (received_in told q j) (rw m at one) in
          omega (arith, found, told_held j l)
