-- The delivery of a reply keeps the tie and pays what it owes.
use Prim.Native.Nat.{ℕ, suc, ◌+◌, ◌-◌, ◌*◌, ◌≤◌, ◌<◌}
use mathlib.Core.Path.{◌≡◌, refl, sym, ap, ◌∙◌}
use mathlib.Core.Bool.{Bool, true, false}
use mathlib.Core.Option.{some, some-injective}
use mathlib.Core.List.{List}
use native.Mathlib.Omega.{arith}
use lib.ListN.{get_or}
use borrow.Author.Tests.{lt-ltb, ltb-true}
use Rattle.ranges.specs.Tests.{by-test, not-both}
use Rattle.ranges.specs.AllLaws.{all_of, all_at}
use Rattle.ranges.specs.LastLaws.{last-below, last_passes, last-most}
use Rattle.keys.specs.Keys.{key_of, key_at_word}
use Rattle.keys.specs.Masks.{has_server, servers_in}
use Rattle.coordinator.specs.Latest.{latest_tag, latest_key, latest_word}
use Rattle.tables.specs.Layout.{state_field, count_field, mask_field, tag_field, setpoints_field, received_field, tags_field, badges_field}
use Rattle.tables.specs.Layout.{asked_field}
use Rattle.tables.specs.Links.{targets}
use Rattle.tables.specs.declared.links.Contents.{Contents}
use Rattle.tables.specs.declared.links.Content.{Content}
use Rattle.tables.specs.declared.links.Content.TheVariants.{Nothing, Request, Reply, Lost}
use Rattle.rules.specs.Answers.{nothing_shown}
use Rattle.rules.specs.Common.{idle, entering, asking_setpoints, asking_all, coordinator, request}
use Rattle.rules.specs.Common as rules
use Rattle.rules.specs.Choice.{has_version, serves, qualifies, chosen_tag, chosen_place, chosen_setpoint, chosen_badge}
use Rattle.rules.specs.declared.Arrival.TheVariants as arrival
use Rattle.claim.specs.Steps.{replied}
use Rattle.claim.specs.History.{Value, changed, nothing, writing, History, ended}
use Rattle.serial.proofs.Places.{changed-same, changed_other, changed-all, changed-both}
use Rattle.serial.proofs.Owed.{value_at}
use Rattle.serial.proofs.HistoryKept.{value-ended}
use Rattle.claim.specs.Fields.{value_same}
use Rattle.serial.proofs.Versions.{Version, version_at, sent_of, found-place, place_found, found-more}
use Rattle.serial.proofs.Entries.{asked_key}
use Rattle.serial.proofs.Press.{Shared, renumbered, Client, client_of, Press, press_of, state_in, count_in, mask_in, tag_in, setpoint_in}
use Rattle.serial.proofs.Press.{badge_in, kept_tag_in, received_in, asked_in, weight, is_reply, to_come, sends, World, world_of, kept_at}
use Rattle.serial.proofs.Press.{carried, stored_in, world}
use Rattle.serial.proofs.Links.{come-changed, come-none, all-empty, no-coordinator, sends_masked, sends_other, sends_come}
use Rattle.serial.proofs.Invariant.{Holds, WriteLink, Writing, to-enter, HasTag, Entering, AskingKeys, GetLink, Getting, Snapshot}
use Rattle.serial.proofs.Invariant.{AllLink, AskingAll, at_rest, at-writing, at-entering, at-getting, at_all, ClientOk, Tied, Grown}
use Rattle.serial.proofs.Invariant.{client-frame}
use Rattle.serial.proofs.Kept.{Kept, Marks, link_marks, last_marks, marked-links, turned-tied, moved-tied}
use Rattle.serial.proofs.Requests.{with_link}

module _ (floor : ℕ → ℕ) (p : Press) (h : History) (tied : Tied floor p h) (few : p.shared.servers ≤ 16) (q : ℕ) (hq : q < 16) (step writes reads : ℕ) where
  abbrev x : World
  x = world p h

  abbrev c : Client
  c = p.client q

  abbrev s : Shared
  s = p.shared

  okay : ClientOk h.extra x (floor q) q c (h.doing q)
  okay = tied.clients q hq

  abbrev afterwards : Client → Press
  afterwards d = press_of (renumbered step writes reads s) (changed p.client q d)

  -- The link holds nothing now.
  module _ (i : ℕ) (hi : i < targets) (w : Contents) (lk : c.link i ≡ Reply w) where
    abbrev emptied : ℕ → Content
    emptied = changed c.link i Nothing

    marks : Marks c.link i false emptied
    marks = link_marks c.link i Nothing

    come : to_come emptied + 1 ≡ to_come c.link
    come = omega (arith, come-changed c.link i Nothing hi, ap weight lk)

    -- A server acknowledged.
    module _ (a : Writing h.extra x (floor q) q c (h.doing q)) where
      done-link : (j : ℕ) → j < targets → WriteLink x q c a.badge a.setpoints j (emptied j)
      done-link j l =
          changed-all c.link i Nothing (λ j k. j < targets → WriteLink x q c a.badge a.setpoints j k)
          (λ m k.
          let e : (i < x.servers) × Holds x i (key_of (count_in c) q) (sent_of a.badge a.setpoints i) = rw lk at (a.links i hi) in
          e.1)
          (λ j ne m. a.links j m) j l

      pub done-wait-kept : state_in c ≡ rules.writing → Kept floor h (replied q i (nothing_shown arrival.Wait)) (afterwards (with_link c i Nothing))
      done-wait-kept state = (
        rw a.is tt,
        rw a.is (moved-tied floor p h tied q hq (with_link c i Nothing) step writes reads i false marks (record {
          latest = okay.latest;
          entered = okay.entered;
          activity =
              at-writing state (record {
                badge = a.badge;
                setpoints = a.setpoints;
                begin = a.begin;
                is = a.is;
                few = a.few;
                bound = a.bound;
                badge-kept = a.badge-kept;
                setpoints-kept = a.setpoints-kept;
                new = a.new;
                links = done-link;
              });
        })),
      )

      -- the last one: key and mask go to the coordinator, and every server of the mask holds the key
      pub done-next-kept : to_come emptied ≡ 0 → (row : ℕ → ℕ) → row state_field ≡ entering → row count_field ≡ count_in c → row mask_field ≡ mask_in c →
          Kept floor h (replied q i (nothing_shown arrival.Next)) (afterwards (client_of row (changed emptied coordinator (request (key_of (count_in c) q) (mask_in c)))))
      done-next-kept all row state count mask =
          let enter = request (key_of (count_in c) q) (mask_in c) in (
            rw a.is tt,
            rw a.is (moved-tied floor p h tied q hq (client_of row (changed emptied coordinator enter)) step writes reads i false
                (last_marks c.link i (changed emptied coordinator enter) (all-empty emptied all) sent) (record {
                  latest = λ j n v e. omega (arith, okay.latest j n v e, count);
                  entered = λ n tag e. omega (arith, okay.entered n tag e, count);
                  activity = at-entering state (record {
                    others = λ j l. changed_other emptied coordinator enter j (λ e. omega arith) ∙ all-empty emptied all j (omega arith);
                    entry = rw (changed-same emptied coordinator enter) (
                      rw count,
                      rw mask,
                      to-enter (record {
                        badge = a.badge;
                        setpoints = a.setpoints;
                        begin = a.begin;
                        is = rw mask a.is;
                        few = rw count a.few;
                        bound = λ j m. a.bound j (rw mask at m);
                        new = rw count a.new;
                        all = λ j m. rw count (here j (rw mask at m));
                      }),
                    );
                  });
                })),
          )
        where
          sent : (j : ℕ) → j < targets → is_reply (changed emptied coordinator (request (key_of (count_in c) q) (mask_in c)) j) ≡ false
          sent = changed-all emptied coordinator (request (key_of (count_in c) q) (mask_in c)) (λ j l. j < targets → is_reply l ≡ false)
              (λ m. refl) (λ j ne m. ap is_reply (all-empty emptied all j m))

          here : (j : ℕ) → has_server (mask_in c) j ≡ true → Holds x j (key_of (count_in c) q) (sent_of a.badge a.setpoints j)
          here j m =
              let l : j < targets = omega (arith, a.bound j m) in
              let e : WriteLink x q c a.badge a.setpoints j Nothing = rw (all-empty emptied all j l) at (done-link j l) in
              e m

    -- A server's setpoint arrived.
    module _ (a : Getting h.extra x (floor q) q c (h.doing q)) (row : ℕ → ℕ) (count : row count_field ≡ count_in c) (mask : row mask_field ≡ mask_in c) (tag : row tag_field ≡ tag_in c)
        (new : row (setpoints_field + i) ≡ w.number) (old : (j : ℕ) → j < 16 → (j ≡ i → ⊥) → row (setpoints_field + j) ≡ setpoint_in c j)
        (badge : row (badges_field + i) ≡ w.badge) (badges : (j : ℕ) → j < 16 → (j ≡ i → ⊥) → row (badges_field + j) ≡ badge_in c j)
        (tags : (j : ℕ) → j < 16 → row (tags_field + j) ≡ kept_tag_in c j)
        (asked : (j : ℕ) → j < 16 → row (asked_field + j) ≡ asked_in c j) where
      abbrev got : Client
      got = client_of row emptied

      below : (j : ℕ) → has_server (mask_in c) j ≡ true → j < 16
      below j m = omega (arith, a.bound j m, few)

      same-get : (j : ℕ) → (j ≡ i → ⊥) → (l : Content) → GetLink x c j l → GetLink x got j l
      same-get j ne Nothing k = λ m. let n = rw mask at m in let l = below j n in rw (old j l ne, badges j l ne, tag) (k n)
      same-get j ne (Request v) k = (rw mask k.0, k.1 ∙ ap key_at_word (sym (asked j (below j k.0))))
      same-get j ne (Reply v) k = (rw mask k.0, rw tag k.1)
      same-get j ne Lost k = rw mask k

      got-link : (j : ℕ) → j < targets → GetLink x got j (emptied j)
      got-link j l =
          changed-all c.link i Nothing (λ j k. j < targets → GetLink x got j k)
          (λ k m.
          let e : (has_server (mask_in c) i ≡ true) × (carried w ≡ kept_at x (tag_in c) i) = rw lk at (a.links i hi) in
          rw (new, badge, tag) e.1)
          (λ j ne k. same-get j ne (c.link j) (a.links j k)) j l

      pub got-wait-kept : 0 < to_come emptied → row state_field ≡ asking_setpoints → Kept floor h (replied q i (nothing_shown arrival.Wait)) (afterwards got)
      got-wait-kept left state = (
        rw a.is (omega (arith, a.count, come)),
        rw a.is (turned-tied floor p h tied q hq got step writes reads i false marks _ (record {
          latest = λ j n v e. omega (arith, okay.latest j n v e, count);
          entered = λ n u e. omega (arith, okay.entered n u e, count);
          activity = at-getting state (record {
            begin = a.begin;
            deliveries = suc a.deliveries;
            losses = a.losses;
            is = rw mask;
            low = rw tag a.low;
            high = rw tag a.high;
            bound = λ j m. a.bound j (rw mask at m);
            count = rw mask (omega (arith, a.count, come));
            busy = left;
            tags = λ j m. let n = rw mask at m in rw tag (tags j (below j n) ∙ a.tags j n);
            asked = λ j m. let n = rw mask at m in rw (asked j (below j n), tag) (a.asked j n);
            links = got-link;
          });
        })),
      )

      -- the last one ends the READ
      pub got-end-kept : to_come emptied ≡ 0 → row state_field ≡ idle →
          (shown : List ℕ) → ((j : ℕ) → has_server (mask_in c) j ≡ true → get_or shown j 0 ≡ row (setpoints_field + j)) →
          (from : List ℕ) → ((j : ℕ) → has_server (mask_in c) j ≡ true → get_or from j 0 ≡ row (tags_field + j)) →
          (hands : List ℕ) → ((j : ℕ) → has_server (mask_in c) j ≡ true → get_or hands j 0 ≡ row (badges_field + j)) →
          Kept floor h (replied q i (record { arrival = arrival.Read (tag_in c); setpoints = shown; tags = from; badges = hands }))
          (afterwards got)
      got-end-kept all state shown shows from comes hands by = (
        record {
          mask = mask_in c;
          begin = a.begin;
          deliveries = a.deliveries;
          losses = a.losses;
          is = a.is;
          low = a.low;
          high = a.high;
          shows = λ j m.
              let v = here j m in
              value_same (shows j m ∙ ap (λ (u : Version). u.setpoint) v) (comes j m ∙ tags j (below j m) ∙ a.tags j m) (by j m ∙ ap (λ (u : Version). u.badge) v);
          count = omega (arith, a.count, come);
        },
        rw a.is (
            let t = turned-tied floor p h tied q hq got step writes reads i false marks nothing (record {
              latest = λ j n v e. omega (arith, okay.latest j n v e, count);
              entered = λ n u e. omega (arith, okay.entered n u e, count);
              activity = at_rest state (record { is = refl; links = all-empty emptied all });
            }) in
            record {
              method = t.method;
              entries = t.entries;
              room = t.room;
              value = t.value;
              tags = t.tags;
              clients = t.clients;
              answered = t.answered;
            }
            ),
      )
        where
          here : (j : ℕ) → has_server (mask_in c) j ≡ true → stored_in got j ≡ kept_at x (tag_in c) j
          here j m =
              let l : j < targets = omega (arith, a.bound j m) in
              let e : GetLink x got j Nothing = rw (all-empty emptied all j l) at (got-link j l) in
              rw tag at (e (rw mask m))

    -- C: a server or the coordinator told how much it holds.
    module _ (a : AskingAll h.extra x (floor q) q c (h.doing q)) (row : ℕ → ℕ) (mask : row mask_field ≡ mask_in c)
        (new : row (received_field + i) ≡ w.number) (old : (j : ℕ) → (j ≡ i → ⊥) → row (received_field + j) ≡ received_in c j) where
      abbrev told : Client
      told = client_of row emptied

      same-all : (j : ℕ) → (j ≡ i → ⊥) → (l : Content) → AllLink x (floor q) c j l → AllLink x (floor q) told j l
      same-all j ne Nothing k = rw (old j ne) (k.0, λ m. k.1 (rw mask at m))
      same-all j ne (Request v) k = tt
      same-all j ne (Reply v) k = (k.0, λ m. k.1 (rw mask at m))
      same-all j ne Lost k = tt

      told-link : (j : ℕ) → j < targets → AllLink x (floor q) told j (emptied j)
      told-link j l =
          changed-all c.link i Nothing (λ j k. j < targets → AllLink x (floor q) told j k)
          (λ k. let e : Snapshot x (floor q) c i w.number = rw lk at (a.links i hi) in rw new (e.0, λ m. e.1 (rw mask at m)))
          (λ j ne k. same-all j ne (c.link j) (a.links j k)) j l

      pub told-wait-kept : 0 < to_come emptied → row state_field ≡ asking_all → row count_field ≡ count_in c → Kept floor h (replied q i (nothing_shown arrival.Wait)) (afterwards told)
      told-wait-kept left state count = (
        rw a.is (omega (arith, a.count, come)),
        rw a.is (turned-tied floor p h tied q hq told step writes reads i false marks _ (record {
          latest = λ j n v e. omega (arith, okay.latest j n v e, count);
          entered = λ n u e. omega (arith, okay.entered n u e, count);
          activity = at_all state (record {
            begin = a.begin;
            deliveries = suc a.deliveries;
            losses = a.losses;
            is = rw mask;
            two = a.two;
            low = a.low;
            bound = λ j m. a.bound j (rw mask at m);
            count = rw mask (omega (arith, a.count, come));
            busy = left;
            links = told-link;
          });
        })),
      )

      -- All replies are in: the chosen tag lies at or behind the floor, within the log, and each server's setpoint at it is the value behind it.
      module _ (all : to_come emptied ≡ 0) (received : ℕ → ℕ) (same : (j : ℕ) → j < targets → received j ≡ row (received_field + j)) where
        snapshot : (j : ℕ) → j < targets → Snapshot x (floor q) c j (received j)
        snapshot j l =
            let e : AllLink x (floor q) told j Nothing = rw (all-empty emptied all j l) at (told-link j l) in
            rw (same j l) (e.0, λ m. e.1 (rw mask m))

        abbrev tag : ℕ
        tag = chosen_tag s.keys s.log (mask_in c) received s.servers (received coordinator)

        abbrev fits : ℕ → Bool
        fits t = qualifies s.keys s.log (mask_in c) received s.servers t

        entries : (floor q < received coordinator) × (received coordinator ≤ suc h.tags)
        entries = (snapshot coordinator (omega arith)).0 refl

        floor-fits : fits (floor q) ≡ true
        floor-fits =
            all_of (serves s.keys s.log (mask_in c) received (floor q)) s.servers (λ j l.
            by-test (has_server (mask_in c) j)
            (λ e. rw e (lt-ltb _ _ (found-place s.keys s.values j (x.key (floor q) j) (received j) _ ((snapshot j (omega arith)).1 e).1).0))
            (λ e. rw e))

        tag_fits : fits tag ≡ true
        tag_fits = last_passes fits (received coordinator) (floor q) entries.0 floor-fits

        low : floor q ≤ tag
        low = last-most fits (received coordinator) (floor q) entries.0 floor-fits

        high : tag ≤ h.tags
        high = omega (arith, last-below fits (received coordinator) (omega (arith, entries.0)), entries.1)

        pub chosen-value : (j : ℕ) → has_server (mask_in c) j ≡ true →
            version_at s.values j (chosen_place s.keys s.log received tag j) ≡ kept_at x tag j
        chosen-value j m =
            let l : j < s.servers = a.bound j m in
            let v = version_at s.values j (chosen_place s.keys s.log received tag j) in
            let has : has_version s.keys s.log received tag j ≡ true
            = rw m at (all_at (serves s.keys s.log (mask_in c) received tag) s.servers tag_fits j l) in
            let found = found-more s.keys s.values j (x.key tag j) (received j) (s.held j) v ((snapshot j (omega arith)).1 m).0 (place_found s.keys s.values j (x.key tag j) (received j) (ltb-true _ _ has)) in
            some-injective _ _ (sym found ∙ tied.value tag high j l)

        pub told-end-kept : (row' : ℕ → ℕ) → row' state_field ≡ idle → row' count_field ≡ count_in c → (shown : List ℕ) →
            ((j : ℕ) → has_server (mask_in c) j ≡ true → get_or shown j 0 ≡ chosen_setpoint s.keys s.values s.log received tag j) →
            (from : List ℕ) → ((j : ℕ) → has_server (mask_in c) j ≡ true → get_or from j 0 ≡ latest_tag s.log j tag) →
            (hands : List ℕ) →
            ((j : ℕ) → has_server (mask_in c) j ≡ true → get_or hands j 0 ≡ chosen_badge s.keys s.values s.log received tag j) →
            Kept floor h (replied q i (record { arrival = arrival.Read tag; setpoints = shown; tags = from; badges = hands }))
            (afterwards (client_of row' emptied))
        told-end-kept row' state count shown shows from comes hands by = (
          record {
            mask = mask_in c;
            begin = a.begin;
            deliveries = a.deliveries;
            losses = a.losses;
            is = a.is;
            low = low;
            high = high;
            shows = λ j m.
                let v = chosen-value j m in
                value_same (shows j m ∙ ap (λ (u : Version). u.setpoint) v) (comes j m ∙ tied.tags tag high j) (by j m ∙ ap (λ (u : Version). u.badge) v);
            count = omega (arith, a.count, come);
          },
          rw a.is (
              let t = turned-tied floor p h tied q hq (client_of row' emptied) step writes reads i false marks nothing (record {
                latest = λ j n v e. omega (arith, okay.latest j n v e, count);
                entered = λ n u e. omega (arith, okay.entered n u e, count);
                activity = at_rest state (record { is = refl; links = all-empty emptied all });
              }) in
              record {
                method = t.method;
                entries = t.entries;
                room = t.room;
                value = t.value;
                tags = t.tags;
                clients = t.clients;
                answered = t.answered;
              }
              ),
        )

  -- The coordinator's reply: nothing is on the other links.
  coordinator-empty : (j : ℕ) → j < targets → ((j : ℕ) → j < coordinator → c.link j ≡ Nothing) → changed c.link coordinator Nothing j ≡ Nothing
  coordinator-empty j l others = changed-all c.link coordinator Nothing (λ j k. j < targets → k ≡ Nothing) (λ m. refl) (λ j ne m. others j (omega arith)) j l

  -- The tag's arrival ends the WRITE. Its end is no part of the values.
  pub entered-kept : (w : Contents) → c.link coordinator ≡ Reply w → Entering h.extra x (floor q) q c (h.doing q) → (row : ℕ → ℕ) → row state_field ≡ idle → row count_field ≡ count_in c →
      Kept floor h (replied q coordinator (nothing_shown (arrival.Write w.number))) (afterwards (client_of row (changed c.link coordinator Nothing)))
  entered-kept w lk a row state count =
      let has : HasTag h.extra x (floor q) q c (h.doing q) w.number = rw lk at a.entry in
      let is = has.is in (
        is,
        rw is record {
          method = tied.method;
          entries = tied.entries;
          room = tied.room;
          value = λ tag l j k. rw (value-ended h.initial h.write w.number h.clock tag j) (tied.value tag l j k);
          tags = λ tag l j.
              tied.tags tag l j
              ∙ ap (λ (v : Value). v.tag) (sym (value-ended h.initial h.write w.number h.clock tag j));
          clients = changed-both (λ j b d. j < 16 → ClientOk h.extra y (floor j) j b d) p.client h.doing q new nothing
              (λ l. record {
                latest = λ j n v e. omega (arith, okay.latest j n v e, count);
                entered = λ n u e. omega (arith, okay.entered n u e, count);
                activity = at_rest state (record { is = refl; links = λ j k. coordinator-empty j k a.others });
              })
              (λ j ne l. client-frame h.extra (floor j) j x y (grown j) (p.client j) (h.doing j) (tied.clients j l));
          answered = marked-links floor p h tied q hq new coordinator false (link_marks c.link coordinator Nothing);
        },
      )
    where
      new : Client
      new = client_of row (changed c.link coordinator Nothing)

      y : World
      y = world_of s h.tags (value_at h.initial (changed h.write w.number (ended h.clock (h.write w.number))))

      grown : (j : ℕ) → Grown j x y
      grown j = record {
        servers = refl;
        tags = omega arith;
        value = λ tag l i. value-ended h.initial h.write w.number h.clock tag i;
        key = λ tag l i. refl;
        held = λ i. omega arith;
        fewer = λ i key n l. refl;
        more = λ i key v e. e;
        own = λ i n. refl;
        entry = λ n. refl;
      }

  -- B: the keys arrived, and each server of the mask is asked for its own at the tag.
  pub keys_kept : (w : Contents) → c.link coordinator ≡ Reply w → AskingKeys h.extra x (floor q) q c (h.doing q) →
      (row : ℕ → ℕ) → row state_field ≡ asking_setpoints → row count_field ≡ count_in c → row mask_field ≡ mask_in c → row tag_field ≡ w.number - 1 →
      ((j : ℕ) → has_server (mask_in c) j ≡ true → row (tags_field + j) ≡ latest_tag s.log j (w.number - 1)) →
      ((j : ℕ) → has_server (mask_in c) j ≡ true → row (asked_field + j) ≡ latest_word s.log (w.number - 1) j) →
      Kept floor h (replied q coordinator (nothing_shown arrival.Next)) (afterwards (client_of row (sends (mask_in c) (λ i. request (latest_key s.log i (w.number - 1)) 0))))
  keys_kept w lk a row state count mask tag tags asked =
      let keys : (floor q < w.number) × (w.number ≤ suc h.tags) = rw lk at a.keys in
      let high : w.number - 1 ≤ h.tags = omega (arith, keys.1) in
      let total : to_come (sends (mask_in c) gets) ≡ 2 * servers_in (mask_in c) = sends_come (mask_in c) gets (λ i. refl)
      (no-coordinator (mask_in c) s.servers few a.bound) in
      -- nothing else was on the links
      let one : to_come c.link ≡ 1 = omega (
        arith,
        come coordinator (omega arith) w lk,
        come-none (emptied coordinator (omega arith) w lk) (λ j l. coordinator-empty j l a.others),
      ) in (
        rw a.is (omega (arith, a.count, a.some, one)),
        rw a.is (turned-tied floor p h tied q hq (client_of row (sends (mask_in c) gets)) step writes reads coordinator false
            (last_marks c.link coordinator (sends (mask_in c) gets) (λ j l. coordinator-empty j l a.others) sent) _ (record {
              latest = λ j n v e. omega (arith, okay.latest j n v e, count);
              entered = λ n u e. omega (arith, okay.entered n u e, count);
              activity = at-getting state (record {
                begin = a.begin;
                deliveries = suc a.deliveries;
                losses = a.losses;
                is = rw mask;
                low = rw tag (omega (arith, keys.0));
                high = rw tag high;
                bound = λ j m. a.bound j (rw mask at m);
                count = rw mask (omega (arith, total, a.count, one));
                busy = omega (arith, total, a.some);
                tags = λ j m. rw tag (tags j (rw mask at m) ∙ tied.tags (w.number - 1) high j);
                asked = λ j m. let n = rw mask at m in rw (key-kept j n, tag) (tied.value (w.number - 1) high j (a.bound j n));
                links = λ j l. by-test (has_server (mask_in c) j)
                    (λ e. rw (sends_masked (mask_in c) gets j e) (rw mask e, sym (key-kept j e)))
                    (λ e. rw (sends_other (mask_in c) gets j e) (λ m. absurd (not-both (rw mask at m) e)));
              });
            })),
      )
    where
      gets : ℕ → Content
      gets i = request (latest_key s.log i (w.number - 1)) 0

      key-kept : (j : ℕ) → has_server (mask_in c) j ≡ true → key_at_word (row (asked_field + j)) ≡ latest_key s.log j (w.number - 1)
      key-kept j m = ap key_at_word (asked j m) ∙ asked_key s.log (w.number - 1) j

      sent : (j : ℕ) → j < targets → is_reply (sends (mask_in c) gets j) ≡ false
      sent j l =
          by-test (has_server (mask_in c) j)
          (λ e. ap is_reply (sends_masked (mask_in c) gets j e))
          (λ e. ap is_reply (sends_other (mask_in c) gets j e))
