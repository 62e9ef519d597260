-- An accepted begin keeps the tie and pays what it owes.
use Prim.Native.Nat.{ℕ, suc, ◌+◌, ◌*◌, ◌≤◌, ◌<◌}
use mathlib.Core.Path.{◌≡◌, refl, sym, ap, ◌∙◌}
use mathlib.Core.Bool.{true, false}
use mathlib.Core.Option.{Option, none, some}
use mathlib.Core.List.{List}
use native.Mathlib.Omega.{arith}
use lib.ListN.{get_or}
use Rattle.ranges.specs.Tests.{by-test, not-both}
use Rattle.keys.specs.Keys.{key_of, key_at_word, opening}
use Rattle.keys.specs.Masks.{has_server, servers_in}
use Rattle.coordinator.specs.Latest.{latest_tag, latest_key, latest_word}
use Rattle.tables.specs.Layout.{state_field, count_field, mask_field, tag_field, setpoints_field, tags_field, write_badge_field, asked_field}
use Rattle.tables.specs.Links.{targets}
use Rattle.tables.specs.declared.links.Content.{Content}
use Rattle.rules.specs.Common.{set_request, idle, asking_keys, asking_setpoints, asking_all, coordinator, request}
use Rattle.rules.specs.Common as rules
use Rattle.rules.specs.Answer.{Ok}
use Rattle.claim.specs.Steps.{begun-write, begun-read}
use Rattle.refusals.specs.Steps.{badge_of}
use Rattle.claim.specs.History.{changed, writing, History}
use Rattle.serial.proofs.Places.{changed-same, changed_other, changed-all}
use Rattle.serial.proofs.Versions.{Version}
use Rattle.serial.proofs.Entries.{asked_key}
use Rattle.serial.proofs.Press.{renumbered, Client, client_of, Press, press_of, state_in, count_in, weight, is_reply, to_come, sends}
use Rattle.serial.proofs.Press.{World, world}
use Rattle.serial.proofs.Links.{come-changed, come-none, no-coordinator, sends_masked, sends_other, sends_come}
use Rattle.serial.proofs.Invariant.{AllLink, Idle, at-writing, at-keys, at-getting, at_all, ClientOk, Tied}
use Rattle.serial.proofs.Kept.{Kept, Unmarked, begun-tied, resting}

-- The client's new row has the state and the mask of the begin; `row` is any row that has them.
module _ (floor : ℕ → ℕ) (p : Press) (h : History) (tied : Tied floor p h) (few : p.shared.servers ≤ 16)
    (q : ℕ) (hq : q < 16) (rest : state_in (p.client q) ≡ idle)
    (mask : ℕ) (bound : (i : ℕ) → has_server mask i ≡ true → i < p.shared.servers) (some-masked : 0 < servers_in mask)
    (row : ℕ → ℕ) (masked : row mask_field ≡ mask) (step writes reads : ℕ) where
  abbrev x : World
  x = world p h

  abbrev old : Client
  old = p.client q

  abbrev begun_press : (ℕ → Content) → Press
  begun_press link = press_of (renumbered step writes reads p.shared) (changed p.client q (client_of row link))

  okay : ClientOk h.extra x (floor q) q old (h.doing q)
  okay = tied.clients q hq

  idling : Idle h.extra x (floor q) q old (h.doing q)
  idling = resting h.extra x (floor q) q old (h.doing q) rest okay.activity

  bound' : (i : ℕ) → has_server (row mask_field) i ≡ true → i < p.shared.servers
  bound' i m = bound i (rw masked at m)

  -- no version bears the next key
  next-none : (i : ℕ) → x.lookup i (key_of (suc (count_in old)) q) (x.held i) ≡ none
  next-none i = go (x.lookup i (key_of (suc (count_in old)) q) (x.held i)) refl
    where
      go : (o : Option Version) → x.lookup i (key_of (suc (count_in old)) q) (x.held i) ≡ o → o ≡ none
      go none e = refl
      go (some v) e = let z : ⊥ = omega (arith, okay.latest i (suc (count_in old)) v e) in absurd z

  -- and no entry
  next-new : x.entry (key_of (suc (count_in old)) q) ≡ none
  next-new = go (x.entry (key_of (suc (count_in old)) q)) refl
    where
      go : (o : Option ℕ) → x.entry (key_of (suc (count_in old)) q) ≡ o → o ≡ none
      go none e = refl
      go (some tag) e = let z : ⊥ = omega (arith, okay.entered (suc (count_in old)) tag e) in absurd z

  -- no link held a reply, and none does now
  unmarked : (link : ℕ → Content) → ((j : ℕ) → j < targets → is_reply (link j) ≡ false) → Unmarked old.link link
  unmarked link quiet j l = quiet j l ∙ sym (ap is_reply (idling.links j l))

  no-reply : (asked : ℕ → Content) → ((j : ℕ) → is_reply (asked j) ≡ false) → (j : ℕ) → j < targets → is_reply (sends mask asked j) ≡ false
  no-reply asked quiet j l =
      by-test (has_server mask j)
      (λ e. ap is_reply (sends_masked mask asked j e) ∙ quiet j)
      (λ e. ap is_reply (sends_other mask asked j e))

  abbrev sets : ℕ → List ℕ → ℕ → Content
  sets badge setpoints i = set_request (key_of (suc (count_in old)) q) badge (get_or setpoints i 0)

  pub write_kept : (badge : ℕ) (setpoints : List ℕ) → row state_field ≡ rules.writing → row count_field ≡ suc (count_in old) →
      suc (count_in old) < 256 → row write_badge_field ≡ badge_of badge →
      ((i : ℕ) → i < p.shared.servers → row (setpoints_field + i) ≡ get_or setpoints i 0) →
      Kept floor h (begun-write q mask badge setpoints Ok) (begun_press (sends mask (sets (badge_of badge) setpoints)))
  write_kept badge setpoints state count small badge-kept setpoints-kept = (
    idling.is,
    rw idling.is (begun-tied floor p h tied q hq new step writes reads (unmarked new.link (no-reply _ (λ j. refl))) _ (record {
      latest = λ i n v e. omega (arith, okay.latest i n v e, count);
      entered = λ n tag e. omega (arith, okay.entered n tag e, count);
      activity = at-writing state (record {
        badge = badge_of badge;
        setpoints = setpoints;
        begin = h.clock;
        is = rw masked;
        few = omega (arith, count);
        bound = bound';
        badge-kept = badge-kept;
        setpoints-kept = setpoints-kept;
        new = rw count next-new;
        links = λ i l. by-test (has_server mask i)
            (λ e. rw (sends_masked mask (sets (badge_of badge) setpoints) i e) (rw count, refl, bound i e, rw (count, next-none i) tt))
            (λ e. rw (sends_other mask (sets (badge_of badge) setpoints) i e) (λ m. absurd (not-both (rw masked at m) e)));
      });
    })),
  )
    where
      new : Client
      new = client_of row (sends mask (sets (badge_of badge) setpoints))

  module _ (count : row count_field ≡ count_in old) where
    latest' : (i n : ℕ) (v : Version) → x.lookup i (key_of n q) (x.held i) ≡ some v → n ≤ row count_field
    latest' i n v e = omega (arith, okay.latest i n v e, count)

    entered' : (n tag : ℕ) → x.entry (key_of n q) ≡ some tag → n ≤ row count_field
    entered' n tag e = omega (arith, okay.entered n tag e, count)

    -- A: the last tag, its keys and the tags that they come from
    pub read_a-kept : h.extra ≡ 0 → row state_field ≡ asking_setpoints → row tag_field ≡ h.tags →
        ((i : ℕ) → has_server mask i ≡ true → row (tags_field + i) ≡ latest_tag p.shared.log i (row tag_field)) →
        ((i : ℕ) → has_server mask i ≡ true → row (asked_field + i) ≡ latest_word p.shared.log (row tag_field) i) →
        Kept floor h (begun-read q mask Ok) (begun_press (sends mask (λ i. request (latest_key p.shared.log i (row tag_field)) 0)))
    read_a-kept zero_more state tag tags asked = (
      (idling.is, omega arith),
      rw idling.is (begun-tied floor p h tied q hq (client_of row (sends mask gets)) step writes reads
          (unmarked (sends mask gets) (no-reply gets (λ j. refl))) _ (record {
            latest = latest';
            entered = entered';
            activity = at-getting state (record {
              begin = h.clock;
              deliveries = 0;
              losses = 0;
              is = rw masked;
              low = omega (arith, tag);
              high = omega (arith, tag);
              bound = bound';
              count = rw masked (omega (arith, total));
              busy = omega (arith, total);
              tags = λ i m. tags i (rw masked at m) ∙ tied.tags (row tag_field) (omega (arith, tag)) i;
              asked = λ i m.
                  let n = rw masked at m in
                  rw (key-kept i n) (tied.value (row tag_field) (omega (arith, tag)) i (bound i n));
              links = λ i l. by-test (has_server mask i)
                  (λ e. rw (sends_masked mask gets i e) (rw masked e, sym (key-kept i e)))
                  (λ e. rw (sends_other mask gets i e) (λ m. absurd (not-both (rw masked at m) e)));
            });
          })),
    )
      where
        gets : ℕ → Content
        gets i = request (latest_key p.shared.log i (row tag_field)) 0

        key-kept : (i : ℕ) → has_server mask i ≡ true → key_at_word (row (asked_field + i)) ≡ latest_key p.shared.log i (row tag_field)
        key-kept i m = ap key_at_word (asked i m) ∙ asked_key p.shared.log (row tag_field) i

        total : to_come (sends mask gets) ≡ 2 * servers_in mask
        total = sends_come mask gets (λ i. refl) (no-coordinator mask p.shared.servers few bound)

    abbrev ask : Content
    ask = request opening 0

    -- B: the coordinator is asked
    pub read-b-kept : h.extra ≡ 2 → row state_field ≡ asking_keys → Kept floor h (begun-read q mask Ok) (begun_press (changed old.link coordinator ask))
    read-b-kept two state = (
      (idling.is, omega arith),
      rw idling.is (begun-tied floor p h tied q hq (client_of row (changed old.link coordinator ask)) step writes reads
          (unmarked (changed old.link coordinator ask) (changed-all old.link coordinator ask (λ j l. j < targets → is_reply l ≡ false)
          (λ m. refl) (λ j ne m. ap is_reply (idling.links j m)))) _ (record {
            latest = latest';
            entered = entered';
            activity = at-keys state (record {
              begin = h.clock;
              deliveries = 0;
              losses = 0;
              is = rw masked;
              two = two;
              low = omega arith;
              some = rw masked some-masked;
              bound = bound';
              count = rw masked (omega (
                arith,
                two,
                come-changed old.link coordinator ask (omega arith),
                come-none old.link idling.links,
                ap weight (idling.links coordinator (omega arith)),
              ));
              others = λ i l. changed_other old.link coordinator ask i (λ e. omega arith) ∙ idling.links i (omega arith);
              keys = rw (changed-same old.link coordinator ask) tt;
            });
          })),
    )

    -- C: all servers of the mask and the coordinator together
    abbrev asks : ℕ → Content
    asks i = ask

    pub read-c-kept : h.extra ≡ 2 → row state_field ≡ asking_all → Kept floor h (begun-read q mask Ok) (begun_press (changed (sends mask asks) coordinator ask))
    read-c-kept two state =
        let total : to_come (changed (sends mask asks) coordinator ask) + weight (sends mask asks coordinator) ≡ to_come (sends mask asks) + 2 = come-changed (sends mask asks) coordinator ask (omega arith) in
        let unmasked : weight (sends mask asks coordinator) ≡ 0 = ap weight (sends_other mask asks coordinator (no-coordinator mask p.shared.servers few bound)) in
        let servers : to_come (sends mask asks) ≡ 2 * servers_in mask = sends_come mask asks (λ i. refl) (no-coordinator mask p.shared.servers few bound) in (
          (idling.is, omega arith),
          rw idling.is (begun-tied floor p h tied q hq new step writes reads
              (unmarked new.link (changed-all (sends mask asks) coordinator ask (λ j l. j < targets → is_reply l ≡ false)
              (λ m. refl) (λ j ne m. no-reply asks (λ k. refl) j m))) _ (record {
                latest = latest';
                entered = entered';
                activity = at_all state (record {
                  begin = h.clock;
                  deliveries = 0;
                  losses = 0;
                  is = rw masked;
                  two = two;
                  low = omega arith;
                  bound = bound';
                  count = rw masked (omega arith);
                  busy = omega arith;
                  links = λ i l. changed-all (sends mask asks) coordinator ask (λ j c. AllLink x h.tags new j c) tt
                      (λ j ne. other j ne) i;
                });
              })),
        )
      where
        new : Client
        new = client_of row (changed (sends mask asks) coordinator ask)

        other : (j : ℕ) → (j ≡ coordinator → ⊥) → AllLink x h.tags new j (sends mask asks j)
        other j ne = by-test (has_server mask j)
            (λ e. rw (sends_masked mask asks j e) tt)
            (λ e. rw (sends_other mask asks j e) (λ z. absurd (ne z), λ m. absurd (not-both (rw masked at m) e)))
