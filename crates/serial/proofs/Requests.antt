-- The delivery of a request keeps the tie and pays what it owes.
use Prim.Native.Nat.{ℕ, suc, ◌+◌, ◌-◌, ◌*◌, ◌≤◌, ◌<◌}
use mathlib.Core.Path.{◌≡◌, refl, sym, ap, ◌∙◌, subst}
use mathlib.Core.Bool.{true, false, cond}
use mathlib.Core.Option.{none, some}
use native.Mathlib.Omega.{arith}
use lib.Dec.{eqb}
use borrow.Author.Tests.{eqb-true, eqb-false, ne_eqb}
use Rattle.ranges.specs.Tests.{by_equal, by-test}
use Rattle.keys.specs.declared.Key.{Key}
use Rattle.keys.specs.Keys.{key_of, key_word, FitsByte}
use Rattle.keys.specs.Masks.{has_server}
use Rattle.coordinator.specs.declared.Latest.{Latest}
use Rattle.coordinator.specs.Latest.{latest_tag, latest_key, entry_at, latest_of}
use Rattle.coordinator.specs.LatestLaws.{latest-here, latest-before, latest-tag-kept}
use Rattle.coordinator.proofs.LatestLaws.{latest_key-kept}
use Rattle.tables.specs.Rows.{HasRow}
use Rattle.tables.specs.Layout.{server_places, put_version_word, put_value, HasValues, entry_width, entry_mask, put_entry}
use Rattle.tables.specs.Entries.{entry_key-same, entry-mask-same}
use Rattle.tables.specs.Links.{targets}
use Rattle.tables.specs.declared.links.Contents.{Contents}
use Rattle.tables.specs.declared.links.Content.{Content}
use Rattle.tables.specs.declared.links.Content.TheVariants.{Nothing, Request, Reply, Lost}
use Rattle.rules.specs.Common.{entering, asking_keys, asking_setpoints, asking_all, coordinator, reply, got_reply}
use Rattle.rules.specs.Common as rules
use Rattle.rules.specs.Answer.{Ok}
use Rattle.claim.specs.Steps.{requested}
use Rattle.claim.specs.History.{Value, value_written, at_coordinator, changed, Transaction, write_of, writing, tagged, reading, History}
use Rattle.claim.specs.Claim.{enough}
use Rattle.serial.proofs.Places.{changed-same, changed_other, changed-all, changed-both}
use Rattle.serial.proofs.Owed.{value_at, value_in}
use Rattle.serial.proofs.HistoryKept.{value_before}
use Rattle.serial.proofs.Versions.{Version, sent_of, find-before, find-more, find-new, find_other}
use Rattle.serial.proofs.Entries.{tag-new, tag_other}
use Rattle.serial.proofs.Press.{Shared, renumbered, Client, client_of, Press, press_of, state_in, count_in, mask_in, tag_in, weight}
use Rattle.serial.proofs.Press.{is_reply, to_come, World, world_of, kept_at, carried, world}
use Rattle.serial.proofs.Links.{come-changed, come-some}
use Rattle.serial.proofs.Invariant.{own, Holds, Fits, HeldOrNot, WriteLink, Writing, Stored, HasTag, Entering, AskingKeys, GetLink}
use Rattle.serial.proofs.Invariant.{Getting, Snapshot, AllLink, AskingAll, at-writing, at-entering, at-keys, at-getting, at_all}
use Rattle.serial.proofs.Invariant.{ClientOk, Tied, Grown, client-frame}
use Rattle.serial.proofs.Kept.{Kept, link_marks, marked-links, turned-tied, moved-tied}

-- one version more of server i
abbrev pub version_more : Shared → ℕ → ℕ → Version → Shared
version_more s i word v = record {
  method = s.method;
  servers = s.servers;
  step = s.step;
  entries = s.entries;
  writes = s.writes;
  reads = s.reads;
  held = changed s.held i (suc (s.held i));
  keys = put_version_word s.keys i (s.held i) word;
  values = put_value s.values i (s.held i) v.badge v.setpoint;
  log = s.log;
}

-- one entry more
abbrev pub entry_more : Shared → Key → ℕ → Shared
entry_more s key mask = record {
  method = s.method;
  servers = s.servers;
  step = s.step;
  entries = suc s.entries;
  writes = s.writes;
  reads = s.reads;
  held = s.held;
  keys = s.keys;
  values = s.values;
  log = put_entry s.log s.entries key mask;
}

-- the client with another content on a link
abbrev pub with_link : Client → ℕ → Content → Client
with_link c i l = client_of c.row (changed c.link i l)

module _ (floor : ℕ → ℕ) (p : Press) (h : History) (tied : Tied floor p h) (few : p.shared.servers ≤ 16) (q : ℕ) (hq : q < 16) (step writes reads : ℕ) where
  abbrev x : World
  x = world p h

  abbrev c : Client
  c = p.client q

  abbrev s : Shared
  s = p.shared

  okay : ClientOk h.extra x (floor q) q c (h.doing q)
  okay = tied.clients q hq

  -- A set request of a key that the server does not have: it holds the key now.
  module _ (i : ℕ) (w : Contents) (lk : c.link i ≡ Request w) (hi : i < targets) (state : state_in c ≡ rules.writing) (a : Writing h.extra x (floor q) q c (h.doing q))
      (keyed : HasRow server_places s.keys i) (valued : HasValues s.values i) (room : s.held i < server_places)
      (unheld : x.lookup i (own q c) (x.held i) ≡ none) where
    abbrev word : ℕ
    word = key_word w.key

    abbrev s' : Shared
    s' = version_more s i word (carried w)

    abbrev y : World
    y = world_of s' h.tags (value_in h)

    link :
        (w.key ≡ key_of (count_in c) q) × (carried w ≡ sent_of a.badge a.setpoints i) × (i < s.servers) ×
        HeldOrNot x q c (sent_of a.badge a.setpoints i) i
    link = rw lk at (a.links i hi)

    word_is : word ≡ count_in c * 256 + q
    word_is = ap key_word link.0

    held_more : (j : ℕ) → s.held j ≤ y.held j
    held_more = changed-all s.held i (suc (s.held i)) (λ j n. s.held j ≤ n) (omega arith) (λ j ne. omega arith)

    same_place : (j : ℕ) → j ≡ i → s.held j ≤ s.held i
    same_place j e = rw e (omega arith)

    -- a key of another word is found where it was
    other_key : (key : Key) → (word ≡ key_word key → ⊥) → (j : ℕ) → y.lookup j key (y.held j) ≡ x.lookup j key (x.held j)
    other_key key d = changed-all s.held i (suc (s.held i)) (λ j n. y.lookup j key n ≡ x.lookup j key (x.held j))
        (find_other s.keys s.values i (s.held i) word (carried w) keyed valued room key d)
        (λ j ne. find-before s.keys s.values i (s.held i) word (carried w) keyed valued room j (s.held j) key (λ e. absurd (ne e)) (tied.room j))

    pub grown : (r : ℕ) → r < 16 → (r ≡ q → ⊥) → Grown r x y
    grown r hr ne = record {
      servers = refl;
      tags = omega arith;
      value = λ tag l j. refl;
      key = λ tag l j. refl;
      held = held_more;
      fewer = λ j key n l. find-before s.keys s.values i (s.held i) word (carried w) keyed valued room j n key (λ e. omega (arith, same_place j e)) (omega (arith, tied.room j));
      more = λ j key v e. find-more s.keys s.values i (s.held i) word (carried w) keyed valued room j key (s.held j) (y.held j) v (same_place j) (tied.room j) (held_more j) e;
      own = λ j n. other_key (key_of n r) (λ e. ne (omega (arith, word_is))) j;
      entry = λ n. refl;
    }

    -- at another server the client's key is kept as it was
    pub kept_there : (j : ℕ) → (j ≡ i → ⊥) → y.lookup j (own q c) (y.held j) ≡ x.lookup j (own q c) (x.held j)
    kept_there j ne =
        rw (changed_other s.held i (suc (s.held i)) j ne)
        (find-before s.keys s.values i (s.held i) word (carried w) keyed valued room j (s.held j) (own q c)
        (λ e. absurd (ne e)) (tied.room j))

    write-link : (j : ℕ) → (j ≡ i → ⊥) → (l : Content) → WriteLink x q c a.badge a.setpoints j l →
        WriteLink y q c a.badge a.setpoints j l
    write-link j ne Nothing k = λ m. kept_there j ne ∙ k m
    write-link j ne (Request w) k = (k.0, k.1, k.2, subst (Fits _) (sym (kept_there j ne)) k.3)
    write-link j ne (Reply w) k = (k.0, kept_there j ne ∙ k.1)
    write-link j ne Lost k = (k.0, subst (Fits _) (sym (kept_there j ne)) k.1)

    here : y.lookup i (key_of (count_in c) q) (y.held i) ≡ some (sent_of a.badge a.setpoints i)
    here =
        rw (changed-same s.held i (suc (s.held i)), ← link.1)
        (find-new s.keys s.values i (s.held i) word (carried w) keyed valued room (key_of (count_in c) q) word_is unheld)

    mine : ClientOk h.extra y (floor q) q (with_link c i (reply 0)) (h.doing q)
    mine = record {
      latest = λ j n v e.
          by_equal n (count_in c)
          (λ z. omega arith)
          (λ z. okay.latest j n v (sym (other_key (key_of n q) (λ d. z (omega (arith, word_is))) j) ∙ e));
      entered = okay.entered;
      activity = at-writing state (record {
        badge = a.badge;
        setpoints = a.setpoints;
        begin = a.begin;
        is = a.is;
        few = a.few;
        bound = a.bound;
        badge-kept = a.badge-kept;
        setpoints-kept = a.setpoints-kept;
        new = a.new;
        links = λ j l. changed-all c.link i (reply 0) (λ j l. j < targets → WriteLink y q c a.badge a.setpoints j l)
            (λ k. (link.2, here)) (λ j ne k. write-link j ne (c.link j) (a.links j k)) j l;
      });
    }

    pub set-kept : Kept floor h (requested q i Ok) (press_of (renumbered step writes reads s') (changed p.client q (with_link c i (reply 0))))
    set-kept =
        let quiet : at_coordinator i ≡ false = ne_eqb i coordinator (λ e. omega (arith, link.2)) in (
          rw a.is tt,
          rw (quiet, a.is) record {
            method = tied.method;
            entries = tied.entries;
            room = changed-all s.held i (suc (s.held i)) (λ j n. n ≤ server_places) room (λ j ne. tied.room j);
            value = λ tag l j k. find-more s.keys s.values i (s.held i) word (carried w) keyed valued room j _ (s.held j) (y.held j) _ (same_place j) (tied.room j) (held_more j) (tied.value tag l j k);
            tags = tied.tags;
            clients = changed-all p.client q (with_link c i (reply 0)) (λ j b. j < 16 → ClientOk h.extra y (floor j) j b (h.doing j)) (λ l. mine)
                (λ j ne l. client-frame h.extra (floor j) j x y (grown j l ne) (p.client j) (h.doing j) (tied.clients j l));
            answered = marked-links floor p h tied q hq (with_link c i (reply 0)) i true (link_marks c.link i (reply 0));
          },
        )

  -- A set request of a key that the server holds: it is acknowledged, and nothing is stored.
  pub set-again-kept : (i : ℕ) (w : Contents) → c.link i ≡ Request w → i < targets → state_in c ≡ rules.writing →
      (a : Writing h.extra x (floor q) q c (h.doing q)) → Holds x i (own q c) (sent_of a.badge a.setpoints i) →
      Kept floor h (requested q i Ok) (press_of (renumbered step writes reads s) (changed p.client q (with_link c i (reply 0))))
  set-again-kept i w lk hi state a held =
      let l : i < s.servers = (rw lk at (a.links i hi)).2 in
      let quiet : at_coordinator i ≡ false = ne_eqb i coordinator (λ e. omega arith) in (
        rw a.is tt,
        rw (quiet, a.is) (moved-tied floor p h tied q hq (with_link c i (reply 0)) step writes reads i true
            (link_marks c.link i (reply 0)) (record {
              latest = okay.latest;
              entered = okay.entered;
              activity = at-writing state (record {
                badge = a.badge;
                setpoints = a.setpoints;
                begin = a.begin;
                is = a.is;
                few = a.few;
                bound = a.bound;
                badge-kept = a.badge-kept;
                setpoints-kept = a.setpoints-kept;
                new = a.new;
                links = λ j m. changed-all c.link i (reply 0) (λ j k. j < targets → WriteLink x q c a.badge a.setpoints j k)
                    (λ k. (l, held)) (λ j ne k. a.links j k) j m;
              });
            })),
      )

  -- An entry: the WRITE has its tag, and each key at that tag is held with the value behind it.
  module _ (w : Contents) (state : state_in c ≡ entering) (a : Entering h.extra x (floor q) q c (h.doing q))
      (key-is : w.key ≡ key_of (count_in c) q) (mask_is : w.number ≡ mask_in c) (b : Stored h.extra x (floor q) q c (h.doing q))
      (logged : HasRow entry_width s.log s.entries) where
    abbrev s'' : Shared
    s'' = entry_more s w.key w.number

    abbrev new : Transaction
    new = write_of q (mask_in c) (value_written (suc h.tags) b.badge b.setpoints) (suc h.tags) b.begin none

    abbrev write' : ℕ → Transaction
    write' = changed h.write (suc h.tags) new

    abbrev z : World
    z = world_of s'' (suc h.tags) (value_at h.initial write')

    fits : FitsByte w.key
    fits = rw key-is (record { count = b.few; client = omega arith })

    -- keys and values at earlier tags stay
    old_key : (tag : ℕ) → tag ≤ h.tags → (i : ℕ) → z.key tag i ≡ x.key tag i
    old_key tag l i = latest_key-kept s.log s.entries w.key w.number i tag (omega (arith, tied.entries))

    old_value : (tag : ℕ) → tag ≤ h.tags → (i : ℕ) → z.value tag i ≡ x.value tag i
    old_value tag l i = value_before h.initial h.write h.tags new tag l i

    -- at the new tag: the WRITE's own for its servers, and for the others as behind the tag before
    mask-new : entry_mask s''.log s.entries ≡ w.number
    mask-new = entry-mask-same s.log s.entries w.key w.number logged

    found_masked : (i : ℕ) → has_server w.number i ≡ true → latest_of s''.log i s.entries ≡ entry_at s''.log s.entries
    found_masked i e = ap (entry_at s''.log) (sym (latest-here s''.log i s.entries (sym mask-new) refl e))

    found_other : (i : ℕ) → has_server w.number i ≡ false → latest_of s''.log i s.entries ≡ latest_of s''.log i h.tags
    found_other i e =
        let t : s.entries - 1 ≡ h.tags = omega (arith, tied.entries) in
        let before = latest-before s''.log i s.entries (sym mask-new) refl (λ y. omega (arith, tied.entries)) e in
        ap (entry_at s''.log) (sym before ∙ ap (latest_tag s''.log i) t)

    key_masked : (i : ℕ) → has_server w.number i ≡ true → z.key s.entries i ≡ w.key
    key_masked i e =
        ap (λ (y : Latest). y.key) (found_masked i e)
        ∙ entry_key-same s.log s.entries w.key w.number logged fits

    key_other : (i : ℕ) → has_server w.number i ≡ false → z.key s.entries i ≡ z.key h.tags i
    key_other i e = ap (λ (y : Latest). y.key) (found_other i e)

    value-new : (i : ℕ) → z.value (suc h.tags) i ≡
        cond (has_server (mask_in c) i) (value_written (suc h.tags) b.badge b.setpoints i) (z.value h.tags i)
    unfolding value_at
    value-new i = rw (changed-same h.write (suc h.tags) new)

    held_new : (i : ℕ) → i < s.servers → z.lookup i (z.key s.entries i) (s.held i) ≡ some (kept_at z (suc h.tags) i)
    held_new i k =
        by-test (has_server (mask_in c) i)
        (λ e. rw (key_masked i (rw mask_is e), value-new i, e, key-is) (b.all i e))
        (λ e. rw (key_other i (rw mask_is e), value-new i, e, old_key h.tags (omega arith) i, old_value h.tags (omega arith) i) (tied.value h.tags (omega arith) i k))

    held_all : (tag : ℕ) → tag ≤ suc h.tags → (i : ℕ) → i < s.servers → z.lookup i (z.key tag i) (s.held i) ≡ some (kept_at z tag i)
    held_all tag l i k =
        by_equal tag (suc h.tags)
        (λ e. rw e (ap (λ (u : ℕ). z.lookup i (z.key u i) (s.held i)) (sym tied.entries) ∙ held_new i k))
        (λ d. rw (old_key tag (omega arith) i, old_value tag (omega arith) i) (tied.value tag (omega arith) i k))

    -- the tag found is that of the value: the WRITE's own for its servers
    old-tag : (tag : ℕ) → tag ≤ h.tags → (i : ℕ) → latest_tag s''.log i tag ≡ (z.value tag i).tag
    old-tag tag l i =
        latest-tag-kept s.log s.entries w.key w.number i tag (omega (arith, tied.entries))
        ∙ tied.tags tag l i
        ∙ ap (λ (v : Value). v.tag) (sym (old_value tag l i))

    new-tag : (i : ℕ) → latest_tag s''.log i s.entries ≡ (z.value (suc h.tags) i).tag
    new-tag i =
        by-test (has_server (mask_in c) i)
        (λ e. rw (value-new i, e) (ap (λ (y : Latest). y.tag) (found_masked i (rw mask_is e)) ∙ tied.entries))
        (λ e. rw (value-new i, e) (ap (λ (y : Latest). y.tag) (found_other i (rw mask_is e)) ∙ old-tag h.tags (omega arith) i))

    all-tags : (tag : ℕ) → tag ≤ suc h.tags → (i : ℕ) → latest_tag s''.log i tag ≡ (z.value tag i).tag
    all-tags tag l i =
        by_equal tag (suc h.tags)
        (λ e. rw e (ap (λ (u : ℕ). latest_tag s''.log i u) (sym tied.entries) ∙ new-tag i))
        (λ d. old-tag tag (omega arith) i)

    entered-word : key_word w.key ≡ count_in c * 256 + q
    entered-word = ap key_word key-is

    -- another key has the tag that it had
    other-entry : (key : Key) → (key_word w.key ≡ key_word key → ⊥) → z.entry key ≡ x.entry key
    other-entry key d = tag_other s.log s.entries w.key w.number logged key d

    own-entry : z.entry (own q c) ≡ some s.entries
    own-entry =
        rw (← key-is)
        (tag-new s.log s.entries w.key w.number logged (rw key-is b.new))

    pub entry_grown : (r : ℕ) → r < 16 → (r ≡ q → ⊥) → Grown r x z
    entry_grown r hr ne = record {
      servers = refl;
      tags = omega arith;
      value = old_value;
      key = old_key;
      held = λ i. omega arith;
      fewer = λ i key n l. refl;
      more = λ i key v e. e;
      own = λ i n. refl;
      entry = λ n. other-entry (key_of n r) (λ e. ne (omega (arith, entered-word)));
    }

    pub enter-kept : Kept floor h (requested q coordinator Ok) (press_of (renumbered step writes reads s'') (changed p.client q (with_link c coordinator (reply s.entries))))
    enter-kept = (
      rw b.is tt,
      rw b.is record {
        method = tied.method;
        entries = ap suc tied.entries;
        room = tied.room;
        value = held_all;
        tags = all-tags;
        clients = changed-both (λ j k d. j < 16 → ClientOk h.extra z (floor j) j k d) p.client h.doing q (with_link c coordinator (reply s.entries)) (tagged (suc h.tags))
            (λ l. record {
              latest = okay.latest;
              entered = λ n tag e.
                  by_equal n (count_in c)
                  (λ y. omega arith)
                  (λ y. okay.entered n tag (sym (other-entry (key_of n q) (λ d. y (omega (arith, entered-word)))) ∙ e));
              activity = at-entering state (record {
                others = λ i k. changed_other c.link coordinator (reply s.entries) i (λ e. omega arith) ∙ a.others i k;
                entry = rw (changed-same c.link coordinator (reply s.entries))
                    (record { is = rw tied.entries; there = own-entry });
              });
            })
            (λ j ne l. client-frame h.extra (floor j) j x z (entry_grown j l ne) (p.client j) (h.doing j) (tied.clients j l));
        answered = marked-links floor p h tied q hq (with_link c coordinator (reply s.entries)) coordinator true
            (link_marks c.link coordinator (reply s.entries));
      },
    )

  -- An entry that the log has: its first tag is answered, and nothing is entered.
  pub enter-again-kept : state_in c ≡ entering → Entering h.extra x (floor q) q c (h.doing q) →
      (tag : ℕ) → HasTag h.extra x (floor q) q c (h.doing q) tag →
      Kept floor h (requested q coordinator Ok) (press_of (renumbered step writes reads s)
      (changed p.client q (with_link c coordinator (reply tag))))
  enter-again-kept state a tag t = (
    rw t.is tt,
    rw t.is (moved-tied floor p h tied q hq (with_link c coordinator (reply tag)) step writes reads coordinator true
        (link_marks c.link coordinator (reply tag)) (record {
          latest = okay.latest;
          entered = okay.entered;
          activity = at-entering state (record {
            others = λ i k. changed_other c.link coordinator (reply tag) i (λ e. omega arith) ∙ a.others i k;
            entry = rw (changed-same c.link coordinator (reply tag)) (record { is = t.is; there = t.there });
          });
        })),
  )

  -- A READ's request: one delivery more, and the reply takes its place.
  module _ (i : ℕ) (hi : i < targets) (w : Contents) (lk : c.link i ≡ Request w) (answer : Content) (one : weight answer ≡ 1)
      (reply-is : is_reply answer ≡ true)
      (mask begin deliveries losses : ℕ) (is : h.doing q ≡ reading mask begin deliveries losses) where
    replied_come : to_come (with_link c i answer).link + 1 ≡ to_come c.link
    replied_come = omega (arith, come-changed c.link i answer hi, ap weight lk, one)

    read_kept : suc deliveries < enough h.extra mask losses →
        ClientOk h.extra x (floor q) q (with_link c i answer) (reading mask begin (suc deliveries) losses) →
        Kept floor h (requested q i Ok) (press_of (renumbered step writes reads s) (changed p.client q (with_link c i answer)))
    read_kept more ok =
        let marks = rw reply-is at (link_marks c.link i answer) in
        let t = turned-tied floor p h tied q hq (with_link c i answer) step writes reads i true marks
        (reading mask begin (suc deliveries) losses) ok in (
          rw is more,
          by-test (at_coordinator i) (λ e. rw (e, is) t) (λ e. rw (e, is) t),
        )

  -- B's coordinator answers with the number of its entries.
  pub which-keys-kept : (w : Contents) → c.link coordinator ≡ Request w → state_in c ≡ asking_keys → AskingKeys h.extra x (floor q) q c (h.doing q) →
      Kept floor h (requested q coordinator Ok) (press_of (renumbered step writes reads s) (changed p.client q (with_link c coordinator (reply s.entries))))
  which-keys-kept w lk state a =
      let come = replied_come coordinator (omega arith) w lk (reply s.entries) refl refl (mask_in c) a.begin a.deliveries
      a.losses a.is in
      read_kept coordinator (omega arith) w lk (reply s.entries) refl refl (mask_in c) a.begin a.deliveries a.losses a.is
      (omega (arith, a.count, a.some, come)) (record {
        latest = okay.latest;
        entered = okay.entered;
        activity = at-keys state (record {
          begin = a.begin;
          deliveries = suc a.deliveries;
          losses = a.losses;
          is = refl;
          two = a.two;
          low = a.low;
          some = a.some;
          bound = a.bound;
          count = omega (arith, a.count, come);
          others = λ i k. changed_other c.link coordinator (reply s.entries) i (λ e. omega arith) ∙ a.others i k;
          keys = rw (changed-same c.link coordinator (reply s.entries))
              (omega (arith, a.low, tied.entries), omega (arith, tied.entries));
        });
      })

  -- A server answers a get with the badge and the setpoint of the key: the value behind the client's tag.
  pub get-kept : (i : ℕ) → i < targets → (w : Contents) → c.link i ≡ Request w → state_in c ≡ asking_setpoints → Getting h.extra x (floor q) q c (h.doing q) →
      let v = kept_at x (tag_in c) i in
      Kept floor h (requested q i Ok) (press_of (renumbered step writes reads s)
      (changed p.client q (with_link c i (got_reply v.badge v.setpoint))))
  get-kept i hi w lk state a =
      let v = kept_at x (tag_in c) i in
      let answer = got_reply v.badge v.setpoint in
      let come = replied_come i hi w lk answer refl refl (mask_in c) a.begin a.deliveries a.losses a.is in
      let left = come-some (with_link c i answer).link i hi (rw (changed-same c.link i answer) (omega arith)) in
      let masked = (rw lk at (a.links i hi)).0 in
      read_kept i hi w lk answer refl refl (mask_in c) a.begin a.deliveries a.losses a.is (omega (arith, a.count, come, left))
      (record {
        latest = okay.latest;
        entered = okay.entered;
        activity = at-getting state (record {
          begin = a.begin;
          deliveries = suc a.deliveries;
          losses = a.losses;
          is = refl;
          low = a.low;
          high = a.high;
          bound = a.bound;
          count = omega (arith, a.count, come);
          busy = left;
          tags = a.tags;
          asked = a.asked;
          links = λ j l. changed-all c.link i answer (λ j k. j < targets → GetLink x c j k) (λ m. (masked, refl))
              (λ j ne m. a.links j m) j l;
        });
      })

  -- C: how much a server or the coordinator holds at the moment of answering.
  abbrev pub holding : ℕ → ℕ
  holding i = cond (eqb i coordinator) s.entries (s.held i)

  pub get-all-kept : (i : ℕ) → i < targets → (w : Contents) → c.link i ≡ Request w → state_in c ≡ asking_all → AskingAll h.extra x (floor q) q c (h.doing q) →
      Kept floor h (requested q i Ok) (press_of (renumbered step writes reads s) (changed p.client q (with_link c i (reply (holding i)))))
  get-all-kept i hi w lk state a =
      let n = holding i in
      let come = replied_come i hi w lk (reply n) refl refl (mask_in c) a.begin a.deliveries a.losses a.is in
      let left = come-some (with_link c i (reply n)).link i hi (rw (changed-same c.link i (reply n)) (omega arith)) in
      read_kept i hi w lk (reply n) refl refl (mask_in c) a.begin a.deliveries a.losses a.is
      (omega (arith, a.count, come, left)) (record {
        latest = okay.latest;
        entered = okay.entered;
        activity = at_all state (record {
          begin = a.begin;
          deliveries = suc a.deliveries;
          losses = a.losses;
          is = refl;
          two = a.two;
          low = a.low;
          bound = a.bound;
          count = omega (arith, a.count, come);
          busy = left;
          links = λ j l. changed-all c.link i (reply n) (λ j k. j < targets → AllLink x (floor q) c j k) (λ m. snapshot) (λ j ne m. a.links j m) j l;
        });
      })
    where
      snapshot : Snapshot x (floor q) c i (holding i)
      snapshot =
          by-test (eqb i coordinator)
          (λ e. rw e (λ d. (omega (arith, a.low, tied.entries), omega (arith, tied.entries)), λ m. let z : ⊥ = omega (arith, a.bound i m, eqb-true i coordinator e) in absurd z))
          (λ e. rw e (λ d. absurd (eqb-false i coordinator e d), λ m. (omega arith, tied.value (floor q) a.low i (a.bound i m))))
