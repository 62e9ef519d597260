-- A loss and a request sent again keep the tie. A loss leaves the client waiting; it puts off the end of a READ by one delivery where
-- what was lost is a reply. What is sent again is what the client's row gives.
use Prim.Native.Nat.{ℕ, ◌+◌, ◌<◌}
use mathlib.Core.Path.{◌≡◌, refl, ap, ap₂, ◌∙◌}
use mathlib.Core.Bool.{Bool, false}
use mathlib.Core.List.{List}
use native.Mathlib.Omega.{arith}
use Rattle.keys.specs.Keys.{key_at_word, opening}
use Rattle.tables.specs.Links.{targets}
use Rattle.tables.specs.declared.links.Contents.{Contents}
use Rattle.tables.specs.declared.links.Content.{Content}
use Rattle.tables.specs.declared.links.Content.TheVariants.{Nothing, Request, Reply, Lost}
use Rattle.rules.specs.Common.{entering, asking_keys, asking_setpoints, asking_all, coordinator, request, set_request}
use Rattle.rules.specs.Common as rules
use Rattle.rules.specs.Answer.{Ok}
use Rattle.claim.specs.Steps.{lost, resent}
use Rattle.claim.specs.History.{changed, reading, History, passed, marked, lost_of, missed, repeated}
use Rattle.serial.proofs.Places.{changed-same, changed_other, changed-all}
use Rattle.serial.proofs.Versions.{version_of, sent_of}
use Rattle.serial.proofs.Owed.{Busy}
use Rattle.serial.proofs.Press.{Shared, renumbered, Client, Press, press_of, state_in, mask_in, setpoint_in, write_badge_in, asked_in}
use Rattle.serial.proofs.Press.{weight}
use Rattle.serial.proofs.Press.{is_reply, to_come, World, world}
use Rattle.serial.proofs.Links.{come-changed, come-some}
use Rattle.serial.proofs.Invariant.{own, HeldOrNot, WriteLink, Writing, AtHead, to-enter, has-entered, EnterLink, Entering, KeysLink}
use Rattle.serial.proofs.Invariant.{AskingKeys, GetLink, Getting, AllLink, AskingAll, at-writing, at-entering, at-keys, at-getting}
use Rattle.serial.proofs.Invariant.{at_all, ClientOk, Tied}
use Rattle.serial.proofs.Kept.{Kept, link_marks, turned-tied, moved-tied}
use Rattle.serial.proofs.Requests.{with_link}

-- something that can be lost
abbrev pub OnItsWay : Content → Type 0
OnItsWay Nothing = ⊥
OnItsWay (Request w) = Unit {0}
OnItsWay (Reply w) = Unit {0}
OnItsWay Lost = ⊥

-- a lost reply has one delivery more to come than it had, a lost request as many
lost-weight : (l : Content) → OnItsWay l → (losses : ℕ) → 2 + losses ≡ weight l + lost_of (is_reply l) losses
lost-weight Nothing o losses = absurd o
lost-weight (Request w) o losses = refl
lost-weight (Reply w) o losses = omega arith
lost-weight Lost o losses = absurd o

module _ (floor : ℕ → ℕ) (p : Press) (h : History) (tied : Tied floor p h) (q : ℕ) (hq : q < 16) (step writes reads : ℕ) where
  abbrev x : World
  x = world p h

  abbrev c : Client
  c = p.client q

  abbrev s : Shared
  s = p.shared

  okay : ClientOk h.extra x (floor q) q c (h.doing q)
  okay = tied.clients q hq

  abbrev afterwards : Client → Press
  afterwards d = press_of (renumbered step writes reads s) (changed p.client q d)

  -- What is left of a WRITE whose link holds another content.
  module _ (i : ℕ) (l : Content) where
    write-stays : state_in c ≡ rules.writing → (a : Writing h.extra x (floor q) q c (h.doing q)) →
        WriteLink x q c a.badge a.setpoints i l → ClientOk h.extra x (floor q) q (with_link c i l) (h.doing q)
    write-stays state a new = record {
      latest = okay.latest;
      entered = okay.entered;
      activity = at-writing state (record {
        badge = a.badge;
        setpoints = a.setpoints;
        begin = a.begin;
        is = a.is;
        few = a.few;
        bound = a.bound;
        badge-kept = a.badge-kept;
        setpoints-kept = a.setpoints-kept;
        new = a.new;
        links = λ j m. changed-all c.link i l (λ j k. j < targets → WriteLink x q c a.badge a.setpoints j k)
            (λ k. new) (λ j ne k. a.links j k) j m;
      });
    }

  head-stays : (l : Content) → AtHead h.extra x (floor q) q c (h.doing q) →
      AtHead h.extra x (floor q) q (with_link c coordinator l) (h.doing q)
  head-stays l (to-enter a) =
      to-enter (record {
        badge = a.badge;
        setpoints = a.setpoints;
        begin = a.begin;
        is = a.is;
        few = a.few;
        bound = a.bound;
        new = a.new;
        all = a.all;
      })
  head-stays l (has-entered tag t) = has-entered tag (record { is = t.is; there = t.there })

  enter-stays : (l : Content) → state_in c ≡ entering → Entering h.extra x (floor q) q c (h.doing q) →
      EnterLink h.extra x (floor q) q (with_link c coordinator l) (h.doing q) l →
      ClientOk h.extra x (floor q) q (with_link c coordinator l) (h.doing q)
  enter-stays l state a new = record {
    latest = okay.latest;
    entered = okay.entered;
    activity = at-entering state (record {
      others = λ j m. changed_other c.link coordinator l j (λ e. omega arith) ∙ a.others j m;
      entry = rw (changed-same c.link coordinator l) new;
    });
  }

  -- What is left of a READ: what its links have to bring and its lost replies go together.
  module _ (i : ℕ) (l : Content) (losses' : ℕ) where
    keys-stays : state_in c ≡ asking_keys → i ≡ coordinator → (a : AskingKeys h.extra x (floor q) q c (h.doing q)) →
        to_come (with_link c i l).link + a.losses ≡ to_come c.link + losses' → KeysLink x (floor q) l →
        ClientOk h.extra x (floor q) q (with_link c i l) (reading (mask_in c) a.begin a.deliveries losses')
    keys-stays state at a come new = record {
      latest = okay.latest;
      entered = okay.entered;
      activity = at-keys state (record {
        begin = a.begin;
        deliveries = a.deliveries;
        losses = losses';
        is = refl;
        two = a.two;
        low = a.low;
        some = a.some;
        bound = a.bound;
        count = omega (arith, a.count, come);
        others = λ j m. changed_other c.link i l j (λ e. omega arith) ∙ a.others j m;
        keys = rw (← at, changed-same c.link i l) new;
      });
    }

    get-stays : state_in c ≡ asking_setpoints → i < targets → 0 < weight l → (a : Getting h.extra x (floor q) q c (h.doing q)) →
        to_come (with_link c i l).link + a.losses ≡ to_come c.link + losses' → GetLink x c i l →
        ClientOk h.extra x (floor q) q (with_link c i l) (reading (mask_in c) a.begin a.deliveries losses')
    get-stays state hi full a come new = record {
      latest = okay.latest;
      entered = okay.entered;
      activity = at-getting state (record {
        begin = a.begin;
        deliveries = a.deliveries;
        losses = losses';
        is = refl;
        low = a.low;
        high = a.high;
        bound = a.bound;
        count = omega (arith, a.count, come);
        busy = come-some (with_link c i l).link i hi (rw (changed-same c.link i l) full);
        tags = a.tags;
        asked = a.asked;
        links = λ j m. changed-all c.link i l (λ j k. j < targets → GetLink x c j k) (λ k. new) (λ j ne k. a.links j k) j m;
      });
    }

    all-stays : state_in c ≡ asking_all → i < targets → 0 < weight l → (a : AskingAll h.extra x (floor q) q c (h.doing q)) →
        to_come (with_link c i l).link + a.losses ≡ to_come c.link + losses' → AllLink x (floor q) c i l →
        ClientOk h.extra x (floor q) q (with_link c i l) (reading (mask_in c) a.begin a.deliveries losses')
    all-stays state hi full a come new = record {
      latest = okay.latest;
      entered = okay.entered;
      activity = at_all state (record {
        begin = a.begin;
        deliveries = a.deliveries;
        losses = losses';
        is = refl;
        two = a.two;
        low = a.low;
        bound = a.bound;
        count = omega (arith, a.count, come);
        busy = come-some (with_link c i l).link i hi (rw (changed-same c.link i l) full);
        links = λ j m. changed-all c.link i l (λ j k. j < targets → AllLink x (floor q) c j k) (λ k. new) (λ j ne k. a.links j k) j m;
      });
    }

  -- A loss.
  module _ (i : ℕ) (hi : i < targets) (l : Content) (lk : c.link i ≡ l) (way : OnItsWay l) where
    abbrev Lostly : Type 0
    Lostly = Kept floor h (lost q i Ok) (afterwards (with_link c i Lost))

    write-lost : (badge : ℕ) (setpoints : List ℕ) (k : Content) → OnItsWay k → WriteLink x q c badge setpoints i k →
        WriteLink x q c badge setpoints i Lost
    write-lost badge setpoints Nothing o a = absurd o
    write-lost badge setpoints (Request w) o a = (a.2, a.3)
    write-lost badge setpoints (Reply w) o a = (a.0, rw a.1 refl)
    write-lost badge setpoints Lost o a = absurd o

    pub set-lost-kept : state_in c ≡ rules.writing → Writing h.extra x (floor q) q c (h.doing q) → Lostly
    set-lost-kept state a = (
      rw a.is tt,
      rw a.is (moved-tied floor p h tied q hq (with_link c i Lost) step writes reads i false (link_marks c.link i Lost)
          (write-stays i Lost state a (write-lost a.badge a.setpoints l way (rw lk at (a.links i hi))))),
    )

    -- what the history tells of it: whether it was a reply
    told : h.answered q i ≡ is_reply l
    told = tied.answered q hq i hi ∙ ap is_reply lk

    come : (losses : ℕ) → to_come (with_link c i Lost).link + losses ≡ to_come c.link + lost_of (h.answered q i) losses
    come losses =
        omega (arith, come-changed c.link i Lost hi, ap weight lk, lost-weight l way losses, ap (λ (b : Bool). lost_of b losses) told)

    read-lost : (mask begin deliveries losses : ℕ) → h.doing q ≡ reading mask begin deliveries losses →
        ClientOk h.extra x (floor q) q (with_link c i Lost) (reading mask begin deliveries (lost_of (h.answered q i) losses)) → Lostly
    read-lost mask begin deliveries losses is ok = (
      rw is tt,
      rw is (turned-tied floor p h tied q hq (with_link c i Lost) step writes reads i false (link_marks c.link i Lost) _ ok),
    )

    pub keys-lost-kept : state_in c ≡ asking_keys → i ≡ coordinator → AskingKeys h.extra x (floor q) q c (h.doing q) → Lostly
    keys-lost-kept state at a =
        read-lost (mask_in c) a.begin a.deliveries a.losses a.is (keys-stays i Lost _ state at a (come a.losses) tt)

    get-lost : (k : Content) → OnItsWay k → GetLink x c i k → GetLink x c i Lost
    get-lost Nothing o a = absurd o
    get-lost (Request w) o a = a.0
    get-lost (Reply w) o a = a.0
    get-lost Lost o a = absurd o

    pub get-lost-kept : state_in c ≡ asking_setpoints → Getting h.extra x (floor q) q c (h.doing q) → Lostly
    get-lost-kept state a =
        read-lost (mask_in c) a.begin a.deliveries a.losses a.is
        (get-stays i Lost _ state hi (omega arith) a (come a.losses) (get-lost l way (rw lk at (a.links i hi))))

    pub all-lost-kept : state_in c ≡ asking_all → AskingAll h.extra x (floor q) q c (h.doing q) → Lostly
    all-lost-kept state a =
        read-lost (mask_in c) a.begin a.deliveries a.losses a.is
        (all-stays i Lost _ state hi (omega arith) a (come a.losses) tt)

  enter-lost : (l : Content) → OnItsWay l → EnterLink h.extra x (floor q) q c (h.doing q) l →
      AtHead h.extra x (floor q) q c (h.doing q)
  enter-lost Nothing o a = absurd o
  enter-lost (Request w) o a = a.2
  enter-lost (Reply w) o a = has-entered w.number a
  enter-lost Lost o a = absurd o

  -- a WRITE in state 2 has its tag or has it not; a loss passes either way
  head_passes : (i : ℕ) (d : Client) → AtHead h.extra x (floor q) q c (h.doing q) →
      Tied floor (afterwards d) (marked q i false (passed h)) →
      Busy (h.doing q) × Tied floor (afterwards d) (marked q i false (missed (h.answered q i) (h.doing q) q h)) ×
      Tied floor (afterwards d) (marked q i false (repeated (h.doing q) h))
  head_passes i d (to-enter a) t = (rw a.is tt, rw a.is t, rw a.is t)
  head_passes i d (has-entered tag a) t = (rw a.is tt, rw a.is t, rw a.is t)

  pub enter-lost-kept : (l : Content) → c.link coordinator ≡ l → OnItsWay l → state_in c ≡ entering →
      Entering h.extra x (floor q) q c (h.doing q) → Kept floor h (lost q coordinator Ok) (afterwards (with_link c coordinator Lost))
  enter-lost-kept l lk way state a =
      let head = enter-lost l way (rw lk at a.entry) in
      let t = head_passes coordinator (with_link c coordinator Lost) head
      (moved-tied floor p h tied q hq (with_link c coordinator Lost) step writes reads coordinator false
      (link_marks c.link coordinator Lost)
      (enter-stays Lost state a (head-stays Lost head))) in
      (t.0, t.1)

  -- A request sent again.
  module _ (i : ℕ) (hi : i < targets) (lk : c.link i ≡ Lost) where
    abbrev Again : Content → Type 0
    Again l = Kept floor h (resent q i Ok) (afterwards (with_link c i l))

    pub set-resent-kept : state_in c ≡ rules.writing → Writing h.extra x (floor q) q c (h.doing q) →
        Again (set_request (own q c) (write_badge_in c) (setpoint_in c i))
    set-resent-kept state a =
        let l = set_request (own q c) (write_badge_in c) (setpoint_in c i) in
        let link : (i < x.servers) × HeldOrNot x q c (sent_of a.badge a.setpoints i) i = rw lk at (a.links i hi) in (
          rw a.is tt,
          rw a.is (moved-tied floor p h tied q hq (with_link c i l) step writes reads i false (link_marks c.link i l)
              (write-stays i l state a (refl, ap₂ version_of a.badge-kept (a.setpoints-kept i link.0), link.0, link.1))),
        )

    -- a request has as much to bring as what was lost
    same_come : (w : Contents) (losses : ℕ) → to_come (with_link c i (Request w)).link + losses ≡ to_come c.link + losses
    same_come w losses = omega (arith, come-changed c.link i (Request w) hi, ap weight lk)

    read-resent : (w : Contents) (mask begin deliveries losses : ℕ) → h.doing q ≡ reading mask begin deliveries losses →
        ClientOk h.extra x (floor q) q (with_link c i (Request w)) (reading mask begin deliveries losses) → Again (Request w)
    read-resent w mask begin deliveries losses is ok = (
      rw is tt,
      rw is (moved-tied floor p h tied q hq (with_link c i (Request w)) step writes reads i false (link_marks c.link i (Request w))
          (rw is ok)),
    )

    pub keys-resent-kept : state_in c ≡ asking_keys → i ≡ coordinator → AskingKeys h.extra x (floor q) q c (h.doing q) →
        Again (request opening 0)
    keys-resent-kept state at a =
        read-resent _ (mask_in c) a.begin a.deliveries a.losses a.is
        (keys-stays i (request opening 0) a.losses state at a (same_come _ a.losses) tt)

    pub get-resent-kept : state_in c ≡ asking_setpoints → Getting h.extra x (floor q) q c (h.doing q) →
        Again (request (key_at_word (asked_in c i)) 0)
    get-resent-kept state a =
        read-resent _ (mask_in c) a.begin a.deliveries a.losses a.is
        (get-stays i (request (key_at_word (asked_in c i)) 0) a.losses state hi (omega arith) a (same_come _ a.losses)
        (rw lk at (a.links i hi), refl))

    pub all-resent-kept : state_in c ≡ asking_all → AskingAll h.extra x (floor q) q c (h.doing q) → Again (request opening 0)
    all-resent-kept state a =
        read-resent _ (mask_in c) a.begin a.deliveries a.losses a.is
        (all-stays i (request opening 0) a.losses state hi (omega arith) a (same_come _ a.losses) tt)

  pub enter-resent-kept : c.link coordinator ≡ Lost → state_in c ≡ entering → Entering h.extra x (floor q) q c (h.doing q) →
      Kept floor h (resent q coordinator Ok) (afterwards (with_link c coordinator (request (own q c) (mask_in c))))
  enter-resent-kept lk state a =
      let l = request (own q c) (mask_in c) in
      let head : AtHead h.extra x (floor q) q c (h.doing q) = rw lk at a.entry in
      let t = head_passes coordinator (with_link c coordinator l) head
      (moved-tied floor p h tied q hq (with_link c coordinator l) step writes reads coordinator false (link_marks c.link coordinator l)
      (enter-stays l state a (refl, refl, head-stays l head))) in
      (t.0, t.2)
