-- What ties the tables to the history, by client, and what another client's step leaves of it.
use Prim.Native.Nat.{ℕ, suc, ◌+◌, ◌*◌, ◌≤◌, ◌<◌}
use mathlib.Core.Path.{◌≡◌, sym, ap, ◌∙◌, subst}
use mathlib.Core.Bool.{true}
use mathlib.Core.Option.{Option, none, some}
use mathlib.Core.List.{List}
use native.Mathlib.Omega.{arith}
use lib.ListN.{get_or}
use Rattle.keys.specs.declared.Key.{Key}
use Rattle.keys.specs.Keys.{key_of, key_at_word}
use Rattle.keys.specs.Masks.{has_server, servers_in}
use Rattle.coordinator.specs.Latest.{latest_tag}
use Rattle.tables.specs.Layout.{server_places}
use Rattle.tables.specs.Links.{targets}
use Rattle.tables.specs.declared.links.Content.{Content}
use Rattle.tables.specs.declared.links.Content.TheVariants.{Nothing, Request, Reply, Lost}
use Rattle.rules.specs.Common.{idle, entering, asking_keys, asking_setpoints, asking_all, coordinator}
use Rattle.rules.specs.Common as rules
use Rattle.claim.specs.History.{Value, Doing, nothing, writing, tagged, reading, History, extra_of}
use Rattle.claim.specs.Claim.{enough}
use Rattle.serial.proofs.Owed.{value_in}
use Rattle.serial.proofs.Versions.{Version, kept_of, sent_of}
use Rattle.serial.proofs.Press.{Client, Press, state_in, count_in, mask_in, tag_in, setpoint_in, received_in, write_badge_in, asked_in}
use Rattle.serial.proofs.Press.{to_come, is_reply, World, kept_at, carried, stored_in, kept_tag_in, world}

-- ---- what a link of a client holds, by the client's state

-- the key of the client's WRITE
abbrev pub own : ℕ → Client → Key
own q c = key_of (count_in c) q

-- server i keeps this of a key
abbrev pub Holds : World → ℕ → Key → Version → Type 0
Holds x i key v = x.lookup i key (x.held i) ≡ some v

abbrev pub Masked : Client → ℕ → Type 0
Masked c i = has_server (mask_in c) i ≡ true

-- what a server keeps of a key is this, or nothing yet
abbrev pub Fits : Version → Option Version → Type 0
Fits v none = Unit {0}
Fits v (some u) = u ≡ v

-- State 1. A server that acknowledged holds what it was sent. One whose request is still under way, or was lost, holds it or does not have
-- the key: the request may be one sent again.
module _ (x : World) (q : ℕ) (c : Client) where
  abbrev pub HeldOrNot : Version → ℕ → Type 0
  HeldOrNot v i = Fits v (x.lookup i (own q c) (x.held i))

  abbrev pub WriteLink : ℕ → List ℕ → ℕ → Content → Type 0
  WriteLink badge setpoints i Nothing = Masked c i → Holds x i (own q c) (sent_of badge setpoints i)
  WriteLink badge setpoints i (Request w) =
      (w.key ≡ own q c) × (carried w ≡ sent_of badge setpoints i) × (i < x.servers) × HeldOrNot (sent_of badge setpoints i) i
  WriteLink badge setpoints i (Reply w) = (i < x.servers) × Holds x i (own q c) (sent_of badge setpoints i)
  WriteLink badge setpoints i Lost = (i < x.servers) × HeldOrNot (sent_of badge setpoints i) i

-- State 3. The reply's number is that of the entries, one more than the last tag.
module _ (x : World) (floor : ℕ) where
  abbrev pub KeysLink : Content → Type 0
  KeysLink Nothing = ⊥
  KeysLink (Request w) = Unit {0}
  KeysLink (Reply w) = (floor < w.number) × (w.number ≤ suc x.tags)
  KeysLink Lost = Unit {0}

-- State 4. A request asks for the key that the client keeps; every reply and setpoint is of the value behind the client's tag.
module _ (x : World) (c : Client) where
  abbrev pub GetLink : ℕ → Content → Type 0
  GetLink i Nothing = Masked c i → stored_in c i ≡ kept_at x (tag_in c) i
  GetLink i (Request w) = Masked c i × (w.key ≡ key_at_word (asked_in c i))
  GetLink i (Reply w) = Masked c i × (carried w ≡ kept_at x (tag_in c) i)
  GetLink i Lost = Masked c i

-- State 5. The first n versions, or entries, hold what the row had when the READ began.
abbrev pub Snapshot : World → ℕ → Client → ℕ → ℕ → Type 0
Snapshot x floor c i n =
    (i ≡ coordinator → (floor < n) × (n ≤ suc x.tags)) ×
    (Masked c i → (n ≤ x.held i) × (x.lookup i (x.key floor i) n ≡ some (kept_at x floor i)))

module _ (x : World) (floor : ℕ) (c : Client) where
  abbrev pub AllLink : ℕ → Content → Type 0
  AllLink i Nothing = Snapshot x floor c i (received_in c i)
  AllLink i (Request w) = Unit {0}
  AllLink i (Reply w) = Snapshot x floor c i w.number
  AllLink i Lost = Unit {0}

-- ---- what a client is at, by its state

module _ (extra : ℕ) (x : World) (floor q : ℕ) (c : Client) (doing : Doing) where
  pub record Writing : Type 0 where
    pub badge : ℕ
    pub setpoints : List ℕ
    pub begin : ℕ
    pub is : doing ≡ writing (mask_in c) badge setpoints begin
    pub few : count_in c < 256
    pub bound : (i : ℕ) → Masked c i → i < x.servers
    -- the row gives what a resend sends
    pub badge-kept : write_badge_in c ≡ badge
    pub setpoints-kept : (i : ℕ) → i < x.servers → setpoint_in c i ≡ get_or setpoints i 0
    pub new : x.entry (own q c) ≡ none
    pub links : (i : ℕ) → i < targets → WriteLink x q c badge setpoints i (c.link i)

  -- State 2. Before the entry all servers of the mask hold the key, and the log does not have it.
  pub record Stored : Type 0 where
    pub badge : ℕ
    pub setpoints : List ℕ
    pub begin : ℕ
    pub is : doing ≡ writing (mask_in c) badge setpoints begin
    pub few : count_in c < 256
    pub bound : (i : ℕ) → Masked c i → i < x.servers
    pub new : x.entry (own q c) ≡ none
    pub all : (i : ℕ) → Masked c i → Holds x i (own q c) (sent_of badge setpoints i)

  -- Behind it the WRITE has its tag, and the log has the key first at that tag.
  pub record HasTag (tag : ℕ) : Type 0 where
    pub is : doing ≡ tagged tag
    pub there : x.entry (own q c) ≡ some tag

  -- a request under way, or lost, may be one sent again
  pub data AtHead : Type 0 where
    to-enter : Stored → AtHead
    has-entered : (tag : ℕ) → HasTag tag → AtHead

  abbrev pub EnterLink : Content → Type 0
  EnterLink Nothing = ⊥
  EnterLink (Request w) = (w.key ≡ own q c) × (w.number ≡ mask_in c) × AtHead
  EnterLink (Reply w) = HasTag w.number
  EnterLink Lost = AtHead

  pub record Entering : Type 0 where
    pub others : (i : ℕ) → i < coordinator → c.link i ≡ Nothing
    pub entry : EnterLink (c.link coordinator)

  pub record AskingKeys : Type 0 where
    pub begin : ℕ
    pub deliveries : ℕ
    pub losses : ℕ
    pub is : doing ≡ reading (mask_in c) begin deliveries losses
    pub two : extra ≡ 2
    pub low : floor ≤ x.tags
    pub some : 0 < servers_in (mask_in c)
    pub bound : (i : ℕ) → Masked c i → i < x.servers
    -- the second round is to come
    pub count : deliveries + to_come c.link + 2 * servers_in (mask_in c) ≡ enough extra (mask_in c) losses
    pub others : (i : ℕ) → i < coordinator → c.link i ≡ Nothing
    pub keys : KeysLink x floor (c.link coordinator)

  pub record Getting : Type 0 where
    pub begin : ℕ
    pub deliveries : ℕ
    pub losses : ℕ
    pub is : doing ≡ reading (mask_in c) begin deliveries losses
    pub low : floor ≤ tag_in c
    pub high : tag_in c ≤ x.tags
    pub bound : (i : ℕ) → Masked c i → i < x.servers
    pub count : deliveries + to_come c.link ≡ enough extra (mask_in c) losses
    pub busy : 0 < to_come c.link
    pub tags : (i : ℕ) → Masked c i → kept_tag_in c i ≡ (x.value (tag_in c) i).tag
    pub asked : (i : ℕ) → Masked c i → Holds x i (key_at_word (asked_in c i)) (kept_at x (tag_in c) i)
    pub links : (i : ℕ) → i < targets → GetLink x c i (c.link i)

  pub record AskingAll : Type 0 where
    pub begin : ℕ
    pub deliveries : ℕ
    pub losses : ℕ
    pub is : doing ≡ reading (mask_in c) begin deliveries losses
    pub two : extra ≡ 2
    pub low : floor ≤ x.tags
    pub bound : (i : ℕ) → Masked c i → i < x.servers
    pub count : deliveries + to_come c.link ≡ enough extra (mask_in c) losses
    pub busy : 0 < to_come c.link
    pub links : (i : ℕ) → i < targets → AllLink x floor c i (c.link i)

  pub record Idle : Type 0 where
    pub is : doing ≡ nothing
    pub links : (i : ℕ) → i < targets → c.link i ≡ Nothing

  pub data Activity : Type 0 where
    at_rest : state_in c ≡ idle → Idle → Activity
    at-writing : state_in c ≡ rules.writing → Writing → Activity
    at-entering : state_in c ≡ entering → Entering → Activity
    at-keys : state_in c ≡ asking_keys → AskingKeys → Activity
    at-getting : state_in c ≡ asking_setpoints → Getting → Activity
    at_all : state_in c ≡ asking_all → AskingAll → Activity

  pub record ClientOk : Type 0 where
    -- no version bears a later key of this client
    pub latest : (i n : ℕ) (v : Version) → Holds x i (key_of n q) v → n ≤ count_in c
    -- and no entry
    pub entered : (n tag : ℕ) → x.entry (key_of n q) ≡ some tag → n ≤ count_in c
    pub activity : Activity

-- At most 16 clients and servers; the key of server i at a tag is held with the value behind that tag, and comes from the value's tag.
pub record Tied (floor : ℕ → ℕ) (p : Press) (h : History) : Type 0 where
  pub method : h.extra ≡ extra_of p.shared.method
  pub entries : p.shared.entries ≡ suc h.tags
  pub room : (i : ℕ) → p.shared.held i ≤ server_places
  pub value : (tag : ℕ) → tag ≤ h.tags → (i : ℕ) → i < p.shared.servers →
      (world p h).lookup i ((world p h).key tag i) (p.shared.held i) ≡ some (kept_at (world p h) tag i)
  pub tags : (tag : ℕ) → tag ≤ h.tags → (i : ℕ) → latest_tag p.shared.log i tag ≡ (value_in h tag i).tag
  pub clients : (q : ℕ) → q < 16 → ClientOk h.extra (world p h) (floor q) q (p.client q) (h.doing q)
  -- the last accepted step on a link was the delivery of a request exactly where it holds a reply
  pub answered : (q : ℕ) → q < 16 → (i : ℕ) → i < targets → h.answered q i ≡ is_reply ((p.client q).link i)

-- What a step of another client does to the world that client q sees.
pub record Grown (q : ℕ) (x y : World) : Type 0 where
  pub servers : y.servers ≡ x.servers
  pub tags : x.tags ≤ y.tags
  pub value : (tag : ℕ) → tag ≤ x.tags → (i : ℕ) → y.value tag i ≡ x.value tag i
  pub key : (tag : ℕ) → tag ≤ x.tags → (i : ℕ) → y.key tag i ≡ x.key tag i
  pub held : (i : ℕ) → x.held i ≤ y.held i
  pub fewer : (i : ℕ) (key : Key) (n : ℕ) → n ≤ x.held i → y.lookup i key n ≡ x.lookup i key n
  pub more : (i : ℕ) (key : Key) (v : Version) → x.lookup i key (x.held i) ≡ some v → y.lookup i key (y.held i) ≡ some v
  pub own : (i n : ℕ) → y.lookup i (key_of n q) (y.held i) ≡ x.lookup i (key_of n q) (x.held i)
  pub entry : (n : ℕ) → y.entry (key_of n q) ≡ x.entry (key_of n q)

module _ (extra floor q : ℕ) (x y : World) (g : Grown q x y) (c : Client) (d : Doing) where
  fits-frame : (i : ℕ) (v : Version) → HeldOrNot x q c v i → HeldOrNot y q c v i
  fits-frame i v h = subst (Fits v) (sym (g.own i (count_in c))) h

  write-frame : (badge : ℕ) (setpoints : List ℕ) (i : ℕ) (l : Content) → WriteLink x q c badge setpoints i l →
      WriteLink y q c badge setpoints i l
  write-frame badge setpoints i Nothing h = λ m. g.own i (count_in c) ∙ h m
  write-frame badge setpoints i (Request w) h = (h.0, h.1, rw g.servers h.2, fits-frame i (sent_of badge setpoints i) h.3)
  write-frame badge setpoints i (Reply w) h = (rw g.servers h.0, g.own i (count_in c) ∙ h.1)
  write-frame badge setpoints i Lost h = (rw g.servers h.0, fits-frame i (sent_of badge setpoints i) h.1)

  head-frame : AtHead extra x floor q c d → AtHead extra y floor q c d
  head-frame (to-enter s) =
      to-enter (record {
        badge = s.badge;
        setpoints = s.setpoints;
        begin = s.begin;
        is = s.is;
        few = s.few;
        bound = λ i m. rw g.servers (s.bound i m);
        new = g.entry (count_in c) ∙ s.new;
        all = λ i m. g.own i (count_in c) ∙ s.all i m;
      })
  head-frame (has-entered tag t) = has-entered tag (record { is = t.is; there = g.entry (count_in c) ∙ t.there })

  enter-frame : (l : Content) → EnterLink extra x floor q c d l → EnterLink extra y floor q c d l
  enter-frame Nothing h = h
  enter-frame (Request w) h = (h.0, h.1, head-frame h.2)
  enter-frame (Reply w) h = record { is = h.is; there = g.entry (count_in c) ∙ h.there }
  enter-frame Lost h = head-frame h

  keys-frame : (l : Content) → KeysLink x floor l → KeysLink y floor l
  keys-frame Nothing h = h
  keys-frame (Request w) h = tt
  keys-frame (Reply w) h = (h.0, omega (arith, h.1, g.tags))
  keys-frame Lost h = tt

  get-frame : tag_in c ≤ x.tags → (i : ℕ) (l : Content) → GetLink x c i l → GetLink y c i l
  get-frame b i Nothing h = λ m. h m ∙ sym (ap kept_of (g.value (tag_in c) b i))
  get-frame b i (Request w) h = h
  get-frame b i (Reply w) h = (h.0, h.1 ∙ sym (ap kept_of (g.value (tag_in c) b i)))
  get-frame b i Lost h = h

  snapshot-frame : floor ≤ x.tags → (i n : ℕ) → Snapshot x floor c i n → Snapshot y floor c i n
  snapshot-frame b i n h = (
    λ e. ((h.0 e).0, omega (arith, (h.0 e).1, g.tags)),
    λ m. let s = h.1 m in (omega (arith, s.0, g.held i), rw (g.fewer i _ n s.0, g.key floor b i, g.value floor b i) s.1),
  )

  all-frame : floor ≤ x.tags → (i : ℕ) (l : Content) → AllLink x floor c i l → AllLink y floor c i l
  all-frame b i Nothing h = snapshot-frame b i (received_in c i) h
  all-frame b i (Request w) h = tt
  all-frame b i (Reply w) h = snapshot-frame b i w.number h
  all-frame b i Lost h = tt

  activity-frame : Activity extra x floor q c d → Activity extra y floor q c d
  activity-frame (at_rest e a) = at_rest e (record { is = a.is; links = a.links })
  activity-frame (at-writing e a) =
      at-writing e (record {
        badge = a.badge;
        setpoints = a.setpoints;
        begin = a.begin;
        is = a.is;
        few = a.few;
        bound = λ i m. rw g.servers (a.bound i m);
        badge-kept = a.badge-kept;
        setpoints-kept = λ i l. a.setpoints-kept i (rw g.servers at l);
        new = g.entry (count_in c) ∙ a.new;
        links = λ i l. write-frame a.badge a.setpoints i (c.link i) (a.links i l);
      })
  activity-frame (at-entering e a) = at-entering e (record { others = a.others; entry = enter-frame (c.link coordinator) a.entry })
  activity-frame (at-keys e a) =
      at-keys e (record {
        begin = a.begin;
        deliveries = a.deliveries;
        losses = a.losses;
        is = a.is;
        two = a.two;
        low = omega (arith, a.low, g.tags);
        some = a.some;
        bound = λ i m. rw g.servers (a.bound i m);
        count = a.count;
        others = a.others;
        keys = keys-frame (c.link coordinator) a.keys;
      })
  activity-frame (at-getting e a) =
      at-getting e (record {
        begin = a.begin;
        deliveries = a.deliveries;
        losses = a.losses;
        is = a.is;
        low = a.low;
        high = omega (arith, a.high, g.tags);
        bound = λ i m. rw g.servers (a.bound i m);
        count = a.count;
        busy = a.busy;
        tags = λ i m. a.tags i m ∙ sym (ap (λ (v : Value). v.tag) (g.value (tag_in c) a.high i));
        asked = λ i m. rw (g.value (tag_in c) a.high i) (g.more i _ _ (a.asked i m));
        links = λ i l. get-frame a.high i (c.link i) (a.links i l);
      })
  activity-frame (at_all e a) =
      at_all e (record {
        begin = a.begin;
        deliveries = a.deliveries;
        losses = a.losses;
        is = a.is;
        two = a.two;
        low = omega (arith, a.low, g.tags);
        bound = λ i m. rw g.servers (a.bound i m);
        count = a.count;
        busy = a.busy;
        links = λ i l. all-frame a.low i (c.link i) (a.links i l);
      })

  pub client-frame : ClientOk extra x floor q c d → ClientOk extra y floor q c d
  client-frame ok = record {
    latest = λ i n v e. ok.latest i n v (sym (g.own i n) ∙ e);
    entered = λ n tag e. ok.entered n tag (sym (g.entry n) ∙ e);
    activity = activity-frame ok.activity;
  }
