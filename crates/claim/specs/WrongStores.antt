-- Wrong stores: machines that a reviewer would try, each a machine but for one thing: the store's, or by A the one that begins by the
-- former rules.
use Rattle.std.specs.Prelude.{ℕ, suc, ◌-◌, cond, List, [], ◌∷◌, get_or, replicate, eqb, ltb}
use Rattle.ranges.specs.Turns.{turns}
use Rattle.keys.specs.Keys.{key_of}
use Rattle.tables.specs.Layout.{put_client_word, state_field, version_badge}
use Rattle.tables.specs.Links.{link_word, put_link}
use Rattle.tables.specs.Tables.{Tables, with_clients, with_links, entries_of, reads_of, state_of, count_of, mask_of, held_of}
use Rattle.tables.specs.declared.links.Content.{Content}
use Rattle.tables.specs.declared.links.Content.TheVariants.{Nothing}
use Rattle.rules.specs.Answer.{Ok}
use Rattle.rules.specs.declared.Arrival.{Arrival}
use Rattle.rules.specs.declared.Arrival.TheVariants.{Wait, Next, Write, Read, Refused}
use Rattle.rules.specs.declared.Delivered.{Delivered}
use Rattle.rules.specs.Common as rules
use Rattle.rules.specs.Answers.{Left, nothing_shown}
use Rattle.rules.specs.Request.{got_from, on_new_enter}
use Rattle.rules.specs.Loss.{own_key_of}
use Rattle.refusals.specs.Steps.{deliver_reply}
use Rattle.claim.specs.Steps.{Step, opening, beginning-write, beginning-read, request, reply, losing, resending}
use Rattle.claim.specs.Steps.{Event, opened, begun-write, begun-read, requested, replied, lost, resent, Played, Machine}

-- the opening's setpoints, and those of a WRITE
abbrev pub first : List ℕ
first = 1200 ∷ 30 ∷ []

abbrev pub second : List ℕ
second = 1800 ∷ 45 ∷ []

-- ---- the store, but for the answers of delivered replies

-- another answer that shows the same
abbrev said : Arrival → Delivered → Delivered
said a d = record { arrival = a; setpoints = d.setpoints; tags = d.tags; badges = d.badges }

-- an answer that shows the opening: its setpoints, and no tag or badge but 0
abbrev shows_opening : Arrival → Delivered
shows_opening a = record { arrival = a; setpoints = first; tags = []; badges = [] }

-- what is answered in place of an answer, with the tables that the step left
abbrev pub Answering : Type 0
Answering = Tables → Arrival → Delivered → Delivered

abbrev otherwise : Answering → Tables → Event → Event
otherwise f t (opened method k p setpoints a) = opened method k p setpoints a
otherwise f t (begun-write q mask badge setpoints a) = begun-write q mask badge setpoints a
otherwise f t (begun-read q mask a) = begun-read q mask a
otherwise f t (requested q i a) = requested q i a
otherwise f t (replied q i d) = replied q i (f t d.arrival d)
otherwise f t (lost q i a) = lost q i a
otherwise f t (resent q i a) = resent q i a

-- one of the answers for another
abbrev in_place_of_wait : Delivered → Answering
in_place_of_wait d t Wait shown = d
in_place_of_wait d t Next shown = shown
in_place_of_wait d t (Write tag) shown = shown
in_place_of_wait d t (Read tag) shown = shown
in_place_of_wait d t (Refused n) shown = shown

abbrev in_place_of_next : Delivered → Answering
in_place_of_next d t Wait shown = shown
in_place_of_next d t Next shown = d
in_place_of_next d t (Write tag) shown = shown
in_place_of_next d t (Read tag) shown = shown
in_place_of_next d t (Refused n) shown = shown

abbrev in_place_of_write : (ℕ → Delivered) → Answering
in_place_of_write f t Wait shown = shown
in_place_of_write f t Next shown = shown
in_place_of_write f t (Write tag) shown = f tag
in_place_of_write f t (Read tag) shown = shown
in_place_of_write f t (Refused n) shown = shown

abbrev in_place_of_read : (Tables → ℕ → Delivered → Delivered) → Answering
in_place_of_read f t Wait shown = shown
in_place_of_read f t Next shown = shown
in_place_of_read f t (Write tag) shown = shown
in_place_of_read f t (Read tag) shown = f t tag shown
in_place_of_read f t (Refused n) shown = shown

abbrev in_place_of_refused : Delivered → Answering
in_place_of_refused d t Wait shown = shown
in_place_of_refused d t Next shown = shown
in_place_of_refused d t (Write tag) shown = shown
in_place_of_refused d t (Read tag) shown = shown
in_place_of_refused d t (Refused n) shown = d

abbrev then : Answering → Answering → Answering
then f g t a shown = let d = f t a shown in g t d.arrival d

-- the machine that each is but for one thing
module _ (base : Machine Step) where
  abbrev pub answering : Answering → Machine Step
  answering f step t = let x = base step t in record { event = otherwise f x.tables x.event; tables = x.tables }

  -- "A READ that always shows the opening at tag 0: demand 3, real time."
  abbrev pub opening_always : Machine Step
  opening_always = answering (in_place_of_read (λ t tag shown. shows_opening (Read 0)))

  -- every READ but the first one begun shows the opening
  abbrev pub opening_again : Machine Step
  opening_again = answering (in_place_of_read (λ t tag shown. cond (ltb 1 (reads_of t)) (shows_opening (Read 0)) (said (Read tag) shown)))

  -- a READ shows the opening at its tag
  abbrev pub opening_shown : Machine Step
  opening_shown = answering (in_place_of_read (λ t tag shown. shows_opening (Read tag)))

  -- a READ shows the opening at server 1
  abbrev pub opening_at_server1 : Machine Step
  opening_at_server1 =
      answering (in_place_of_read (λ t tag shown. record {
        arrival = Read tag;
        setpoints = get_or shown.setpoints 0 0 ∷ 30 ∷ [];
        tags = get_or shown.tags 0 0 ∷ [];
        badges = get_or shown.badges 0 0 ∷ [];
      }))

  -- a READ shows the right setpoints, and with every one of them its own tag
  abbrev pub own_tag : Machine Step
  own_tag =
      answering (in_place_of_read (λ t tag shown. record {
        arrival = Read tag;
        setpoints = shown.setpoints;
        tags = replicate 16 tag;
        badges = shown.badges;
      }))

  -- a READ answers a tag too large
  abbrev pub tag_too_large : Machine Step
  tag_too_large = answering (in_place_of_read (λ t tag shown. said (Read (suc tag)) shown))

  -- "*wait* for ever: … the delivery count in demand 3"
  abbrev pub waiting_for_ever : Machine Step
  waiting_for_ever = answering (in_place_of_read (λ t tag shown. said Wait shown))

  -- a READ that ends before all its replies are in
  abbrev pub ending_early : Machine Step
  ending_early = answering (in_place_of_wait (shows_opening (Read 0)))

  -- a READ that ends at one reply more than it has
  abbrev pub ending_late : Machine Step
  ending_late = answering (then (in_place_of_read (λ t tag shown. said Wait shown)) (in_place_of_refused (shows_opening (Read 0))))

  -- an invented tag
  abbrev pub inventing : Machine Step
  inventing = answering (in_place_of_write (λ tag. nothing_shown (Write (suc tag))))

  -- *write* at the last acknowledgement, before the entry
  abbrev pub written_unentered : Machine Step
  written_unentered = answering (in_place_of_next (nothing_shown (Write 1)))

  -- *write* at the end of a READ
  abbrev pub written_for_read : Machine Step
  written_for_read = answering (in_place_of_read (λ t tag shown. nothing_shown (Write tag)))

  -- *wait* for a reply that is not there
  abbrev pub waiting_at_nothing : Machine Step
  waiting_at_nothing = answering (in_place_of_refused (nothing_shown Wait))

  -- ---- the store, but for other steps

  -- *ok* to every begin, of a busy client too
  abbrev begun_always : Event → Event
  begun_always (opened method k p setpoints a) = opened method k p setpoints a
  begun_always (begun-write q mask badge setpoints a) = begun-write q mask badge setpoints Ok
  begun_always (begun-read q mask a) = begun-read q mask Ok
  begun_always (requested q i a) = requested q i a
  begun_always (replied q i d) = replied q i d
  begun_always (lost q i a) = lost q i a
  begun_always (resent q i a) = resent q i a

  abbrev pub beginning_always : Machine Step
  beginning_always step t = let x = base step t in record { event = begun_always x.event; tables = x.tables }

  -- *ok* to a request whose reply is not there
  abbrev pub unanswering : Machine Step
  unanswering (opening method k p setpoints) t = base (opening method k p setpoints) t
  unanswering (beginning-write q mask badge setpoints) t = base (beginning-write q mask badge setpoints) t
  unanswering (beginning-read q mask) t = base (beginning-read q mask) t
  unanswering (request q i) t = record { event = requested q i Ok; tables = t }
  unanswering (reply q i) t = base (reply q i) t
  unanswering (losing q i) t = base (losing q i) t
  unanswering (resending q i) t = base (resending q i) t

  -- "The head's entry sent before the last acknowledgement": at the first one, and what the other stations were sent is lost
  abbrev entering : ℕ → Tables → Tables
  entering q t =
      let none = turns (λ j links. put_link links q j Nothing) 16 t.links in
      with_clients (put_client_word t.clients q state_field rules.entering)
      (with_links (put_link none q rules.coordinator (rules.request (key_of (count_of t q) q) (mask_of t q))) t)

  abbrev hurried : Arrival → ℕ → ℕ → Played → Played
  hurried Wait q i x =
      cond (eqb (state_of x.tables q) rules.writing)
      (record { event = replied q i (nothing_shown Next); tables = entering q x.tables }) x
  hurried Next q i x = x
  hurried (Write tag) q i x = x
  hurried (Read tag) q i x = x
  hurried (Refused n) q i x = x

  abbrev pub hurrying : Machine Step
  hurrying (opening method k p setpoints) t = base (opening method k p setpoints) t
  hurrying (beginning-write q mask badge setpoints) t = base (beginning-write q mask badge setpoints) t
  hurrying (beginning-read q mask) t = base (beginning-read q mask) t
  hurrying (request q i) t = base (request q i) t
  hurrying (reply q i) t = hurried (deliver_reply q i t).delivered.arrival q i (base (reply q i) t)
  hurrying (losing q i) t = base (losing q i) t
  hurrying (resending q i) t = base (resending q i) t

  -- another got reply in place of a station's
  abbrev arriving : Content → ℕ → ℕ → Tables → Played → Played
  arriving content q i t x =
      cond (eqb (state_of t q) rules.asking_setpoints)
      (record { event = x.event; tables = with_links (put_link x.tables.links q i content) x.tables })
      x

  -- "A station showing its latest arrival in place of the asked key"
  abbrev latest : ℕ → Tables → Content
  latest i t = got_from t.values i (held_of t i - 1)

  abbrev pub showing_latest : Machine Step
  showing_latest (opening method k p setpoints) t = base (opening method k p setpoints) t
  showing_latest (beginning-write q mask badge setpoints) t = base (beginning-write q mask badge setpoints) t
  showing_latest (beginning-read q mask) t = base (beginning-read q mask) t
  showing_latest (request q i) t = arriving (latest i t) q i t (base (request q i) t)
  showing_latest (reply q i) t = base (reply q i) t
  showing_latest (losing q i) t = base (losing q i) t
  showing_latest (resending q i) t = base (resending q i) t

  -- a station shows the setpoint of the asked key with the badge of its latest arrival: badges of two WRITEs mixed
  abbrev mixed : ℕ → ℕ → Tables → Tables → Content
  mixed q i t t' = rules.got_reply (version_badge t.values i (held_of t i - 1)) (link_word t'.links q i 2)

  abbrev pub mixing_badges : Machine Step
  mixing_badges (opening method k p setpoints) t = base (opening method k p setpoints) t
  mixing_badges (beginning-write q mask badge setpoints) t = base (beginning-write q mask badge setpoints) t
  mixing_badges (beginning-read q mask) t = base (beginning-read q mask) t
  mixing_badges (request q i) t = let x = base (request q i) t in arriving (mixed q i t x.tables) q i t x
  mixing_badges (reply q i) t = base (reply q i) t
  mixing_badges (losing q i) t = base (losing q i) t
  mixing_badges (resending q i) t = base (resending q i) t

  -- ---- the store, but for losses and what is sent again

  -- the same step, with other links
  abbrev linked : List ℕ → Played → Played
  linked links x = record { event = x.event; tables = with_links links x.tables }

  -- "a lost link taken for an arrived acknowledgement": what is lost leaves the link empty
  abbrev pub loss_arrives : Machine Step
  loss_arrives (opening method k p setpoints) t = base (opening method k p setpoints) t
  loss_arrives (beginning-write q mask badge setpoints) t = base (beginning-write q mask badge setpoints) t
  loss_arrives (beginning-read q mask) t = base (beginning-read q mask) t
  loss_arrives (request q i) t = base (request q i) t
  loss_arrives (reply q i) t = base (reply q i) t
  loss_arrives (losing q i) t = linked (put_link t.links q i Nothing) (base (losing q i) t)
  loss_arrives (resending q i) t = base (resending q i) t

  -- a reply that is lost comes all the same, so that its READ ends a delivery early
  abbrev pub losing_nothing : Machine Step
  losing_nothing (opening method k p setpoints) t = base (opening method k p setpoints) t
  losing_nothing (beginning-write q mask badge setpoints) t = base (beginning-write q mask badge setpoints) t
  losing_nothing (beginning-read q mask) t = base (beginning-read q mask) t
  losing_nothing (request q i) t = base (request q i) t
  losing_nothing (reply q i) t = base (reply q i) t
  losing_nothing (losing q i) t = linked t.links (base (losing q i) t)
  losing_nothing (resending q i) t = base (resending q i) t

  -- "a resent enter entered twice": the head does not look for the key
  abbrev new_entry : ℕ → ℕ → Tables → Left
  new_entry q i t = on_new_enter (record { key = own_key_of t q; number = mask_of t q; badge = 0 }) q i t

  abbrev entered : ℕ → ℕ → Left → Played
  entered q i x = record { event = requested q i x.answer; tables = x.tables }

  abbrev pub entering_twice : Machine Step
  entering_twice (opening method k p setpoints) t = base (opening method k p setpoints) t
  entering_twice (beginning-write q mask badge setpoints) t = base (beginning-write q mask badge setpoints) t
  entering_twice (beginning-read q mask) t = base (beginning-read q mask) t
  entering_twice (request q i) t = cond (eqb (state_of t q) rules.entering) (entered q i (new_entry q i t)) (base (request q i) t)
  entering_twice (reply q i) t = base (reply q i) t
  entering_twice (losing q i) t = base (losing q i) t
  entering_twice (resending q i) t = base (resending q i) t

  -- "or answered with the last tag"
  abbrev last_tag : ℕ → ℕ → Played → Played
  last_tag q i x = linked (put_link x.tables.links q i (rules.reply (entries_of x.tables - 1))) x

  abbrev pub answering_last_tag : Machine Step
  answering_last_tag (opening method k p setpoints) t = base (opening method k p setpoints) t
  answering_last_tag (beginning-write q mask badge setpoints) t = base (beginning-write q mask badge setpoints) t
  answering_last_tag (beginning-read q mask) t = base (beginning-read q mask) t
  answering_last_tag (request q i) t = cond (eqb (state_of t q) rules.entering) (last_tag q i (base (request q i) t)) (base (request q i) t)
  answering_last_tag (reply q i) t = base (reply q i) t
  answering_last_tag (losing q i) t = base (losing q i) t
  answering_last_tag (resending q i) t = base (resending q i) t
