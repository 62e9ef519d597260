-- "each wanted setpoint [is] stored in the panel"; the last one ends the READ
use Rattle.std.specs.Prelude.{ℕ, ◌+◌, ◌≤◌, ◌<◌, ◌≡◌, refl, true, List, [], ◌∷◌, ltb}
use Rattle.std.proofs.Common.{sym, ◌∙◌, arith, lt-ltb, eq-eqb}
use Rattle.ranges.specs.Tests.{by-test, by_equal}
use Rattle.tables.specs.Layout.{client_width, client_word, setpoints_field, received_field, count_field, mask_field, state_field, tag_field}
use Rattle.tables.specs.Layout.{tags_field, badges_field, write_badge_field, asked_field}
use Rattle.tables.specs.Links.{targets}
use Rattle.tables.specs.Tables.{Tables, servers_of, state_of, tag_of, received_of, kept_badge_of, with_clients}
use Rattle.tables.specs.declared.links.Contents.{Contents}
use Rattle.rules.specs.Common.{idle, asking_setpoints, asking_all, pending}
use Rattle.rules.specs.Reply.{emptied, received_in, on_got}
use Rattle.soundness.specs.Facts.{KeptFacts}
use Rattle.soundness.specs.Room.{server-fits, few_servers}
use Rattle.keeping.specs.Links.{number_on, badge_on, contents_on, none-pending}
use Rattle.keeping.specs.States.{asks_none, badge-carried, masked-server, none_received, not-all, uses_setpoints}
use Rattle.keeping.specs.Frame.{Kept, kept_in}
use Rattle.keeping.specs.Moves.{moves-numbers, same_entries}
use Rattle.keeping.specs.Rows.{Avoids, put, Put, put_all, put-read, put-before, put_skip, put_elsewhere, put-length}
use Rattle.keeping.specs.Rounds.{idle-client}
use Rattle.keeping.specs.Replied.{replied_tables, Moving, finished-moves}
use Rattle.keeping.specs.Came.{Came, facts, asks, used, row_room, kinds, elsewhere, rest_long, received-zero}

module _ (q i : ℕ) (t : Tables) (a : Came q i t) (state : state_of t q ≡ asking_setpoints) where
  abbrev pub w : Contents
  w = contents_on t q i

  abbrev number : ℕ
  number = number_on t q i

  abbrev badge : ℕ
  badge = badge_on t q i

  badge-fits : badge < 65536
  badge-fits = badge-carried asking_setpoints (state_of t q) badge state ((asks a).got-badge a.kind)

  abbrev pub rest : List ℕ
  rest = emptied q i t

  server : i < servers_of t
  server = masked-server t a.sound q i a.client (rw (state, uses_setpoints) at (used a))

  place : setpoints_field + i < received_field
  place = omega (arith, server-fits t a.sound i server)

  pub not-all_state : state_of t q ≡ asking_all → ⊥
  not-all_state e = omega (arith, state)

  abbrev pub got : List Put
  got = put (setpoints_field + i) number ∷ put (badges_field + i) badge ∷ []

  abbrev pub got_last : List Put
  got_last = put (setpoints_field + i) number ∷ put (badges_field + i) badge ∷ put state_field idle ∷ []

  -- the words put stand in the row
  got_inside : ltb (setpoints_field + i) client_width ≡ true
  got_inside = lt-ltb (setpoints_field + i) client_width (omega (arith, place))

  badge_inside : ltb (badges_field + i) client_width ≡ true
  badge_inside = lt-ltb (badges_field + i) client_width (omega (arith, place))

  pub got_moving : Moving q (put_all got q t.clients) rest t
  got_moving = record { row = λ p f e h. put_elsewhere q got t.clients p f (rw (got_inside, badge_inside)) h e; link = elsewhere a; clients = put-length q got t.clients; links = rest_long a }

  -- between setpoints and badges nothing is put
  pub between_skips : (f : ℕ) → received_field ≤ f → f < badges_field → Avoids got f
  between_skips f h l = (λ e. omega (arith, place), (λ e. omega arith, tt))

  -- nor behind the badges
  pub beyond_skips : (f : ℕ) → write_badge_field ≤ f → client_word (put_all got q t.clients) q f ≡ client_word t.clients q f
  beyond_skips f h = put_skip q got t.clients f (λ e. omega (arith, place), (λ e. omega (arith, place), tt))

  pub got_low : (f : ℕ) → f < setpoints_field → client_word (put_all got q t.clients) q f ≡ client_word t.clients q f
  got_low f h = put_skip q got t.clients f (λ e. omega arith, (λ e. omega arith, tt))

  -- the badge is the one that came, those of the other servers stay
  pub got_kept : (j : ℕ) → j < servers_of t → KeptFacts (with_clients (put_all got q t.clients) t) q j
  got_kept j h =
      let few = few_servers t a.sound in
      record {
        tag =
            rw (put_skip q got t.clients (tags_field + j) (between_skips (tags_field + j) (omega arith) (omega arith)))
            ((facts a).kept j h).tag;
        badge = by_equal j i
            (λ e. rw (e, put-read q got t.clients (badges_field + i) (kept_badge_of t q i) (row_room a) (rw (got_inside, badge_inside)) (omega (arith, place)) refl, eq-eqb (badges_field + i) (badges_field + i) refl) badge-fits)
            (λ d. rw (put_skip q got t.clients (badges_field + j) (λ e. omega (arith, place), (λ e. d (omega arith), tt))) ((facts a).kept j h).badge);
        asked = λ e.
            rw (beyond_skips (asked_field + j) (omega arith))
            (((facts a).kept j h).asked (rw (got_low state_field (omega arith), got_low mask_field (omega arith)) at e));
      }

  pub last_moving : Moving q (put_all got_last q t.clients) rest t
  last_moving = record { row = λ p f e h. put_elsewhere q got_last t.clients p f (rw (got_inside, badge_inside)) h e; link = elsewhere a; clients = put-length q got_last t.clients; links = rest_long a }

  pub last_word : (g : ℕ) → g < setpoints_field → (g ≡ 0 → ⊥) → client_word (put_all got_last q t.clients) q g ≡ client_word t.clients q g
  last_word g h e = put_skip q got_last t.clients g (λ z. omega arith, (λ z. omega arith, (e, tt)))

  -- the last word put is the state
  pub state-behind : (f : ℕ) → setpoints_field ≤ f → client_word (put_all got_last q t.clients) q f ≡ client_word (put_all got q t.clients) q f
  state-behind f h = put-before q (put state_field idle ∷ []) (put_all got q t.clients) setpoints_field f refl h

  pub last_state : client_word (put_all got_last q t.clients) q 0 ≡ idle
  last_state = put-read q got_last t.clients 0 (state_of t q) (row_room a) (rw (got_inside, badge_inside)) (omega arith) refl

  pub last-kept : (j : ℕ) → j < servers_of t → KeptFacts (with_clients (put_all got_last q t.clients) t) q j
  last-kept j h =
      record {
        tag = rw (state-behind (tags_field + j) (omega arith)) (got_kept j h).tag;
        badge = rw (state-behind (badges_field + j) (omega arith)) (got_kept j h).badge;
        asked = asks_none (with_clients (put_all got_last q t.clients) t) q j (λ e. omega (arith, last_state));
      }

  pub last_received : (j : ℕ) → j < targets → received_in (put_all got_last q t.clients) q j ≡ 0
  last_received j h =
      state-behind (received_field + j) (omega arith)
      ∙ (put_skip q got t.clients (received_field + j) (between_skips (received_field + j) (omega arith) (omega arith))
      ∙ received-zero a not-all_state j h)
