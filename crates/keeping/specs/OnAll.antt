-- C: "when all replies are in", the tag is chosen, and setpoint and badge of each masked station at that tag are stored
use Rattle.std.specs.Prelude.{ℕ, ◌+◌, ◌≤◌, ◌<◌, ◌≡◌, refl, true, false, ◌&&◌, List, [], ◌∷◌, length, eqb, ltb}
use Rattle.std.proofs.Common.{sym, ◌∙◌, ap, arith, eq-eqb, lt-ltb}
use Rattle.std.proofs.Math.Bool.{or-true}
use Rattle.ranges.specs.Tests.{by-test, by_equal, both}
use Rattle.ranges.specs.LastLaws.{last-below}
use Rattle.keys.specs.Masks.{has_server}
use Rattle.tables.specs.Rows.{HasRow, word_same}
use Rattle.tables.specs.Layout.{client_width, client_word, setpoints_field, received_field, count_field, mask_field, state_field, tag_field}
use Rattle.tables.specs.Layout.{tags_field, badges_field, write_badge_field}
use Rattle.tables.specs.Links.{targets, is_empty, contents_of}
use Rattle.tables.specs.Tables.{Tables, servers_of, entries_of, state_of, mask_of, received_of, content_at, with_clients}
use Rattle.tables.specs.declared.links.Contents.{Contents}
use Rattle.rules.specs.Words.{every}
use Rattle.rules.specs.WordsLaws.{kept_other, kept_there, kept-not, kept-length}
use Rattle.rules.specs.Common.{idle, asking_all, coordinator, pending}
use Rattle.rules.specs.Choice.{qualifies}
use Rattle.rules.specs.Reply.{emptied, received_in, setpoint_at, badge_at, kept_setpoints, kept_badges, forgotten, tag_chosen, ended_by_c, on_all}
use Rattle.soundness.specs.Sound.{uses, holding, key_on}
use Rattle.soundness.specs.Facts.{Between, KeptFacts}
use Rattle.soundness.specs.Room.{few_servers}
use Rattle.keeping.specs.Links.{number_on, contents_on, kind-empty, none-pending}
use Rattle.keeping.specs.States.{asks_none, holding-log, arrived, received-some, some_received, uses-all, all_told}
use Rattle.keeping.specs.Frame.{Kept, kept_in, kept_row}
use Rattle.keeping.specs.Moves.{moves-numbers, same_entries, same-holding}
use Rattle.keeping.specs.Rows.{put, Put, put_all, last_put, put-read, put-before, put_skip, put_elsewhere, put-length}
use Rattle.keeping.specs.Told.{chosen-within, chosen_held}
use Rattle.keeping.specs.Rounds.{idle-client}
use Rattle.keeping.specs.Replied.{replied_tables, Moving, going-moves, finished-moves}
use Rattle.keeping.specs.Came.{Came, facts, asks, used, row_room, gone, beside, kinds, elsewhere, rest_long}

module _ (q i : ℕ) (t : Tables) (a : Came q i t) (state : state_of t q ≡ asking_all) where
  abbrev pub w : Contents
  w = contents_on t q i

  abbrev number : ℕ
  number = number_on t q i

  abbrev pub rest : List ℕ
  rest = emptied q i t

  abbrev got_n : List Put
  got_n = put (received_field + i) number ∷ []

  abbrev pub row : List ℕ
  row = put_all got_n q t.clients

  n_inside : ltb (received_field + i) client_width ≡ true
  n_inside = lt-ltb (received_field + i) client_width (omega (arith, a.target))

  pub n-between : Between 1 number (holding t i)
  n-between = all_told t i number (rw state at ((asks a).reply a.kind))

  pub n_low : (f : ℕ) → f < received_field → client_word row q f ≡ client_word t.clients q f
  n_low f h = put_skip q got_n t.clients f (λ e. omega arith, tt)

  pub n-here : received_in row q i ≡ number
  n-here = word_same client_width t.clients q (received_field + i) number (row_room a) (omega (arith, a.target))

  pub n_beside : (j : ℕ) → (j ≡ i → ⊥) → received_in row q j ≡ received_of t q j
  n_beside j e = put_skip q got_n t.clients (received_field + j) (λ z. e (omega arith), tt)

  -- the n received stand before the tags and badges kept
  pub n-behind : (f : ℕ) → tags_field ≤ f → client_word row q f ≡ client_word t.clients q f
  n-behind f h = put-before q got_n t.clients tags_field f (rw (lt-ltb (received_field + i) tags_field (omega (arith, a.target)))) h

  pub n_kept : (j : ℕ) → j < servers_of t → KeptFacts (with_clients row t) q j
  n_kept =
      kept_row t row q (few_servers t a.sound) (λ f h l d. n-behind f h)
      (λ j. asks_none (with_clients row t) q j (λ e. omega (arith, n_low state_field (omega arith), state))) (facts a).kept

  pub n_moving : Moving q row rest t
  n_moving = record { row = λ p f e h. put_elsewhere q got_n t.clients p f (rw n_inside) h e; link = elsewhere a; clients = put-length q got_n t.clients; links = rest_long a }

  -- all replies are in: a tag is chosen, and a version of each masked server
  module _ (none : pending rest q ≡ false) where
    abbrev pub chosen : ℕ
    chosen = tag_chosen row q t

    pub within : chosen < entries_of t
    within = chosen-within t a.sound q i number a.client a.target state n-between none

    badge-fits : (j : ℕ) → j < servers_of t → has_server (mask_of t q) j ≡ true → badge_at chosen row q t j < 65536
    badge-fits j h e =
        (a.sound.server j h).badge _ (chosen_held t a.sound q i number a.client a.target state n-between none j h e)

    setpoints_room : setpoints_field + servers_of t ≤ client_width
    setpoints_room = omega (arith, few_servers t a.sound)

    badges_room : badges_field + servers_of t ≤ client_width
    badges_room = omega (arith, few_servers t a.sound)

    -- the row: setpoints and badges stored, the n forgotten, then tag and state
    abbrev shown : List ℕ
    shown = kept_setpoints (setpoint_at chosen row q t) q (mask_of t q) (servers_of t) row

    abbrev badged : List ℕ
    badged = kept_badges (badge_at chosen row q t) q (mask_of t q) (servers_of t) shown

    abbrev forgot : List ℕ
    forgot = forgotten q badged

    abbrev puts_end : List Put
    puts_end = put tag_field chosen ∷ put state_field idle ∷ []

    abbrev pub end_row : List ℕ
    end_row = put_all puts_end q forgot

    shown_other : (p f : ℕ) → f < client_width → ((p ≡ q) × (setpoints_field ≤ f) × (f < setpoints_field + servers_of t) → ⊥) → client_word shown p f ≡ client_word row p f
    shown_other p f h e =
        kept_other setpoints_field (has_server (mask_of t q)) (setpoint_at chosen row q t) q (servers_of t) setpoints_room row p f h e

    pub badged_other : (p f : ℕ) → f < client_width → ((p ≡ q) × (badges_field ≤ f) × (f < badges_field + servers_of t) → ⊥) →
        client_word badged p f ≡ client_word shown p f
    badged_other p f h e =
        kept_other badges_field (has_server (mask_of t q)) (badge_at chosen row q t) q (servers_of t) badges_room shown p f h e

    forgot_other : (p f : ℕ) → f < client_width → ((p ≡ q) × (received_field ≤ f) × (f < received_field + targets) → ⊥) →
        client_word forgot p f ≡ client_word badged p f
    forgot_other p f h e = kept_other received_field every (λ j. 0) q targets (omega arith) badged p f h e

    shown_long : length shown ≡ length t.clients
    shown_long =
        kept-length setpoints_field (has_server (mask_of t q)) (setpoint_at chosen row q t) q (servers_of t) setpoints_room row
        ∙ put-length q got_n t.clients

    badged_long : length badged ≡ length t.clients
    badged_long = kept-length badges_field (has_server (mask_of t q)) (badge_at chosen row q t) q (servers_of t) badges_room shown ∙ shown_long

    forgot_long : length forgot ≡ length t.clients
    forgot_long = kept-length received_field every (λ j. 0) q targets (omega arith) badged ∙ badged_long

    pub end_moving : Moving q end_row rest t
    end_moving =
        record {
          row = λ p f e h.
              put_elsewhere q puts_end forgot p f refl h e
              ∙ (forgot_other p f h (λ z. e z.0)
              ∙ (badged_other p f h (λ z. e z.0) ∙ (shown_other p f h (λ z. e z.0) ∙ n_moving.row p f e h)));
          link = elsewhere a;
          clients = put-length q puts_end forgot ∙ forgot_long;
          links = rest_long a;
        }

    pub end-word : (g : ℕ) → g < client_width → client_word end_row q g ≡ last_put puts_end (client_word forgot q g) g
    end-word g h = put-read q puts_end forgot g (client_word forgot q g) (rw forgot_long (row_room a)) refl h refl

    pub low_word : (g : ℕ) → g < setpoints_field → client_word forgot q g ≡ client_word t.clients q g
    low_word g h =
        forgot_other q g (omega arith) (λ z. omega (arith, z.1))
        ∙ (badged_other q g (omega arith) (λ z. omega (arith, z.1)) ∙ (shown_other q g (omega arith) (λ z. omega (arith, z.1)) ∙ n_low g (omega arith)))

    pub end_received : (j : ℕ) → j < targets → received_in end_row q j ≡ 0
    end_received j h =
        put-before q puts_end forgot setpoints_field (received_field + j) refl (omega arith)
        ∙ kept_there received_field every (λ x. 0) q targets (omega arith) badged j (rw badged_long (row_room a)) h refl

    -- behind the n only badges were put: those of the masked servers
    pub behind : (f : ℕ) → tags_field ≤ f → f < client_width → client_word end_row q f ≡ client_word badged q f
    behind f h l = put-before q puts_end forgot setpoints_field f refl (omega arith) ∙ forgot_other q f l (λ z. omega (arith, z.2))

    pub unbadged : (f : ℕ) → tags_field ≤ f → f < client_width → client_word shown q f ≡ client_word t.clients q f
    unbadged f h l = shown_other q f l (λ z. omega (arith, z.2, few_servers t a.sound)) ∙ n-behind f h

    pub end_kept : (j : ℕ) → j < servers_of t → KeptFacts (with_clients end_row t) q j
    end_kept j h =
        let few = few_servers t a.sound in
        let room : HasRow client_width shown q = rw shown_long (row_room a) in
        let has = has_server (mask_of t q) in
        record {
          tag = rw (behind (tags_field + j) (omega arith) (omega arith)
              ∙ (badged_other q (tags_field + j) (omega arith)
              (λ z. omega (arith, z.1)) ∙ unbadged (tags_field + j) (omega arith) (omega arith)))
              ((facts a).kept j h).tag;
          badge = rw (behind (badges_field + j) (omega arith) (omega arith)) (by-test (has j)
              (λ e. rw (kept_there badges_field has (badge_at chosen row q t) q (servers_of t) badges_room shown j room h e) (badge-fits j h e))
              (λ e. rw (kept-not badges_field has (badge_at chosen row q t) q (servers_of t) badges_room shown j room e
              ∙ unbadged (badges_field + j) (omega arith) (omega arith)) ((facts a).kept j h).badge));
          asked = asks_none (with_clients end_row t) q j (λ e. omega (arith, end-word state_field (omega arith)));
        }
