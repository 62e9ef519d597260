-- Worked examples. On the row of one client: which words a delivered reply changes, which tags it keeps, what is shown. Of a server with
-- three versions: what a get request and a set request are answered; of a log with a key twice: what an entry is. What is sent again.
use Rattle.std.specs.Prelude.{◌≡◌, refl, List, [], ◌∷◌, ◌++◌, ℕ, zero, suc, ◌+◌, ◌-◌, ◌*◌, replicate}
use Rattle.keys.specs.Keys.{key_of, key_at_word, opening}
use Rattle.ranges.specs.Turns.{turns}
use Rattle.ranges.specs.First.{first_from}
use Rattle.ranges.specs.Last.{last_below}
use Rattle.tables.specs.Layout.{count_words, held_field, client_width, setpoints_field, received_field, tags_field, badges_field, record_width}
use Rattle.tables.specs.Layout.{entries_field, count_field, mask_field, write_badge_field, asked_field, put_entry}
use Rattle.server.specs.Held.{appended}
use Rattle.coordinator.specs.Log.{entered}
use Rattle.tables.specs.Links.{targets, link_width, link_at, put_link}
use Rattle.tables.specs.Tables.{Tables, tables_of, held_of, content_at}
use Rattle.tables.specs.declared.links.Content.{Content}
use Rattle.rules.specs.Common.{coordinator, request, set_request, reply, got_reply}
use Rattle.rules.specs.Begin.{kept_tags}
use Rattle.rules.specs.Request.{on_new_set, on_set, on_new_enter, on_enter, on_which_keys, on_get}
use Rattle.rules.specs.Loss.{sent_in}
use Rattle.rules.specs.Reply.{got_value, ended_by_c, shown_tags, chosen_tags}

-- a client's row in which every word is 7
abbrev row : List ℕ
row = replicate client_width 7

abbrev one : Tables
one = tables_of (replicate count_words 0) row [] [] [] [] [] (replicate record_width 0)

-- the row of a client that keeps tags 3, 2 and 1 of stations 0, 1 and 2
abbrev asking : List ℕ
asking = replicate tags_field 7 ++ (3 ∷ 2 ∷ 1 ∷ replicate (client_width - (tags_field + 3)) 7)

-- a log with one WRITE behind the opening, of station 0 alone
abbrev log : List ℕ
log = put_entry (put_entry (replicate 4 0) 0 opening 3) 1 (key_of 1 0) 1

-- a server that holds the opening's version, 1200 of badge 0, and behind it two of client 0: 1800 of badge 7, and 1800 again, of badge 9
abbrev two : Tables
two =
    tables_of (replicate held_field 0 ++ (3 ∷ [])) row (replicate (link_width * targets) 0) (0 ∷ 256 ∷ 512 ∷ [])
    (0 ∷ 1200 ∷ 7 ∷ 1800 ∷ 9 ∷ 1800 ∷ []) [] [] []

-- what client 0 gets back that asks it for the key of a count
abbrev answers : ℕ → Content
answers count = content_at (on_get (record { key = key_of count 0; number = 0; badge = 0 }) 0 0 two).tables 0 0

-- a client's row in which every word is its own place
abbrev rising : ℕ → ℕ → List ℕ
rising zero a = []
rising (suc n) a = a ∷ rising n (suc a)

abbrev placed : Tables
placed = tables_of (replicate count_words 0) (rising client_width 0) [] [] [] [] [] []

-- client 0 sets 45 of badge 5 at that server, with the key of a count: what the server holds then, its words, and the answer on the link
abbrev setting : ℕ → Tables
setting count = (on_set (record { key = key_of count 0; number = 45; badge = 5 }) 0 0 two).tables

-- client 0, whose record is at place 7, enters a mask with the key of a count, in a log of three entries that has the key of count 1 twice
abbrev twice : List ℕ
twice = 0 ∷ 3 ∷ 256 ∷ 1 ∷ 256 ∷ 2 ∷ []

abbrev three : Tables
three = tables_of (replicate entries_field 0 ++ (3 ∷ [])) row (replicate (link_width * targets) 0) [] [] twice
    (replicate (record_width * 8) 7) []

abbrev entering : ℕ → Tables
entering count = (on_enter (record { key = key_of count 0; number = 2; badge = 0 }) 0 coordinator three).tables

pub record Examples : Type 0 where
  -- state 4: "each wanted setpoint stored in the panel", that of station 3 at its own place; its badge likewise
  pub got : got_value (record { key = opening; number = 45; badge = 9 }) 0 3 one ≡
      replicate (setpoints_field + 3) 7 ++ (45 ∷ (replicate (badges_field - (setpoints_field + 1)) 7 ++ (9 ∷ replicate (client_width - (badges_field + 4)) 7)))
  -- "A READ must show the badge … that belongs to the same WRITE as the setpoint beside it": the badge of the key that was asked for
  pub asked : answers 1 ≡ got_reply 7 1800
  pub latest : answers 2 ≡ got_reply 9 1800
  -- C's end: "an end sets state 0 and n to 0", that of every target; the tag is stored
  pub ended : (ended_by_c 2 row 0 [] one).tables.clients ≡
      0 ∷ 7 ∷ 7 ∷ 2 ∷ 7 ∷ (replicate 16 7 ++ (replicate targets 0 ++ replicate (client_width - (received_field + targets)) 7))
  -- "Under A and B a panel keeps the wanted stations' tags while it asks": at tag 1 station 0 has tag 1, and station 1 the opening's
  pub kept : kept_tags 0 3 log 1 2 row ≡ replicate tags_field 7 ++ (1 ∷ 0 ∷ replicate (client_width - (tags_field + 2)) 7)
  pub kept_one : kept_tags 0 2 log 1 2 row ≡ replicate tags_field 7 ++ (7 ∷ 0 ∷ replicate (client_width - (tags_field + 2)) 7)
  -- "A READ now shows with each setpoint the tag of the WRITE that put it there": of the wanted stations 0 and 2 those kept, 0 elsewhere
  pub shown : shown_tags asking 0 5 ≡ 3 ∷ 0 ∷ 1 ∷ replicate 13 0
  -- and under C those of the tag chosen
  pub chosen : chosen_tags log 3 2 1 ≡ 1 ∷ replicate 15 0
  pub chosen_one : chosen_tags log 2 2 1 ≡ replicate 16 0
  -- "A station that holds the key already acknowledges without storing", whatever the request carries; a new key is stored
  pub again : (setting 2).values ≡ two.values
  pub acknowledged : content_at (setting 2) 0 0 ≡ reply 0
  pub stored : held_of (setting 3) 0 ≡ 4
  -- "a head that has it answers its first tag", and log and record stay
  pub first : content_at (entering 1) 0 coordinator ≡ reply 1
  pub same : (entering 1).log ≡ twice
  pub unrecorded : (entering 1).writes ≡ replicate (record_width * 8) 7
  -- "READ requests are answered as new": a head with three entries answers three, however often it is asked
  pub anew : content_at (on_which_keys 0 coordinator three).tables 0 coordinator ≡ reply 3
  -- a panel's row gives what is sent again: to station 2 its own setpoint, and the key that it asks that station for
  pub sent_set : sent_in 1 0 2 placed ≡ set_request (key_of count_field 0) write_badge_field (setpoints_field + 2)
  pub sent_enter : sent_in 2 0 coordinator placed ≡ request (key_of count_field 0) mask_field
  pub sent_get : sent_in 4 0 2 placed ≡ request (key_at_word (asked_field + 2)) 0
  pub sent_ask : sent_in 5 0 2 placed ≡ request opening 0

pub examples : Examples
unfolding turns last_below first_from link_at put_link on_get on_set on_new_set on_enter on_new_enter on_which_keys appended entered sent_in
examples =
    record {
      got = refl;
      asked = refl;
      latest = refl;
      ended = refl;
      kept = refl;
      kept_one = refl;
      shown = refl;
      chosen = refl;
      chosen_one = refl;
      again = refl;
      acknowledged = refl;
      stored = refl;
      first = refl;
      same = refl;
      unrecorded = refl;
      anew = refl;
      sent_set = refl;
      sent_enter = refl;
      sent_get = refl;
      sent_ask = refl;
    }
