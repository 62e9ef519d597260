-- Which steps sound tables accept, told from the five tables that it takes to tell: nothing is changed to find out.
use Rattle.std.specs.Prelude.{ℕ, ◌-◌, ◌*◌, ◌+◌, ◌/◌, ◌%◌, Bool, true, false, cond, ◌&&◌, ◌||◌, List, eqb, ltb}
use Rattle.keys.specs.declared.Key.{Key}
use Rattle.server.specs.Held.{held_by, first_bearing}
use Rattle.coordinator.specs.Log.{entries_in, has_key}
use Rattle.tables.specs.Layout.{server_places, log_places}
use Rattle.tables.specs.Links.{targets}
use Rattle.tables.specs.Tables.{Tables, servers_of, clients_of, state_of, content_at}
use Rattle.tables.specs.declared.links.Contents.{Contents}
use Rattle.tables.specs.declared.links.Content.{Content}
use Rattle.tables.specs.declared.links.Content.TheVariants.{Nothing, Request, Reply, Lost}
use Rattle.rules.specs.Common.{writing, entering, asking_keys, asking_setpoints}
use Rattle.rules.specs.Open.{all_servers}
use Rattle.refusals.specs.Refusals.{write_fault, read_fault, delivery_fault}

abbrev pub accepts_write : Tables → ℕ → Bool
accepts_write t q = eqb (write_fault q (all_servers (servers_of t)) (servers_of t) t) 0

abbrev pub accepts_read : Tables → ℕ → Bool
accepts_read t q = eqb (read_fault q (all_servers (servers_of t)) t) 0

-- "A key is looked up as the first version that bears it."
abbrev pub is_held : List ℕ → List ℕ → ℕ → Key → Bool
is_held counts keys i key = ltb (first_bearing keys i key (held_by counts i)) (held_by counts i)

abbrev pub is_entered : List ℕ → List ℕ → Key → Bool
is_entered counts log key = has_key log key (entries_in counts)

-- whether a target can answer: a set and an enter find a place, or their key, by document 02's "A station that holds the key already
-- acknowledges without storing; a head that has it answers its first tag; both also when full"; a get finds its key
unfoldable pub answers_in : ℕ → Contents → List ℕ → List ℕ → List ℕ → ℕ → Bool
answers_in state w counts keys log i =
    cond (eqb state writing) (ltb (held_by counts i) server_places || is_held counts keys i w.key)
    (cond (eqb state entering) (ltb (entries_in counts) log_places || is_entered counts log w.key)
    (cond (eqb state asking_keys) true
    (cond (eqb state asking_setpoints) (is_held counts keys i w.key) true)))

abbrev pub answers_request : Content → Bool → ℕ → List ℕ → List ℕ → List ℕ → ℕ → Bool
answers_request Nothing judged state counts keys log i = false
answers_request (Request w) judged state counts keys log i = judged && answers_in state w counts keys log i
answers_request (Reply w) judged state counts keys log i = false
answers_request Lost judged state counts keys log i = false

unfoldable pub accepts_request : Tables → ℕ → ℕ → Bool
accepts_request t q i = answers_request (content_at t q i) (eqb (delivery_fault q i t) 0) (state_of t q) t.counts t.keys t.log i

abbrev pub takes_reply : Content → Bool → Bool
takes_reply Nothing judged = false
takes_reply (Request w) judged = false
takes_reply (Reply w) judged = judged
takes_reply Lost judged = false

unfoldable pub accepts_reply : Tables → ℕ → ℕ → Bool
accepts_reply t q i = takes_reply (content_at t q i) (eqb (delivery_fault q i t) 0)

-- by the number of the step
unfoldable pub accepts : Tables → ℕ → Bool
accepts t n =
    let p = clients_of t in
    cond (ltb n p) (accepts_write t n)
    (cond (ltb n (2 * p)) (accepts_read t (n - p))
    (cond (ltb n ((2 + targets) * p))
    (let row = n - 2 * p in accepts_request t (row / targets) (row % targets))
    (let row = n - (2 + targets) * p in accepts_reply t (row / targets) (row % targets))))
