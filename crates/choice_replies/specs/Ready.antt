-- What the delivery of a reply to a READ by C relies on, and what its end leaves. Sound tables have all of it.
use Rattle.std.specs.Prelude.{ℕ, ◌*◌, ◌<◌, ◌≤◌, ◌≡◌, true, false, List, length}
use Rattle.tables.specs.Rows.{HasRow}
use Rattle.tables.specs.Layout.{count_at, servers_field, client_width, client_word, put_client_word, state_field, record_field, record_width}
use Rattle.tables.specs.Layout.{entry_width, log_places, mask_field}
use Rattle.tables.specs.Links.{targets, HasLinks, put_link}
use Rattle.tables.specs.declared.links.Content.TheVariants.{Nothing}
use Rattle.rules.specs.Common.{idle, pending, coordinator, ended_record, tagged_record}
use Rattle.rules.specs.Choice.{qualifies, chosen_setpoint, chosen_badge}
use Rattle.rules.specs.Reply.{received_in, put_received, tag_from, concluded_row, chosen_tags}
use Rattle.choice.specs.Ready.{ChoiceReady}
use Rattle.step_parts.specs.Waiting.{KindsFit}

-- what the end of a READ leaves whose client has the row: the tag chosen, the tags beside what is shown, the client idle, the record ended
pub record Finished
    (row reads : List ℕ) (q place tag : ℕ) (tags : List ℕ) (step tag' : ℕ) (tags' clients' reads' : List ℕ) : Type 0 where
  pub chosen : tag' ≡ tag
  pub shown : tags' ≡ tags
  pub idled : clients' ≡ put_client_word row q state_field idle
  pub recorded : reads' ≡ ended_record place step (tagged_record place tag reads)

-- C's choice has something to choose from: the opening's tag qualifies, and no more entries were received than the log has
pub record Concludable (clients keys log reads : List ℕ) (q mask k place : ℕ) : Type 0 where
  pub row : HasRow client_width clients q
  pub recorded : HasRow record_width reads place
  pub some : 0 < received_in clients q coordinator
  pub entries : received_in clients q coordinator ≤ log_places
  pub logged : entry_width * received_in clients q coordinator ≤ length log
  pub opening : qualifies keys log mask (received_in clients q) k 0 ≡ true

-- what `finish_by_c` leaves
abbrev pub FinishedByC :
    List ℕ → List ℕ → List ℕ → List ℕ → List ℕ → ℕ → ℕ → ℕ → ℕ → ℕ → ℕ → List ℕ → List ℕ → List ℕ → Type 0
FinishedByC clients keys values log reads q mask k place step tag' tags' clients' reads' =
    let tag = tag_from clients keys log q mask k in
    let setpoint = chosen_setpoint keys values log (received_in clients q) tag in
    let badge = chosen_badge keys values log (received_in clients q) tag in
    let row = concluded_row setpoint badge tag q mask k clients in
    Finished row reads q place tag (chosen_tags log mask k tag) step tag' tags' clients' reads'

-- a reply to C: where it is the last, the choice is ready
pub record AllReady (counts clients links keys values log reads : List ℕ) (q i number : ℕ) : Type 0 where
  pub row : HasRow client_width clients q
  pub target : i < targets
  pub linked : HasLinks links q
  pub kinds : KindsFit links q
  pub last : pending (put_link links q i Nothing) q ≡ false →
      (ChoiceReady (put_received clients q i number) keys values q (count_at counts servers_field)
      × Concludable (put_received clients q i number) keys log reads q (client_word clients q mask_field) (count_at counts servers_field)
      (client_word clients q record_field))
