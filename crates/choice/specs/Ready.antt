-- What C's choice relies on.
use Rattle.std.specs.Prelude.{ℕ, ◌*◌, ◌≤◌, ◌<◌, ◌≡◌, true, List, length}
use Rattle.tables.specs.Layout.{server_places, value_width, log_places, entry_width}
use Rattle.rules.specs.Choice.{qualifies}
use Rattle.rules.specs.Reply.{received_in}
use Rattle.holders.specs.Ready.{Received}

-- of each server the client's row and as many versions as were received, and all its badges and setpoints
pub record ChoiceReady (clients keys values : List ℕ) (q k : ℕ) : Type 0 where
  pub servers : k ≤ 16
  pub received : (i : ℕ) → i < k → Received clients keys q i
  pub valued : value_width * (server_places * k) ≤ length values

-- C has something to choose from: of the first n entries of the log, which it has, the opening's qualifies
pub record Choosable (clients keys log : List ℕ) (q mask k n : ℕ) : Type 0 where
  pub some : 0 < n
  pub few : n ≤ log_places
  pub logged : entry_width * n ≤ length log
  pub opening : qualifies keys log mask (received_in clients q) k 0 ≡ true
