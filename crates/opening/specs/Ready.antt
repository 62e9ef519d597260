-- What an opening relies on, and its scalars.
use Rattle.std.specs.Prelude.{ℕ, ◌*◌, ◌≤◌, ◌≡◌, List, [], ◌∷◌, length}
use Rattle.std.proofs.lemmas.List.Edits.{sets}
use Rattle.tables.specs.Layout.{count_words, server_places, value_width, entry_width}

abbrev pub open_scalars : ℕ → ℕ → ℕ → List ℕ → List ℕ
open_scalars method k p counts = sets counts 0 (method ∷ k ∷ p ∷ 1 ∷ 1 ∷ [])

-- the tables are long enough for k servers, and there are k setpoints
pub record OpenReady (counts keys values log setpoints : List ℕ) (k : ℕ) : Type 0 where
  pub counted : count_words ≤ length counts
  pub servers : k ≤ 16
  pub given : length setpoints ≡ k
  pub keyed : server_places * k ≤ length keys
  pub valued : value_width * (server_places * k) ≤ length values
  pub logged : entry_width ≤ length log
