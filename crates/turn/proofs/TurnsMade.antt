-- What a turn on a run that has made room comes to: of its own file, since an edit of Turns must not leave it unchecked there.
use Rattle.std.specs.Prelude.{ℕ, ◌-◌, ◌<◌, ◌≡◌, false, List, length}
use Rattle.std.proofs.Common.{subst}
use Rattle.tables.specs.Tables.{Tables}
use Rattle.schedule.specs.Lines.{line_of}
use Rattle.playing.specs.Playable.{Playable}
use Rattle.window.specs.declared.Run.{Run}
use Rattle.window.specs.Window.{held_by, lacks_end, roomy, Going}
use Rattle.turn.specs.Turned.{Answered, Turned}
use Rattle.turn.specs.Turns.{used}
use Rattle.turn.proofs.Turns.{turned-answer}

module _ (run : Run) (window out : List ℕ) (t : Tables)
    (going : Going run window out) (playable : Playable t) (some_left : 0 < run.left) where
  module _ (line : List ℕ) (is-line : line ≡ line_of (held_by run window)) where
    -- the same of a run that has made room
    module _ (made : Run) (is-roomy : made ≡ roomy run (used run window out t going playable some_left)) where
      pub turned-made : lacks_end (length line) (run.held - run.from) ≡ false → (r : Run) (out' : List ℕ) (t' : Tables) →
          Answered made line t out r out' t' → length out' ≡ length out → Turned run window out t r window out' t'
      turned-made whole r out' t' a l = turned-answer run window out t going playable some_left line is-line whole r out' t' (subst (λ (x : Run). Answered x line t out r out' t') is-roomy a) l
