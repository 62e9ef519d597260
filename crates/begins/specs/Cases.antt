-- The cases of the beginnings, as the code meets them.
use Rattle.std.specs.Prelude.{ℕ, ◌+◌, ◌≡◌, refl, Bool, true, false, cond, List}
use Rattle.std.proofs.Common.{ap}
use Rattle.keys.specs.Keys.{key_word}
use Rattle.tables.specs.Layout.{tags_field, asked_field, put_client_word, entry_key}
use Rattle.tables.specs.Links.{put_link}
use Rattle.rules.specs.Common.{request}
use Rattle.rules.specs.Begin.{stored_setpoints, started_writer}

-- what a WRITE leaves in the client's row
abbrev pub started_write : ℕ → ℕ → ℕ → ℕ → ℕ → List ℕ → ℕ → List ℕ → List ℕ
started_write q mask place count badge setpoints k clients = stored_setpoints q setpoints k (started_writer mask place count badge q clients)

-- a get request for the key of the entry at a tag: what the client keeps, and what its link holds
abbrev pub asked_at : ℕ → List ℕ → ℕ → List ℕ → ℕ → List ℕ
asked_at q log i clients tag =
    put_client_word (put_client_word clients q (tags_field + i) tag) q (asked_field + i) (key_word (entry_key log tag))

abbrev pub sent_at : ℕ → List ℕ → ℕ → List ℕ → ℕ → List ℕ
sent_at q log i links tag = put_link links q i (request (entry_key log tag) 0)

-- what is done at a tag for a server that is wanted is done at a tag that is the same for those
pub at_tag : {A : Type 0} (wanted : Bool) (f : ℕ → A) (x : A) {tag tag' : ℕ} → (wanted ≡ true → tag ≡ tag') →
    cond wanted (f tag) x ≡ cond wanted (f tag') x
at_tag true f x e = ap f (e refl)
at_tag false f x e = refl
