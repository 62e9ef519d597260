-- Against a claim that says too little: stores that are wrong in one part of it each, and are refuted by that part alone.
use Rattle.std.specs.Prelude.{ℕ, ◌≡◌, refl, List, [], ◌∷◌, set}
use Rattle.std.proofs.Common.{arith}
use Rattle.tables.specs.Layout.{method_field, writes_field, reads_field, count_field, put_client_word}
use Rattle.tables.specs.Tables.{Tables, with_counts, with_clients, method_of}
use Rattle.rules.specs.Answer.{Ok}
use Rattle.claim.specs.Steps.{Event, begun-write, begun-read, requested, Machine}
use Rattle.claim.specs.Sample.{zeros}
use Rattle.retirement.specs.Claim.{Unopened, Retired}

-- tables of method 1, on which nothing has begun
unfoldable pub saved : Tables
saved = with_counts (set zeros.counts method_field 1) zeros

pub by-A : method_of saved ≡ 1
unfolding saved zeros
by-A = refl

-- a store of one step, with this event, that leaves these tables
abbrev once : Event → Tables → Machine (Unit {0})
once event left step t = record { event = event; tables = left }

-- A begin is accepted, and no table shows it.
pub begun : (Retired (once (begun-write 0 1 0 (1800 ∷ []) Ok) saved) → ⊥) × (Retired (once (begun-read 0 1 Ok) saved) → ⊥)
begun = (λ claim. (claim saved by-A (tt ∷ []) (tt, tt)).unbegun.0, λ claim. (claim saved by-A (tt ∷ []) (tt, tt)).unbegun.0)

-- A delivery leaves one WRITE more, or one READ more, than had begun.
pub not_a-write-more : Retired (once (requested 0 0 Ok) (with_counts (set saved.counts writes_field 1) saved)) → ⊥
unfolding saved zeros
not_a-write-more claim = let one : ◌≡◌ {A = ℕ} 1 0 = (claim saved by-A (tt ∷ []) (tt, tt)).writes in omega arith

pub not_a-read-more : Retired (once (requested 0 0 Ok) (with_counts (set saved.counts reads_field 1) saved)) → ⊥
unfolding saved zeros
not_a-read-more claim = let one : ◌≡◌ {A = ℕ} 1 0 = (claim saved by-A (tt ∷ []) (tt, tt)).reads in omega arith

-- A delivery has client 1 count a WRITE more.
pub not-counted : Retired (once (requested 1 0 Ok) (with_clients (put_client_word saved.clients 1 count_field 1) saved)) → ⊥
unfolding saved zeros
not-counted claim = let one : ◌≡◌ {A = ℕ} 1 0 = (claim saved by-A (tt ∷ []) (tt, tt)).counts 1 in omega arith
