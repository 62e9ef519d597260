-- The cases of the refusals, as the code meets them.
use Rattle.std.specs.Prelude.{ℕ, ◌*◌, ◌≤◌, ◌<◌, ◌≡◌, Bool, true, false, ◌||◌, List, length, leb}
use Rattle.std.proofs.Common.{le-leb}
use Rattle.std.proofs.lemmas.Bool.{lt-leb}
use Rattle.tables.specs.Layout.{count_at, count_words, last_step, clients_field, servers_field, step_field, client_width, record_places}
use Rattle.refusals.specs.Refusals.{begin_fault, deliver_fault}

-- what judging relies on: the counts, and a row for each client
pub record Judged (counts clients : List ℕ) : Type 0 where
  pub counted : count_words ≤ length counts
  pub rows : client_width * count_at counts clients_field ≤ length clients
  pub servers : count_at counts servers_field ≤ 16

-- no record's place of a kind is left, or no step number
abbrev pub is_spent : List ℕ → ℕ → Bool
is_spent counts kind = leb record_places (count_at counts kind) || leb last_step (count_at counts step_field)

-- n is the number of records of the kind, as it was read
module _ (counts : List ℕ) (kind : ℕ) {n : ℕ} (e : n ≡ count_at counts kind) where
  pub no_place : record_places ≤ n → true ≡ is_spent counts kind
  no_place h = rw (← e, le-leb record_places n h)

  pub place-left : {step : ℕ} → step ≡ count_at counts step_field → n < record_places → leb last_step step ≡ is_spent counts kind
  place-left d h = rw (← e, ← d, lt-leb record_places n h)

-- a begin whose client is there, may begin, is idle and asks what fits: 7 where it is spent, else accepted
module _ {absent barred free fits spent : Bool} (a : absent ≡ false) (b : barred ≡ false) (f : free ≡ true) (m : fits ≡ true) where
  pub refused_7 : spent ≡ true → 7 ≡ begin_fault absent barred free fits spent
  refused_7 s = rw (a, b, f, m, s)

  pub begins : spent ≡ false → 0 ≡ begin_fault absent barred free fits spent
  begins s = rw (a, b, f, m, s)

-- a delivery for a client and a target that are there: 7 at the last step, else accepted
module _ {absent known last : Bool} (a : absent ≡ false) (k : known ≡ true) where
  pub no_step-left : last ≡ true → 7 ≡ deliver_fault absent known last
  no_step-left l = rw (a, k, l)

  pub delivers : last ≡ false → 0 ≡ deliver_fault absent known last
  delivers l = rw (a, k, l)
