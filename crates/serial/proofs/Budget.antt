-- There is always room: what is stored and entered stays within what the begun WRITEs pay for. A request that is sent again finds its key
-- held, or in the log, and then asks for no place.
use Prim.Native.Nat.{ℕ, suc, ◌+◌, ◌≤◌, ◌<◌}
use mathlib.Core.Path.{◌≡◌, ap, ◌∙◌}
use mathlib.Core.Bool.{Bool, true, false, cond}
use mathlib.Core.Option.{Option, none, some}
use native.Mathlib.Omega.{arith}
use lib.Dec.{eqb}
use borrow.Author.Tests.{ne_eqb}
use Rattle.ranges.specs.Sum.{sum_below}
use Rattle.ranges.specs.SumLaws.{sum-set, sum-part}
use Rattle.keys.specs.declared.Key.{Key}
use Rattle.keys.specs.Keys.{key_of}
use Rattle.tables.specs.declared.links.Content.{Content}
use Rattle.tables.specs.declared.links.Content.TheVariants.{Nothing, Request, Reply, Lost}
use Rattle.rules.specs.Common.{writing, entering, coordinator}
use Rattle.claim.specs.History.{changed}
use Rattle.serial.proofs.Places.{changed-same, changed_other}
use Rattle.serial.proofs.Versions.{Version, find}
use Rattle.serial.proofs.Entries.{tag_of}
use Rattle.serial.proofs.Press.{Shared, Client, Press, press_of, state_in, count_in}
use Rattle.serial.proofs.Invariant.{own}

-- one where there is nothing yet
abbrev pub missing : {A : Type 0} → Option A → ℕ
missing none = 1
missing (some a) = 0

-- what server i keeps of a key, and the tag that the log has of it
abbrev pub held_in : Shared → ℕ → Key → Option Version
held_in s i key = find s.keys s.values i key (s.held i)

abbrev pub entry_in : Shared → Key → Option ℕ
entry_in s key = tag_of s.log key s.entries

-- n places where a request is under way, or lost and to be sent again
abbrev pub asks : Content → ℕ → ℕ
asks Nothing n = 0
asks (Request w) n = n
asks (Reply w) n = 0
asks Lost n = n

-- a set request of client q that waits for a place at server i: its key is not held there
abbrev pub waits : Shared → ℕ → ℕ → Client → ℕ
waits s i q c = cond (eqb (state_in c) writing) (asks (c.link i) (missing (held_in s i (own q c)))) 0

-- an entry that waits for a place in the log, or is to come
abbrev pub due : Shared → ℕ → Client → ℕ
due s q c =
    cond (eqb (state_in c) writing) 1 (cond (eqb (state_in c) entering) (asks (c.link coordinator) (missing (entry_in s (own q c)))) 0)

pub record Budget (p : Press) : Type 0 where
  pub stored : (i : ℕ) → p.shared.held i + sum_below (λ q. waits p.shared i q (p.client q)) 16 ≤ suc p.shared.writes
  pub logged : p.shared.entries + sum_below (λ q. due p.shared q (p.client q)) 16 ≤ suc p.shared.writes

-- what one client's step leaves of another client's keys
pub record Same (s s' : Shared) (q : ℕ) : Type 0 where
  pub held : (i n : ℕ) → held_in s' i (key_of n q) ≡ held_in s i (key_of n q)
  pub entry : (n : ℕ) → entry_in s' (key_of n q) ≡ entry_in s (key_of n q)

-- one client changed: a sum over the clients moves by what that client moves, where the others' parts stay
moved : (f f' : ℕ → Client → ℕ) (client : ℕ → Client) (q : ℕ) (c : Client) → q < 16 →
    ((j : ℕ) → j < 16 → (j ≡ q → ⊥) → f' j (client j) ≡ f j (client j)) →
    sum_below (λ j. f' j (changed client q c j)) 16 + f q (client q) ≡ sum_below (λ j. f j (client j)) 16 + f' q c
moved f f' client q c l same =
    sum-set (λ j. f' j (changed client q c j)) (λ j. f j (client j)) 16 q l
    (λ j k d. ap (f' j) (changed_other client q c j d) ∙ same j k d)
    ∙ ap (λ (x : Client). sum_below (λ j. f j (client j)) 16 + f' q x) (changed-same client q c)

-- Client q has changed, and what is shared: the budget is kept where the two pay for each other.
module _ (p : Press) (b : Budget p) (q : ℕ) (hq : q < 16) (c : Client) (s : Shared) where
  pub budget-kept : ((j : ℕ) → j < 16 → (j ≡ q → ⊥) → Same p.shared s j) →
      ((i : ℕ) → s.held i + waits s i q c + p.shared.writes ≤ p.shared.held i + waits p.shared i q (p.client q) + s.writes) →
      s.entries + due s q c + p.shared.writes ≤ p.shared.entries + due p.shared q (p.client q) + s.writes →
      Budget (press_of s (changed p.client q c))
  budget-kept same stored logged = record {
    stored = λ i.
        omega (
          arith,
          stored i,
          b.stored i,
          moved (waits p.shared i) (waits s i) p.client q c hq (λ j l d. same-waits i j (same j l d)),
        );
    logged = omega (arith, b.logged, moved (due p.shared) (due s) p.client q c hq (λ j l d. same-due j (same j l d)));
  }
    where
      same-waits : (i j : ℕ) → Same p.shared s j → waits s i j (p.client j) ≡ waits p.shared i j (p.client j)
      same-waits i j e = rw (e.held i (count_in (p.client j)))

      same-due : (j : ℕ) → Same p.shared s j → due s j (p.client j) ≡ due p.shared j (p.client j)
      same-due j e = rw (e.entry (count_in (p.client j)))

-- a client that writes nothing waits for nothing
module _ (s : Shared) (q : ℕ) (c : Client) (state : ℕ) (is : state_in c ≡ state) where
  pub no-waits : (state ≡ writing → ⊥) → (i : ℕ) → waits s i q c ≡ 0
  no-waits d i = rw (is, ne_eqb state writing d)

  pub no_due : (state ≡ writing → ⊥) → (state ≡ entering → ⊥) → due s q c ≡ 0
  no_due d e = rw (is, ne_eqb state writing d, ne_eqb state entering e)

missing-most : {A : Type 0} (o : Option A) → missing o ≤ 1
missing-most none = omega arith
missing-most (some a) = omega arith

-- a client waits for at most one place
pub asks-most : {A : Type 0} (l : Content) (o : Option A) → asks l (missing o) ≤ 1
asks-most Nothing o = omega arith
asks-most (Request w) o = missing-most o
asks-most (Reply w) o = omega arith
asks-most Lost o = missing-most o

pub waits-most : (s : Shared) (i q : ℕ) (c : Client) → waits s i q c ≤ 1
waits-most s i q c = go (eqb (state_in c) writing)
  where
    go : (b : Bool) → cond b (asks (c.link i) (missing (held_in s i (own q c)))) 0 ≤ 1
    go true = asks-most (c.link i) (held_in s i (own q c))
    go false = omega arith

-- what a client's part is at most, and that a waiting client has a place
module _ (p : Press) (b : Budget p) (q : ℕ) (hq : q < 16) where
  pub waiting_room : (i : ℕ) → waits p.shared i q (p.client q) ≡ 1 → p.shared.held i ≤ p.shared.writes
  waiting_room i e = omega (arith, b.stored i, sum-part (λ j. waits p.shared i j (p.client j)) 16 q hq)

  pub entry_room : due p.shared q (p.client q) ≡ 1 → p.shared.entries ≤ p.shared.writes
  entry_room e = omega (arith, b.logged, sum-part (λ j. due p.shared j (p.client j)) 16 q hq)
