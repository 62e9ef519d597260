-- A step keeps the tie between tables and history, and pays what it owes. What every step shares.
use Prim.Native.Nat.{ℕ, ◌<◌}
use mathlib.Core.Path.{◌≡◌, refl, sym, ap, ◌∙◌}
use mathlib.Core.Bool.{Bool, false}
use native.Mathlib.Omega.{arith}
use Rattle.tables.specs.Links.{targets}
use Rattle.tables.specs.declared.links.Content.{Content}
use Rattle.tables.specs.declared.links.Content.TheVariants.{Nothing}
use Rattle.rules.specs.Common.{idle}
use Rattle.claim.specs.Steps.{Event}
use Rattle.claim.specs.History.{changed, Doing, History, passed, turned, marked, after}
use Rattle.serial.proofs.Places.{changed-all, changed-both, changed-three}
use Rattle.serial.proofs.Owed.{Owed, floor_after}
use Rattle.serial.proofs.Press.{renumbered, Client, Press, press_of, state_in, is_reply, World, world}
use Rattle.serial.proofs.Invariant.{Idle, Activity, at_rest, at-writing, at-entering, at-keys, at-getting, at_all, ClientOk, Tied}

abbrev pub Kept : (ℕ → ℕ) → History → Event → Press → Type 0
Kept floor h event p = Owed floor h event × Tied (floor_after event h floor) p (after event h)

-- what client q does, of all that the tie says of it
abbrev pub Does : (ℕ → ℕ) → Press → History → ℕ → (ℕ → World → ℕ → ℕ → Client → Doing → Type 0) → Type 0
Does floor p h q P = P h.extra (world p h) (floor q) q (p.client q) (h.doing q)

-- ---- which links hold a reply

-- on one link the last step is marked anew, and on every other it stays so
abbrev pub Marks : (ℕ → Content) → ℕ → Bool → (ℕ → Content) → Type 0
Marks old i reply new = (j : ℕ) → j < targets → is_reply (new j) ≡ changed (λ k. is_reply (old k)) i reply j

abbrev pub Unmarked : (ℕ → Content) → (ℕ → Content) → Type 0
Unmarked old new = (j : ℕ) → j < targets → is_reply (new j) ≡ is_reply (old j)

-- one link changed
pub link_marks : (old : ℕ → Content) (i : ℕ) (l : Content) → Marks old i (is_reply l) (changed old i l)
link_marks old i l j h = changed-both (λ k a b. is_reply a ≡ b) old (λ k. is_reply (old k)) i l (is_reply l) refl (λ k ne. refl) j

-- the reply on it was the last thing that any link held, and nothing else is a reply now
pub last_marks : (old : ℕ → Content) (i : ℕ) (new : ℕ → Content) → ((j : ℕ) → j < targets → changed old i Nothing j ≡ Nothing) →
    ((j : ℕ) → j < targets → is_reply (new j) ≡ false) → Marks old i false new
last_marks old i new empty none j h = none j h ∙ sym (ap is_reply (empty j h)) ∙ link_marks old i Nothing j h

module _ (floor : ℕ → ℕ) (p : Press) (h : History) (tied : Tied floor p h) where
  -- a step that the row does not see
  pub passed-tied : Tied floor p (passed h)
  passed-tied = record {
    method = tied.method;
    entries = tied.entries;
    room = tied.room;
    value = tied.value;
    tags = tied.tags;
    clients = tied.clients;
    answered = tied.answered;
  }

  -- Only client q has changed, and what it is at; the step number and the transactions begun are no part of the tie.
  abbrev moved : ℕ → ℕ → ℕ → ℕ → Client → Press
  moved step writes reads q c = press_of (renumbered step writes reads p.shared) (changed p.client q c)

  module _ (q : ℕ) (hq : q < 16) (c : Client) where
    abbrev Answered : (ℕ → ℕ → Bool) → Type 0
    Answered answered = (r : ℕ) → r < 16 → (j : ℕ) → j < targets → answered r j ≡ is_reply ((changed p.client q c r).link j)

    pub marked-links : (i : ℕ) (reply : Bool) → Marks (p.client q).link i reply c.link →
        Answered (changed h.answered q (changed (h.answered q) i reply))
    marked-links i reply marks =
        changed-both (λ r a b. r < 16 → (j : ℕ) → j < targets → a j ≡ is_reply (b.link j)) h.answered p.client q
        (changed (h.answered q) i reply) c
        (λ l j hj.
        changed-both (λ k a b. k < targets → a ≡ b) (h.answered q) (λ k. is_reply ((p.client q).link k)) i reply reply
        (λ m. refl) (λ k ne m. tied.answered q hq k m) j hj
        ∙ sym (marks j hj))
        (λ r ne l. tied.answered r l)

    same-links : Unmarked (p.client q).link c.link → Answered h.answered
    same-links same =
        changed-all p.client q c (λ r b. r < 16 → (j : ℕ) → j < targets → h.answered r j ≡ is_reply (b.link j))
        (λ l j hj. tied.answered q hq j hj ∙ sym (same j hj))
        (λ r ne l. tied.answered r l)

    module _ (step writes reads : ℕ) where
      pub turned-tied : (i : ℕ) (reply : Bool) → Marks (p.client q).link i reply c.link → (d : Doing) →
          ClientOk h.extra (world p h) (floor q) q c d → Tied floor (moved step writes reads q c) (marked q i reply (turned q d h))
      turned-tied i reply marks d ok = record {
        method = tied.method;
        entries = tied.entries;
        room = tied.room;
        value = tied.value;
        tags = tied.tags;
        clients = changed-both (λ j a b. j < 16 → ClientOk h.extra (world p h) (floor j) j a b) p.client h.doing q c d
            (λ l. ok) (λ j ne l. tied.clients j l);
        answered = marked-links i reply marks;
      }

      -- only its tables
      pub moved-tied : (i : ℕ) (reply : Bool) → Marks (p.client q).link i reply c.link →
          ClientOk h.extra (world p h) (floor q) q c (h.doing q) →
          Tied floor (moved step writes reads q c) (marked q i reply (passed h))
      moved-tied i reply marks ok = record {
        method = tied.method;
        entries = tied.entries;
        room = tied.room;
        value = tied.value;
        tags = tied.tags;
        clients = changed-all p.client q c (λ j a. j < 16 → ClientOk h.extra (world p h) (floor j) j a (h.doing j))
            (λ l. ok) (λ j ne l. tied.clients j l);
        answered = marked-links i reply marks;
      }

      -- a begin also sets its floor
      pub begun-tied : Unmarked (p.client q).link c.link → (d : Doing) → ClientOk h.extra (world p h) h.tags q c d →
          Tied (changed floor q h.tags) (moved step writes reads q c) (turned q d h)
      begun-tied same d ok = record {
        method = tied.method;
        entries = tied.entries;
        room = tied.room;
        value = tied.value;
        tags = tied.tags;
        clients = changed-three (λ j f a b. j < 16 → ClientOk h.extra (world p h) f j a b) floor p.client h.doing q h.tags c d
            (λ l. ok) (λ j ne l. tied.clients j l);
        answered = same-links same;
      }

-- a client in state 0 is at nothing, and its links are empty
pub resting : (extra : ℕ) (x : World) (floor q : ℕ) (c : Client) (d : Doing) → state_in c ≡ idle → Activity extra x floor q c d → Idle extra x floor q c d
resting extra x floor q c d e (at_rest s a) = a
resting extra x floor q c d e (at-writing s a) = let z : ⊥ = omega arith in absurd z
resting extra x floor q c d e (at-entering s a) = let z : ⊥ = omega arith in absurd z
resting extra x floor q c d e (at-keys s a) = let z : ⊥ = omega arith in absurd z
resting extra x floor q c d e (at-getting s a) = let z : ⊥ = omega arith in absurd z
resting extra x floor q c d e (at_all s a) = let z : ⊥ = omega arith in absurd z
