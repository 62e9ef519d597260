-- What demand 3's tie says of a WRITE that waits for its tag. Its request may be one sent again: where the WRITE has no tag, the log does
-- not have its key, and where the log has the key, the WRITE has its tag. A reply finds that it has it.
use Rattle.std.specs.Prelude.{ℕ, ◌<◌, ◌≡◌, true, false, List}
use Rattle.std.proofs.Common.{sym, ◌∙◌, arith}
use Rattle.coordinator.specs.Log.{has_key}
use Rattle.tables.specs.Layout.{state_field}
use Rattle.tables.specs.Tables.{Tables, clients_of, entries_of, state_of, content_at}
use Rattle.tables.specs.declared.links.Contents.{Contents}
use Rattle.tables.specs.declared.links.Content.TheVariants.{Request, Reply}
use Rattle.rules.specs.Common.{entering, coordinator}
use Rattle.soundness.specs.Room.{client-fits}
use Rattle.claim.specs.History.{History, writing, tagged}
use Rattle.serial.proofs.Press.{Client, view, world}
use Rattle.serial.proofs.Entries.{tag-found, tag-none}
use Rattle.serial.proofs.Invariant.{own, AtHead, to-enter, has-entered, EnterLink, Entering, Activity, at_rest, at-writing, at-entering}
use Rattle.serial.proofs.Invariant.{at-keys, at-getting, at_all}
use Rattle.serial.proofs.Ready.{row_at, link_at_lem}
use Rattle.serial.proofs.Fair.{Standing}

module _ (floor : ℕ → ℕ) (t : Tables) (h : History) (s : Standing floor t h) (q : ℕ) (client : q < clients_of t)
    (state : state_of t q ≡ entering) where
  abbrev c : Client
  c = (view t).client q

  not-here : {A : Type 0} {other : ℕ} → c.row state_field ≡ other → (other ≡ entering → ⊥) → A
  not-here e d = absurd (d (sym e ∙ row_at t q state_field (omega arith) ∙ state))

  waiting : Activity h.extra (world (view t) h) (floor q) q c (h.doing q) →
      Entering h.extra (world (view t) h) (floor q) q c (h.doing q)
  waiting (at_rest e x) = not-here e (λ z. omega arith)
  waiting (at-writing e x) = not-here e (λ z. omega arith)
  waiting (at-entering e x) = x
  waiting (at-keys e x) = not-here e (λ z. omega arith)
  waiting (at-getting e x) = not-here e (λ z. omega arith)
  waiting (at_all e x) = not-here e (λ z. omega arith)

  entry : EnterLink h.extra (world (view t) h) (floor q) q c (h.doing q) (content_at t q coordinator)
  entry =
      rw (link_at_lem t q coordinator (omega arith))
      at (waiting (s.tied.clients q (client-fits t s.sound q client)).activity).entry

  module _ {C : Type 0} (w : Contents)
      (new : (mask badge : ℕ) (setpoints : List ℕ) (begin : ℕ) → h.doing q ≡ writing mask badge setpoints begin →
      has_key t.log w.key (entries_of t) ≡ false → C)
      (again : (tag : ℕ) → h.doing q ≡ tagged tag → has_key t.log w.key (entries_of t) ≡ true → C) where
    by-tag : w.key ≡ own q c → AtHead h.extra (world (view t) h) (floor q) q c (h.doing q) → C
    by-tag e (to-enter x) = new _ x.badge x.setpoints x.begin x.is (rw e (tag-none t.log (own q c) (entries_of t) x.new))
    by-tag e (has-entered tag x) = again tag x.is (rw e (tag-found t.log (own q c) (entries_of t) tag x.there).0)

    pub by-head : content_at t q coordinator ≡ Request w → C
    by-head e =
        let link : EnterLink h.extra (world (view t) h) (floor q) q c (h.doing q) (Request w) = rw e at entry in
        by-tag link.0 link.2

  pub reply-tag : (w : Contents) → content_at t q coordinator ≡ Reply w → h.doing q ≡ tagged w.number
  reply-tag w e =
      let link : EnterLink h.extra (world (view t) h) (floor q) q c (h.doing q) (Reply w) = rw e at entry in
      link.is
