-- A content takes the place of another on a link, and no record changes: a reply takes its request's place, a loss that of either, and a
-- request sent again that of a loss. Neither a loss nor a resend changes a record, nor does a request whose key is held or entered already.
use Rattle.std.specs.Prelude.{ℕ, suc, ◌+◌, ◌≤◌, ◌<◌, ◌≡◌, refl, Bool, true, false, List, length}
use Rattle.std.proofs.Common.{ap, ◌∙◌, arith, add-one}
use Rattle.ranges.specs.Tests.{by-test}
use Rattle.tables.specs.Layout.{count_at, count_words, step_field, entries_field, writes_field, reads_field, held_field}
use Rattle.tables.specs.Tables.{Tables, clients_of, step_of, entries_of, writes_of, reads_of}
use Rattle.tables.specs.declared.links.Content.{Content}
use Rattle.rules.specs.Answer.{Ok}
use Rattle.rules.specs.Request.{answered_by}
use Rattle.keeping.specs.Frame.{Kept}
use Rattle.keeping.specs.Moves.{counted_other, counted_step, counted-length}
use Rattle.claim.specs.Steps.{requested, lost, resent}
use Rattle.claim.specs.History.{History, delivered, entered, missed, repeated, marked, at_coordinator}
use Rattle.register_order.specs.Agreement.{Agrees}
use Rattle.register_order.specs.Machines.{Follows}
use Rattle.register_order.specs.Grown.{more, GoesOn, goes_same}
use Rattle.register_order.specs.Laws.{Counts, NoTagDue, as-next, marked_agrees, quiet-delivered, quiet-entered, quiet-missed}
use Rattle.register_order.specs.Laws.{quiet-repeated}

-- in tables u, which differ from t in versions alone
module _ (t : Tables) (h : History) (numbers : List ℕ) (a : Agrees t h numbers) (q i : ℕ) (client : q < clients_of t) (content : Content)
    (u : Tables) (rows : u.clients ≡ t.clients) (same_writes : u.writes ≡ t.writes) (same_Reads : u.reads ≡ t.reads)
    (same : (f : ℕ) → f < held_field → count_at u.counts f ≡ count_at t.counts f) (k : Kept q t (answered_by content q i u).tables) where
  abbrev placed : Tables
  placed = (answered_by content q i u).tables

  long : count_words ≤ length u.counts
  long = omega (arith, counted-length u.counts, k.grows.lengths.counts, a.sound.long.counts)

  counts : Counts t placed (entries_of t) (writes_of t) (reads_of t)
  counts = record {
    entries = counted_other u.counts entries_field (λ e. omega arith) ∙ same entries_field (omega arith);
    writes = counted_other u.counts writes_field (λ e. omega arith) ∙ same writes_field (omega arith);
    reads = counted_other u.counts reads_field (λ e. omega arith) ∙ same reads_field (omega arith);
    step = counted_step u.counts long ∙ ap (λ (n : ℕ). n + 1) (same step_field (omega arith));
  }

  on : GoesOn t placed q
  on = goes_same (rw rows) (rw rows)

  step_on : step_of placed ≡ suc (step_of t)
  step_on = counts.step ∙ add-one (step_of t)

  -- whatever is told of the step, and of the link
  now : (request : Bool) (h' : History) → Agrees placed h' (more numbers (step_of t + 1)) →
      Agrees placed (marked q i request h') (more numbers (suc (step_of t)))
  now request h' b = marked_agrees placed h' (more numbers (suc (step_of t))) (as-next t h numbers a placed h' b) q i request

  pub placed-requested : (at_coordinator i ≡ true → NoTagDue (h.doing q)) →
      Follows t h numbers (record { event = requested q i Ok; tables = placed })
  placed-requested due = record {
    agrees =
        by-test (at_coordinator i)
        (λ e. rw e (now true (entered (h.doing q) q h)
        (quiet-entered t placed h numbers a q client k same_writes same_Reads counts on (h.doing q) refl (due e))))
        (λ e. rw e (now true (delivered (h.doing q) q h)
        (quiet-delivered t placed h numbers a q client k same_writes same_Reads counts on (h.doing q) refl)));
    step = step_on;
  }

  pub placed-lost : Follows t h numbers (record { event = lost q i Ok; tables = placed })
  placed-lost = record {
    agrees =
        now false (missed (h.answered q i) (h.doing q) q h)
        (quiet-missed t placed h numbers a q client k same_writes same_Reads counts on (h.answered q i) (h.doing q) refl);
    step = step_on;
  }

  pub placed-resent : Follows t h numbers (record { event = resent q i Ok; tables = placed })
  placed-resent = record {
    agrees =
        now false (repeated (h.doing q) h)
        (quiet-repeated t placed h numbers a q client k same_writes same_Reads counts on (h.doing q));
    step = step_on;
  }
