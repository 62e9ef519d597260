-- A loss and a resend keep the tie: they leave all records.
use Rattle.std.specs.Prelude.{ℕ, refl, List}
use Rattle.tables.specs.Tables.{Tables, content_at}
use Rattle.tables.specs.declared.links.Content.{Content}
use Rattle.tables.specs.declared.links.Content.TheVariants.{Nothing, Request, Reply, Lost}
use Rattle.rules.specs.Answers.{Left}
use Rattle.rules.specs.Request.{refused}
use Rattle.rules.specs.Loss.{on_loss, link_lost, sent_by, on_resend, link_resent}
use Rattle.keeping.specs.Accepted.{Deliverable}
use Rattle.keeping.specs.Frame.{Kept}
use Rattle.keeping.proofs.Losses.{link_lost-kept, link_resent-kept}
use Rattle.claim.specs.Steps.{lost, resent}
use Rattle.claim.specs.History.{History}
use Rattle.register_order.specs.Agreement.{Agrees}
use Rattle.register_order.specs.Machines.{Follows}
use Rattle.register_order.specs.Laws.{passed_agrees}
use Rattle.register_order.specs.Placed.{placed-lost, placed-resent}

module _ (t : Tables) (h : History) (numbers : List ℕ) (a : Agrees t h numbers) (q i : ℕ) where
  abbrev pub AnswersLoss : Left → Type 0
  AnswersLoss x = Follows t h numbers (record { event = lost q i x.answer; tables = x.tables })

  abbrev pub AnswersResend : Left → Type 0
  AnswersResend x = Follows t h numbers (record { event = resent q i x.answer; tables = x.tables })

  pub loss-refused : (n : ℕ) → AnswersLoss (refused n t)
  loss-refused n = record { agrees = passed_agrees t h numbers a; step = refl }

  pub resend-refused : (n : ℕ) → AnswersResend (refused n t)
  resend-refused n = record { agrees = passed_agrees t h numbers a; step = refl }

  module _ (d : Deliverable q i t) where
    loss_by : (c : Content) → Kept q t (on_loss c q i t).tables → AnswersLoss (on_loss c q i t)
    loss_by Nothing k = loss-refused 14
    loss_by (Request w) k = placed-lost t h numbers a q i d.client Lost t refl refl refl (λ f l. refl) k
    loss_by (Reply w) k = placed-lost t h numbers a q i d.client Lost t refl refl refl (λ f l. refl) k
    loss_by Lost k = loss-refused 14

    pub loss-answers : AnswersLoss (link_lost q i t)
    unfolding link_lost
    loss-answers = loss_by (content_at t q i) (link_lost-kept q i t a.sound d)

    resend_by : (c : Content) → Kept q t (on_resend c q i t).tables → AnswersResend (on_resend c q i t)
    resend_by Nothing k = resend-refused 15
    resend_by (Request w) k = resend-refused 15
    resend_by (Reply w) k = resend-refused 15
    resend_by Lost k = placed-resent t h numbers a q i d.client (sent_by q i t) t refl refl refl (λ f l. refl) k

    pub resend-answers : AnswersResend (link_resent q i t)
    unfolding link_resent
    resend-answers = resend_by (content_at t q i) (link_resent-kept q i t a.sound d)
