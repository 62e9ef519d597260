-- Deliveries of requests, losses and resends: no row changes, and an empty link stays empty. And what a resend leaves.
use Rattle.std.specs.Prelude.{ℕ, ◌<◌, ◌≡◌, Bool, true, false, cond, List, eqb, ltb}
use Rattle.std.proofs.Math.Path.{refl}
use Rattle.std.proofs.Common.{sym, ap, ◌∙◌}
use native.Mathlib.Omega.{arith}
use Rattle.server.specs.Held.{appended, first_bearing, holds}
use Rattle.coordinator.specs.Log.{entered, first_entry, has_key}
use Rattle.ranges.specs.Tests.{by-test, not-both}
use Rattle.tables.specs.Links.{targets, link_width, link_row, is_empty, ContentFits, link_at, put_link}
use Rattle.tables.specs.LinkLaws.{link-same, link_other}
use Rattle.tables.specs.Tables.{Tables, clients_of, entries_of, held_of, state_of, asked_of, content_at}
use Rattle.tables.specs.declared.links.Contents.{Contents}
use Rattle.tables.specs.declared.links.Content.{Content}
use Rattle.tables.specs.declared.links.Content.TheVariants.{Nothing, Request, Reply, Lost}
use Rattle.tables.specs.declared.links.Link.{Link}
use Rattle.rules.specs.Answers.{Left}
use Rattle.rules.specs.Common.{writing, entering, asking_keys, asking_setpoints, reply}
use Rattle.rules.specs.Request.{got_from, holding, on_new_set, on_set, on_new_enter, on_enter, on_which_keys, on_get, on_get_all, on_request_in, on_request}
use Rattle.rules.specs.Request.{request_delivered}
use Rattle.rules.specs.Loss.{on_loss, link_lost, on_resend, link_resent, own_key_of, sent_in, sent_by}
use Rattle.rules.specs.Answer.{Answer}
use Rattle.rules.specs.Answer.{Ok, Refused}
use Rattle.soundness.specs.Facts.{Sound}
use Rattle.soundness.specs.Room.{client-fits, link_row_lem}
use Rattle.keys.specs.Keys.{FitsByte}
use Rattle.keys.specs.KeyLaws.{at-word-fits}
use Rattle.resending.specs.Carried.{Carried, carried_still}

-- what a step of this kind leaves: the clients' table, and every link that was empty
pub record Still (t t' : Tables) : Type 0 where
  pub clients : t'.clients ≡ t.clients
  pub empty : (p j : ℕ) → j < targets → is_empty (content_at t p j) ≡ true → content_at t' p j ≡ content_at t p j

abbrev pub StillLeft : Tables → Left → Type 0
StillLeft t x = Still t x.tables

pub still-same : (t : Tables) → Still t t
still-same t = record { clients = refl; empty = λ p j l e. refl }

-- so the rows go on giving what was sent
pub same_rows : (t t' : Tables) (q i : ℕ) → t'.clients ≡ t.clients → sent_by q i t' ≡ sent_by q i t
unfolding sent_in
same_rows t t' q i e = rw e

pub still-carries : (t t' : Tables) → Still t t' → (q i : ℕ) → i < targets → Carried t t' q i
still-carries t t' s q i l = carried_still t t' q i (same_rows t t' q i s.clients) (s.empty q i l)

module _ (q i : ℕ) (t : Tables) (target : i < targets) where
  -- a link that was not empty gets another content
  module _ (full : is_empty (content_at t q i) ≡ false) where
    put_still : (content : Content) (p j : ℕ) → j < targets → is_empty (content_at t p j) ≡ true →
        (link_at (put_link t.links q i content) p j).content ≡ content_at t p j
    put_still content p j l e =
        ap (λ (x : Link). x.content)
        (link_other t.links q i content p j target l
        (λ same. not-both (ap (λ (n : ℕ). is_empty (content_at t n i)) (sym same.0) ∙ ap (λ (n : ℕ). is_empty (content_at t p n)) (sym same.1) ∙ e) full))

    -- whatever a delivery does to the other tables
    abbrev Answers : Left → Type 0
    Answers = StillLeft t

    -- the link has its reply, and the clients' table stays
    replied : (content : Content) (t' : Tables) → t'.clients ≡ t.clients → t'.links ≡ put_link t.links q i content → Still t t'
    replied content t' e f = record {
      clients = e;
      empty = λ p j l g. ap (λ (xs : List ℕ). (link_at xs p j).content) f ∙ put_still content p j l g;
    }

    module _ (w : Contents) where
      set_still : Answers (on_set w q i t)
      unfolding on_set on_new_set
      set_still =
          by-test (holds t.keys i w.key (held_of t i))
          (λ e. rw e (replied (reply 0) _ refl refl))
          (λ e. by-test (appended t.counts t.keys t.values i w.key w.badge w.number).done
          (λ d. rw (e, d) (replied (reply 0) _ refl refl))
          (λ d. rw (e, d) (still-same t)))

      enter_still : Answers (on_enter w q i t)
      unfolding on_enter on_new_enter
      enter_still =
          by-test (has_key t.log w.key (entries_of t))
          (λ e. rw e (replied (reply (first_entry t.log w.key (entries_of t))) _ refl refl))
          (λ e. by-test (entered t.counts t.log w.key w.number).done
          (λ d. rw (e, d) (replied (reply (entries_of t)) _ refl refl))
          (λ d. rw (e, d) (still-same t)))

      get_still : Answers (on_get w q i t)
      unfolding on_get
      get_still =
          let place = first_bearing t.keys i w.key (held_of t i) in
          by-test (ltb place (held_of t i))
          (λ e. rw e (replied (got_from t.values i place) _ refl refl))
          (λ e. rw e (still-same t))

      request_still : (state : ℕ) → Answers (on_request_in state w q i t)
      unfolding on_request_in on_which_keys on_get_all
      request_still state =
          by-test (eqb state writing) (λ e. rw e set_still)
          (λ a. by-test (eqb state entering) (λ e. rw (a, e) enter_still)
          (λ b. by-test (eqb state asking_keys) (λ e. rw (a, b, e) (replied (reply (entries_of t)) _ refl refl))
          (λ c. by-test (eqb state asking_setpoints) (λ e. rw (a, b, c, e) get_still)
          (λ e. rw (a, b, c, e) (replied (reply (holding t i)) _ refl refl)))))

  -- each step, by what the link holds
  request_by : (c : Content) → content_at t q i ≡ c → StillLeft t (on_request c q i t)
  request_by Nothing e = still-same t
  request_by (Request w) e = request_still (ap is_empty e) w (state_of t q)
  request_by (Reply w) e = still-same t
  request_by Lost e = still-same t

  pub requested_still : StillLeft t (request_delivered q i t)
  unfolding request_delivered
  requested_still = request_by (content_at t q i) refl

  lost_by : (c : Content) → content_at t q i ≡ c → StillLeft t (on_loss c q i t)
  lost_by Nothing e = still-same t
  lost_by (Request w) e = record { clients = refl; empty = put_still (ap is_empty e) Lost }
  lost_by (Reply w) e = record { clients = refl; empty = put_still (ap is_empty e) Lost }
  lost_by Lost e = still-same t

  pub lost_still : StillLeft t (link_lost q i t)
  unfolding link_lost
  lost_still = lost_by (content_at t q i) refl

  resent_by : (c : Content) → content_at t q i ≡ c → StillLeft t (on_resend c q i t)
  resent_by Nothing e = still-same t
  resent_by (Request w) e = still-same t
  resent_by (Reply w) e = still-same t
  resent_by Lost e = record { clients = refl; empty = put_still (ap is_empty e) (sent_by q i t) }

  pub resent_still : StillLeft t (link_resent q i t)
  unfolding link_resent
  resent_still = resent_by (content_at t q i) refl

-- What a resend leaves on its link is what the row gives.
refused_not_ok : {n : ℕ} → Refused n ≡ Ok → ⊥
refused_not_ok e = let z : ◌≡◌ {A = ℕ} 0 1 = ap number e in omega arith
  where
    number : Answer → ℕ
    number Ok = 1
    number (Refused n) = 0

module _ (t : Tables) (s : Sound t) (q i : ℕ) (client : q < clients_of t) (target : i < targets) where
  pub own-fits : FitsByte (own_key_of t q)
  own-fits = record { count = omega (arith, (s.client q client).count.most); client = omega (arith, client-fits t s q client) }

  pub sent-fits : ContentFits (sent_by q i t)
  unfolding sent_in
  sent-fits =
      by-test (eqb (state_of t q) writing) (λ e. rw e own-fits)
      (λ a. by-test (eqb (state_of t q) entering) (λ e. rw (a, e) own-fits)
      (λ b. by-test (eqb (state_of t q) asking_setpoints) (λ e. rw (a, b, e) (at-word-fits (asked_of t q i)))
      (λ e. rw (a, b, e) (record { count = omega arith; client = omega arith }))))

  -- an accepted resend found the link lost
  leaves_by : (c : Content) → content_at t q i ≡ c → (on_resend c q i t).answer ≡ Ok →
      (is_empty (content_at t q i) ≡ false) × (content_at (on_resend c q i t).tables q i ≡ sent_by q i t)
  leaves_by Nothing e a = absurd (refused_not_ok a)
  leaves_by (Request w) e a = absurd (refused_not_ok a)
  leaves_by (Reply w) e a = absurd (refused_not_ok a)
  leaves_by Lost e a = (ap is_empty e, link-same t.links q i (sent_by q i t) (link_row_lem t s q client i target) sent-fits)

  pub resent_leaves : (link_resent q i t).answer ≡ Ok →
      (is_empty (content_at t q i) ≡ false) × (content_at (link_resent q i t).tables q i ≡ sent_by q i t)
  unfolding link_resent
  resent_leaves = leaves_by (content_at t q i) refl
