-- On sound tables the scan tells exactly the steps whose answer is no refusal.
use Rattle.std.specs.Prelude.{ℕ, zero, suc, ◌-◌, ◌*◌, ◌+◌, ◌/◌, ◌%◌, ◌≡◌, refl, Bool, true, ◌&&◌, ◌||◌, List, length, replicate}
use Rattle.std.proofs.Common.{sym, ◌∙◌, arith, ne_eqb}
use Rattle.std.proofs.Math.Path.{ap}
use Rattle.std.proofs.Math.Bool.{and-true, and-false, or-true, or-false}
use Rattle.std.proofs.Math.Dec.{eqb, ltb}
use Rattle.std.proofs.lemmas.List.{length-replicate}
use Rattle.ranges.specs.Tests.{by-test}
use Rattle.server.specs.Held.{held_by, appended}
use Rattle.coordinator.specs.Log.{entries_in, entered}
use Rattle.tables.specs.Layout.{server_places, log_places}
use Rattle.tables.specs.Links.{targets}
use Rattle.tables.specs.Tables.{Tables, servers_of, clients_of, state_of, content_at}
use Rattle.tables.specs.declared.links.Contents.{Contents}
use Rattle.tables.specs.declared.links.Content.{Content}
use Rattle.tables.specs.declared.links.Content.TheVariants.{Nothing, Request, Reply, Lost}
use Rattle.rules.specs.Answer.{Ok}
use Rattle.rules.specs.Answers.{Left, left, Arrived}
use Rattle.rules.specs.Common.{writing, entering, asking_keys, asking_setpoints, pending}
use Rattle.rules.specs.Begin.{begun_write, begun_read}
use Rattle.rules.specs.Open.{all_servers}
use Rattle.rules.specs.Request.{on_new_set, on_set, on_new_enter, on_enter, on_which_keys, on_get, on_get_all, on_request_in, on_request}
use Rattle.rules.specs.Request.{request_delivered}
use Rattle.rules.specs.Reply.{emptied, on_set_done, on_entered, on_keys, on_got, on_all, on_reply_in, on_reply, reply_delivered}
use Rattle.soundness.specs.Facts.{Sound, facts-sound}
use Rattle.refusals.specs.Refusals.{write_fault, write_refusal, read_fault, read_refusal, delivery_fault, delivery_refusal}
use Rattle.refusals.specs.Steps.{unless, unless_arrived, badge_of, begin_write, begin_read, deliver_request, deliver_reply}
use Rattle.schedule.specs.declared.Step.TheVariants as step
use Rattle.playing.specs.Played.{answer_word, arrival_word, played}
use Rattle.workload.specs.Load.{load_step, numbered, is_accepted, acceptable}
use Rattle.workload.specs.Accepts.{accepts_write, accepts_read, is_held, is_entered, answers_in, answers_request, accepts_request}
use Rattle.workload.specs.Accepts.{takes_reply, accepts_reply, accepts}

-- an answer that is no refusal
abbrev pub is_fine : Left → Bool
is_fine x = is_accepted (answer_word x.answer)

abbrev pub is_fine_arrival : Arrived → Bool
is_fine_arrival x = is_accepted (arrival_word x.delivered.arrival)

-- a step that is judged by a number first
judged : (m : ℕ) (x : Left) (t : Tables) → (eqb m 0 && is_fine x) ≡ is_fine (unless m x t)
judged zero x t = refl
judged (suc m) x t = rw (ne_eqb (suc m) 0 (λ e. omega arith))

judged_arrival : (m : ℕ) (x : Arrived) (t : Tables) → (eqb m 0 && is_fine_arrival x) ≡ is_fine_arrival (unless_arrived m x t)
judged_arrival zero x t = refl
judged_arrival (suc m) x t = rw (ne_eqb (suc m) 0 (λ e. omega arith))

-- what a target answers, by the state that asked it
module _ (w : Contents) (q i : ℕ) (t : Tables) where
  new-set-fine : ltb (held_by t.counts i) server_places ≡ is_fine (on_new_set w q i t)
  unfolding on_new_set appended
  new-set-fine = by-test (ltb (held_by t.counts i) server_places) (λ e. rw e) (λ e. rw e)

  -- a key that is held is acknowledged, full or not
  set-fine : (ltb (held_by t.counts i) server_places || is_held t.counts t.keys i w.key) ≡ is_fine (on_set w q i t)
  unfolding on_set
  set-fine =
      let room = ltb (held_by t.counts i) server_places in
      by-test (is_held t.counts t.keys i w.key) (λ e. rw (e, or-true room)) (λ e. rw (e, or-false room) new-set-fine)

  new-enter-fine : ltb (entries_in t.counts) log_places ≡ is_fine (on_new_enter w q i t)
  unfolding on_new_enter entered
  new-enter-fine = by-test (ltb (entries_in t.counts) log_places) (λ e. rw e) (λ e. rw e)

  enter-fine : (ltb (entries_in t.counts) log_places || is_entered t.counts t.log w.key) ≡ is_fine (on_enter w q i t)
  unfolding on_enter
  enter-fine =
      let room = ltb (entries_in t.counts) log_places in
      by-test (is_entered t.counts t.log w.key) (λ e. rw (e, or-true room)) (λ e. rw (e, or-false room) new-enter-fine)

  get-fine : is_held t.counts t.keys i w.key ≡ is_fine (on_get w q i t)
  unfolding on_get
  get-fine = by-test (is_held t.counts t.keys i w.key) (λ e. rw e) (λ e. rw e)

  request-fine : (state : ℕ) → answers_in state w t.counts t.keys t.log i ≡ is_fine (on_request_in state w q i t)
  unfolding answers_in on_request_in on_which_keys on_get_all
  request-fine state =
      by-test (eqb state writing) (λ a. rw a set-fine) (λ a.
      by-test (eqb state entering) (λ b. rw (a, b) enter-fine) (λ b.
      by-test (eqb state asking_keys) (λ c. rw (a, b, c)) (λ c.
      by-test (eqb state asking_setpoints) (λ d. rw (a, b, c, d) get-fine) (λ d. rw (a, b, c, d)))))

  -- a reply that is there is taken, whatever it says
  done-fine : is_fine_arrival (on_set_done q i t) ≡ true
  unfolding on_set_done
  done-fine = by-test (pending (emptied q i t) q) (λ e. rw e) (λ e. rw e)

  got-fine : is_fine_arrival (on_got w q i t) ≡ true
  unfolding on_got
  got-fine = by-test (pending (emptied q i t) q) (λ e. rw e) (λ e. rw e)

  all-fine : is_fine_arrival (on_all w q i t) ≡ true
  unfolding on_all
  all-fine = by-test (pending (emptied q i t) q) (λ e. rw e) (λ e. rw e)

  reply-fine : (state : ℕ) → is_fine_arrival (on_reply_in state w q i t) ≡ true
  unfolding on_reply_in on_entered on_keys
  reply-fine state =
      by-test (eqb state writing) (λ a. rw a done-fine) (λ a.
      by-test (eqb state entering) (λ b. rw (a, b)) (λ b.
      by-test (eqb state asking_keys) (λ c. rw (a, b, c)) (λ c.
      by-test (eqb state asking_setpoints) (λ d. rw (a, b, c, d) got-fine) (λ d. rw (a, b, c, d) all-fine))))

-- by what the link holds; b is whether the delivery is judged good
module _ (q i : ℕ) (t : Tables) (b : Bool) where
  on-request : (c : Content) → answers_request c b (state_of t q) t.counts t.keys t.log i ≡ (b && is_fine (on_request c q i t))
  on-request Nothing = sym (and-false b)
  on-request (Request w) = rw (request-fine w q i t (state_of t q))
  on-request (Reply w) = sym (and-false b)
  on-request Lost = sym (and-false b)

  on-reply : (c : Content) → takes_reply c b ≡ (b && is_fine_arrival (on_reply c q i t))
  on-reply Nothing = sym (and-false b)
  on-reply (Request w) = sym (and-false b)
  on-reply (Reply w) = rw (reply-fine w q i t (state_of t q)) (sym (and-true b))
  on-reply Lost = sym (and-false b)

-- a public step is accepted where nothing refuses it
module _ (t : Tables) (s : Sound t) where
  pub write-judged : (q mask badge : ℕ) (setpoints : List ℕ) →
      eqb (write_fault q mask (length setpoints) t) 0 ≡ is_fine (begin_write q mask badge setpoints t)
  unfolding begin_write write_refusal
  write-judged q mask badge setpoints =
      let m = write_fault q mask (length setpoints) t in
      rw (facts-sound t s) (sym (and-true (eqb m 0)) ∙ judged m (left Ok (begun_write q mask (badge_of badge) setpoints t)) t)

  pub read-judged : (q mask : ℕ) → eqb (read_fault q mask t) 0 ≡ is_fine (begin_read q mask t)
  unfolding begin_read read_refusal
  read-judged q mask =
      let m = read_fault q mask t in
      rw (facts-sound t s) (sym (and-true (eqb m 0)) ∙ judged m (left Ok (begun_read q mask t)) t)

  pub request-judged : (q i : ℕ) → (eqb (delivery_fault q i t) 0 && is_fine (request_delivered q i t)) ≡ is_fine (deliver_request q i t)
  unfolding deliver_request delivery_refusal
  request-judged q i = rw (facts-sound t s) (judged (delivery_fault q i t) (request_delivered q i t) t)

  pub reply-judged : (q i : ℕ) → (eqb (delivery_fault q i t) 0 && is_fine_arrival (reply_delivered q i t)) ≡ is_fine_arrival (deliver_reply q i t)
  unfolding deliver_reply delivery_refusal
  reply-judged q i = rw (facts-sound t s) (judged_arrival (delivery_fault q i t) (reply_delivered q i t) t)

  -- and so is a step of the load
  pub write-told : (q v : ℕ) → accepts_write t q ≡ acceptable t (load_step (step.BeginWrite q (all_servers (servers_of t)) 0) v)
  unfolding played
  write-told q v =
      let k = servers_of t in
      ap (λ (n : ℕ). eqb (write_fault q (all_servers k) n t) 0) (sym (length-replicate k v)) ∙ write-judged q (all_servers k) 0 (replicate k v)

  pub read_told : (q v : ℕ) → accepts_read t q ≡ acceptable t (load_step (step.BeginRead q (all_servers (servers_of t))) v)
  unfolding played
  read_told q v = read-judged q (all_servers (servers_of t))

  request-told : (q i v : ℕ) → accepts_request t q i ≡ acceptable t (load_step (step.Request q i) v)
  unfolding accepts_request played request_delivered
  request-told q i v = on-request q i t (eqb (delivery_fault q i t) 0) (content_at t q i) ∙ request-judged q i

  reply-told : (q i v : ℕ) → accepts_reply t q i ≡ acceptable t (load_step (step.Reply q i) v)
  unfolding accepts_reply played reply_delivered
  reply-told q i v = on-reply q i t (eqb (delivery_fault q i t) 0) (content_at t q i) ∙ reply-judged q i

  -- the scan tells the acceptable steps
  pub accepts-told : (n : ℕ) → accepts t n ≡ acceptable t (numbered t n)
  unfolding accepts numbered
  accepts-told n =
      let p = clients_of t in
      by-test (ltb n p) (λ a. rw a (write-told n _)) (λ a.
      by-test (ltb n (2 * p)) (λ b. rw (a, b) (read_told (n - p) 0)) (λ b.
      by-test (ltb n ((2 + targets) * p))
      (λ c. let row = n - 2 * p in rw (a, b, c) (request-told (row / targets) (row % targets) 0))
      (λ c. let row = n - (2 + targets) * p in rw (a, b, c) (reply-told (row / targets) (row % targets) 0))))
