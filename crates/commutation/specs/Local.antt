-- The outcome of a request goes by its client's row, its own link, and its target's versions or log: no request at another target
-- changes it.
use Rattle.std.specs.Prelude.{ℕ, ◌+◌, ◌≤◌, ◌<◌, ◌≡◌, refl, List, eqb, ltb}
use Rattle.std.proofs.Common.{ap, sym, ◌∙◌, arith, get_or-set_other}
use borrow.Author.Tests.{eqb-true, ltb-true, eq-eqb, ne_eqb}
use Rattle.ranges.specs.Tests.{either, by-test, by_equal}
use Rattle.ranges.specs.FirstLaws.{first-same}
use Rattle.keys.specs.Keys.{key_word}
use Rattle.tables.specs.Rows.{word_at, word_other}
use Rattle.tables.specs.Layout.{count_at, entries_field, held_field, step_field, server_places, log_places, version_word, version_badge}
use Rattle.tables.specs.Layout.{version_setpoint, value_width, value_row}
use Rattle.tables.specs.Values.{value_other}
use Rattle.tables.specs.Links.{targets}
use Rattle.tables.specs.LinkLaws.{link_other}
use Rattle.tables.specs.Tables.{Tables, entries_of, held_of, state_of, record_of, content_at}
use Rattle.tables.specs.declared.links.Contents.{Contents}
use Rattle.tables.specs.declared.links.Content.{Content}
use Rattle.tables.specs.declared.links.Content.TheVariants.{Nothing, Request, Reply, Lost}
use Rattle.tables.specs.declared.links.Link.{Link}
use Rattle.server.specs.Held.{bears, first_bearing, holds}
use Rattle.coordinator.specs.Log.{has_key}
use Rattle.rules.specs.Common.{writing, entering, asking_keys, asking_setpoints, coordinator}
use Rattle.rules.specs.Request.{holding}
use Rattle.keeping.specs.Moves.{counted_other}
use Rattle.commutation.specs.Outcome.{Storing, nothing, version, entry, Outcome, refuses, accepts, bump, changed, left_of}
use Rattle.commutation.specs.Outcome.{stored_counts, stored_keys, stored_values, stored_log}
use Rattle.commutation.specs.Outcome.{of_set, of_enter, of_get, outcome_in, outcome_of, outcome}
use Rattle.commutation.specs.Swap.{Fits, OutcomeFits}

-- What a request asks, on arbitrary tables: one for the log is at the coordinator, and one for versions at a server with its 256 at most.
pub record Asking (q i : ℕ) (t : Tables) : Type 0 where
  pub set_room : state_of t q ≡ writing → held_of t i ≤ server_places
  pub get_room : state_of t q ≡ asking_setpoints → held_of t i ≤ server_places
  pub enter-target : state_of t q ≡ entering → i ≡ coordinator
  pub keys-target : state_of t q ≡ asking_keys → i ≡ coordinator

pub record AtTarget (q i : ℕ) (t : Tables) : Type 0 where
  pub target : i < targets
  pub asking : (w : Contents) → content_at t q i ≡ Request w → Asking q i t

-- Two tables look the same from a client's link to a target.
pub record Same (q i : ℕ) (t t' : Tables) : Type 0 where
  pub state : state_of t' q ≡ state_of t q
  pub write : record_of t' q ≡ record_of t q
  pub content : content_at t' q i ≡ content_at t q i
  pub held : held_of t' i ≡ held_of t i
  pub key : (place : ℕ) → place < server_places → version_word t'.keys i place ≡ version_word t.keys i place
  pub badge : (place : ℕ) → place < server_places → version_badge t'.values i place ≡ version_badge t.values i place
  pub setpoint : (place : ℕ) → place < server_places → version_setpoint t'.values i place ≡ version_setpoint t.values i place
  pub entries : i ≡ coordinator → entries_of t' ≡ entries_of t
  pub log : i ≡ coordinator → t'.log ≡ t.log

-- Then the outcome is the same.
module _ (q i : ℕ) (t t' : Tables) (same : Same q i t t') where
  pub holding-same : holding t' i ≡ holding t i
  holding-same =
      by_equal i coordinator
      (λ e. rw (eq-eqb i coordinator e) (same.entries e))
      (λ d. rw (ne_eqb i coordinator d) same.held)

  module _ (w : Contents) where
    first-place : held_of t i ≤ server_places →
        first_bearing t'.keys i w.key (held_of t i) ≡ first_bearing t.keys i w.key (held_of t i)
    first-place room =
        first-same (bears t'.keys i w.key) (bears t.keys i w.key) (held_of t i)
        (λ place l. rw (same.key place (omega arith)))

    pub set_same : held_of t i ≤ server_places → of_set w i t' ≡ of_set w i t
    unfolding of_set
    set_same room = rw (same.held, first-place room)

    pub get-same : held_of t i ≤ server_places → of_get w i t' ≡ of_get w i t
    unfolding of_get
    get-same room =
        let place = first_bearing t.keys i w.key (held_of t i) in
        rw (same.held, first-place room)
        (by-test (ltb place (held_of t i))
        (λ e. let l : place < server_places = omega (arith, ltb-true place (held_of t i) e) in
        rw (e, same.badge place l, same.setpoint place l))
        (λ e. rw e))

    pub enter-same : i ≡ coordinator → of_enter w q t' ≡ of_enter w q t
    unfolding of_enter
    enter-same e = rw (same.entries e, same.log e, same.write)

-- What is stored bumps one count at most: of the versions that its target holds, or, at the coordinator, of the entries.
pub stored-count : (i : ℕ) (s : Storing) → Fits s i → (f : ℕ) → (f ≡ held_field + i → ⊥) → (i ≡ coordinator → f ≡ entries_field → ⊥) →
    (counts : List ℕ) → count_at (stored_counts s i counts) f ≡ count_at counts f
stored-count i nothing fits f held entries counts = refl
stored-count i (version place key badge setpoint) fits f held entries counts = get_or-set_other counts (held_field + i) f _ 0 held
stored-count i (entry tag key mask write) fits f held entries counts = get_or-set_other counts entries_field f _ 0 (entries fits)

-- and the step is counted besides
pub changed-count : (i : ℕ) (s : Storing) → Fits s i → (f : ℕ) → (f ≡ held_field + i → ⊥) → (i ≡ coordinator → f ≡ entries_field → ⊥) →
    (counts : List ℕ) → (f ≡ step_field → ⊥) → count_at (bump (stored_counts s i counts) step_field) f ≡ count_at counts f
changed-count i s fits f held entries counts d =
    counted_other (stored_counts s i counts) f d ∙ stored-count i s fits f held entries counts

-- A request at another target leaves tables that look the same.
module _ (q i r j : ℕ) (apart : i ≡ j → ⊥) where
  keys-same : (s : Storing) (keys : List ℕ) (p : ℕ) → p < server_places → Fits s i →
      version_word (stored_keys s i keys) j p ≡ version_word keys j p
  keys-same nothing keys p l fits = refl
  keys-same (version place key badge setpoint) keys p l fits =
      word_other server_places keys i place (key_word key) j p fits l (λ e. apart (sym e.0))
  keys-same (entry tag key mask write) keys p l fits = refl

  values_same : (s : Storing) (values : List ℕ) (p f : ℕ) → p < server_places → f < value_width → Fits s i →
      word_at value_width (stored_values s i values) (value_row j p) f ≡ word_at value_width values (value_row j p) f
  values_same nothing values p f l h fits = refl
  values_same (version place key badge setpoint) values p f l h fits =
      value_other values i place badge setpoint j p f fits l (λ e. apart (sym e.0)) h
  values_same (entry tag key mask write) values p f l h fits = refl

  log-same : (s : Storing) (log : List ℕ) → (i ≡ coordinator → ⊥) → Fits s i → stored_log s log ≡ log
  log-same nothing log d fits = refl
  log-same (version place key badge setpoint) log d fits = refl
  log-same (entry tag key mask write) log d fits = absurd (d fits)

  module _ (below : i < targets) (below' : j < targets) (content : Content) (s : Storing) (fits : Fits s i) (t : Tables) where
    pub changed-same : Same r j t (changed content s q i t)
    changed-same = record {
      state = refl;
      write = refl;
      content = ap (λ (x : Link). x.content) (link_other t.links q i content r j below below' (λ e. apart (sym e.1)));
      held = changed-count i s fits (held_field + j) (λ e. apart (omega arith)) (λ z e. omega arith) t.counts (λ e. omega arith);
      key = λ p l. keys-same s t.keys p l fits;
      badge = λ p l. values_same s t.values p 0 l (omega arith) fits;
      setpoint = λ p l. values_same s t.values p 1 l (omega arith) fits;
      entries = λ e. changed-count i s fits entries_field (λ z. omega arith) (λ d z. apart (d ∙ sym e)) t.counts (λ z. omega arith);
      log = λ e. log-same s t.log (λ d. apart (d ∙ sym e)) fits;
    }

-- What a request at its target stores goes there.
module _ (q i : ℕ) (t : Tables) where
  abbrev Fitting : Outcome → Type 0
  Fitting o = OutcomeFits o i

  module _ (w : Contents) where
    set-fits : Fitting (of_set w i t)
    unfolding of_set
    set-fits =
        by-test (holds t.keys i w.key (held_of t i)) (λ e. rw e tt)
        (λ e. by-test (ltb (held_of t i) server_places) (λ d. rw (e, d) (ltb-true (held_of t i) server_places d)) (λ d. rw (e, d) tt))

    enter-fits : i ≡ coordinator → Fitting (of_enter w q t)
    unfolding of_enter
    enter-fits z =
        by-test (has_key t.log w.key (entries_of t)) (λ e. rw e tt)
        (λ e. by-test (ltb (entries_of t) log_places) (λ d. rw (e, d) z) (λ d. rw (e, d) tt))

    get-fits : Fitting (of_get w i t)
    unfolding of_get
    get-fits = either Fitting (ltb (first_bearing t.keys i w.key (held_of t i)) (held_of t i)) tt tt

    in-fits : (state : ℕ) → (state ≡ entering → i ≡ coordinator) → Fitting (outcome_in state w q i t)
    unfolding outcome_in
    in-fits state enters =
        either Fitting (eqb state writing) set-fits
        (by-test (eqb state entering) (λ e. rw e (enter-fits (enters (eqb-true state entering e))))
        (λ e. rw e (either Fitting (eqb state asking_keys) tt (either Fitting (eqb state asking_setpoints) get-fits tt))))

  content-fits : (c : Content) → content_at t q i ≡ c → AtTarget q i t → Fitting (outcome_of c q i t)
  content-fits Nothing e there = tt
  content-fits (Request w) e there = in-fits w (state_of t q) (there.asking w e).enter-target
  content-fits (Reply w) e there = tt
  content-fits Lost e there = tt

  pub outcome_fits : AtTarget q i t → Fitting (outcome q i t)
  outcome_fits there = content-fits (content_at t q i) refl there
