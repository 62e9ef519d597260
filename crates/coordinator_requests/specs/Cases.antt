-- The cases of the coordinator's answer to an enter request, as the code meets them.
use Rattle.std.specs.Prelude.{ℕ, ◌≤◌, ◌<◌, ◌≡◌, Bool, true, List}
use Rattle.std.proofs.Common.{sym, ◌∙◌, arith}
use Rattle.std.proofs.Math.Path.{ap}
use Rattle.std.proofs.Math.Bool.{false}
use borrow.Author.Tests.{lt-ltb, le-ltb}
use Rattle.coordinator.specs.Log.{entered, enter_left, Entered, first_entry}
use Rattle.coordinator.specs.LogLaws.{enter-kept, enter-count}
use Rattle.tables.specs.Layout.{count_at, step_field}
use Rattle.tables.specs.Tables.{Tables, tables_of, entries_of, record_of}
use Rattle.tables.specs.declared.links.Contents.{Contents}
use Rattle.rules.specs.Answer.{Answer}
use Rattle.rules.specs.Answer.{Refused}
use Rattle.rules.specs.Answers.{Left, left}
use Rattle.rules.specs.Common.{reply, tagged_record}
use Rattle.rules.specs.Request.{on_new_enter, on_enter}
use Rattle.answers.specs.Answered.{Answered, replaced}

-- state 2, a key that the log lacks; e is what the entry told, n the entries before it
module _ (w : Contents) (q i : ℕ) (t : Tables) {done : Bool} {counts log : List ℕ}
    (e : enter_left done counts log ≡ entered t.counts t.log w.key w.number) where
  pub enter_step : count_at counts step_field ≡ count_at t.counts step_field
  enter_step = ap (λ (a : Entered). count_at a.counts step_field) e ∙ enter-count t.counts t.log w.key w.number step_field (λ z. omega arith)

  pub enter-entered : {n place : ℕ} {r : Answer} {counts' links' writes : List ℕ} → n ≡ entries_of t → place ≡ record_of t q → done ≡ true → writes ≡ tagged_record place n t.writes →
      Answered counts t.links q i (reply n) r counts' links' →
      left r (tables_of counts' t.clients links' t.keys t.values log writes t.reads) ≡ on_new_enter w q i t
  unfolding on_new_enter
  enter-entered c p d f a = rw (← e, d, f, a.fine, a.counted', a.linked, c, p)

  pub enter-full : done ≡ false → left (Refused 8) (tables_of counts t.clients t.links t.keys t.values log t.writes
      t.reads) ≡ on_new_enter w q i t
  unfolding on_new_enter
  enter-full d =
      let k : enter_left done counts log ≡ enter_left false t.counts t.log = e ∙ enter-kept t.counts t.log w.key w.number (ap (λ (a : Entered). a.done) (sym e) ∙ d) in
      let c : counts ≡ t.counts = ap (λ (a : Entered). a.counts) k in
      let l : log ≡ t.log = ap (λ (a : Entered). a.log) k in
      rw (← e, d, c, l)

-- state 2: what was sent again is found before it is entered; n is what the log has
module _ (w : Contents) (q i : ℕ) (t : Tables) {n tag : ℕ} (c : n ≡ entries_of t) (p : tag ≡ first_entry t.log w.key n) where
  pub enter_known : {r : Answer} {counts links : List ℕ} → tag < n → Answered t.counts t.links q i (reply tag) r counts links →
      replaced r counts links t ≡ on_enter w q i t
  unfolding on_enter
  enter_known l a = rw (← c, ← p, lt-ltb _ _ l, a.fine, a.counted', a.linked)

  pub enter-new : {x : Left} → n ≤ tag → x ≡ on_new_enter w q i t → x ≡ on_enter w q i t
  unfolding on_enter
  enter-new l e = rw (← c, ← p, le-ltb _ _ l) e
