-- The cases of a server's answer, as the code meets them.
use Rattle.std.specs.Prelude.{ℕ, ◌≤◌, ◌<◌, ◌≡◌, Bool, true, List}
use Rattle.std.proofs.Common.{sym, ◌∙◌, arith}
use Rattle.std.proofs.Math.Path.{ap}
use Rattle.std.proofs.Math.Bool.{false}
use borrow.Author.Tests.{lt-ltb, le-ltb}
use Rattle.server.specs.Held.{appended, append_left, Appended, first_bearing}
use Rattle.server.specs.HeldLaws.{append-kept, append-count}
use Rattle.tables.specs.Layout.{count_at, step_field, version_badge, version_setpoint}
use Rattle.tables.specs.Tables.{Tables, tables_of, held_of}
use Rattle.tables.specs.declared.links.Contents.{Contents}
use Rattle.rules.specs.Answer.{Answer}
use Rattle.rules.specs.Answer.{Refused}
use Rattle.rules.specs.Answers.{Left, left}
use Rattle.rules.specs.Common.{reply, got_reply}
use Rattle.rules.specs.Request.{refused, on_new_set, on_set, on_get}
use Rattle.answers.specs.Answered.{Answered, replaced}

-- state 1, a key that is not held; e is what the append told
module _ (w : Contents) (q i : ℕ) (t : Tables) {done : Bool} {counts keys values : List ℕ}
    (e : append_left done counts keys values ≡ appended t.counts t.keys t.values i w.key w.badge w.number) where
  -- the step number is as before
  pub set_step : count_at counts step_field ≡ count_at t.counts step_field
  set_step =
      ap (λ (a : Appended). count_at a.counts step_field) e
      ∙ append-count t.counts t.keys t.values i w.key w.badge w.number step_field (λ z. omega arith)

  pub set-stored : {r : Answer} {counts' links' : List ℕ} → done ≡ true → Answered counts t.links q i (reply 0) r counts' links' →
      left r (tables_of counts' t.clients links' keys values t.log t.writes t.reads) ≡ on_new_set w q i t
  unfolding on_new_set
  set-stored d a = rw (← e, d, a.fine, a.counted', a.linked)

  pub set_full : done ≡ false → left (Refused 8) (tables_of counts t.clients t.links keys values t.log t.writes t.reads)
      ≡ on_new_set w q i t
  unfolding on_new_set
  set_full d =
      let k : append_left done counts keys values ≡ append_left false t.counts t.keys t.values =
      e
      ∙ append-kept t.counts t.keys t.values i w.key w.badge w.number (ap (λ (a : Appended). a.done) (sym e) ∙ d) in
      let c : counts ≡ t.counts = ap (λ (a : Appended). a.counts) k in
      let y : keys ≡ t.keys = ap (λ (a : Appended). a.keys) k in
      let v : values ≡ t.values = ap (λ (a : Appended). a.values) k in
      rw (← e, d, c, y, v)

-- state 1: what was sent again is found before it is stored; h is what the server holds
module _ (w : Contents) (q i : ℕ) (t : Tables) {h place : ℕ} (c : h ≡ held_of t i) (p : place ≡ first_bearing t.keys i w.key h) where
  pub set_held : {r : Answer} {counts links : List ℕ} → place < h → Answered t.counts t.links q i (reply 0) r counts links →
      replaced r counts links t ≡ on_set w q i t
  unfolding on_set
  set_held l a = rw (← c, ← p, lt-ltb _ _ l, a.fine, a.counted', a.linked)

  pub set_new : {x : Left} → h ≤ place → x ≡ on_new_set w q i t → x ≡ on_set w q i t
  unfolding on_set
  set_new l e = rw (← c, ← p, le-ltb _ _ l) e

pub get-missing : (w : Contents) (q i : ℕ) (t : Tables) {h place : ℕ} → h ≡ held_of t i → place ≡ first_bearing t.keys i w.key h → h ≤ place → refused 8 t ≡ on_get w q i t
unfolding on_get
get-missing w q i t c p l = rw (← c, ← p, le-ltb _ _ l)

pub get-found : (w : Contents) (q i : ℕ) (t : Tables) {r : Answer} {counts links : List ℕ} {h place b v : ℕ} →
    h ≡ held_of t i → place ≡ first_bearing t.keys i w.key h → place < h →
    b ≡ version_badge t.values i place → v ≡ version_setpoint t.values i place →
    Answered t.counts t.links q i (got_reply b v) r counts links → replaced r counts links t ≡ on_get w q i t
unfolding on_get
get-found w q i t c p l b v a = rw (← c, ← p, lt-ltb _ _ l, ← b, ← v, a.fine, a.counted', a.linked)
