-- The row holds the fixed values so far, and what is left of the format is read from the next bit on, with the row of the kind; behind them
-- the entries decide, as many as the last of them says.
use Rattle.std.proofs.Common.{rules, refl}
use Rattle.std.proofs.lemmas.Result.{err_from_is_err_and}
use Rattle.formats.specs.Format.{field_of}
use Rattle.formats.specs.Grammar.{fault}
use Rattle.causes.specs.declared.Refusal.TheVariants as refusal
use Rattle.formats.specs.Results.{number-some, refusal-told}
use mathlib.Core.Path.{◌≡◌, ap, ◌∙◌}
use Prim.Native.Nat.{ℕ, ◌+◌, ◌-◌}
use native.Mathlib.Omega.{arith}
use lib.ListN.{get_or, length-replicate}
use Rattle.fields.specs.ByBytes.{field_by_bytes_lem}
use Rattle.formats.specs.declared.state.State.{State}
use Rattle.frame_table.specs.declared.Shape.{Shape}
use Rattle.frame_table.specs.Table.{many_place, entry_place, badge_place, number_place, fixed_fields, entries_in}
use Rattle.frame_table.specs.TableLaws.{target_is}
use Rattle.formats.specs.FormatLaws.{rowed-start, rowed_tells, next_place, place_inner}
use Rattle.frame_table.specs.Entry.{behind_of, Slim}
use Rattle.formats.specs.EntryFields.{Ahead}
use Rattle.frame_table.proofs.TableLaws.{sort_known}
use Rattle.formats.specs.Reading.{fault_at, Said, come-none, come_unknown, come-start, turn-fault, turn_on, turn-rowed, turn-said}
use Rattle.formats.specs.Judging.{entries-said, behind_limits, said_few, rest-asked, rest-refused, rest_read}
use Rattle.format_reading.proofs.scan_frame.Goals.{After-behind_key-behind, After-entries_in-entries, After-loop-state, After-next-state}
use Rattle.format_reading.proofs.scan_frame.Goals as goal

pub returns-then-bytes-eq0 : goal.returns-then-bytes-eq0
returns-then-bytes-eq0 c = refusal-told refusal.CutShort (come-none c.args.bytes.now c.if-bytes-eq0.true)

pub returns-then-kind-gt-LAST_KIND : goal.returns-then-kind-gt-LAST_KIND
returns-then-kind-gt-LAST_KIND c =
    let a = c.args in
    refusal-told refusal.Malformed (come_unknown a.bytes.now c.if-bytes-eq0.false (c.read_field-kind.ensures ∙ field_by_bytes_lem _ _ _)
    c.if-kind-gt-LAST_KIND.true)

pub target_of-requires : goal.target_of-requires
target_of-requires c = target_is c.read_field-kind.result (omega (arith, c.if-kind-gt-LAST_KIND.false)) c.shape_of-shape.ensures

pub row_of-row-requires : goal.row_of-row-requires
row_of-row-requires c = c.target_of.ensures ∙ ap (λ (s : Shape). s.target) c.shape_of-shape.ensures

pub loop-state-init : goal.loop-state-init
loop-state-init c =
    let a = c.args in
    let e = c.first-state.ensures in (
      rw e (come-start a.bytes.now (length-replicate {A = ℕ} fixed_fields 0)),
      rw e (rowed-start c.read_field-kind.result),
      rw e (λ h. let z : ⊥ = omega arith in absurd z),
    )

pub bounds-row-place : goal.bounds-row-place
bounds-row-place c = omega (arith, c.loop-state-test.true)

pub taken-requires : goal.taken-requires
taken-requires c =
    let l = c.loop-state in
    let t = rowed_tells c.read_field-kind.result l.at l.state l.invariant.1
    c.row_of-row.ensures in
    (omega (arith, l.invariant.0.near, c.loop-state-test.true), l.invariant.0.inside, t.0, t.1)

pub returns-in_err-took : goal.returns-in_err-took
returns-in_err-took c =
    let p = err_from_is_err_and c.from_residual.result c.from_residual.ensures.1 in
    let e = c.in_err-took.ensures.takes in
    let none : fault_at c.args.bytes.now c.loop-state.at (field_of c.loop-state.state) ≡ 0 → ⊥ = λ z. number-some _ (e ∙ z) in
    rw (p.1, p.2) (refusal-told _ (ap fault e ∙ turn-fault c.loop-state.invariant.0 c.loop-state-test.true refl none))

pub bounds-fixed-place : goal.bounds-fixed-place
bounds-fixed-place c = omega (arith, c.loop-state-test.true)

pub overflow_add-at : goal.overflow_add-at
overflow_add-at c = omega (arith, c.loop-state.invariant.0.near, c.loop-state-test.true, c.in_ok-took.ensures.narrow)

pub next-state-requires : goal.next-state-requires
next-state-requires c =
    let l = c.loop-state in
    let t = rowed_tells c.read_field-kind.result l.at l.state l.invariant.1
    c.row_of-row.ensures in
    (omega (arith, l.invariant.0.goes.counted c.loop-state-test.true), l.invariant.0.goes.inside, t.0)

-- the next state is one place further
module _ (c : After-next-state) where
  further : c.next-state.result.place ≡ c.loop-state.state.place + 1
  further =
      let st = c.loop-state.state in
      ap (λ (s : State). s.place) c.next-state.ensures
      ∙ next_place st c.in_ok-took.took.value
      ∙ place_inner st.place (λ e. omega (arith, c.loop-state-test.true))

pub loop-state-smaller : goal.loop-state-smaller
loop-state-smaller c = omega (arith, further c, c.loop-state-test.true)

pub loop-state-preserved : goal.loop-state-preserved
loop-state-preserved c =
    let l = c.loop-state in
    let h = c.loop-state-test.true in
    let t = c.in_ok-took.ensures in
    let k = c.read_field-kind in
    let en = c.next-state.ensures in (
      turn_on l.invariant.0 h t.takes refl t.narrow en,
      turn-rowed l.invariant.0 h t.takes refl k.result _ l.invariant.1 (k.ensures ∙ field_by_bytes_lem _ _ _) en,
      λ e. turn-said l.invariant.0 h t.takes refl l.invariant.1 en e,
    )

-- all fixed fields are read: the next is an entry's first, and how many entries there are is said
module _ (c : After-loop-state) where
  behind : c.loop-state.state.place ≡ entry_place
  behind = let l = c.loop-state in omega (arith, c.loop-state-test.false, l.invariant.0.early)

  ahead : Ahead c.read_field-kind.result entry_place
      c.loop-state.state
  ahead =
      let l = c.loop-state in
      record { its-kind = l.invariant.1.later (λ z. omega (arith, behind)); its-place = behind }

  said :
      let l = c.loop-state in
      Said c.read_field-kind.result (get_or l.fixed many_place 0)
      l.state.left
  said = c.loop-state.invariant.2 behind

module _ (c : After-entries_in-entries) where
  many :
      c.entries_in-entries.result ≡ entries_in c.read_field-kind.result
      (get_or c.loop-state.fixed many_place 0)
  many =
      entries-said c.read_field-kind.result c.row_of-row.ensures
      (get_or c.loop-state.fixed many_place 0)
      c.entries_in-entries.ensures

pub bounds-fixed-8 : goal.bounds-fixed-8
bounds-fixed-8 c = search rules

pub behind_key-behind-requires : goal.behind_key-behind-requires
behind_key-behind-requires c =
    let known = sort_known c.read_field-kind.result c.row_of-row.ensures in
    (known badge_place, known number_place)

-- what stands behind an entry's key
module _ (c : After-behind_key-behind) where
  behind-is :
      (c.behind_key-behind.result ≡ behind_of c.read_field-kind.result) × Slim c.behind_key-behind.result
  behind-is =
      behind_limits c.read_field-kind.result c.row_of-row.ensures c.behind_key-behind.ensures

pub overflow_add-behind : goal.overflow_add-behind
overflow_add-behind c = let slim = (behind-is (goal.at.overflow_add-behind c).After-behind_key-behind).1 in omega (arith, slim.badge, slim.number)

pub rest_fault-requires : goal.rest_fault-requires
rest_fault-requires c =
    let l = c.loop-state in
    let b = behind-is (goal.at.rest_fault-requires c).After-behind_key-behind in
    (rest-asked l.invariant.0 (ahead (goal.at.rest_fault-requires c).After-loop-state) (said (goal.at.rest_fault-requires c).After-loop-state) (many (goal.at.rest_fault-requires c).After-entries_in-entries) b.0 b.1, l.invariant.0.inside)

pub returns-in_err-rest_fault : goal.returns-in_err-rest_fault
returns-in_err-rest_fault c =
    let p = err_from_is_err_and c.from_residual-in_err-rest_fault.result c.from_residual-in_err-rest_fault.ensures.1 in
    rw (p.1, p.2) (refusal-told _
    (rest-refused c.loop-state.invariant.0 (ahead (goal.at.returns-in_err-rest_fault c).After-loop-state) (said (goal.at.returns-in_err-rest_fault c).After-loop-state) (many (goal.at.returns-in_err-rest_fault c).After-entries_in-entries) (behind-is (goal.at.returns-in_err-rest_fault c).After-behind_key-behind).0
    c.in_err-rest_fault.ensures
    (number-some _)))

pub overflow_mul-result : goal.overflow_mul-result
overflow_mul-result c = omega (arith, many (goal.at.overflow_mul-result c).After-entries_in-entries, said_few (said (goal.at.overflow_mul-result c).After-loop-state))

pub overflow_add-result : goal.overflow_add-result
overflow_add-result c = omega (arith, many (goal.at.overflow_add-result c).After-entries_in-entries, said_few (said (goal.at.overflow_add-result c).After-loop-state))

pub returns : goal.returns
returns c =
    rest_read c.loop-state.invariant.0 (ahead (goal.at.returns c).After-loop-state) (said (goal.at.returns c).After-loop-state) (many (goal.at.returns c).After-entries_in-entries) (behind-is (goal.at.returns c).After-behind_key-behind).0
    c.in_ok-rest_fault.ensures
    refl
