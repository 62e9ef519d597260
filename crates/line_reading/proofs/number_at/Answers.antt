-- Each way out is a law of the definition.
use Rattle.std.proofs.Common.{◌≡◌, ◌<◌, Some, sym, ap, ◌∙◌, arith, length, drop, get_or}
use Rattle.schedule.specs.Numbers.{digit_of, digit_head}
use Rattle.schedule.specs.Number.{digit_read}
use Rattle.schedule.specs.NumberLaws.{read-digit, read_none-digit, digit_past, digit-within}
use Rattle.schedule.specs.NumberLaws.{none_first, starts, reads_end, reads_on, leading-zero, too_large, reads_all}
use Rattle.line_reading.proofs.number_at.Goals as goal

pub returns-in_err-first : goal.returns-in_err-first
returns-in_err-first c =
    let s = c.args.part.now in
    rw c.from_residual.ensures (none_first s (sym (digit_past s 0 (omega (arith, c.in_err-first.ensures.item)))) (omega arith))

pub returns-in_err-value : goal.returns-in_err-value
returns-in_err-value c =
    let s = c.args.part.now in
    let first = c.in_ok-first.ensures.item.3 in
    rw c.from_residual-in_err-value.ensures
    (none_first s (ap digit_of (first.1 0) ∙ sym (digit-within s 0 first.0)) (read_none-digit c.in_err-value.ensures))

pub loop-size-init : goal.loop-size-init
loop-size-init c =
    let s = c.args.part.now in
    let first = c.in_ok-first.ensures.item.3 in
    let d = read-digit c.in_ok-value.ensures in
    (starts s (d.0 ∙ ap digit_of (first.1 0) ∙ sym (digit-within s 0 first.0)) d.1, (omega arith, first.0))

-- the digit that a turn of the loop reads
module _ (s : _) (n : _) (h : n < length s) where
  is_digit : {d : _} → Some d ≡ digit_read (digit_of (get_or s n 0)) → d ≡ digit_head (drop n s)
  is_digit e = (read-digit e).0 ∙ sym (digit-within s n h)

pub returns-in_default : goal.returns-in_default
returns-in_default c =
    let s = c.args.part.now in
    let l = c.loop-size in
    sym (l.invariant.0 ∙ reads_end l.value l.size s (sym (digit-within s l.size c.loop-size-test.true)) (read_none-digit c.in_default.ensures))

pub returns-then-value-eq0 : goal.returns-then-value-eq0
returns-then-value-eq0 c =
    let s = c.args.part.now in
    let l = c.loop-size in
    let e = c.in-Some.ensures in
    sym (l.invariant.0 ∙ leading-zero l.value l.size s (is_digit s l.size c.loop-size-test.true e) (read-digit e).1 c.if-value-eq0.true)

pub returns-then-value-gt4294967295 : goal.returns-then-value-gt4294967295
returns-then-value-gt4294967295 c =
    let s = c.args.part.now in
    let l = c.loop-size in
    let e = c.in-Some.ensures in
    sym (l.invariant.0 ∙ too_large l.value l.size s (is_digit s l.size c.loop-size-test.true e) (read-digit e).1
    c.if-value-eq0.false c.if-value-gt4294967295.true)

pub loop-size-preserved : goal.loop-size-preserved
loop-size-preserved c =
    let s = c.args.part.now in
    let l = c.loop-size in
    let e = c.in-Some.ensures in (
      l.invariant.0 ∙ reads_on l.value l.size s (is_digit s l.size c.loop-size-test.true e) (read-digit e).1
          c.if-value-eq0.false c.if-value-gt4294967295.false,
      (omega arith, l.invariant.1.1),
    )

pub returns : goal.returns
returns c =
    let s = c.args.part.now in
    let l = c.loop-size in
    let e : l.size ≡ length s = omega (arith, l.invariant.1.1) in
    sym (l.invariant.0 ∙ rw e (reads_all l.value (length s) s (omega arith)))
