-- `frame_exports::frame_write` meets its contract: a number that is no kind is refused; else the message is that of its numbers, and the writer's answer crosses as its number.
use mathlib.Core.Bool.{not}
use mathlib.Core.Path.{refl, ap, ◌∙◌}
use Rattle.ranges.specs.Tests.{fails, holds}
use Rattle.frame_exports.specs.Numbers.{written_number}
use Rattle.frames.specs.declared.Fixed.{Fixed}
use Rattle.frames.specs.declared.Message.{Message}
use Rattle.frames.specs.Messages.{message_at}
use Rattle.frames.specs.Frames.{written_of, bytes_written}
use Rattle.frame_exports.proofs.frame_write.Goals as goal

pub returns-then-not-is_kind : goal.returns-then-not-is_kind
returns-then-not-is_kind c = rw (fails c.is_kind.ensures (ap not c.if-not-is_kind.true)) (c.refused.ensures, refl)

pub returns : goal.returns
returns c =
    let a = c.args in
    let w = c.write_frame-written.ensures in
    let e = c.message_at-message.ensures ∙ ap (λ (f : Fixed). message_at a.kind f) c.fixed_from-fixed.ensures in
    rw (holds c.is_kind.ensures (ap not c.if-not-is_kind.false)) (
      c.written_number.ensures
          ∙ ap written_number
          (w.0 ∙ ap (λ (m : Message). written_of m a.keys.now a.badges.now a.numbers.now a.bytes.now) e),
      w.1 ∙ ap (λ (m : Message). bytes_written m a.keys.now a.badges.now a.numbers.now a.bytes.now) e,
    )
