-- In each arm the answer is its variant, and the text is the definition's clause.
use Rattle.std.proofs.Common.{rules, arith}
use Rattle.recording_files.proofs.print_compared.Goals as goal

pub returns-in-Ok-None : goal.returns-in-Ok-None
returns-in-Ok-None c = (
  search rules,
  omega (arith, c.print_bytes.ensures.end),
)

pub returns-in-Ok-Some : goal.returns-in-Ok-Some
returns-in-Ok-Some c = (
  search rules,
  c.print_difference.ensures.1,
)

pub returns-in-Err : goal.returns-in-Err
returns-in-Err c = (
  rw c.in-Err.is c.print_refusal.ensures.0,
  omega (arith, c.print_refusal.ensures.1),
)
