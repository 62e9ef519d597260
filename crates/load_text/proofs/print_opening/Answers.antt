-- By the opening's answer.
use Rattle.load_text.proofs.print_opening.Goals as goal

pub returns-in-Err : goal.returns-in-Err
returns-in-Err c t = rw c.in-Err.is (c.refuse.ensures t)
