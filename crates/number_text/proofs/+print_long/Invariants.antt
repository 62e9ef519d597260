use Rattle.number_text.proofs.+print_long.Given as goal

abbrev pub decreases-print_long : goal.decreases-print_long
decreases-print_long l = l.number
