use Rattle.coordinator.proofs.+search_back.Given as goal

abbrev pub decreases-search_back : goal.decreases-search_back
decreases-search_back l = l.tag
