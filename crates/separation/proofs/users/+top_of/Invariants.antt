use Rattle.separation.proofs.users.+top_of.Given as goal

abbrev pub decreases-top_of : goal.decreases-top_of
decreases-top_of l = l.levels
