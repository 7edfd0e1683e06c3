use Rattle.gp_events.proofs.write.+add_size.Given as goal

abbrev pub decreases-add_size : goal.decreases-add_size
decreases-add_size l = l.size
