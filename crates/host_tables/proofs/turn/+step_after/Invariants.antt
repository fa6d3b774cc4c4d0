use Rattle.host_tables.proofs.turn.+step_after.Given as goal

abbrev pub decreases-step_after : goal.decreases-step_after
decreases-step_after l = l.more
