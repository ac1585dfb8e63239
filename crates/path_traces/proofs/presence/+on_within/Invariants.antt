use Rattle.path_traces.proofs.presence.+on_within.Given as goal

abbrev pub decreases-on_within : goal.decreases-on_within
decreases-on_within l = l.bound
