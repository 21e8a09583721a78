use Rattle.swarm_pools.proofs.places.+alone.Given as goal

abbrev pub decreases-alone : goal.decreases-alone
decreases-alone l = l.size
