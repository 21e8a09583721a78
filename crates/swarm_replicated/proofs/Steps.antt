-- First duties.
use Rattle.swarm_objects.proofs.WalkLemmas.{first_left, first_right}

pub ruleset first_steps = (first_left, first_right)
