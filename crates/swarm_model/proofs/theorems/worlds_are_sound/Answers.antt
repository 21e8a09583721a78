use Rattle.swarm_model.proofs.Laws.Prefixes.{always-ordered, always-small, always-sound}
use Rattle.swarm_model.proofs.theorems.worlds_are_sound.Goals as goal

pub returns-clause-sound : goal.returns-clause-sound
returns-clause-sound c = always-sound

pub returns-clause-order : goal.returns-clause-order
returns-clause-order c = always-ordered

pub returns-clause-size : goal.returns-clause-size
returns-clause-size c = always-small
