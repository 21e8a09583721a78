use Rattle.swarm_timers.proofs.Firsts.{due-law, next-law}
use Rattle.swarm_timers.proofs.laws.answers_are_least.Goals as goal

pub returns-clause-due : goal.returns-clause-due
returns-clause-due c = due-law

pub returns-clause-next : goal.returns-clause-next
returns-clause-next c = next-law
