use Rattle.swarm_update.proofs.Leaving.{less_stale, stale_own}
use Rattle.swarm_update.proofs.known_survey.Subject.make_stale.Goals as goal

pub returns-clause-less : goal.returns-clause-less
returns-clause-less c = less_stale c.args.self.now c.add.new.self c.args.number c.add.ensures

pub returns-clause-stale : goal.returns-clause-stale
returns-clause-stale c = stale_own c.args.self.now.stale c.add.new.self c.args.number c.add.ensures
