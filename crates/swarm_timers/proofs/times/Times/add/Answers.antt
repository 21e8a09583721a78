use Rattle.swarm_timers.proofs.Kept.{adds-one}
use Rattle.swarm_timers.proofs.times.Times.add.Goals as goal

pub returns-in-Ok-clause-ok : goal.returns-in-Ok-clause-ok
returns-in-Ok-clause-ok c = adds-one c.args.at c.args.owner c.args.self.now.set c.insert.new.self c.in-Ok.ensures.updates.0
