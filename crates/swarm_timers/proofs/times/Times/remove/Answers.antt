use Rattle.swarm_timers.proofs.Kept.{drops-one}
use Rattle.swarm_timers.proofs.times.Times.remove.Goals as goal

pub returns : goal.returns
returns c = drops-one c.args.at c.args.owner c.args.self.now.set c.remove.new.self c.remove.ensures.updates.0
