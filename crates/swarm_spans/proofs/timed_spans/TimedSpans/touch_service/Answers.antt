use Rattle.swarm_spans.proofs.Grown.{wider_itself, wider_with}
use Rattle.swarm_spans.proofs.Timing.{timed_put, timed_stays}
use Rattle.swarm_spans.proofs.timed_spans.TimedSpans.touch_service.Goals as goal

pub returns-clause-stays : goal.returns-clause-stays
returns-clause-stays c =
    timed_stays c.args.self.now c.add.new.self c.args.self.now.downs c.args.self.now.remotes
    (wider_with c.args.self.now.updates c.add.new.self c.args.service c.add.ensures)
    (wider_itself c.args.self.now.downs) (wider_itself c.args.self.now.remotes)

pub returns-clause-goes_on : goal.returns-clause-goes_on
returns-clause-goes_on c = timed_put c.args.service c.args.self.now c.add.new.self c.add.ensures
