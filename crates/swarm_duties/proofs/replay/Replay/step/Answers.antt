use Rattle.swarm_duties.proofs.Entries.{reached_step}
use Rattle.swarm_plain.specs.Plain.{world_of}
use Rattle.swarm_duties.proofs.replay.Replay.step.Goals as goal

pub invariant_of-self : goal.invariant_of-self
invariant_of-self c =
    reached_step (world_of c.self.inside.plain) (world_of c.step.new.plain) c.args.what.now c.step.result
    c.self.invariant c.step.ensures
