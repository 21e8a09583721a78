use Rattle.swarm_agent.proofs.Sleeping.{no-step-above}
use Rattle.swarm_agent.proofs.looks.first_step_above.Goals as goal

pub returns-then-now-wakes : goal.returns-then-now-wakes
returns-then-now-wakes c =
    no-step-above c.wakes.result c.args.now c.args.after c.args.executors.now c.wakes.ensures c.if-now-wakes.true
