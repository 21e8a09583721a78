use Rattle.std.proofs.Common.{◌∙◌}
use Rattle.swarm_agent.proofs.Changes.{near-at, nowhere, set-is}
use Rattle.swarm_objects.proofs.Aims.{stepped-aim}
use Rattle.swarm_objects.specs.Bounds.{has_near_times}
use Rattle.swarm_objects.specs.Loops.Agents.{stepped}
use Rattle.swarm_agent.proofs.executors.Executors.step.Goals as goal

pub make_step-requires-clause-near : goal.make_step-requires-clause-near
make_step-requires-clause-near c =
    near-at has_near_times c.args.task c.in-Some.executor c.args.self.now c.requires.near c.in-Some.ensures.value

pub returns-in-Some : goal.returns-in-Some
returns-in-Some c =
    c.renew_after.ensures ∙ c.set.ensures
    ∙ set-is c.args.task (stepped c.args.now) c.in-Some.executor _ c.args.self.now c.executor_of.ensures.rising
    c.in-Some.ensures.value c.make_step.ensures (stepped-aim c.args.now c.in-Some.executor).0

pub returns-in_default : goal.returns-in_default
returns-in_default c =
    nowhere c.args.task (stepped c.args.now) c.executor_of.result c.args.self.now c.executor_of.ensures.value
    c.in_default.not-Some
