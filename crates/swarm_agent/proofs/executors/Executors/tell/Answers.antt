use Rattle.std.proofs.Common.{refl, ◌∙◌}
use Rattle.swarm_agent.proofs.Changes.{nowhere, set-is}
use Rattle.swarm_objects.specs.Loops.Agents.{told}
use Rattle.swarm_agent.proofs.executors.Executors.tell.Goals as goal

pub returns-in-Some : goal.returns-in-Some
returns-in-Some c =
    c.set.ensures
    ∙ set-is c.args.task told c.in-Some.executor _ c.args.self.now c.executor_of.ensures.rising c.in-Some.ensures.value
    refl refl

pub returns-in_default : goal.returns-in_default
returns-in_default c =
    nowhere c.args.task told c.executor_of.result c.args.self.now c.executor_of.ensures.value c.in_default.not-Some
