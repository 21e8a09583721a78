use Rattle.std.proofs.Common.{refl, ◌∙◌}
use Rattle.swarm_agent.proofs.Changes.{logged-absent, logged-some, nowhere, set-is}
use Rattle.swarm_objects.specs.Agents.Messages.{gone_executor}
use Rattle.swarm_agent.proofs.messages.leave.Goals as goal

pub returns-in-Some-clause-ok : goal.returns-in-Some-clause-ok
returns-in-Some-clause-ok c =
    c.set.ensures
    ∙ set-is c.args.task gone_executor c.in-Some.executor _ c.args.executors.now c.executor_of-executor.ensures.rising
    c.in-Some.ensures.value refl refl

pub returns-in-Some-clause-back : goal.returns-in-Some-clause-back
returns-in-Some-clause-back c =
    logged-some c.note.new.log.items c.args.log.now.items c.args.task gone_executor c.in-Some.executor _
    c.executor_of-executor.result c.args.executors.now c.set.new.self c.in_ok-note.ensures.ok
    c.executor_of-executor.ensures.rising c.executor_of-executor.ensures.value c.in-Some.is c.set.ensures refl refl

pub returns-in_default-clause-ok : goal.returns-in_default-clause-ok
returns-in_default-clause-ok c =
    nowhere c.args.task gone_executor c.executor_of-executor.result c.args.executors.now
    c.executor_of-executor.ensures.value c.in_default.not-Some

pub returns-in_default-clause-back : goal.returns-in_default-clause-back
returns-in_default-clause-back c =
    logged-absent c.note.new.log.items c.args.log.now.items c.args.task c.executor_of-executor.result
    c.args.executors.now c.in_ok-note.ensures.ok c.executor_of-executor.ensures.value c.in_default.not-Some
