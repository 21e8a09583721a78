use Rattle.std.proofs.Common.{ap, refl, ◌∙◌}
use Rattle.swarm_agent.proofs.Changes.{logged-put, logged-some, set-is, update-some}
use Rattle.swarm_objects.specs.Rows.{executor_task}
use Rattle.swarm_agent.proofs.messages.update.Goals as goal

pub returns-in-Some-clause-ok : goal.returns-in-Some-clause-ok
returns-in-Some-clause-ok c =
    c.set.ensures
    ∙ set-is c.args.assigned.now.task (λ e. record e { desired = c.args.assigned.now.desired }) c.in-Some.executor _
    c.args.executors.now c.executor_of-executor.ensures.rising c.in-Some.ensures.value refl refl
    ∙ update-some c.args.assigned.now c.in-Some.executor c.args.executors.now c.in-Some.ensures.value

pub returns-in-Some-clause-back : goal.returns-in-Some-clause-back
returns-in-Some-clause-back c =
    logged-some c.note.new.log.items c.args.log.now.items c.args.assigned.now.task
    (λ e. record e { desired = c.args.assigned.now.desired }) c.in-Some.executor _
    c.executor_of-executor.result c.args.executors.now c.set.new.self c.in_ok-note.ensures.ok
    c.executor_of-executor.ensures.rising c.executor_of-executor.ensures.value c.in-Some.is c.set.ensures refl refl

pub returns-in-None-clause-back : goal.returns-in-None-clause-back
returns-in-None-clause-back c =
    logged-put c.put.result c.note.new.log.items c.args.log.now.items c.args.assigned.now.task c.new_executor.result
    c.executor_of-executor.result c.args.executors.now c.put.new.self c.in_ok-note.ensures.ok
    c.executor_of-executor.ensures.value c.in-None.is (ap executor_task c.new_executor.ensures) c.put.ensures.ok
    c.put.ensures.err
