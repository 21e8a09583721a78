use Rattle.std.proofs.Common.{None, Some, ap, sym, ◌-◌, ◌∙◌}
use Rattle.swarm_agent.specs.Agent.{first_task}
use Rattle.swarm_objects.specs.Loops.Agents.{has_step}
use Rattle.swarm_objects.specs.Rows.{executor_task, rows_above}
use Rattle.swarm_world.proofs.KnownSteps.{found_first, none_passed, some_passed}
use Rattle.swarm_world.proofs.looks.first_step.Goals as goal
use Rattle.swarm_world.specs.Inside.Records.{tables_of}

pub returns-in-Some-clause-first : goal.returns-in-Some-clause-first
returns-in-Some-clause-first c =
    let clock = (tables_of c.args.records.now).clock in
    let es = c.args.agent.now.executors in
    let after = c.saturating_sub-after.result in
    found_first c.what_is_found_is_the_first_duty.ensures clock c.args.steps.now c.args.node after c.args.agent.now (Some c.in-Some.task)
    c.requires.rises c.requires.none (c.saturating_sub-after.ensures ∙ ap (λ n. n - 1) c.before_on.ensures)
    (sym c.in-Some.is ∙ c.step_due_after.ensures
    ∙ ap (λ k. first_task (has_step k) (rows_above executor_task after es)) c.now.ensures)

pub returns-in-Some-clause-passed : goal.returns-in-Some-clause-passed
returns-in-Some-clause-passed c =
    let clock = (tables_of c.args.records.now).clock in
    let es = c.args.agent.now.executors in
    let after = c.saturating_sub-after.result in
    some_passed clock c.args.steps.now c.args.node after c.in-Some.task c.args.agent.now c.requires.rises c.requires.none
    (c.saturating_sub-after.ensures ∙ ap (λ n. n - 1) c.before_on.ensures)
    (sym c.in-Some.is ∙ c.step_due_after.ensures
    ∙ ap (λ k. first_task (has_step k) (rows_above executor_task after es)) c.now.ensures)

pub returns-in-None-clause-first : goal.returns-in-None-clause-first
returns-in-None-clause-first c =
    let clock = (tables_of c.args.records.now).clock in
    let es = c.args.agent.now.executors in
    let after = c.saturating_sub-after.result in
    found_first c.what_is_found_is_the_first_duty.ensures clock c.args.steps.now c.args.node after c.args.agent.now None
    c.requires.rises c.requires.none (c.saturating_sub-after.ensures ∙ ap (λ n. n - 1) c.before_on.ensures)
    (sym c.in-None.is ∙ c.step_due_after.ensures
    ∙ ap (λ k. first_task (has_step k) (rows_above executor_task after es)) c.now.ensures)

pub returns-in-None-clause-passed : goal.returns-in-None-clause-passed
returns-in-None-clause-passed c =
    let clock = (tables_of c.args.records.now).clock in
    let es = c.args.agent.now.executors in
    let after = c.saturating_sub-after.result in
    none_passed clock c.args.steps.now c.args.node after _ c.args.agent.now c.requires.rises c.requires.none
    (c.saturating_sub-after.ensures ∙ ap (λ n. n - 1) c.before_on.ensures)
    (sym c.in-None.is ∙ c.step_due_after.ensures
    ∙ ap (λ k. first_task (has_step k) (rows_above executor_task after es)) c.now.ensures)
