use Rattle.std.proofs.Common.{sym, ◌∙◌, refl}
use Rattle.swarm_objects.specs.declared.agents.Executor.{Executor}
use Rattle.swarm_objects.specs.declared.duties.Duty.TheVariants as duty
use Rattle.swarm_world.proofs.LooksOn.{none-told, report_begins, report_ends, report_found, report_goes_on}
use Rattle.swarm_world.proofs.looks.first_report.Goals as goal
use Rattle.swarm_world.specs.Inside.Records.{tables_of}

pub loop-task-init : goal.loop-task-init
loop-task-init c =
    report_begins (tables_of c.args.records.now) (λ (e : Executor). duty.Report c.args.node e.task)
    c.args.agent.now.executors c.requires

pub loop-task-preserved : goal.loop-task-preserved
loop-task-preserved c =
    sym (report_goes_on (tables_of c.args.records.now) (λ (e : Executor). duty.Report c.args.node e.task)
    c.args.agent.now.executors c.loop-task.after c.in-Some.task _ c.requires
    (sym c.in-Some.is ∙ c.report_due.ensures.value) (sym c.has_task.ensures ∙ c.if-has_task.false)).same
    ∙ c.loop-task.invariant

pub loop-task-smaller : goal.loop-task-smaller
loop-task-smaller c =
    (report_goes_on (tables_of c.args.records.now) (λ (e : Executor). duty.Report c.args.node e.task)
    c.args.agent.now.executors c.loop-task.after c.in-Some.task _ c.requires
    (sym c.in-Some.is ∙ c.report_due.ensures.value) (sym c.has_task.ensures ∙ c.if-has_task.false)).fewer

pub returns-then-has_task : goal.returns-then-has_task
returns-then-has_task c =
    sym (report_found (tables_of c.args.records.now) (λ (e : Executor). duty.Report c.args.node e.task)
    (duty.Report c.args.node) c.args.agent.now.executors c.loop-task.after c.in-Some.task _ (λ e. refl)
    (sym c.in-Some.is ∙ c.report_due.ensures.value) (sym c.has_task.ensures ∙ c.if-has_task.true))
    ∙ c.loop-task.invariant

pub returns : goal.returns
returns c =
    sym (report_ends (tables_of c.args.records.now) (λ (e : Executor). duty.Report c.args.node e.task)
    c.args.agent.now.executors c.loop-task.after
    (none-told c.report_due.result c.in_default.not-Some ∙ c.report_due.ensures.value))
    ∙ c.loop-task.invariant
