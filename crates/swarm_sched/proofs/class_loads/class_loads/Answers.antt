use Rattle.std.proofs.Common.{arith, sym, ◌∙◌}
use Rattle.std.specs.Prelude.{filter}
use Rattle.swarm_objects.specs.Tasks.Words.{is_of}
use Rattle.swarm_sched.proofs.ClassLoading.{counting_fits, counting_one}
use Rattle.swarm_sched.proofs.class_loads.class_loads.Goals as goal

pub overflow_add-loads : goal.overflow_add-loads
overflow_add-loads g c =
    let few =
    counting_fits (g.R.Rows.tables c.args.rows.now) c.args.service c.args.sorted.now c.loop-task.task-iterator
    c.next.new.self c.loop-task.loads c.in-Some.task.now c.in-Some-task_class.class c.requires.usable
    c.loop-task.invariant c.in-Some.ensures.steps c.in-Some-task_class.ensures.few in
    omega (arith, few)

pub loop-task-preserved-in-Some-task_class : goal.loop-task-preserved-in-Some-task_class
loop-task-preserved-in-Some-task_class g c =
    counting_one c.args.sorted.now (filter (is_of c.args.service) (g.R.Rows.tables c.args.rows.now).tasks)
    c.loop-task.task-iterator c.next.new.self c.loop-task.loads c.in-Some.task.now c.in-Some-task_class.class
    c.loop-task.invariant c.in-Some.ensures.steps (sym c.in-Some-task_class.is ∙ c.task_class.ensures.class)
    c.in-Some-task_class.ensures.few
