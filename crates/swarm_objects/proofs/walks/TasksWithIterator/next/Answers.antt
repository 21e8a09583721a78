use Rattle.std.proofs.Common.{ap, sym, ◌∙◌}
use Rattle.std.specs.Prelude.{filter}
use Rattle.swarm_objects.proofs.WalkLemmas.{makes_progress, walk_step}
use Rattle.swarm_objects.proofs.walks.TasksWithIterator.next.Goals as goal
use Rattle.swarm_objects.specs.Rows.{task_id}
use Rattle.swarm_objects.specs.Tasks.Words.{has_key}
use Rattle.swarm_objects.specs.Walks.{left_with}
use Rattle.swarm_objects.specs.declared.walks.Left.{Left}

pub returns-in_ok-task-in-Behind-clause-steps : goal.returns-in_ok-task-in-Behind-clause-steps
returns-in_ok-task-in-Behind-clause-steps g c =
    let tasks = (g.R.Rows.tables c.self.inside.rows.now).tasks in
    let key = c.self.inside.key in
    sym c.self.view_is ∙ ap (λ (l : Left). left_with key l tasks) c.in-Behind.is
    ∙ walk_step task_id c.in-Behind.after (filter (has_key key) tasks) c.in_ok-task-in-Behind.task.now
    c.in_ok-task-in-Behind.ensures

pub returns-in_ok-task-in-Behind-clause-goes : goal.returns-in_ok-task-in-Behind-clause-goes
returns-in_ok-task-in-Behind-clause-goes g c =
    let tasks = (g.R.Rows.tables c.self.inside.rows.now).tasks in
    let key = c.self.inside.key in
    makes_progress
    (sym c.self.view_is ∙ ap (λ (l : Left). left_with key l tasks) c.in-Behind.is
    ∙ walk_step task_id c.in-Behind.after (filter (has_key key) tasks) c.in_ok-task-in-Behind.task.now
    c.in_ok-task-in-Behind.ensures)
