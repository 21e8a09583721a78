use Rattle.std.proofs.Common.{◌∙◌, sym}
use Rattle.std.specs.Prelude.{filter}
use Rattle.swarm_objects.specs.Rows.{task_id}
use Rattle.swarm_objects.specs.Tasks.Words.{is_of}
use Rattle.swarm_objects.proofs.WalkLemmas.{makes_progress, walk_step}
use Rattle.swarm_store.proofs.walks.ServiceTasksIterator.next.Goals as goal

pub returns-clause-steps : goal.returns-clause-steps
returns-clause-steps c =
    sym c.self.view_is
    ∙ walk_step task_id c.self.inside.after (filter (is_of c.self.inside.service) c.self.inside.state.now.tasks.rows)
    c.in_ok-row.row.now c.in_ok-row.ensures

pub returns-clause-goes : goal.returns-clause-goes
returns-clause-goes c =
    makes_progress
    (sym c.self.view_is
    ∙ walk_step task_id c.self.inside.after (filter (is_of c.self.inside.service) c.self.inside.state.now.tasks.rows)
    c.in_ok-row.row.now c.in_ok-row.ensures)
