use Rattle.swarm_objects.specs.Rows.{task_id}
use Rattle.swarm_model.proofs.Base.Answers.{on-ok}
use Rattle.swarm_store.proofs.Standing.{id-there, known-task-put}
use Rattle.swarm_store.proofs.state.State.replace_task.Goals as goal
use Rattle.swarm_store.specs.Inside.State.{tables_now}

pub put-requires : goal.put-requires
put-requires c = id-there task_id c.args.task.id c.args.self.now.tasks.rows c.requires.stands.ordered.tasks c.requires.there

pub returns-clause-ok : goal.returns-clause-ok
returns-clause-ok c =
    on-ok c.put.result
    (known-task-put (tables_now c.args.self.now) c.args.task c.put.new.self.rows c.requires.stands c.requires.there) c.put.ensures.ok
