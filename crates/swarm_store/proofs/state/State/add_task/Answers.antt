use Rattle.swarm_store.proofs.Standing.{new-task-put}
use Rattle.swarm_store.proofs.state.State.add_task.Goals as goal
use Rattle.swarm_store.specs.Inside.State.{tables_now}

pub returns-clause-ok : goal.returns-clause-ok
returns-clause-ok c =
    new-task-put (tables_now c.args.self.now) c.args.task c.in-Ok.next_id c.put.new.self.rows c.requires.stands
    c.requires.id c.in-Ok.ensures.id c.in-Ok-put.ensures.ok
