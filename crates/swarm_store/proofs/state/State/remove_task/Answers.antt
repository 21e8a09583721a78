use Rattle.swarm_objects.specs.Rows.{task_id}
use Rattle.swarm_store.proofs.Standing.{id-there}
use Rattle.swarm_store.proofs.state.State.remove_task.Goals as goal

pub remove-requires : goal.remove-requires
remove-requires c = id-there task_id c.args.id c.args.self.now.tasks.rows c.requires.stands.ordered.tasks c.requires.there
