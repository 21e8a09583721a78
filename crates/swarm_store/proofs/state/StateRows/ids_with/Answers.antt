use Rattle.swarm_index.specs.Keys.{has_key as has_index_key, value_of}
use Rattle.swarm_index.specs.Rows.{task_key}
use Rattle.swarm_objects.specs.Tasks.Words.{has_key}
use Rattle.swarm_store.proofs.Lookups.{ids_alike}
use Rattle.swarm_store.proofs.state.StateRows.ids_with.Goals as goal

pub returns : goal.returns
returns c =
    let index_key = c.index_key_of-which.result in
    ids_alike (has_index_key task_key index_key.0 (value_of index_key.1)) (has_key c.args.key) c.args.self.now.tasks.rows
    c.ids_by_key.result c.index_key_of-which.ensures.alike c.ids_by_key.ensures
