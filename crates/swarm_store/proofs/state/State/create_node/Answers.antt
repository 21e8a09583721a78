use Rattle.std.proofs.Common.{ap, arith}
use Rattle.swarm_objects.specs.Rows.{node_id}
use Rattle.swarm_model.proofs.Base.Updates.{passed}
use Rattle.swarm_store.proofs.Ops.{node-created}
use Rattle.swarm_store.proofs.state.State.create_node.Goals as goal
use Rattle.swarm_store.specs.Inside.State.{tables_now}

pub put-requires : goal.put-requires
put-requires c = omega (arith, ap node_id c.in_ok-node.ensures, c.requires.ids)

pub returns-clause-done : goal.returns-clause-done
returns-clause-done c =
    node-created c.args.version (tables_now c.args.self.now) c.args.name.now c.args.draft.now c.in_ok-node.node c.put.new.self.rows
    c.in_ok-next_id.next_id c.requires c.in_ok-next_id.ensures.id c.in_ok-node.ensures
    (passed c.check_new_node.result c.in_ok-check_new_node.field-0 _ c.check_new_node.ensures c.in_ok-check_new_node.was)
    c.in_ok-put.ensures.ok
