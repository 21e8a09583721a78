use Rattle.std.proofs.Common.{◌∙◌, ap, sym, arith}
use Rattle.std.specs.Option.{option_copied}
use Rattle.swarm_objects.specs.Rows.{node_id}
use Rattle.swarm_model.proofs.Base.Updates.{passed}
use Rattle.swarm_store.proofs.Ops.{found-above, node-updated}
use Rattle.swarm_model.specs.Calls.Refusals.{has_name, node_name}
use Rattle.swarm_store.proofs.state.State.update_node.Goals as goal
use Rattle.swarm_store.specs.Inside.State.{tables_now}

pub put-requires : goal.put-requires
put-requires c =
    let t = tables_now c.args.self.now in
    let n = c.in-Some.node.now in
    let there = sym c.node_named.ensures ∙ ap option_copied c.in-Some.is in
    let above = found-above node_id (has_name node_name c.args.name.now) t.nodes n c.requires.ordered.nodes there in
    omega (arith, above, ap node_id c.in_ok-new.ensures)

pub returns-clause-done : goal.returns-clause-done
returns-clause-done c =
    let t = tables_now c.args.self.now in
    let n = c.in-Some.node.now in
    let there = sym c.node_named.ensures ∙ ap option_copied c.in-Some.is in
    node-updated c.args.version t c.args.name.now c.args.asked c.args.labels.now c.args.role c.args.availability n c.in_ok-new.new
    c.put.new.self.rows c.requires there c.in_ok-new.ensures
    (passed c.check_node_update.result c.in_ok-check_node_update.field-0 _ c.check_node_update.ensures c.in_ok-check_node_update.was)
    c.in_ok-put.ensures.ok
