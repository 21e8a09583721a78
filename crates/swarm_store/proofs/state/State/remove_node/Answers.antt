use Rattle.std.proofs.Common.{◌∙◌, ap, sym, refl}
use Rattle.std.specs.Option.{option_copied}
use Rattle.swarm_objects.specs.Rows.{node_id}
use Rattle.swarm_model.proofs.Base.Updates.{passed}
use Rattle.swarm_store.proofs.Ops.{found-above, node-removed}
use Rattle.swarm_model.specs.Calls.Refusals.{has_name, node_name}
use Rattle.swarm_store.proofs.state.State.remove_node.Goals as goal
use Rattle.swarm_store.specs.Inside.State.{tables_now}

pub remove-requires : goal.remove-requires
remove-requires c =
    let t = tables_now c.args.self.now in
    let n = c.in-Some.node.now in
    let there = sym c.node_named.ensures ∙ ap option_copied c.in-Some.is in
    found-above node_id (has_name node_name c.args.name.now) t.nodes n c.requires.ordered.nodes there

pub returns-clause-done : goal.returns-clause-done
returns-clause-done c =
    let t = tables_now c.args.self.now in
    let n = c.in-Some.node.now in
    let there = sym c.node_named.ensures ∙ ap option_copied c.in-Some.is in
    node-removed c.args.version t (tables_now c.orphan.new.self) c.args.name.now c.args.force n c.remove.new.self.rows refl there
    (passed c.check_removal.result c.in_ok-check_removal.field-0 _ c.check_removal.ensures c.in_ok-check_removal.was)
    c.in_ok-orphan.ensures.done c.in_ok-remove.ensures.ok
