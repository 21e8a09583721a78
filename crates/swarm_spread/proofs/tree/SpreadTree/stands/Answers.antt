use Rattle.std.proofs.Common.{ap, arith, length, sym, ◌∙◌}
use Rattle.swarm_objects.proofs.Few.{few_nodes}
use Rattle.swarm_spread.specs.Counts.{Counts}
use Rattle.swarm_spread.proofs.Standing.{begins}
use Rattle.swarm_spread.proofs.tree.SpreadTree.stands.Goals as goal

pub loop-node-init : goal.loop-node-init
loop-node-init g c =
    let nodes = ap (λ (d : Counts). length d.nodes) c.self.view_is in
    let paths = ap (λ (d : Counts). length d.paths) c.self.view_is in
    let here = ap (λ (d : Counts). length d.here) c.self.view_is in
    begins (g.R.Rows.tables c.args.rows.now) c.args.self.now (sym paths ∙ (c.self.invariant.each_path ∙ nodes))
    (sym here ∙ (c.self.invariant.each_count ∙ nodes)) c.into_iter-node-iterator.result
    (c.into_iter-node-iterator.ensures.into_iter_gives ∙ c.nodes-node-items.ensures)

pub overflow_add-place : goal.overflow_add-place
overflow_add-place g c =
    omega (arith, c.loop-node.invariant.count, few_nodes (g.R.Rows.tables c.args.rows.now) c.requires)
