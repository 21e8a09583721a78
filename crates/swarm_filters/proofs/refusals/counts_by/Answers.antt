use Rattle.std.proofs.Common.{arith, rules}
use Rattle.swarm_objects.proofs.Few.{few_nodes}
use Rattle.swarm_objects.specs.Nodes.Filters.{is_tested_on, refused_by}
use Rattle.swarm_filters.proofs.Filtering.{counts_are, is_number}
use Rattle.swarm_filters.proofs.Tallies.{goes_on, within}
use Rattle.swarm_filters.proofs.refusals.counts_by.Goals as goal

pub overflow_add-counts : goal.overflow_add-counts
overflow_add-counts g c =
    let t = g.R.Rows.tables c.args.rows.now in
    let bound =
    within (λ n. is_tested_on c.args.task.now.place n.id) (refused_by t c.args.task.now) t.nodes c.loop-node.counts
    c.loop-node.node-iterator c.in-Some-first_refusal_by.filter c.loop-node.invariant in
    omega (arith, bound, few_nodes t c.requires.usable)

pub loop-node-preserved-in-loop-node : goal.loop-node-preserved-in-loop-node
loop-node-preserved-in-loop-node g c =
    let t = g.R.Rows.tables c.args.rows.now in
    let x = c.args.task.now in
    let node = c.in-Some.node.now in
    let filter = c.in-Some-first_refusal_by.filter in
    goes_on (λ n. is_tested_on x.place n.id) (refused_by t x) t.nodes c.loop-node.counts node c.next.new.self filter
    (search rules) c.in-Some-first_refusal_by.ensures
    (is_number t x node filter c.in-Some-first_refusal_by.ensures) (search rules)

pub returns : goal.returns
returns g c =
    counts_are (g.R.Rows.tables c.args.rows.now) c.args.task.now c.loop-node.counts c.loop-node.node-iterator
    (search rules) c.loop-node.invariant
