use Rattle.std.proofs.Common.{length, subst, [], ◌∷◌, ◌≡◌}
use Rattle.swarm_objects.specs.declared.templates.Key.{Key}
use Rattle.swarm_sched.proofs.Classing.{sorting_all, sorting_goes, values_all}
use Rattle.swarm_sched.proofs.classes.sorted_nodes.Goals as goal
use Rattle.swarm_sched.specs.Inside.ClassTable.{AreRows}

pub loop-node-preserved : goal.loop-node-preserved
loop-node-preserved g c =
    sorting_goes (g.R.Rows.tables c.args.rows.now) c.args.keys.now c.loop-node.heads c.class_of.new.heads
    c.loop-node.sorted
    c.push.new.self c.loop-node.node-iterator c.next.new.self c.in-Some.node.now c.in_ok-class.class c.requires
    c.loop-node.invariant
    c.in-Some.ensures.steps c.class_of.ensures.more c.class_of.ensures.few c.in_ok-class.ensures.class
    c.in-Ok.ensures.ok

pub returns-clause-sorted : goal.returns-clause-sorted
returns-clause-sorted g c =
    sorting_all (g.R.Rows.tables c.args.rows.now).nodes c.args.keys.now c.loop-node.heads c.loop-node.sorted
    c.loop-node.node-iterator c.loop-node.invariant c.in-None.ensures.steps.0

pub returns-clause-values : goal.returns-clause-values
returns-clause-values g c =
    values_all (g.R.Rows.tables c.args.rows.now).nodes c.args.keys.now c.loop-node.heads c.loop-node.sorted
    c.loop-node.node-iterator c.new-table.result.values c.loop-node.invariant
    (subst (λ l. (k : Key) → c.args.keys.now ≡ k ∷ [] → AreRows k l (length l) c.new-table.result.values)
    c.as_slice-2.ensures c.new-table.ensures.values)
