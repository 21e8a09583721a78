use Rattle.std.proofs.Common.{ap, arith, length, rules, ◌≡◌}
use Rattle.std.specs.Prelude.{filter}
use Rattle.swarm_objects.specs.Tasks.Words.{is_of}
use Rattle.swarm_objects.proofs.Few.{few_among}
use Rattle.swarm_spread.specs.Counts.{empty_counts}
use Rattle.swarm_spread.proofs.Counting.{counted_all, none_counted}
use Rattle.swarm_spread.proofs.tree.SpreadTree.build.Goals as goal

pub loop-task-init : goal.loop-task-init
loop-task-init g c =
    let t = g.R.Rows.tables c.args.rows.now in
    let all : c.into_iter-task-iterator.result ≡ filter (is_of c.args.service) t.tasks = search rules in
    let empty : c.in_ok-tree.tree ≡ empty_counts t c.args.service c.args.keys.now = c.in_ok-tree.ensures in
    record {
      left = counted_all t c.args.service c.args.keys.now c.in_ok-tree.tree c.into_iter-task-iterator.result empty all;
      few = omega (arith, none_counted t c.args.service c.args.keys.now c.in_ok-tree.tree empty, ap length all);
    }

pub count_task-requires : goal.count_task-requires
count_task-requires g c =
    let t = g.R.Rows.tables c.args.rows.now in
    omega (arith, c.loop-task.invariant.few, few_among t (is_of c.args.service) c.requires)

pub returns-clause-few : goal.returns-clause-few
returns-clause-few g c =
    let t = g.R.Rows.tables c.args.rows.now in
    omega (arith, c.loop-task.invariant.few, few_among t (is_of c.args.service) c.requires)
