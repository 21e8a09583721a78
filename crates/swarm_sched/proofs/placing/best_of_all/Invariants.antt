use Rattle.std.proofs.Common.{◌≡◌}
use Rattle.std.specs.Option.{option_copied}
use Rattle.std.specs.Prelude.{IfSome, filter}
use Rattle.swarm_filters.specs.Tested.{is_open}
use Rattle.swarm_objects.specs.Nodes.BestNode.{best_node, node_cmp}
use Rattle.swarm_objects.specs.Rows.{least_by}
use Rattle.swarm_sched.proofs.placing.best_of_all.Given as goal
use Rattle.swarm_sched.specs.Inside.Branches.{preferences}
use Rattle.swarm_sched.specs.Inside.Known.{Knows}
use Rattle.swarm_sched.specs.Inside.Placing.{IsNodeLoad}

abbrev pub invariant-loop-node : goal.invariant-loop-node
invariant-loop-node g l =
    let t = g.R.Rows.tables l.rows in
    record {
      best : least_by (node_cmp t l.task) (option_copied l.best) (filter (is_open t l.task) l.node-iterator)
          ≡ best_node t l.task;
      held : IfSome l.best (λ b. IsNodeLoad t b.now.id l.task.service l.held);
      knows : Knows t l.known;
      own : l.branches ≡ preferences t l.task;
    }
