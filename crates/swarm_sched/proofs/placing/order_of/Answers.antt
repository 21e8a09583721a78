use Rattle.std.proofs.Common.{ap}
use Rattle.std.specs.Option.{option_copied}
use Rattle.swarm_objects.specs.Rows.{node_id, row_at}
use Rattle.swarm_sched.proofs.ClassOrders.{first_of_all}
use Rattle.swarm_sched.proofs.placing.order_of.Goals as goal

pub returns-in_default-clause-order : goal.returns-in_default-clause-order
returns-in_default-clause-order g c =
    first_of_all c.args.branches.now (row_at node_id c.args.node (g.R.Rows.tables c.args.rows.now).nodes)
    (option_copied c.args.best) (ap option_copied c.in_default.is)
