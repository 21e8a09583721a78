use Rattle.std.proofs.Common.{Ok, subst}
use Rattle.swarm_sched.proofs.Nearing.{has_tree}
use Rattle.swarm_sched.proofs.near.add_tree.Goals as goal
use Rattle.swarm_sched.specs.Inside.Nearing.{IsPlace}
use Rattle.swarm_sched.specs.Near.{tree_service}

pub returns-in_default : goal.returns-in_default
returns-in_default g c =
    has_tree (g.R.Rows.tables c.args.rows.now) c.args.task.now c.args.trees.now c.in_default.field-0
    (subst (λ l. IsPlace tree_service c.args.task.now.service l (Ok c.in_default.field-0)) c.as_slice.ensures
    (subst (IsPlace tree_service c.args.task.now.service c.as_slice.result.now) c.in_default.is c.place_of.ensures))
