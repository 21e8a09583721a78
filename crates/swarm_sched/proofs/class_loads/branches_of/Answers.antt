use Rattle.std.proofs.Common.{arith}
use Rattle.swarm_sched.proofs.ClassLoading.{most_all}
use Rattle.swarm_sched.proofs.Halving.{entries_rise}
use Rattle.swarm_sched.proofs.class_loads.branches_of.Goals as goal

pub class_loads-loads-requires-clause-rises : goal.class_loads-loads-requires-clause-rises
class_loads-loads-requires-clause-rises g c =
    entries_rise 0 c.args.sorted.now (g.R.Rows.tables c.args.rows.now).nodes c.requires.sorted.ids
    c.requires.usable.sound.ordered.nodes

pub returns-then-is_empty-clause-most : goal.returns-then-is_empty-clause-most
returns-then-is_empty-clause-most g c =
    most_all (g.R.Rows.tables c.args.rows.now) c.args.task.now.service c.args.sorted.now 18446744073709551615
    c.requires.usable (omega arith)
