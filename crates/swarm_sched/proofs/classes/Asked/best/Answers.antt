use Rattle.std.proofs.Common.{subst, sym}
use Rattle.swarm_objects.specs.Rows.{RisesFrom}
use Rattle.swarm_sched.proofs.Classing.{sorted_done}
use Rattle.swarm_sched.proofs.Halving.{entries_rise}
use Rattle.swarm_sched.proofs.classes.Asked.best.Goals as goal
use Rattle.swarm_sched.specs.Inside.Classes.{entry_id}

pub refresh-requires-clause-rises : goal.refresh-requires-clause-rises
refresh-requires-clause-rises g c =
    let t = g.R.Rows.tables c.args.rows.now in
    let are =
    sorted_done t c.args.self.now.keys c.args.self.now.sorting c.in-Done.sorted c.in-Done.is c.requires.classes in
    subst (RisesFrom entry_id 0) (sym c.as_slice-nodes.ensures)
    (entries_rise 0 c.in-Done.sorted.nodes t.nodes are.0.ids c.requires.usable.sound.ordered.nodes)
