use Rattle.swarm_sched.proofs.Classing.{classes_left, sorted_done}
use Rattle.swarm_sched.proofs.classes.Asked.note.Goals as goal

pub returns-in-Done-clause-goes_on : goal.returns-in-Done-clause-goes_on
returns-in-Done-clause-goes_on g c = λ noted.
    let t = g.R.Rows.tables c.args.rows.now in
    let are =
    sorted_done t c.args.self.now.keys c.args.self.now.sorting c.in-Done.sorted c.in-Done.is c.requires.knows in
    classes_left t c.args.changes.now c.args.self.now.keys c.in-Done.sorted.nodes c.in-Done.sorted.table.count
    c.in-Done.sorted.table.values c.in-Done.sorted.ranks c.touch.new.self c.requires.spares are
    (c.touch.ensures.ranked c.in-Done.sorted.nodes are.1.0, c.touch.ensures.goes_on noted)
