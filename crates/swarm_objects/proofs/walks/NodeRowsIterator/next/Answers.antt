use Rattle.std.proofs.Common.{◌∙◌, sym}
use Rattle.swarm_objects.specs.Rows.{node_id}
use Rattle.swarm_objects.proofs.WalkLemmas.{makes_progress, walk_step}
use Rattle.swarm_objects.proofs.walks.NodeRowsIterator.next.Goals as goal

pub returns-clause-steps : goal.returns-clause-steps
returns-clause-steps g c =
    let t = g.R.Rows.tables c.self.inside.rows.now in
    sym c.self.view_is ∙ walk_step node_id c.self.inside.after t.nodes c.in_ok-row.row.now c.in_ok-row.ensures

pub returns-clause-goes : goal.returns-clause-goes
returns-clause-goes g c =
    let t = g.R.Rows.tables c.self.inside.rows.now in
    makes_progress
    (sym c.self.view_is ∙ walk_step node_id c.self.inside.after t.nodes c.in_ok-row.row.now c.in_ok-row.ensures)
