use Rattle.std.proofs.Common.{◌∙◌, ap}
use Rattle.swarm_index.proofs.Tables.{found_at}
use Rattle.swarm_objects.specs.Rows.{row_at}
use Rattle.swarm_index.proofs.table.Table.get.Goals as goal

pub returns-clause-value : goal.returns-clause-value
returns-clause-value g c = c.get.ensures ∙ found_at g.R.Row.id_of c.self.inside.rows c.self.invariant.by_id c.args.id ∙ ap (row_at g.R.Row.id_of c.args.id) c.self.view_is
