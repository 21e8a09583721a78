use Rattle.std.proofs.Common.{◌∙◌, ap}
use Rattle.swarm_index.proofs.Tables.{next_row}
use Rattle.swarm_objects.specs.Rows.{row_above}
use Rattle.swarm_index.proofs.table.Table.next.Goals as goal

pub returns-clause-value : goal.returns-clause-value
returns-clause-value g c = c.next.ensures ∙ next_row g.R.Row.id_of c.self.inside.rows c.self.invariant.by_id c.args.after ∙ ap (row_above g.R.Row.id_of c.args.after) c.self.view_is
