use Rattle.std.proofs.Common.{◌∙◌, ap}
use Rattle.swarm_index.proofs.Tables.{is_there}
use Rattle.swarm_objects.specs.Rows.{row_at}
use Rattle.swarm_index.proofs.indexed.move_row.Goals as goal

pub unreachable-requires : goal.unreachable-requires
unreachable-requires g c = is_there (row_at g.R.Row.id_of (g.R.Row.id_of c.args.row.now) c.args.table.now) (c.in_default.ensures.value ∙ ap (λ n. row_at g.R.Row.id_of n c.args.table.now) c.id.ensures) c.requires.there
