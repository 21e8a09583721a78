use Rattle.swarm_index.proofs.NamedRows.{marks_name}
use Rattle.swarm_index.proofs.Tables.{marks_seen}
use Rattle.swarm_index.specs.Keys.{value_of}
use Rattle.swarm_index.proofs.table.Table.ids_by_key.Goals as goal

pub returns-clause-value : goal.returns-clause-value
returns-clause-value g c = marks_name g.R.Row.id_of g.R.Row.key_of g.R.Row.KEYS c.args.self.now c.self.inside.marks.map c.args.which c.digest.result (value_of c.args.key.now) c.ids.result.now
    (marks_seen g.R.Row.id_of g.R.Row.key_of g.R.Row.KEYS c.self.inside.rows c.self.inside.rows c.args.self.now c.self.view_is c.self.inside.marks.map c.self.invariant) c.requires c.digest.ensures c.ids.ensures.order c.ids.ensures.marked
