use Rattle.std.proofs.Common.{ap}
use Rattle.swarm_index.proofs.Indexing.{named_only, rises}
use Rattle.swarm_index.specs.Keys.{has_key, value_of}
use Rattle.swarm_index.proofs.indexed.Indexed.ids_by_key.Goals as goal

pub returns-then-is_empty-clause-value : goal.returns-then-is_empty-clause-value
returns-then-is_empty-clause-value g c = named_only g.R.Row.id_of c.self.inside.table c.self.inside.spare.rows c.args.self.now.rows (ap (λ v. v.rows) c.self.view_is) (has_key g.R.Row.key_of c.args.which (value_of c.args.key.now)) c.ids_by_key.result.now
    (c.is_empty.ensures.0 c.if-is_empty.true) c.ids_by_key.ensures.value

pub returns-then-is_empty-clause-order : goal.returns-then-is_empty-clause-order
returns-then-is_empty-clause-order g c = rises g.R.Row.id_of c.self.inside.table c.self.inside.spare.rows c.args.self.now.rows c.self.invariant (ap (λ v. v.rows) c.self.view_is)

pub returns-else-is_empty-clause-order : goal.returns-else-is_empty-clause-order
returns-else-is_empty-clause-order g c = rises g.R.Row.id_of c.self.inside.table c.self.inside.spare.rows c.args.self.now.rows c.self.invariant (ap (λ v. v.rows) c.self.view_is)
