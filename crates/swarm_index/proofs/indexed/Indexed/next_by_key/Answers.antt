use Rattle.std.proofs.Common.{ap}
use Rattle.std.specs.Option.{option_copied}
use Rattle.swarm_index.proofs.Indexing.{got_next, rises}
use Rattle.swarm_index.specs.Keys.{has_key, value_of}
use Rattle.swarm_index.proofs.indexed.Indexed.next_by_key.Goals as goal

pub returns-clause-value : goal.returns-clause-value
returns-clause-value g c = got_next g.R.Row.id_of c.self.inside.table c.self.inside.spare.rows c.args.self.now.rows c.self.invariant (ap (λ v. v.rows) c.self.view_is) (has_key g.R.Row.key_of c.args.which (value_of c.args.key.now)) c.args.after (option_copied c.lesser.result) (option_copied c.next_by_key.result) (option_copied c.next_by_key-2.result) c.lesser.ensures c.next_by_key.ensures.value c.next_by_key-2.ensures.value

pub returns-clause-order : goal.returns-clause-order
returns-clause-order g c = rises g.R.Row.id_of c.self.inside.table c.self.inside.spare.rows c.args.self.now.rows c.self.invariant (ap (λ v. v.rows) c.self.view_is)
