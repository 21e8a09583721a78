use Rattle.std.proofs.Common.{ap}
use Rattle.std.specs.Option.{option_copied}
use Rattle.swarm_index.proofs.Indexing.{got_above, rises}
use Rattle.swarm_index.proofs.indexed.Indexed.next.Goals as goal

pub returns-clause-value : goal.returns-clause-value
returns-clause-value g c = got_above g.R.Row.id_of c.self.inside.table c.self.inside.spare.rows c.args.self.now.rows c.self.invariant (ap (λ v. v.rows) c.self.view_is) c.args.after (option_copied c.lesser.result) (option_copied c.next.result) (option_copied c.next-2.result) c.lesser.ensures c.next.ensures.value c.next-2.ensures.value

pub returns-clause-order : goal.returns-clause-order
returns-clause-order g c = rises g.R.Row.id_of c.self.inside.table c.self.inside.spare.rows c.args.self.now.rows c.self.invariant (ap (λ v. v.rows) c.self.view_is)
