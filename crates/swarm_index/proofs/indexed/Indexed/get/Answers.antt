use Rattle.std.proofs.Common.{ap}
use Rattle.std.specs.Option.{option_copied}
use Rattle.swarm_index.proofs.Indexing.{got_spare, got_table, rises}
use Rattle.swarm_index.proofs.indexed.Indexed.get.Goals as goal

pub returns-in-Some-clause-value : goal.returns-in-Some-clause-value
returns-in-Some-clause-value g c = got_spare g.R.Row.id_of c.self.inside.table c.self.inside.spare.rows c.args.self.now.rows c.self.invariant (ap (λ v. v.rows) c.self.view_is) c.args.id c.in-Some.row.now c.in-Some.ensures.value

pub returns-in-Some-clause-order : goal.returns-in-Some-clause-order
returns-in-Some-clause-order g c = rises g.R.Row.id_of c.self.inside.table c.self.inside.spare.rows c.args.self.now.rows c.self.invariant (ap (λ v. v.rows) c.self.view_is)

pub returns-in-None-clause-value : goal.returns-in-None-clause-value
returns-in-None-clause-value g c = got_table g.R.Row.id_of c.self.inside.table c.self.inside.spare.rows c.args.self.now.rows c.self.invariant (ap (λ v. v.rows) c.self.view_is) c.args.id (option_copied c.get-in-None.result) c.in-None.ensures.value c.get-in-None.ensures.value

pub returns-in-None-clause-order : goal.returns-in-None-clause-order
returns-in-None-clause-order g c = rises g.R.Row.id_of c.self.inside.table c.self.inside.spare.rows c.args.self.now.rows c.self.invariant (ap (λ v. v.rows) c.self.view_is)
