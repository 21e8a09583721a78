use Rattle.std.proofs.Common.{ap}
use Rattle.swarm_index.proofs.Indexing.{got_spare, got_table, out_of_spare, out_of_table}
use Rattle.swarm_index.proofs.RowsAt.{rising_all}
use Rattle.swarm_index.proofs.indexed.Indexed.remove.Goals as goal

pub invariant_of-self : goal.invariant_of-self
invariant_of-self g c = (out_of_spare g.R.Row.id_of c.self.inside.table c.self.inside.spare.rows c.args.self.now.rows c.self.invariant (ap (λ v. v.rows) c.self.view_is) c.args.id c.in-Some.row c.remove.new.self.rows c.in-Some.ensures.value c.in-Some.ensures.rows).index

pub returns-in-Some-clause-value : goal.returns-in-Some-clause-value
returns-in-Some-clause-value g c = got_spare g.R.Row.id_of c.self.inside.table c.self.inside.spare.rows c.args.self.now.rows c.self.invariant (ap (λ v. v.rows) c.self.view_is) c.args.id c.in-Some.row c.in-Some.ensures.value

pub returns-in-Some-clause-rows : goal.returns-in-Some-clause-rows
returns-in-Some-clause-rows g c = (out_of_spare g.R.Row.id_of c.self.inside.table c.self.inside.spare.rows c.args.self.now.rows c.self.invariant (ap (λ v. v.rows) c.self.view_is) c.args.id c.in-Some.row c.remove.new.self.rows c.in-Some.ensures.value c.in-Some.ensures.rows).rows

pub returns-in-Some-clause-order : goal.returns-in-Some-clause-order
returns-in-Some-clause-order g c = rising_all g.R.Row.id_of c.remove.new.self.rows c.self.inside.table c.self.invariant.table_rises

pub invariant_of-self-in-None : goal.invariant_of-self-in-None
invariant_of-self-in-None g c = (out_of_table g.R.Row.id_of c.self.inside.table c.self.inside.spare.rows c.args.self.now.rows c.self.invariant (ap (λ v. v.rows) c.self.view_is) c.args.id c.remove-in-None.new.self c.remove.new.self.rows c.in-None.ensures.value c.in-None.ensures.rows c.remove-in-None.ensures.rows).index

pub returns-in-None-clause-value : goal.returns-in-None-clause-value
returns-in-None-clause-value g c = got_table g.R.Row.id_of c.self.inside.table c.self.inside.spare.rows c.args.self.now.rows c.self.invariant (ap (λ v. v.rows) c.self.view_is) c.args.id c.remove-in-None.result c.in-None.ensures.value c.remove-in-None.ensures.value

pub returns-in-None-clause-rows : goal.returns-in-None-clause-rows
returns-in-None-clause-rows g c = (out_of_table g.R.Row.id_of c.self.inside.table c.self.inside.spare.rows c.args.self.now.rows c.self.invariant (ap (λ v. v.rows) c.self.view_is) c.args.id c.remove-in-None.new.self c.remove.new.self.rows c.in-None.ensures.value c.in-None.ensures.rows c.remove-in-None.ensures.rows).rows

pub returns-in-None-clause-order : goal.returns-in-None-clause-order
returns-in-None-clause-order g c = rising_all g.R.Row.id_of c.remove.new.self.rows c.remove-in-None.new.self c.remove-in-None.ensures.order
