use Rattle.std.proofs.Common.{ap}
use Rattle.swarm_index.proofs.Indexing.{in_spare, in_table, none_spare, none_table}
use Rattle.swarm_index.proofs.RowsAt.{rising_all}
use Rattle.swarm_index.proofs.indexed.Indexed.insert.Goals as goal

pub insert-requires : goal.insert-requires
insert-requires g c = none_table g.R.Row.id_of c.self.inside.table c.self.inside.spare.rows c.args.self.now.rows c.self.invariant (ap (λ v. v.rows) c.self.view_is) (g.R.Row.id_of c.args.row) c.requires

pub invariant_of-self : goal.invariant_of-self
invariant_of-self g c = (in_table g.R.Row.id_of c.self.inside.table c.self.inside.spare.rows c.args.self.now.rows c.self.invariant (ap (λ v. v.rows) c.self.view_is) c.args.row c.insert.new.self c.requires c.in_default.ensures.ok).index

pub returns-in_default-clause-ok : goal.returns-in_default-clause-ok
returns-in_default-clause-ok g c = (in_table g.R.Row.id_of c.self.inside.table c.self.inside.spare.rows c.args.self.now.rows c.self.invariant (ap (λ v. v.rows) c.self.view_is) c.args.row c.insert.new.self c.requires c.in_default.ensures.ok).rows

pub returns-in_default-clause-order : goal.returns-in_default-clause-order
returns-in_default-clause-order g c = rising_all g.R.Row.id_of c.self.inside.spare.rows c.insert.new.self c.in_default.ensures.order

pub returns-then-is_full-clause-order : goal.returns-then-is_full-clause-order
returns-then-is_full-clause-order g c = rising_all g.R.Row.id_of c.self.inside.spare.rows c.insert.new.self c.in-Err.ensures.order

pub insert-requires-2-clause-new_id : goal.insert-requires-2-clause-new_id
insert-requires-2-clause-new_id g c = none_spare g.R.Row.id_of c.self.inside.table c.self.inside.spare.rows c.args.self.now.rows c.self.invariant (ap (λ v. v.rows) c.self.view_is) (g.R.Row.id_of c.in-Err.row) (rw c.in-Err.ensures.back c.requires)

pub invariant_of-self-2 : goal.invariant_of-self-2
invariant_of-self-2 g c = (in_spare g.R.Row.id_of c.self.inside.table c.self.inside.spare.rows c.args.self.now.rows c.self.invariant (ap (λ v. v.rows) c.self.view_is) c.args.row c.insert.new.self c.insert-2.new.self.rows c.requires c.in-Err.ensures.err (rw (← c.in-Err.ensures.back) c.insert-2.ensures.rows)).index

pub returns-clause-ok : goal.returns-clause-ok
returns-clause-ok g c = (in_spare g.R.Row.id_of c.self.inside.table c.self.inside.spare.rows c.args.self.now.rows c.self.invariant (ap (λ v. v.rows) c.self.view_is) c.args.row c.insert.new.self c.insert-2.new.self.rows c.requires c.in-Err.ensures.err (rw (← c.in-Err.ensures.back) c.insert-2.ensures.rows)).rows

pub returns-clause-order : goal.returns-clause-order
returns-clause-order g c = rising_all g.R.Row.id_of c.insert-2.new.self.rows c.insert.new.self c.in-Err.ensures.order
