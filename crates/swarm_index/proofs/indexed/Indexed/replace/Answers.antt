use Rattle.std.proofs.Common.{◌∙◌, ap, refl, sym}
use Rattle.swarm_index.proofs.Indexing.{again_in_spare, again_in_table, got_spare, has_table, moved, was_in_table}
use Rattle.swarm_index.proofs.RowsAt.{rising_all}
use Rattle.std.specs.Prelude.{is_some}
use Rattle.swarm_objects.specs.Rows.{row_at}
use Rattle.swarm_index.proofs.indexed.Indexed.replace.Goals as goal

pub invariant_of-self : goal.invariant_of-self
invariant_of-self g c = (again_in_spare g.R.Row.id_of c.self.inside.table c.self.inside.spare.rows c.args.self.now.rows c.self.invariant (ap (λ v. v.rows) c.self.view_is) c.args.row c.exchange.new.row c.exchange.new.self.rows c.if-exchange.ensures.old c.if-exchange.ensures.rows).index

pub returns-then-exchange-clause-ok : goal.returns-then-exchange-clause-ok
returns-then-exchange-clause-ok g c = (again_in_spare g.R.Row.id_of c.self.inside.table c.self.inside.spare.rows c.args.self.now.rows c.self.invariant (ap (λ v. v.rows) c.self.view_is) c.args.row c.exchange.new.row c.exchange.new.self.rows c.if-exchange.ensures.old c.if-exchange.ensures.rows).rows

pub returns-then-exchange-clause-old : goal.returns-then-exchange-clause-old
returns-then-exchange-clause-old g c = sym (got_spare g.R.Row.id_of c.self.inside.table c.self.inside.spare.rows c.args.self.now.rows c.self.invariant (ap (λ v. v.rows) c.self.view_is) (g.R.Row.id_of c.args.row) c.exchange.new.row (sym c.if-exchange.ensures.old))

pub returns-then-exchange-clause-order : goal.returns-then-exchange-clause-order
returns-then-exchange-clause-order g c = rising_all g.R.Row.id_of c.exchange.new.self.rows c.self.inside.table c.self.invariant.table_rises

pub exchange-requires-2 : goal.exchange-requires-2
exchange-requires-2 g c = has_table g.R.Row.id_of c.self.inside.table c.self.inside.spare.rows c.args.self.now.rows c.self.invariant (ap (λ v. v.rows) c.self.view_is) c.args.row c.if-exchange.ensures.none c.exchange.new.row c.if-exchange.ensures.back c.requires

pub invariant_of-self-in_default : goal.invariant_of-self-in_default
invariant_of-self-in_default g c = (again_in_table g.R.Row.id_of c.self.inside.table c.self.inside.spare.rows c.args.self.now.rows c.self.invariant (ap (λ v. v.rows) c.self.view_is) c.args.row c.if-exchange.ensures.none c.exchange.new.row c.exchange.new.self.rows c.exchange-2.new.self c.if-exchange.ensures.back (ap (λ v. v.rows) c.if-exchange.ensures.same) c.in_default.ensures.ok).index

pub returns-in_default-clause-ok : goal.returns-in_default-clause-ok
returns-in_default-clause-ok g c = (again_in_table g.R.Row.id_of c.self.inside.table c.self.inside.spare.rows c.args.self.now.rows c.self.invariant (ap (λ v. v.rows) c.self.view_is) c.args.row c.if-exchange.ensures.none c.exchange.new.row c.exchange.new.self.rows c.exchange-2.new.self c.if-exchange.ensures.back (ap (λ v. v.rows) c.if-exchange.ensures.same) c.in_default.ensures.ok).rows

pub returns-in_default-clause-old : goal.returns-in_default-clause-old
returns-in_default-clause-old g c = was_in_table g.R.Row.id_of c.self.inside.table c.self.inside.spare.rows c.args.self.now.rows c.self.invariant (ap (λ v. v.rows) c.self.view_is) c.args.row c.if-exchange.ensures.none c.exchange.new.row c.exchange-2.new.row c.if-exchange.ensures.back c.in_default.ensures.old

pub returns-in_default-clause-order : goal.returns-in_default-clause-order
returns-in_default-clause-order g c = rising_all g.R.Row.id_of c.exchange.new.self.rows c.exchange-2.new.self c.exchange-2.ensures.order

pub returns-then-is_full-clause-order : goal.returns-then-is_full-clause-order
returns-then-is_full-clause-order g c = rising_all g.R.Row.id_of c.exchange.new.self.rows c.exchange-2.new.self c.exchange-2.ensures.order

pub move_row-requires-clause-there : goal.move_row-requires-clause-there
move_row-requires-clause-there g c = ap (λ t. is_some (row_at g.R.Row.id_of (g.R.Row.id_of c.exchange-2.new.row) t)) c.in-Err.ensures.err ∙ has_table g.R.Row.id_of c.self.inside.table c.self.inside.spare.rows c.args.self.now.rows c.self.invariant (ap (λ v. v.rows) c.self.view_is) c.args.row c.if-exchange.ensures.none c.exchange-2.new.row (c.in-Err.ensures.back ∙ c.if-exchange.ensures.back) c.requires

pub invariant_of-self-2 : goal.invariant_of-self-2
invariant_of-self-2 g c = (moved g.R.Row.id_of c.self.inside.table c.self.inside.spare.rows c.args.self.now.rows c.self.invariant (ap (λ v. v.rows) c.self.view_is) c.args.row c.if-exchange.ensures.none (g.R.Row.id_of c.exchange-2.new.row) c.exchange-2.new.row c.move_row.new.row c.exchange.new.self.rows c.exchange-2.new.self c.move_row.new.table c.move_row.new.spare.rows refl (c.in-Err.ensures.back ∙ c.if-exchange.ensures.back) (ap (λ v. v.rows) c.if-exchange.ensures.same) c.in-Err.ensures.err (sym c.move_row.ensures.old) c.move_row.ensures.table c.move_row.ensures.spare).0.index

pub returns-clause-ok : goal.returns-clause-ok
returns-clause-ok g c = (moved g.R.Row.id_of c.self.inside.table c.self.inside.spare.rows c.args.self.now.rows c.self.invariant (ap (λ v. v.rows) c.self.view_is) c.args.row c.if-exchange.ensures.none (g.R.Row.id_of c.exchange-2.new.row) c.exchange-2.new.row c.move_row.new.row c.exchange.new.self.rows c.exchange-2.new.self c.move_row.new.table c.move_row.new.spare.rows refl (c.in-Err.ensures.back ∙ c.if-exchange.ensures.back) (ap (λ v. v.rows) c.if-exchange.ensures.same) c.in-Err.ensures.err (sym c.move_row.ensures.old) c.move_row.ensures.table c.move_row.ensures.spare).0.rows

pub returns-clause-old : goal.returns-clause-old
returns-clause-old g c = (moved g.R.Row.id_of c.self.inside.table c.self.inside.spare.rows c.args.self.now.rows c.self.invariant (ap (λ v. v.rows) c.self.view_is) c.args.row c.if-exchange.ensures.none (g.R.Row.id_of c.exchange-2.new.row) c.exchange-2.new.row c.move_row.new.row c.exchange.new.self.rows c.exchange-2.new.self c.move_row.new.table c.move_row.new.spare.rows refl (c.in-Err.ensures.back ∙ c.if-exchange.ensures.back) (ap (λ v. v.rows) c.if-exchange.ensures.same) c.in-Err.ensures.err (sym c.move_row.ensures.old) c.move_row.ensures.table c.move_row.ensures.spare).1

pub returns-clause-order : goal.returns-clause-order
returns-clause-order g c = rising_all g.R.Row.id_of c.move_row.new.spare.rows c.move_row.new.table c.move_row.ensures.order
