use Rattle.std.proofs.Common.{◌∙◌, ap}
use Rattle.std.specs.Prelude.{is_some}
use Rattle.swarm_index.proofs.Tables.{found_at, kept_table, none_fresh, put_table}
use Rattle.swarm_objects.specs.Rows.{row_at}
use Rattle.swarm_index.proofs.table.Table.exchange.Goals as goal

pub exchange-requires-clause-there : goal.exchange-requires-clause-there
exchange-requires-clause-there g c = ap is_some (found_at g.R.Row.id_of c.self.inside.rows c.self.invariant.by_id (g.R.Row.id_of c.args.row.now) ∙ ap (row_at g.R.Row.id_of (g.R.Row.id_of c.args.row.now)) c.self.view_is) ∙ c.requires

pub exchange-requires-clause-fresh : goal.exchange-requires-clause-fresh
exchange-requires-clause-fresh g c = none_fresh g.R.Row.id_of g.R.Row.key_of g.R.Row.KEYS c.self.inside.rows c.self.inside.rows c.args.self.now c.self.view_is c.self.inside.marks.map c.args.row.now c.self.invariant c.requires

pub invariant_of-self : goal.invariant_of-self
invariant_of-self g c = kept_table g.R.Row.id_of g.R.Row.key_of g.R.Row.KEYS c.self.inside.rows c.exchange.new.self c.args.self.now c.self.view_is c.self.inside.marks.map c.exchange.new.marks.map c.self.invariant c.in_default.ensures.err c.in_default.ensures.kept

pub invariant_of-self-2 : goal.invariant_of-self-2
invariant_of-self-2 g c = (put_table g.R.Row.id_of g.R.Row.key_of g.R.Row.KEYS c.self.inside.rows c.exchange.new.self c.args.self.now c.self.view_is c.self.inside.marks.map c.exchange.new.marks.map c.args.row.now c.exchange.new.row c.self.invariant c.in-Ok.ensures.old c.in-Ok.ensures.rows c.in-Ok.ensures.marks).0

pub returns-clause-ok : goal.returns-clause-ok
returns-clause-ok g c = (put_table g.R.Row.id_of g.R.Row.key_of g.R.Row.KEYS c.self.inside.rows c.exchange.new.self c.args.self.now c.self.view_is c.self.inside.marks.map c.exchange.new.marks.map c.args.row.now c.exchange.new.row c.self.invariant c.in-Ok.ensures.old c.in-Ok.ensures.rows c.in-Ok.ensures.marks).1

pub returns-clause-old : goal.returns-clause-old
returns-clause-old g c = (put_table g.R.Row.id_of g.R.Row.key_of g.R.Row.KEYS c.self.inside.rows c.exchange.new.self c.args.self.now c.self.view_is c.self.inside.marks.map c.exchange.new.marks.map c.args.row.now c.exchange.new.row c.self.invariant c.in-Ok.ensures.old c.in-Ok.ensures.rows c.in-Ok.ensures.marks).2

pub returns-clause-order : goal.returns-clause-order
returns-clause-order g c = (put_table g.R.Row.id_of g.R.Row.key_of g.R.Row.KEYS c.self.inside.rows c.exchange.new.self c.args.self.now c.self.view_is c.self.inside.marks.map c.exchange.new.marks.map c.args.row.now c.exchange.new.row c.self.invariant c.in-Ok.ensures.old c.in-Ok.ensures.rows c.in-Ok.ensures.marks).0.rising
