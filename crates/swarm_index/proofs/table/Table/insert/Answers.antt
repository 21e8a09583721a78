use Rattle.swarm_index.proofs.Tables.{inserted_table, ok_fact}
use Rattle.swarm_index.proofs.table.Table.insert.Goals as goal

pub invariant_of-self-in-Ok : goal.invariant_of-self-in-Ok
invariant_of-self-in-Ok g c =
    (inserted_table g.R.Row.id_of g.R.Row.key_of g.R.Row.KEYS c.self.inside.rows c.insert.new.self c.args.self.now c.self.view_is c.self.inside.marks.map c.add_marks.new.marks.map c.id.result c.args.row c.self.invariant c.requires c.id.ensures c.in-Ok.ensures.ok
    (ok_fact c.add_marks.result c.is_err.result _ c.is_err.ensures.value c.if-is_err.false c.add_marks.ensures.ok)).0

pub returns-in-Ok-clause-ok : goal.returns-in-Ok-clause-ok
returns-in-Ok-clause-ok g c =
    (inserted_table g.R.Row.id_of g.R.Row.key_of g.R.Row.KEYS c.self.inside.rows c.insert.new.self c.args.self.now c.self.view_is c.self.inside.marks.map c.add_marks.new.marks.map c.id.result c.args.row c.self.invariant c.requires c.id.ensures c.in-Ok.ensures.ok
    (ok_fact c.add_marks.result c.is_err.result _ c.is_err.ensures.value c.if-is_err.false c.add_marks.ensures.ok)).1

pub returns-in-Ok-clause-order : goal.returns-in-Ok-clause-order
returns-in-Ok-clause-order g c =
    (inserted_table g.R.Row.id_of g.R.Row.key_of g.R.Row.KEYS c.self.inside.rows c.insert.new.self c.args.self.now c.self.view_is c.self.inside.marks.map c.add_marks.new.marks.map c.id.result c.args.row c.self.invariant c.requires c.id.ensures c.in-Ok.ensures.ok
    (ok_fact c.add_marks.result c.is_err.result _ c.is_err.ensures.value c.if-is_err.false c.add_marks.ensures.ok)).0.rising
