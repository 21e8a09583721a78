use Rattle.swarm_index.proofs.Tables.{nothing_removed, removed_table}
use Rattle.swarm_index.proofs.table.Table.remove.Goals as goal

pub invariant_of-self : goal.invariant_of-self
invariant_of-self g c = (removed_table g.R.Row.id_of g.R.Row.key_of g.R.Row.KEYS c.self.inside.rows c.remove.new.self c.args.self.now c.self.view_is c.self.inside.marks.map c.remove_marks.new.marks.map c.args.id c.KEYS.result c.in-Some.row c.self.invariant c.in-Some.ensures.value c.in-Some.ensures.rows c.KEYS.ensures c.remove_marks.ensures).0

pub returns-in-Some-clause-value : goal.returns-in-Some-clause-value
returns-in-Some-clause-value g c = (removed_table g.R.Row.id_of g.R.Row.key_of g.R.Row.KEYS c.self.inside.rows c.remove.new.self c.args.self.now c.self.view_is c.self.inside.marks.map c.remove_marks.new.marks.map c.args.id c.KEYS.result c.in-Some.row c.self.invariant c.in-Some.ensures.value c.in-Some.ensures.rows c.KEYS.ensures c.remove_marks.ensures).2

pub returns-in-Some-clause-rows : goal.returns-in-Some-clause-rows
returns-in-Some-clause-rows g c = (removed_table g.R.Row.id_of g.R.Row.key_of g.R.Row.KEYS c.self.inside.rows c.remove.new.self c.args.self.now c.self.view_is c.self.inside.marks.map c.remove_marks.new.marks.map c.args.id c.KEYS.result c.in-Some.row c.self.invariant c.in-Some.ensures.value c.in-Some.ensures.rows c.KEYS.ensures c.remove_marks.ensures).1

pub returns-in-Some-clause-order : goal.returns-in-Some-clause-order
returns-in-Some-clause-order g c = (removed_table g.R.Row.id_of g.R.Row.key_of g.R.Row.KEYS c.self.inside.rows c.remove.new.self c.args.self.now c.self.view_is c.self.inside.marks.map c.remove_marks.new.marks.map c.args.id c.KEYS.result c.in-Some.row c.self.invariant c.in-Some.ensures.value c.in-Some.ensures.rows c.KEYS.ensures c.remove_marks.ensures).0.rising

pub returns-in-None-clause-value : goal.returns-in-None-clause-value
returns-in-None-clause-value g c = (nothing_removed g.R.Row.id_of g.R.Row.key_of g.R.Row.KEYS c.self.inside.rows c.remove.new.self c.args.self.now c.self.view_is c.self.inside.marks.map c.args.id c.self.invariant c.in-None.ensures.value c.in-None.ensures.rows).1

pub returns-in-None-clause-rows : goal.returns-in-None-clause-rows
returns-in-None-clause-rows g c = (nothing_removed g.R.Row.id_of g.R.Row.key_of g.R.Row.KEYS c.self.inside.rows c.remove.new.self c.args.self.now c.self.view_is c.self.inside.marks.map c.args.id c.self.invariant c.in-None.ensures.value c.in-None.ensures.rows).0
