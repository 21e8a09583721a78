use Rattle.std.specs.Option.{option_copied}
use Rattle.swarm_index.specs.Inside.Marks.{DropsMarks, fresh_digests, is_mark}
use Rattle.swarm_index.proofs.marks.remove_marks.Given as goal

abbrev pub invariant-loop-which : goal.invariant-loop-which
invariant-loop-which g l = DropsMarks l.fn.marks.map l.marks.map (is_mark (fresh_digests g.R.Row.key_of l.row (option_copied l.other)) l.which (g.R.Row.id_of l.row))
