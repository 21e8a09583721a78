use Rattle.std.proofs.Common.{sym, ◌∙◌}
use Rattle.swarm_sched.proofs.LastRefusing.{full_found, refusal_found}
use Rattle.swarm_sched.proofs.last_group.is_open_in.Goals as goal

pub returns-then-not-has_room-clause-own : goal.returns-then-not-has_room-clause-own
returns-then-not-has_room-clause-own g c =
    let t = g.R.Rows.tables c.args.rows.now in
    c.note_refusal.ensures t c.args.task.now c.requires.own
    (λ some.
    full_found t c.args.task.now c.args.node.now c.args.group.now c.requires.usable c.requires.row c.requires.own
    (sym (c.has_room.ensures t c.requires.totals) ∙ c.if-not-has_room.true))

pub returns-in-Some-clause-own : goal.returns-in-Some-clause-own
returns-in-Some-clause-own g c =
    let t = g.R.Rows.tables c.args.rows.now in
    c.note_refusal-in-Some.ensures t c.args.task.now c.requires.own
    (refusal_found t c.args.task.now c.args.node.now c.args.group.now c.in-Some.filter c.requires.usable c.requires.row
    c.requires.own c.in-Some.ensures)
