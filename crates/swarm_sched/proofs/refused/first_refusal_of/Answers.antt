use Rattle.std.proofs.Common.{sym, ◌∙◌}
use Rattle.swarm_sched.proofs.Remembering.{first_refusal}
use Rattle.swarm_sched.proofs.refused.first_refusal_of.Goals as goal

pub returns-in-Some-first-clause-own : goal.returns-in-Some-first-clause-own
returns-in-Some-first-clause-own g c =
    let t = g.R.Rows.tables c.args.rows.now in (
      c.remember.ensures.own c.args.task.now c.requires.own.0,
      c.remember.ensures.knows t c.requires.own.1
          (first_refusal t c.args.task.now c.args.node.now c.args.group.now c.in-Some-first.filter c.requires.usable
          c.requires.row (sym c.takes_tasks.ensures ∙ c.if-not-takes_tasks.false) c.requires.own.0
          c.in-Some-first.ensures.first),
    )
