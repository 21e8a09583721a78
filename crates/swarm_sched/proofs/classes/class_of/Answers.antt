use Rattle.std.proofs.Common.{sym, ◌∙◌}
use Rattle.swarm_sched.proofs.Classing.{head_found, head_new}
use Rattle.swarm_sched.proofs.classes.class_of.Goals as goal

pub returns-in-Some-clause-class : goal.returns-in-Some-clause-class
returns-in-Some-clause-class c =
    head_found c.args.keys.now c.args.heads.now c.as_slice.result.now c.args.node.now c.in-Some.class
    c.as_slice.ensures (sym c.in-Some.is ∙ c.class_among.ensures)

pub returns-in-Ok-clause-class : goal.returns-in-Ok-clause-class
returns-in-Ok-clause-class c =
    head_new c.args.keys.now c.args.heads.now c.as_slice.result.now c.push.new.self c.args.node c.len-class.result
    c.as_slice.ensures (sym c.in_default.is ∙ c.class_among.ensures) c.in-Ok.ensures.ok c.len-class.ensures
