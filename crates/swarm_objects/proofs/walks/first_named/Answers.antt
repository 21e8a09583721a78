use Rattle.std.proofs.Common.{arith, refl, sym, ◌∙◌}
use Rattle.swarm_objects.proofs.WalkLemmas.{named_end, named_first, named_none, named_other}
use Rattle.swarm_objects.proofs.walks.first_named.Goals as goal

pub loop-id-init : goal.loop-id-init
loop-id-init g c = refl

pub returns-then-has_key : goal.returns-then-has_key
returns-then-has_key g c =
    let tasks = (g.R.Rows.tables c.args.rows.now).tasks in
    c.loop-id.invariant
    ∙ named_first c.args.key tasks c.loop-id.left.now c.in-Some.others.now c.in-Some.id.now c.in-Some-task.task.now
    c.in-Some.ensures.cases.0 c.in-Some-task.ensures (sym c.has_key.ensures ∙ c.if-has_key.true)

pub loop-id-preserved-else-has_key : goal.loop-id-preserved-else-has_key
loop-id-preserved-else-has_key g c =
    let tasks = (g.R.Rows.tables c.args.rows.now).tasks in
    c.loop-id.invariant
    ∙ named_other c.args.key tasks c.loop-id.left.now c.in-Some.others.now c.in-Some.id.now c.in-Some-task.task.now
    c.in-Some.ensures.cases.0 c.in-Some-task.ensures (sym c.has_key.ensures ∙ c.if-has_key.false)

pub loop-id-smaller-else-has_key : goal.loop-id-smaller-else-has_key
loop-id-smaller-else-has_key g c = omega (arith, c.in-Some.ensures.cases.1)

pub loop-id-preserved : goal.loop-id-preserved
loop-id-preserved g c =
    let tasks = (g.R.Rows.tables c.args.rows.now).tasks in
    c.loop-id.invariant
    ∙ named_none c.args.key tasks c.loop-id.left.now c.in-Some.others.now c.in-Some.id.now c.in-Some.ensures.cases.0
    c.in_default-task.ensures

pub loop-id-smaller : goal.loop-id-smaller
loop-id-smaller g c = omega (arith, c.in-Some.ensures.cases.1)

pub returns : goal.returns
returns g c =
    let tasks = (g.R.Rows.tables c.args.rows.now).tasks in
    c.loop-id.invariant ∙ named_end c.args.key tasks c.loop-id.left.now c.in_default.ensures.cases
