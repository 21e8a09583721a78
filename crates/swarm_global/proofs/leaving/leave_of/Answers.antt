use Rattle.std.proofs.Common.{rules, sym, ◌∙◌, ◌≡◌, ◌∷◌}
use Rattle.swarm_objects.specs.Loops.Global.{is_to_leave}
use Rattle.swarm_objects.specs.declared.duties.Duty.TheVariants as duty
use Rattle.role_words.proofs.Passing.{passed_over}
use Rattle.swarm_global.proofs.leaving.leave_of.Goals as goal

pub loop-node-preserved : goal.loop-node-preserved
loop-node-preserved g c =
    let t = g.R.Rows.tables c.args.rows.now in
    let s = c.args.service.now in
    let step : c.loop-node.node-iterator ≡ c.in-Some.node ∷ c.next.new.self = search rules in
    passed_over (duty.Leave s.id) (is_to_leave t s) c.loop-node.node-iterator c.next.new.self c.in-Some.node _ step
    (sym c.is_to_leave.ensures ∙ c.if-is_to_leave.false) c.loop-node.invariant
