use Rattle.std.proofs.Common.{[], ap, subst, ◌∙◌, ◌∷◌}
use Rattle.swarm_objects.specs.declared.calls.Call.TheVariants as call
use Rattle.swarm_world.proofs.Renewing.{only_one}
use Rattle.swarm_world.proofs.marks.Marks.touch_ops.Goals as goal
use Rattle.swarm_world.specs.Inside.Marks.{IsAfterCall}

pub returns-in-UpdateService : goal.returns-in-UpdateService
returns-in-UpdateService c = λ h q legal stands marked is after.
    c.touch_update.ensures c.in-UpdateService.field-1 c.in-UpdateService.field-2 h q legal stands marked is
    (subst (λ ops. IsAfterCall h (call.Txn ops) q)
    (only_one c.args.ops.now c.op-item.result c.in-len1.len_at_least c.in-len1.len_below c.op-item.is
    ∙ ap (λ o. o ∷ []) c.in-UpdateService.is) after)
