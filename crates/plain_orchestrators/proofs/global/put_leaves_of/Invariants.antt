use Rattle.std.proofs.Common.{◌≡◌, ◌++◌, take}
use Rattle.swarm_objects.specs.Loops.Global.{is_to_leave}
use Rattle.swarm_objects.specs.Loops.Words.{duty_where}
use Rattle.swarm_objects.specs.declared.duties.Duty.TheVariants as duty
use Rattle.swarm_plain.specs.Plain.{tables_of}
use Rattle.plain_orchestrators.proofs.global.put_leaves_of.Given as goal

abbrev pub invariant-loop-node : goal.invariant-loop-node
invariant-loop-node l =
    l.duties
    ≡ l.initial.duties
    ++ duty_where (is_to_leave (tables_of l.plain) l.service) (duty.Leave l.service.id) (take l.node-index l.node-items)
