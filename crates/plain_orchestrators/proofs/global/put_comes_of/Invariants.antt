use Rattle.std.proofs.Common.{◌≡◌, ◌++◌, take}
use Rattle.swarm_objects.specs.Loops.Global.{is_missing}
use Rattle.swarm_objects.specs.Loops.Words.{duty_where}
use Rattle.swarm_objects.specs.declared.duties.Duty.TheVariants as duty
use Rattle.swarm_plain.specs.Plain.{tables_of}
use Rattle.plain_orchestrators.proofs.global.put_comes_of.Given as goal

abbrev pub invariant-loop-node : goal.invariant-loop-node
invariant-loop-node l =
    l.duties
    ≡ l.initial.duties
    ++ duty_where (is_missing (tables_of l.plain) l.service) (λ n. duty.GlobalCreate l.service.id n.id)
    (take l.node-index l.node-items)
