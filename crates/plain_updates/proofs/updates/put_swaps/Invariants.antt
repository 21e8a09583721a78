use Rattle.std.proofs.Common.{◌≡◌, ◌++◌, take}
use Rattle.swarm_objects.specs.Loops.Update.{is_to_swap}
use Rattle.swarm_objects.specs.Loops.Words.{duty_where}
use Rattle.swarm_objects.specs.declared.duties.Duty.TheVariants as duty
use Rattle.swarm_plain.specs.Plain.{tables_of}
use Rattle.plain_updates.proofs.updates.put_swaps.Given as goal

abbrev pub invariant-loop-number : goal.invariant-loop-number
invariant-loop-number l =
    l.duties
    ≡ l.initial.duties
    ++ duty_where (is_to_swap (tables_of l.plain) l.service) (duty.Swap l.service.id) (take l.number-index l.numbers)
