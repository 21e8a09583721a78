use Rattle.std.proofs.Common.{◌≡◌}
use Rattle.swarm_objects.specs.Loops.Replicated.{down_cmp, first_to_go}
use Rattle.swarm_objects.specs.Rows.{least_by}
use Rattle.swarm_plain.specs.Plain.{tables_of}
use Rattle.role_words.specs.Slots.{held_numbers}
use Rattle.plain_orchestrators.proofs.replicated.first_to_go.Given as goal

abbrev pub invariant-loop-slot : goal.invariant-loop-slot
invariant-loop-slot l =
    let t = tables_of l.plain in
    least_by (down_cmp t l.service) l.first (held_numbers l.slot-iterator) ≡ first_to_go t l.service
