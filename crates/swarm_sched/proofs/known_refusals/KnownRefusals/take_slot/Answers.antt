use Rattle.std.proofs.Common.{List, Option, length, subst, ◌<◌, ◌∙◌}
use Rattle.swarm_sched.proofs.Remembering.{group_known, inside_known}
use Rattle.swarm_sched.proofs.known_refusals.KnownRefusals.take_slot.Goals as goal
use Rattle.swarm_sched.specs.Inside.KnownRefusals.{Refusals}

pub returns-clause-group : goal.returns-clause-group
returns-clause-group c t knows =
    let groups = c.in-Some.groups in
    let slot = c.in-Some-slot_of.slot in
    group_known t groups.items slot c.index_mut.result.now c.replace.result
    (subst (λ (l : List (Option Refusals)). slot < length l) c.as_slice.ensures.value c.in-Some-slot_of.ensures)
    (c.replace.ensures.value ∙ c.index_mut.ensures.value)
    (inside_known t c.args.self.now c.self.inside.groups groups c.self.view_is c.in-Some.is knows)
