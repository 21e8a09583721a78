use Rattle.std.proofs.Common.{drop, take, ◌++◌, ◌≡◌}
use Rattle.std.specs.Prelude.{map}
use Rattle.swarm_sched.proofs.known_refusals.forget_node.Given as goal
use Rattle.swarm_sched.specs.Inside.KnownRefusals.{without}

abbrev pub invariant-loop-slot : goal.invariant-loop-slot
invariant-loop-slot l =
    let change = map (without l.node) in
    take l.slot-index l.groups ++ change (drop l.slot-index l.groups) ≡ change l.initial.groups
