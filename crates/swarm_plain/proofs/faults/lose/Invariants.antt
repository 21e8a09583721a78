use Rattle.std.proofs.Common.{◌≡◌, ◌++◌, drop, take}
use Rattle.std.specs.Prelude.{map}
use Rattle.swarm_objects.specs.Agents.NodeAgents.{lost}
use Rattle.swarm_plain.proofs.faults.lose.Given as goal

abbrev pub invariant-loop-executor : goal.invariant-loop-executor
invariant-loop-executor l =
    let change = map (lost l.clock) in
    take l.executor-index l.executors ++ change (drop l.executor-index l.executors) ≡ change l.initial.executors
