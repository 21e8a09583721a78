use Rattle.std.proofs.Common.{drop, take, ◌++◌, ◌≡◌}
use Rattle.std.specs.Prelude.{map}
use Rattle.swarm_objects.specs.Agents.NodeAgents.{lost}
use Rattle.swarm_agent.proofs.executors.lose_all.Given as goal

abbrev pub invariant-loop-executor : goal.invariant-loop-executor
invariant-loop-executor l =
    let change = map (lost 0) in
    take l.executor-index l.rows ++ change (drop l.executor-index l.rows) ≡ change l.initial.rows
