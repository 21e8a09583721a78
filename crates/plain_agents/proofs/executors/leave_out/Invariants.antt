use Rattle.std.proofs.Common.{◌≡◌, ◌++◌, drop, take}
use Rattle.std.specs.Prelude.{map}
use Rattle.swarm_objects.specs.Agents.Messages.{left_out}
use Rattle.plain_agents.proofs.executors.leave_out.Given as goal

abbrev pub invariant-loop-executor : goal.invariant-loop-executor
invariant-loop-executor l =
    let change = map (left_out l.message) in
    take l.executor-index l.executors ++ change (drop l.executor-index l.executors) ≡ change l.initial.executors
