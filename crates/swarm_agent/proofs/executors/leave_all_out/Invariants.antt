use Rattle.std.proofs.Common.{drop, take, ◌++◌, ◌≡◌}
use Rattle.std.specs.Prelude.{map}
use Rattle.swarm_agent.specs.Inside.Named.{named_or_gone}
use Rattle.swarm_agent.proofs.executors.leave_all_out.Given as goal

abbrev pub invariant-loop-executor : goal.invariant-loop-executor
invariant-loop-executor l =
    let change = map (named_or_gone l.named) in
    take l.executor-index l.rows ++ change (drop l.executor-index l.rows) ≡ change l.initial.rows
