use Rattle.std.proofs.Common.{take, ◌≡◌}
use Rattle.swarm_agent.specs.Inside.Saying.{unsaid}
use Rattle.swarm_agent.proofs.saying.count_unsaid.Given as goal

abbrev pub invariant-loop-executor : goal.invariant-loop-executor
invariant-loop-executor l = l.count ≡ unsaid (take l.executor-index l.rows)
