use Rattle.std.specs.Prelude.{◌-◌}
use Rattle.swarm_world.proofs.looks.agents_first_in.Given as goal
use Rattle.swarm_world.specs.Inside.Looks.{AreSpanned, looked_at}
use Rattle.swarm_world.specs.Inside.Records.{tables_of}

abbrev pub invariant-loop-node : goal.invariant-loop-node
invariant-loop-node l = AreSpanned (looked_at (tables_of l.records) l.sent) l.spans l.agents

abbrev pub decreases-loop-node : goal.decreases-loop-node
decreases-loop-node l = l.spans.duties.high - l.spans.duties.after
