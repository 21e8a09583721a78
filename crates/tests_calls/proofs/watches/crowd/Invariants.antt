use Rattle.swarm_objects.specs.Rows.{IsBelow}
use Rattle.tests_calls.proofs.watches.crowd.Given as goal
use Rattle.swarm_watch.specs.Watchings.{watching_id}

abbrev pub invariant-loop-id : goal.invariant-loop-id
invariant-loop-id l = IsBelow watching_id l.id l.watches.watchers
