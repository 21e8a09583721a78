use Rattle.std.proofs.Common.{◌≡◌, ◌-◌}
use Rattle.swarm_store.proofs.Orphans.{Going}
use Rattle.swarm_store.proofs.state.State.orphan.Given as goal
use Rattle.swarm_store.specs.Inside.State.{tables_now, tables_start}

-- up to the last task that was met nothing is left to do, and what all are to become stays the same
abbrev pub invariant-loop-task : goal.invariant-loop-task
invariant-loop-task l = record {
  going : Going l.version l.node l.after (tables_now l.fn.self) (tables_now l.self);
  start : tables_start l.self ≡ tables_start l.fn.self;
}

abbrev pub decreases-loop-task : goal.decreases-loop-task
decreases-loop-task l = l.self.next_id - l.after
