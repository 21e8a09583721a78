use Rattle.std.proofs.Common.{◌+◌}
use Rattle.swarm_alloc.proofs.HeldRuns.{IsMoreOf}
use Rattle.swarm_objects.specs.Tasks.Holders.{holds_address}
use Rattle.swarm_alloc.proofs.runs.addresses_held_from.Given as goal

abbrev pub invariant-loop-task : goal.invariant-loop-task
invariant-loop-task g l =
    IsMoreOf (λ place. holds_address l.network (l.from + place)) (g.R.Rows.tables l.rows).tasks 0 l.task-iterator l.word
