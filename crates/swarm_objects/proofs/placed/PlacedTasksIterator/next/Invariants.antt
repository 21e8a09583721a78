use Rattle.std.proofs.Common.{◌≡◌, length}
use Rattle.std.specs.Prelude.{filter}
use Rattle.swarm_objects.specs.Tasks.Words.{is_placed}
use Rattle.swarm_objects.proofs.placed.PlacedTasksIterator.next.Given as goal

-- only tasks that aren't placed were passed over
abbrev pub invariant-loop-row : goal.invariant-loop-row
invariant-loop-row g l = filter is_placed l.self-inside.rest ≡ l.fn.self

abbrev pub decreases-loop-row : goal.decreases-loop-row
decreases-loop-row g l = length l.self-inside.rest
