use Rattle.std.specs.Vec.{vec_capacity}
use Rattle.swarm_watch.proofs.cursors.keep.Given as goal
use Rattle.swarm_watch.proofs.Noting.{Keeps}

abbrev pub invariant-loop-event : goal.invariant-loop-event
invariant-loop-event l =
    Keeps l.cursors l.events l.event-index l.initial.kept.items l.kept.items (vec_capacity l.initial.kept) (vec_capacity l.kept)
