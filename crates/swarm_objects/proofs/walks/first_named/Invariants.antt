use Rattle.std.specs.Prelude.{length, ◌≡◌}
use Rattle.swarm_objects.proofs.walks.first_named.Given as goal
use Rattle.swarm_objects.specs.Walks.{named_with}

abbrev pub invariant-loop-id : goal.invariant-loop-id
invariant-loop-id g l =
    let tasks = (g.R.Rows.tables l.rows).tasks in named_with l.key l.ids tasks ≡ named_with l.key l.left tasks

abbrev pub decreases-loop-id : goal.decreases-loop-id
decreases-loop-id g l = length l.left
