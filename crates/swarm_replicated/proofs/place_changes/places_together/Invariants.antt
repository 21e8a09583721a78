use Rattle.std.proofs.Common.{drop}
use Rattle.swarm_replicated.proofs.Reaching.{Reaches}
use Rattle.swarm_replicated.specs.Inside.PlaceChanges.{spares}
use Rattle.swarm_replicated.proofs.place_changes.places_together.Given as goal

abbrev pub invariant-loop-change : goal.invariant-loop-change
invariant-loop-change g l =
    Reaches (spares (g.R.Rows.tables l.rows) l.service) l.together (drop l.change-index l.changes) l.changes
