use Rattle.std.proofs.Common.{◌≡◌, take}
use Rattle.std.specs.Prelude.{count_by}
use Rattle.swarm_objects.specs.Services.Runs.{is_in_flight}
use Rattle.swarm_update.proofs.survey.in_flight.Given as goal

abbrev pub invariant-loop-item : goal.invariant-loop-item
invariant-loop-item g l =
    l.count ≡ count_by (is_in_flight (g.R.Rows.tables l.rows) l.service) (take l.item-index l.run.replaced)
