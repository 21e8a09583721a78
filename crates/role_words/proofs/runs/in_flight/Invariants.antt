use Rattle.std.proofs.Common.{◌≡◌, take}
use Rattle.std.specs.Prelude.{count_by}
use Rattle.swarm_objects.specs.Services.Runs.{is_in_flight}
use Rattle.role_words.specs.UpdateMarks.{ShowsUpdates}
use Rattle.role_words.proofs.runs.in_flight.Given as goal

abbrev pub invariant-loop-item : goal.invariant-loop-item
invariant-loop-item g l =
    let t = g.R.Rows.tables l.rows in
    record {
      shows : ShowsUpdates l.window t l.service t.tasks;
      count : l.count ≡ count_by (is_in_flight t l.service) (take l.item-index l.run.replaced);
    }
