use Rattle.std.proofs.Common.{◌≡◌}
use Rattle.std.specs.Prelude.{filter}
use Rattle.swarm_objects.specs.Loops.Update.{is_to_replace}
use Rattle.swarm_objects.specs.Rows.{first_of}
use Rattle.swarm_objects.specs.Tasks.Places.{place_numbers}
use Rattle.role_words.specs.UpdateMarks.{ShowsUpdates}
use Rattle.role_words.proofs.dirty_places.first_to_replace_in.Given as goal

abbrev pub invariant-loop-number : goal.invariant-loop-number
invariant-loop-number g l =
    let t = g.R.Rows.tables l.rows in
    record {
      shows : ShowsUpdates l.window t l.service t.tasks;
      left : first_of (filter (is_to_replace t l.service) l.number-iterator)
          ≡ first_of (filter (is_to_replace t l.service) (place_numbers t l.service));
    }
