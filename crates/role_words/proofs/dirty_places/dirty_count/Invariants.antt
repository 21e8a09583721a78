use Rattle.std.proofs.Common.{◌≡◌, ◌+◌, ◌≤◌, length}
use Rattle.std.specs.Prelude.{filter}
use Rattle.swarm_objects.specs.Tasks.Places.{dirty_places, is_dirty_place, place_numbers}
use Rattle.role_words.specs.UpdateMarks.{ShowsUpdates}
use Rattle.role_words.proofs.dirty_places.dirty_count.Given as goal

abbrev pub invariant-loop-number : goal.invariant-loop-number
invariant-loop-number g l =
    let t = g.R.Rows.tables l.rows in
    record {
      shows : ShowsUpdates l.window t l.service t.tasks;
      sum : l.count + length (filter (is_dirty_place t l.service) l.number-iterator)
          ≡ length (dirty_places t l.service);
      fits : l.count + length l.number-iterator ≤ length (place_numbers t l.service);
    }
