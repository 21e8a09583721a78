use Rattle.std.proofs.Common.{◌≡◌}
use Rattle.std.specs.List.{list_any}
use Rattle.swarm_objects.specs.Tasks.Places.{has_dirty_place, is_dirty_place}
use Rattle.role_words.specs.UpdateMarks.{ShowsUpdates}
use Rattle.role_words.proofs.dirty_places.has_dirty_place_in.Given as goal

abbrev pub invariant-loop-number : goal.invariant-loop-number
invariant-loop-number g l =
    let t = g.R.Rows.tables l.rows in
    record {
      shows : ShowsUpdates l.window t l.service t.tasks;
      left : list_any (is_dirty_place t l.service) l.number-iterator ≡ has_dirty_place t l.service;
    }
