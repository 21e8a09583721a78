use Rattle.std.proofs.Common.{◌≡◌, ◌++◌, drop, take}
use Rattle.swarm_model.specs.Calls.Watches.{told_all}
use Rattle.swarm_objects.specs.Rows.{change_row, watcher_id}
use Rattle.swarm_plain.proofs.watches.tell_all.Given as goal

abbrev pub invariant-loop-watcher : goal.invariant-loop-watcher
invariant-loop-watcher l =
    let change = change_row watcher_id l.id (told_all l.entry) in
    take l.watcher-index l.watchers ++ change (drop l.watcher-index l.watchers) ≡ change l.initial.watchers
