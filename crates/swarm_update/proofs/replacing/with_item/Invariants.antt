use Rattle.std.proofs.Common.{◌≡◌, ◌++◌, drop}
use Rattle.swarm_objects.specs.Loops.Update.{with_item}
use Rattle.swarm_update.specs.Replacing.{item_unless}
use Rattle.swarm_update.proofs.replacing.with_item.Given as goal

abbrev pub invariant-loop-old : goal.invariant-loop-old
invariant-loop-old l =
    l.new ++ item_unless l.is_put l.item (drop l.old-index l.items) ≡ with_item l.item l.items
