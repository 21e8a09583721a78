use Rattle.std.proofs.Common.{◌≡◌, ◌++◌, drop, take}
use Rattle.std.specs.Prelude.{map}
use Rattle.swarm_watch.proofs.cursors.step_back.Given as goal
use Rattle.swarm_watch.specs.Inside.Cursors.{stepped_back}

abbrev pub invariant-loop-cursor : goal.invariant-loop-cursor
invariant-loop-cursor l =
    take l.cursor-index l.cursors ++ map (stepped_back l.place) (drop l.cursor-index l.cursors)
    ≡ map (stepped_back l.place) l.initial.cursors
