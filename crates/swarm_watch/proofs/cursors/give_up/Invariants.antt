use Rattle.std.proofs.Common.{◌≡◌}
use Rattle.std.specs.Vec.{vec_capacity, vec_len}
use Rattle.swarm_watch.proofs.cursors.give_up.Given as goal
use Rattle.swarm_watch.proofs.Sweeping.{Sweeps}

abbrev pub invariant-loop-place : goal.invariant-loop-place
invariant-loop-place l = record {
  sweeps : Sweeps l.initial.cursors l.cursors l.initial.kept.items l.kept.items l.end l.place;
  capacity : vec_capacity l.kept ≡ vec_capacity l.initial.kept;
  count : vec_len l.kept ≡ vec_len l.initial.kept;
}
