use Rattle.std.proofs.Common.{◌≡◌, take, Some}
use Rattle.swarm_filters.specs.Machine.{start, run_bytes}
use Rattle.swarm_filters.specs.Inside.States.{StateFits, shown}
use Rattle.swarm_filters.proofs.constraint.read.Given as goal

abbrev pub invariant-loop-place : goal.invariant-loop-place
invariant-loop-place l = record { reads : run_bytes start (take l.place l.text) ≡ Some (shown l.text l.place l.state); fits : StateFits l.place l.state }
