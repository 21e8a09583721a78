use Rattle.std.proofs.Common.{◌≡◌, None, replicate}
use Rattle.swarm_index.proofs.pages.Page.new.Given as goal

abbrev pub invariant-loop-place : goal.invariant-loop-place
invariant-loop-place g l = l.places.items ≡ replicate l.place None
