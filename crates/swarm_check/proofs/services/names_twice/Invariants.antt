use Rattle.std.proofs.Common.{◌≡◌, length}
use Rattle.swarm_objects.specs.Rules.Services.{names_twice}
use Rattle.swarm_check.proofs.services.names_twice.Given as goal

abbrev pub invariant-loop-first : goal.invariant-loop-first
invariant-loop-first l = names_twice l.rest ≡ names_twice l.names

abbrev pub decreases-loop-first : goal.decreases-loop-first
decreases-loop-first l = length l.rest
