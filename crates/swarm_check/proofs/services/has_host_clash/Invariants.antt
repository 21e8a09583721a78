use Rattle.std.proofs.Common.{◌≡◌, length}
use Rattle.swarm_objects.specs.Rules.Services.{has_alike, is_host_clash}
use Rattle.swarm_check.proofs.services.has_host_clash.Given as goal

abbrev pub invariant-loop-first : goal.invariant-loop-first
invariant-loop-first l = has_alike is_host_clash l.rest ≡ has_alike is_host_clash l.ports

abbrev pub decreases-loop-first : goal.decreases-loop-first
decreases-loop-first l = length l.rest
