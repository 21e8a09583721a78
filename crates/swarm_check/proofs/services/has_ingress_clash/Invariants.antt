use Rattle.std.proofs.Common.{◌≡◌, length}
use Rattle.swarm_objects.specs.Rules.Services.{has_alike, is_ingress_clash}
use Rattle.swarm_check.proofs.services.has_ingress_clash.Given as goal

abbrev pub invariant-loop-first : goal.invariant-loop-first
invariant-loop-first l = has_alike is_ingress_clash l.rest ≡ has_alike is_ingress_clash l.ports

abbrev pub decreases-loop-first : goal.decreases-loop-first
decreases-loop-first l = length l.rest
