use Rattle.std.proofs.Common.{◌≡◌, ◌++◌, drop, Some}
use Rattle.swarm_objects.specs.Services.Ports.{kept_numbers}
use Rattle.swarm_objects.proofs.ports.kept_numbers.Given as goal

abbrev pub invariant-loop-given : goal.invariant-loop-given
invariant-loop-given l =
    l.kept ++ kept_numbers (drop l.given-index l.given-items) l.spec (Some l.service.spec) ≡
    kept_numbers l.service.numbers l.spec (Some l.service.spec)
