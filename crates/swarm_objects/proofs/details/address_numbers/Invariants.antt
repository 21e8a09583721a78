use Rattle.std.proofs.Common.{◌≡◌, take}
use Rattle.std.specs.Prelude.{map}
use Rattle.swarm_objects.specs.declared.tasks.Address.{Address}
use Rattle.swarm_objects.proofs.details.address_numbers.Given as goal

abbrev pub invariant-loop-address : goal.invariant-loop-address
invariant-loop-address l = l.numbers ≡ map (λ (a : Address). a.number) (take l.address-index l.addresses)
