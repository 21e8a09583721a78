use Rattle.swarm_objects.proofs.FreeNumbers.{AreTaken, lowest}
use Rattle.swarm_objects.specs.Tasks.Addresses.{addresses_held}
use Rattle.swarm_plain.specs.Plain.{tables_of}
use Rattle.plain_placement.proofs.free_numbers.free_in.Given as goal

abbrev pub invariant-loop-number : goal.invariant-loop-number
invariant-loop-number l = AreTaken (lowest l.network) (addresses_held (tables_of l.plain) l.id) l.number
