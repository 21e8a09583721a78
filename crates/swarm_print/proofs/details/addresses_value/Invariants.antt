use Rattle.std.proofs.Common.{◌≡◌, map, take}
use Rattle.serde_json.specs.View.{view}
use Rattle.swarm_print.specs.Details.{address_data}
use Rattle.swarm_print.proofs.details.addresses_value.Given as goal

abbrev pub invariant-loop-address : goal.invariant-loop-address
invariant-loop-address l = map view l.values.items ≡ map address_data (take l.address-index l.addresses)
