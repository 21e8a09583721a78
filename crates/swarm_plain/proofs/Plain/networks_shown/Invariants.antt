use Rattle.std.proofs.Common.{◌≡◌, take}
use Rattle.std.specs.Prelude.{map}
use Rattle.swarm_model.specs.Calls.Views.{network_row}
use Rattle.swarm_plain.proofs.Plain.networks_shown.Given as goal

abbrev pub invariant-loop-network : goal.invariant-loop-network
invariant-loop-network l = l.rows ≡ map network_row (take l.network-index l.network-items)
