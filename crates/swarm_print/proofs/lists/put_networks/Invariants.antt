use Rattle.std.proofs.Common.{◌≡◌, ◌++◌, take, flat_map, string_bytes}
use Rattle.swarm_print.specs.Lists.{network_line}
use Rattle.swarm_print.proofs.lists.put_networks.Given as goal

abbrev pub invariant-loop-network : goal.invariant-loop-network
invariant-loop-network l = string_bytes l.text ≡ string_bytes l.initial.text ++ flat_map network_line (take l.network-index l.networks)
