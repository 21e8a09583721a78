use Rattle.std.proofs.Common.{◌≡◌, ◌++◌, take, flat_map, string_bytes}
use Rattle.swarm_print.specs.Lists.{service_line}
use Rattle.swarm_print.proofs.lists.put_services.Given as goal

abbrev pub invariant-loop-service : goal.invariant-loop-service
invariant-loop-service l = string_bytes l.text ≡ string_bytes l.initial.text ++ flat_map service_line (take l.service-index l.services)
