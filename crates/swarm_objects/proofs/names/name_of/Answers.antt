use Rattle.std.proofs.Common.{rules}
use Rattle.swarm_objects.proofs.NameLemmas.{IsUtf8-value}
use Rattle.swarm_objects.proofs.names.name_of.Goals as goal

pub unreachable-requires : goal.unreachable-requires
unreachable-requires c = c.in-Err.ensures.cases.0 (IsUtf8-value _ (search rules))
