use Rattle.std.proofs.Common.{rules}
use Rattle.swarm_plain.proofs.Plain.apply_op.Goals as goal

pub returns-in-RemoveService : goal.returns-in-RemoveService
returns-in-RemoveService c = let done = c.remove_service.ensures c.args.version in search rules

pub returns-in-RemoveNetwork : goal.returns-in-RemoveNetwork
returns-in-RemoveNetwork c = let done = c.remove_network.ensures c.args.version in search rules

pub returns-in-SetCluster : goal.returns-in-SetCluster
returns-in-SetCluster c = let done = c.set_cluster.ensures c.args.version in search rules
