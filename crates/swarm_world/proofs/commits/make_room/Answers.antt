use Rattle.swarm_world.proofs.Committing.{room_made}
use Rattle.swarm_world.proofs.commits.make_room.Goals as goal

pub returns-clause-ok : goal.returns-clause-ok
returns-clause-ok c = room_made c.args.most c.reserve.new.self c.reserve.result c.reserve.ensures.ok
