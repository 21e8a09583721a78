use Rattle.swarm_objects.proofs.Pieces.{further}
use Rattle.swarm_objects.proofs.outside.standard.write_whole.Goals as goal

pub loop-rest-preserved : goal.loop-rest-preserved
loop-rest-preserved g c = further _ _ _ _ c.loop-rest.rest.now c.in-Ok.count c.loop-rest.invariant c.in-Ok.ensures.bound c.in-Ok.ensures.bytes
