use Rattle.std.proofs.Common.{length, arith}
use Rattle.swarm_plain.proofs.OpSteps.{room-small}
use Rattle.swarm_plain.proofs.Plain.transact.Goals as goal
use Rattle.swarm_plain.specs.Plain.{world_of}

pub apply_all_or_none-requires : goal.apply_all_or_none-requires
apply_all_or_none-requires c =
    room-small (length c.args.ops.now) (world_of c.args.self.now) (omega (arith, c.if-count-gt-MOST_OPS.false)) c.requires
