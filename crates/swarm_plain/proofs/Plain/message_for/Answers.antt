use Rattle.swarm_plain.proofs.Plain.message_for.Goals as goal
use Rattle.swarm_plain.proofs.Sending.{near_count}

pub difference-requires : goal.difference-requires
difference-requires c =
    near_count c.args.node c.args.self.now.sent c.in-Some.sent.now c.requires.sent c.in-Some.ensures
