use Rattle.std.proofs.Common.{inl}
use Rattle.swarm_duties.proofs.Entries.{settled_call}
use Rattle.swarm_plain.specs.Plain.{world_of}
use Rattle.swarm_duties.proofs.settling.settle_call.Goals as goal

pub returns-in-Ok-clause-meets : goal.returns-in-Ok-clause-meets
returns-in-Ok-clause-meets c =
    inl
    (settled_call (world_of c.args.plain.now) (world_of c.end_unseen.new.self) c.args.budget c.in-Ok.answer
    c.refuses.result c.refuses.ensures c.in_default.not-Some c.in-Ok.ensures.answers c.end_unseen.ensures)
