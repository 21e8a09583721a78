use Rattle.std.proofs.Common.{arith}
use Rattle.swarm_duties.proofs.Entries.{unseen_duty}
use Rattle.swarm_plain.specs.Plain.{world_of}
use Rattle.swarm_duties.proofs.effects.do_unseen.Goals as goal

pub overflow_add-entry : goal.overflow_add-entry
overflow_add-entry c = omega (arith, c.requires.usable.small.entries)

pub returns-clause-ok : goal.returns-clause-ok
returns-clause-ok c =
    unseen_duty (world_of c.args.plain.now) (world_of c.perform.new.plain) (world_of c.end_unseen.new.self) c.args.duty
    c.requires.unwatched c.in_ok-perform.ensures.ok c.end_unseen.ensures
