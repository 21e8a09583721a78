use Rattle.swarm_duties.proofs.Entries.{not_settle}
use Rattle.swarm_duties.proofs.Reached.{order}
use Rattle.swarm_plain.specs.Plain.{world_of}
use Rattle.swarm_duties.proofs.steps.answer.Goals as goal

pub call-requires : goal.call-requires
call-requires c = record {
  small = c.requires.small;
  order = order (world_of c.args.plain.now) c.requires;
  other = not_settle c.args.call.now c.in_default.not-Settle;
}
