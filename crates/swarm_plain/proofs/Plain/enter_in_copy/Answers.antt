use Rattle.std.proofs.Common.{◌+◌}
use Rattle.swarm_plain.proofs.EntryLemmas.{copy-answer, events-answer}
use Rattle.swarm_plain.proofs.RowOrder.{order-answer}
use Rattle.swarm_plain.specs.Plain.{world_of}
use Rattle.swarm_plain.proofs.Plain.enter_in_copy.Goals as goal

pub end_seen-requires-clause-events : goal.end_seen-requires-clause-events
end_seen-requires-clause-events c =
    let w = world_of c.args.self.now in
    let v = world_of c.answer_call.new.self in
    events-answer (w.entries + 1) w v c.args.call.now c.in-Ok-answer_call.reply
    (copy-answer w (world_of c.in-Ok.copy) v c.args.call.now c.in-Ok-answer_call.reply c.in-Ok.ensures c.in-Ok-answer_call.ensures.answer)

pub end_seen-requires-clause-new : goal.end_seen-requires-clause-new
end_seen-requires-clause-new c =
    let w = world_of c.args.self.now in
    let v = world_of c.answer_call.new.self in
    order-answer w v c.args.call.now c.in-Ok-answer_call.reply c.requires.order
    (copy-answer w (world_of c.in-Ok.copy) v c.args.call.now c.in-Ok-answer_call.reply c.in-Ok.ensures c.in-Ok-answer_call.ensures.answer)
