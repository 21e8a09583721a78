use Rattle.std.proofs.Common.{ap, ◌∙◌}
use Rattle.swarm_assign.proofs.ByNode.{first-rows, first-some}
use Rattle.swarm_assign.specs.Told.{Told, sent_to}
use Rattle.swarm_objects.specs.Agents.Messages.{next_message}
use Rattle.swarm_assign.proofs.sents.Sents.begin.Goals as goal

pub put-requires : goal.put-requires
put-requires c =
    first-some c.args.node c.args.due.now c.in_ok-message.message c.new-sent.result c.tell.new.sent c.new-sent.ensures
    c.in_ok-message.ensures.message c.in_ok-message.ensures.told

pub returns-clause-message : goal.returns-clause-message
returns-clause-message c =
    c.in_ok-message.ensures.message c.args.node
    ∙ ap (λ (t : Told). next_message (sent_to c.args.node t) c.args.due.now) c.new-sent.ensures

pub returns-clause-sent : goal.returns-clause-sent
returns-clause-sent c =
    c.in_ok-put.ensures.ok
    ∙ first-rows c.args.node c.args.due.now c.in_ok-message.message c.new-sent.result c.tell.new.sent c.args.self.now
    c.new-sent.ensures c.in_ok-message.ensures.message c.in_ok-message.ensures.told
