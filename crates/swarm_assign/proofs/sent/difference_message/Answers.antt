use Rattle.swarm_assign.proofs.Messages.{empty-message, full-message}
use Rattle.swarm_assign.proofs.sent.difference_message.Goals as goal

pub returns-then-is_empty : goal.returns-then-is_empty
returns-then-is_empty c =
    empty-message c.args.count c.args.sent.now c.args.due.now c.in_ok-changes.changes c.is_empty.result c.requires.sent
    c.requires.due c.in_ok-changes.ensures c.is_empty.ensures c.if-is_empty.true

pub returns : goal.returns
returns c =
    full-message c.args.count c.args.sent.now c.args.due.now c.in_ok-changes.changes c.is_empty.result c.requires.sent
    c.requires.due c.in_ok-changes.ensures c.is_empty.ensures c.if-is_empty.false
