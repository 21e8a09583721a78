use Rattle.std.specs.Prelude.{filter, not}
use Rattle.swarm_objects.specs.Agents.Messages.{is_sent}
use Rattle.swarm_plain.proofs.Sending.{update_none, update_some}
use Rattle.swarm_plain.proofs.messages.update_of.Goals as goal

pub returns-in-Some : goal.returns-in-Some
returns-in-Some c =
    update_some c.args.task (filter (λ one. not (is_sent c.args.sent.now one)) c.args.due.now) c.in-Some.one.now
    c.in-Some.ensures

pub returns-in-None : goal.returns-in-None
returns-in-None c =
    update_none c.args.task (filter (λ one. not (is_sent c.args.sent.now one)) c.args.due.now) c.in-None.ensures
