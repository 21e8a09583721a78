use Rattle.std.proofs.Common.{ap, sym, ◌∙◌}
use Rattle.swarm_plain.specs.Plain.{world_of}
use Rattle.plain_agents.proofs.Unsent.{message_is}
use Rattle.plain_agents.specs.Inside.News.{differs}
use Rattle.plain_agents.proofs.news.has_message.Goals as goal

pub returns-in-Some : goal.returns-in-Some
returns-in-Some c =
    let w = world_of c.args.plain.now in
    c.differs.ensures
    ∙ ap (differs w.tables c.args.node) c.as_slice.ensures
    ∙ message_is w c.args.node c.in-Some.sent.now c.requires (sym c.in-Some.ensures)
