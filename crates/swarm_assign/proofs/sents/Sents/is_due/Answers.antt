use Rattle.std.proofs.Common.{ap, sym, ◌∙◌}
use Rattle.std.specs.Option.{option_copied}
use Rattle.swarm_assign.proofs.ByNode.{due-first, due-told}
use Rattle.swarm_objects.specs.Agents.Messages.{due_set}
use Rattle.swarm_assign.proofs.sents.Sents.is_due.Goals as goal

pub returns-in-Some : goal.returns-in-Some
returns-in-Some g c =
    due-told c.args.node (due_set (g.R.Rows.tables c.args.rows.now) c.args.node) c.is_due.result c.in-Some.sent.now
    c.self.inside.rows.entries c.args.self.now c.self.view_is c.self.invariant
    (ap option_copied (sym c.in-Some.is) ∙ c.get.ensures.value) c.is_due.ensures

pub returns-in-None : goal.returns-in-None
returns-in-None g c =
    due-first c.args.node (due_set (g.R.Rows.tables c.args.rows.now) c.args.node) c.self.inside.rows.entries
    c.args.self.now c.self.view_is (ap option_copied (sym c.in-None.is) ∙ c.get.ensures.value)
