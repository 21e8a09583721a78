use Rattle.std.proofs.Common.{ap, refl, ◌∙◌}
use Rattle.std.specs.Prelude.{map}
use Rattle.swarm_assign.proofs.ByNode.{put-kept}
use Rattle.swarm_assign.specs.Sents.{sent_row}
use Rattle.swarm_objects.proofs.MapEntries.{put-entry}
use Rattle.swarm_objects.specs.Rows.{sent_node, with_row}
use Rattle.swarm_assign.proofs.sents.Sents.put.Goals as goal

pub invariant_of-self : goal.invariant_of-self
invariant_of-self c =
    put-kept c.args.node c.self.inside.rows.entries c.insert.new.self.entries c.args.sent c.insert.result c.self.invariant
    c.requires c.insert.ensures.entries c.insert.ensures.err

pub returns-in-Ok-clause-ok : goal.returns-in-Ok-clause-ok
returns-in-Ok-clause-ok c =
    ap (map sent_row) c.in-Ok.ensures.entries
    ∙ put-entry sent_node sent_row (λ e. refl) c.args.node c.args.sent c.self.inside.rows.entries
    ∙ ap (with_row sent_node (sent_row (c.args.node, c.args.sent))) c.self.view_is
