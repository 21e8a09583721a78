use Rattle.std.proofs.Common.{ap, refl, subst, sym, ◌∙◌}
use Rattle.std.specs.Prelude.{map}
use Rattle.swarm_assign.proofs.ByNode.{removed}
use Rattle.swarm_assign.specs.Inside.Counted.{AreTold}
use Rattle.swarm_assign.specs.Sents.{sent_row}
use Rattle.swarm_objects.proofs.MapEntries.{remove-entry}
use Rattle.swarm_objects.specs.Rows.{drop_row, sent_node}
use Rattle.swarm_assign.proofs.sents.Sents.remove.Goals as goal

pub invariant_of-self : goal.invariant_of-self
invariant_of-self c =
    subst AreTold (sym c.remove.ensures.entries) (removed c.args.node c.self.inside.rows.entries c.self.invariant)

pub returns : goal.returns
returns c =
    ap (map sent_row) c.remove.ensures.entries
    ∙ remove-entry sent_node sent_row (λ e. refl) c.args.node c.self.inside.rows.entries c.self.invariant.rising
    ∙ ap (drop_row sent_node c.args.node) c.self.view_is
