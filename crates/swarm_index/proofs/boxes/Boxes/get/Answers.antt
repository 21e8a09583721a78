use Rattle.std.proofs.Common.{ap, sym, ◌∙◌}
use Rattle.swarm_index.proofs.PageSteps.{at_long, at_row, no_row}
use Rattle.swarm_index.specs.Inside.Boxes.{on_page}
use Rattle.swarm_index.proofs.boxes.Boxes.get.Goals as goal

pub get-requires : goal.get-requires
get-requires g c = at_long c.self.inside.pages.items c.args.self.now c.self.view_is c.self.invariant _ _ _ c.page_of-key.ensures c.place_of-at.ensures _ (ap on_page (sym c.in-Some.ensures))

pub returns-in-Some : goal.returns-in-Some
returns-in-Some g c = c.get.ensures ∙ at_row c.self.inside.pages.items c.args.self.now c.self.view_is c.self.invariant _ _ _ c.page_of-key.ensures c.place_of-at.ensures _ (ap on_page (sym c.in-Some.ensures))

pub returns-in-None : goal.returns-in-None
returns-in-None g c = no_row c.self.inside.pages.items c.args.self.now c.self.view_is c.self.invariant _ _ _ c.page_of-key.ensures c.place_of-at.ensures c.in-None.ensures
