use Rattle.std.specs.Option.{option_copied}
use Rattle.swarm_index.proofs.PageSteps.{next_here, next_past}
use Rattle.swarm_index.proofs.boxes.Boxes.next.Goals as goal

pub returns-in-Some : goal.returns-in-Some
returns-in-Some g c = next_here c.self.inside.pages.items c.args.self.now c.self.view_is c.self.invariant _ _ _ c.page_of-key.ensures c.place_of-at.ensures c.in-Some.row.now c.in-Some.ensures

pub returns-in-None : goal.returns-in-None
returns-in-None g c = next_past c.self.inside.pages.items c.args.self.now c.self.view_is c.self.invariant _ _ _ c.page_of-key.ensures c.place_of-at.ensures (option_copied c.first_past.result) c.in-None.ensures c.first_past.ensures
