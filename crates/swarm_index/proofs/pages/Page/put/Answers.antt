use Rattle.std.proofs.Common.{Some, refl}
use Rattle.swarm_index.proofs.InPage.{set_unboxed}
use Rattle.swarm_index.proofs.pages.Page.put.Goals as goal

pub returns : goal.returns
returns g c = set_unboxed c.self.inside.places.items c.args.at (Some c.args.row) (Some c.args.row.value) c.args.self.now c.self.view_is refl
