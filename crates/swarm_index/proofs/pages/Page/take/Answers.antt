use Rattle.std.proofs.Common.{None, ap}
use Rattle.std.specs.Option.{option_map}
use Rattle.swarm_index.proofs.InPage.{set_unboxed}
use Rattle.swarm_index.proofs.pages.Page.take.Goals as goal

pub returns-clause-page : goal.returns-clause-page
returns-clause-page g c = set_unboxed c.self.inside.places.items c.args.at c.replace.new.dest None c.args.self.now c.self.view_is (ap (option_map (λ b. b.value)) c.replace.ensures.after)
