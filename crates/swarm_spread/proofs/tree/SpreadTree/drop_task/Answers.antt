use Rattle.std.proofs.Common.{refl, rules, ◌-◌}
use Rattle.swarm_spread.specs.Counts.{one_fewer}
use Rattle.swarm_spread.proofs.PlaceLemmas.{change_nowhere, change_there}
use Rattle.swarm_spread.proofs.tree.SpreadTree.drop_task.Goals as goal

pub returns-in-Some : goal.returns-in-Some
returns-in-Some c =
    change_there one_fewer c.args.node c.in-Some.place c.index_mut.result.now (c.index_mut.result.now - 1) c.self.inside.nodes
    c.self.inside.paths c.self.inside.here.items c.self.inside.levels c.args.self.now c.self.view_is c.self.invariant
    (search rules) (search rules) refl

pub returns-in-None : goal.returns-in-None
returns-in-None c =
    change_nowhere one_fewer c.args.node c.self.inside.nodes c.self.inside.paths c.self.inside.here.items c.self.inside.levels
    c.args.self.now c.self.view_is c.self.invariant (search rules)
