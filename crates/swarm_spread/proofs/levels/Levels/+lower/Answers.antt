use Rattle.std.proofs.Common.{arith, get_or, rules, ◌-◌}
use Rattle.swarm_spread.proofs.SumLemmas.{put_of_place, read_of_place, summed_of}
use Rattle.swarm_spread.proofs.levels.Levels.+lower.Goals as goal

pub overflow_sub-index_mut : goal.overflow_sub-index_mut
overflow_sub-index_mut t c =
    let summed = summed_of c.args.here.now c.args.self.now c.in-Level.is c.requires.sums in
    let bounds =
    read_of_place c.args.here.now c.in-Level.branches.items c.in-Level.sums.items c.args.place
    c.index-branch.result.now c.index_mut.result.now summed c.requires.within (search rules) (search rules) in
    let some = c.requires.some in omega (arith, bounds.0)

pub returns-in-Level-clause-sums : goal.returns-in-Level-clause-sums
returns-in-Level-clause-sums t c =
    let summed = summed_of c.args.here.now c.args.self.now c.in-Level.is c.requires.sums in
    let bounds =
    read_of_place c.args.here.now c.in-Level.branches.items c.in-Level.sums.items c.args.place
    c.index-branch.result.now c.index_mut.result.now summed c.requires.within (search rules) (search rules) in
    let first =
    put_of_place c.args.here.now c.in-Level.branches.items c.in-Level.sums.items c.args.place
    (get_or c.args.here.now c.args.place 0 - 1) c.index-branch.result.now c.index_mut.result.now
    (c.index_mut.result.now - 1) summed c.requires.within (search rules) (search rules)
    (let some = c.requires.some in omega (arith, bounds.0)) in
    (first, search rules)
