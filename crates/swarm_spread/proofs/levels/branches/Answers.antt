use Rattle.swarm_spread.proofs.Branches.{first_more}
use Rattle.swarm_spread.proofs.levels.branches.Goals as goal

pub loop-place-preserved : goal.loop-place-preserved
loop-place-preserved c =
    first_more c.args.parents.now c.args.paths.now c.args.depth c.loop-place.place c.loop-place.branches c.first_alike.result
    c.add.new.list c.in_ok-add.ensures.ok c.loop-place.invariant.count c.loop-place.invariant.first c.first_alike.ensures
