use Rattle.std.proofs.Common.{rules}
use Rattle.swarm_sched.proofs.Ranking.{ranking_fits, ranking_one}
use Rattle.swarm_sched.proofs.ranks.Ranks.new.Goals as goal

pub put-requires : goal.put-requires
put-requires c =
    ranking_fits c.args.nodes.now c.loop-entry.left.now c.in-Some.others.now c.in-Some.entry.now c.loop-entry.ranks
    c.in-Some.ensures.cases.0 c.loop-entry.invariant c.requires

pub loop-entry-preserved : goal.loop-entry-preserved
loop-entry-preserved c =
    ranking_one c.args.nodes.now c.loop-entry.left.now c.in-Some.others.now c.in-Some.entry.now c.loop-entry.ranks
    c.put.new.self c.in-Some.ensures.cases.0 c.loop-entry.invariant (c.put.ensures (search rules))
