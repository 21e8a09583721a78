use Rattle.std.proofs.Common.{◌+◌, sym, subst, arith}
use Rattle.swarm_top.proofs.team.work_all.Goals as goal
use Rattle.swarm_top.specs.Inside.Workers.{HasWorked, IsReady}

pub for_each_mut-requires-clause-accepts : goal.for_each_mut-requires-clause-accepts
for_each_mut-requires-clause-accepts g c = λ shared sent i p below e. (
  c.requires.workers,
  (let count = c.requires.count in omega (arith, count, below)),
  subst (IsReady c.args.cluster.now.cell (i + 1)) (sym e) (c.requires.ready i p.now below),
)

pub returns-clause-worked : goal.returns-clause-worked
returns-clause-worked g c = λ k d below.
    let at = (c.for_each_mut.ensures k d (omega (arith, below))).1 in
    subst (HasWorked c.args.cluster.now.cell c.args.workers (k + 1)) at.left at.call
