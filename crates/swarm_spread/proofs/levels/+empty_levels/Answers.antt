use Rattle.std.proofs.Common.{arith, rules}
use Rattle.swarm_spread.proofs.Branches.{next_branching, zero_summed}
use Rattle.swarm_spread.proofs.levels.+empty_levels.Goals as goal

pub empty_levels-requires : goal.empty_levels-requires
empty_levels-requires t c = (
  search rules,
  (
    search rules,
    (
      next_branching c.args.parents.now c.args.paths.now c.args.depth c.args.count c.deref.result.now c.requires.same
          (search rules) (omega arith) c.requires.deep,
      (omega arith, search rules),
    ),
  ),
)

pub returns-clause-sums : goal.returns-clause-sums
returns-clause-sums t c = (
  zero_summed c.args.parents.now c.args.paths.now c.args.depth c.in_ok-branches.branches.items
      c.in_ok-zeros.field-0.items (search rules) c.in_ok-branches.ensures.count c.in_ok-branches.ensures.first,
  search rules,
)

pub returns-clause-same : goal.returns-clause-same
returns-clause-same t c = (
  next_branching c.args.parents.now c.args.paths.now c.args.depth c.args.count c.in_ok-branches.branches.items
      c.requires.same c.in_ok-branches.ensures.first (omega arith) c.requires.deep,
  search rules,
)
