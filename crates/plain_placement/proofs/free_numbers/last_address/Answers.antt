use Rattle.std.proofs.Common.{arith, rules}
use Rattle.swarm_objects.proofs.Subnets.{last_fits}
use Rattle.plain_placement.proofs.free_numbers.last_address.Goals as goal

pub returns-clause-fits : goal.returns-clause-fits
returns-clause-fits c = λ e. last_fits c.args.base c.args.length _ (search rules) (omega arith) e
