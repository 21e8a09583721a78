use Rattle.std.proofs.Common.{rules}
use Rattle.swarm_pools.proofs.Parts.{taken_up_to}
use Rattle.swarm_pools.proofs.places.Places.+least_free.Goals as goal

pub returns-then-is_full-clause-least : goal.returns-then-is_full-clause-least
returns-then-is_full-clause-least t c =
    taken_up_to c.args.size c.least_free.result c.args.self.now c.in-Fork.is c.requires.shape
    (search rules) (λ place lt. search rules)
