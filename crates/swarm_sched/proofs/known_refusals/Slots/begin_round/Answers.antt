use Rattle.std.proofs.Common.{arith}
use Rattle.swarm_sched.proofs.Remembering.{empty_again}
use Rattle.swarm_sched.proofs.known_refusals.Slots.begin_round.Goals as goal

pub returns-in-Some : goal.returns-in-Some
returns-in-Some c done =
    empty_again c.self.inside.round c.in-Some.round c.self.inside.items.items c.args.self.now c.self.view_is
    c.self.invariant (omega (arith, c.in-Some.ensures))
