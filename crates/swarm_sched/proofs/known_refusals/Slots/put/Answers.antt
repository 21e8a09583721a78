use Rattle.std.proofs.Common.{◌∙◌}
use Rattle.std.specs.Prelude.{◌%◌}
use Rattle.swarm_sched.proofs.Remembering.{slot_written, so_far_set}
use Rattle.swarm_sched.proofs.known_refusals.Slots.put.Goals as goal

pub invariant_of-self : goal.invariant_of-self
invariant_of-self c =
    so_far_set c.self.inside.round (c.args.node % c.len.result) c.self.inside.items.items c.in_round.result
    c.in_round.ensures.so_far c.self.invariant

pub returns : goal.returns
returns c =
    slot_written c.self.inside.round c.args.node c.len.result c.self.inside.items.items c.args.self.now
    c.in_round.result c.args.refusal c.self.view_is (c.len.ensures ∙ c.self.inside.items.ok.0) c.in_round.ensures.same
