use Rattle.std.proofs.Common.{◌∙◌, sym}
use Rattle.std.specs.Result.{is_ok}
use Rattle.std.specs.Vec.{vec_len}
use Rattle.swarm_sched.proofs.Remembering.{refilled_empty, so_far_refilled}
use Rattle.swarm_sched.proofs.known_refusals.Slots.fill.Goals as goal

pub invariant_of-self : goal.invariant_of-self
invariant_of-self c =
    so_far_refilled (is_ok c.resize.result) c.args.count (vec_len c.clear.new.self) c.clear.new.self.items
    c.resize.new.self.items c.clear.ensures.items c.clear.ensures.len c.resize.ensures.items

pub returns : goal.returns
returns c done =
    refilled_empty (is_ok c.resize.result) c.args.count (vec_len c.clear.new.self) c.clear.new.self.items
    c.resize.new.self.items c.clear.ensures.items c.clear.ensures.len c.resize.ensures.items
    (sym c.is_ok.ensures.value ∙ done)
