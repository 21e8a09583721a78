use Rattle.std.proofs.Common.{List, ap, ◌∙◌}
use Rattle.swarm_model.specs.History.{replay}
use Rattle.swarm_objects.specs.declared.calls.Entry.{Entry}
use Rattle.swarm_world.proofs.world.World.is_halted.Goals as goal
use Rattle.swarm_world.specs.declared.parts.Parts.{Parts}

pub returns : goal.returns
returns c =
    ap (λ (p : Parts). p.halted) c.deref.ensures ∙ c.self.invariant.stands.has.halted
    ∙ ap (λ (h : List Entry). (replay h).halted) c.self.view_is
