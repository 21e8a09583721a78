use Rattle.std.proofs.Common.{List, [], rules, subst, sym}
use Rattle.swarm_model.specs.History.{replay}
use Rattle.swarm_objects.specs.declared.calls.Entry.{Entry}
use Rattle.swarm_world.proofs.world.World.new.Goals as goal
use Rattle.swarm_world.specs.Inside.Marks.{IsMarked}
use Rattle.swarm_world.specs.Inside.Parts.{StandsFor}
use Rattle.swarm_world.specs.declared.parts.Parts.{Parts}

pub invariant_of-result : goal.invariant_of-result
invariant_of-result c =
    let boxed = c.in-Ok-new-2.ensures.ok in
    let stands = subst (λ (p : Parts). StandsFor p (replay [])) (sym boxed) c.in-Ok-new.ensures in
    record {
      legal = search rules;
      stands =
          subst (λ (h : List Entry). StandsFor c.in-Ok-new-2.parts.value (replay h)) (sym c.in-Ok.ensures.items) stands;
      marks =
          subst (λ m. IsMarked m c.in-Ok-new-2.parts.value) (sym c.in-Ok-new-3.ensures.ok)
          (c.new-3.ensures c.in-Ok-new-2.parts.value (record { history = []; legal = search rules; stands = stands }));
      spare = search rules;
    }
