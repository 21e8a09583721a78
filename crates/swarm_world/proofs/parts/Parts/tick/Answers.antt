use Rattle.std.proofs.Common.{rules, ◌≡◌, ◌<◌, ap, refl, subst, sym, true}
use Rattle.swarm_objects.specs.Bounds.{far_end}
use Rattle.swarm_objects.specs.Limits.{is_tick}
use Rattle.swarm_objects.specs.World.{Tables}
use Rattle.swarm_store.specs.Stored.{Stored}
use Rattle.swarm_world.proofs.Answering.{ticking}
use Rattle.swarm_world.proofs.Entering.{are_usable}
use Rattle.swarm_world.proofs.parts.Parts.tick.Goals as goal

pub tick-requires-clause-clock : goal.tick-requires-clause-clock
tick-requires-clause-clock c =
    let are = are_usable c.args.self.now c.requires.at in
    subst (λ k. k < far_end) (sym (ap (λ (t : Tables). t.clock) are.has.store)) are.usable.clock

pub returns : goal.returns
returns c =
    let good : is_tick c.args.ms ≡ true = search rules in
    λ version h stands.
    ticking version h c.args.ms c.args.self.now _ stands good (ap (λ (s : Stored). s.tables) c.tick.ensures) refl refl
    refl refl refl
