use Rattle.std.proofs.Common.{ap, arith, subst, sym, ◌+◌, ◌∙◌}
use Rattle.swarm_duties.proofs.Entries.{seen_order}
use Rattle.swarm_duties.proofs.Reached.{order, orderly, usable}
use Rattle.swarm_objects.specs.Usable.{IsUsableWorld}
use Rattle.swarm_objects.specs.Duties.{effect_by}
use Rattle.swarm_objects.specs.World.{World}
use Rattle.swarm_plain.specs.Plain.{world_of}
use Rattle.swarm_duties.proofs.effects.do_seen.Goals as goal

pub overflow_add-plain : goal.overflow_add-plain
overflow_add-plain c = omega (arith, (usable (world_of c.args.plain.now) c.requires.reached).small.entries)

pub perform-requires : goal.perform-requires
perform-requires c =
    subst IsUsableWorld (sym c.in_ok-copy.ensures) (usable (world_of c.args.plain.now) c.requires.reached)

pub end_seen-requires-clause-room : goal.end_seen-requires-clause-room
end_seen-requires-clause-room c = omega (arith, (usable (world_of c.args.plain.now) c.requires.reached).small.entries)

pub end_seen-requires-clause-old : goal.end_seen-requires-clause-old
end_seen-requires-clause-old c = order (world_of c.args.plain.now) (usable (world_of c.args.plain.now) c.requires.reached)

pub end_seen-requires-clause-new : goal.end_seen-requires-clause-new
end_seen-requires-clause-new c =
    let w = world_of c.args.plain.now in
    seen_order w (world_of c.perform.new.plain) c.args.duty (orderly w c.requires.reached) c.requires.due
    (c.in_ok-perform.ensures.ok ∙ ap (λ (u : World). effect_by (w.entries + 1) u c.args.duty) c.in_ok-copy.ensures)
