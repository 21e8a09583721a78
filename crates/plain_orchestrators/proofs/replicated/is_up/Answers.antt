use Rattle.std.specs.Prelude.{◌&&◌}
use Rattle.swarm_plain.proofs.Numbers.{any_at}
use Rattle.swarm_objects.specs.Tasks.Words.{is_live, is_running}
use Rattle.swarm_plain.specs.Plain.{tables_of}
use Rattle.plain_orchestrators.proofs.replicated.is_up.Goals as goal

pub returns : goal.returns
returns c =
    let s = c.args.service.now in
    any_at (tables_of c.args.plain.now) s c.args.number c.as_slice.result.now c.place_at-place.result
    (λ x. is_live x && is_running x) c.any_up.result c.as_slice.ensures c.place_at-place.ensures c.any_up.ensures
