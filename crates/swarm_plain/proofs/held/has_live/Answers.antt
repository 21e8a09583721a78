use Rattle.swarm_plain.proofs.Numbers.{any_at}
use Rattle.swarm_objects.specs.Tasks.Words.{is_live}
use Rattle.swarm_plain.specs.Plain.{tables_of}
use Rattle.swarm_plain.proofs.held.has_live.Goals as goal

pub returns : goal.returns
returns c =
    let s = c.args.service.now in
    any_at (tables_of c.args.plain.now) s c.args.number c.as_slice.result.now c.place_at-place.result
    is_live c.has_live.result c.as_slice.ensures c.place_at-place.ensures c.has_live.ensures
