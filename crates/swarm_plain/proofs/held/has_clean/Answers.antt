use Rattle.swarm_plain.proofs.Numbers.{any_at}
use Rattle.swarm_objects.specs.Services.Words.{is_live_clean}
use Rattle.swarm_plain.specs.Plain.{tables_of}
use Rattle.swarm_plain.proofs.held.has_clean.Goals as goal

pub returns : goal.returns
returns c =
    let s = c.args.service.now in
    any_at (tables_of c.args.plain.now) s c.args.number c.as_slice.result.now c.place_at-place.result
    (is_live_clean s) c.any_clean.result c.as_slice.ensures c.place_at-place.ensures c.any_clean.ensures
