use Rattle.std.proofs.Common.{sym}
use Rattle.swarm_objects.specs.Loops.Allocator.{with_port}
use Rattle.swarm_objects.specs.Rows.{service_id}
use Rattle.plain_placement.proofs.AllocatorEffects.{changed_none, number_taken, number_untaken}
use Rattle.plain_placement.proofs.allocator.number_service.Goals as goal

pub returns-in-Some : goal.returns-in-Some
returns-in-Some c =
    let services = c.args.services.now in
    let old = c.index-services-at.result in
    let new = c.take_number.new.service in
    record {
      ok =
          number_taken c.take_number.result c.args.id c.args.version c.args.number services c.in-Some.at old new
          c.requires
          c.in-Some.ensures c.index-services-at.is c.take_number.ensures.ok;
      err =
          number_untaken c.take_number.result services c.in-Some.at old new c.index-services-at.is
          c.take_number.ensures.err;
    }

pub returns-in-None-clause-ok : goal.returns-in-None-clause-ok
returns-in-None-clause-ok c =
    changed_none service_id c.args.id (with_port c.args.version c.args.number) c.args.services.now
    (sym c.in-None.ensures)
