use Rattle.std.proofs.Common.{arith}
use Rattle.swarm_plain.specs.Plain.{world_of}
use Rattle.plain_placement.proofs.AllocatorEffects.{port_done, port_undone}
use Rattle.plain_placement.proofs.allocator.give_port.Goals as goal

pub returns : goal.returns
returns c =
    let w = world_of c.args.plain.now in
    let slice = c.as_mut_slice.result.now in
    let new = c.number_service.new.services in
    record {
      ok =
          port_done c.number_service.result c.args.version w c.args.service c.args.target c.args.udp c.in-Some.number
          slice
          new c.as_mut_slice.ensures.value (omega arith) c.in-Some.ensures c.number_service.ensures.ok;
      err =
          port_undone c.number_service.result w slice new c.as_mut_slice.ensures.value (omega arith)
          c.number_service.ensures.err;
    }
