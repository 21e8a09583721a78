use Rattle.std.proofs.Common.{ap}
use Rattle.std.specs.Option.{option_copied}
use Rattle.swarm_model.specs.Calls.Refusals.{conflict}
use Rattle.swarm_model.proofs.Base.Updates.{found-is, passed, rolled-back}
use Rattle.swarm_plain.proofs.Plain.rollback_service.Goals as goal
use Rattle.swarm_plain.specs.Plain.{tables_of, world_of}

pub returns : goal.returns
returns c =
    let old = c.args.self.now in
    let s = c.in-Some.service.now in (
      rolled-back c.args.version (world_of old) c.args.name.now c.args.asked s c.in_ok-new.new c.in_ok-spec.spec
          c.in-Some-previous.previous c.put_row.new.rows
          (found-is (tables_of old) c.as_slice.result.now c.args.name.now (option_copied c.service_named.result) s
          c.as_slice.ensures c.service_named.ensures (ap option_copied c.in-Some.is))
          (passed c.check_version.result c.in_ok-check_version.field-0 (conflict c.args.asked s.version) c.check_version.ensures
          c.in_ok-check_version.was)
          c.in-Some-previous.is c.in_ok-spec.ensures c.in_ok-new.ensures c.in_ok-put_row.ensures.ok,
      tt,
    )
