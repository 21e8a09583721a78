use Rattle.std.proofs.Common.{ap}
use Rattle.std.specs.Option.{option_copied}
use Rattle.swarm_objects.specs.declared.replies.Refusal.TheVariants as refusal
use Rattle.swarm_model.proofs.Base.Updates.{found-is, passed-too, updated}
use Rattle.swarm_plain.proofs.Plain.update_service.Goals as goal
use Rattle.swarm_model.specs.Calls.Services.{update_refusal}
use Rattle.swarm_plain.specs.Plain.{tables_of, world_of}

pub returns : goal.returns
returns c =
    let old = c.args.self.now in
    let s = c.in-Some.service.now in (
      updated c.args.version (world_of old) c.args.name.now c.args.asked c.args.draft.now s c.in_ok-new.new c.in_ok-spec.spec
          c.put_row.new.rows
          (found-is (tables_of old) c.as_slice.result.now c.args.name.now (option_copied c.service_named.result) s
          c.as_slice.ensures c.service_named.ensures (ap option_copied c.in-Some.is))
          (passed-too c.check_update.result c.in_ok-check_update.field-0 refusal.NoMemory
          (update_refusal (tables_of old) c.args.asked c.args.draft.now s) c.check_update.ensures c.in_ok-check_update.was)
          c.in_ok-spec.ensures c.in_ok-new.ensures c.in_ok-put_row.ensures.ok,
      tt,
    )
