use Rattle.std.proofs.Common.{ap, arith}
use Rattle.swarm_objects.specs.Rows.{service_id}
use Rattle.swarm_objects.specs.declared.replies.Refusal.TheVariants as refusal
use Rattle.swarm_model.proofs.Base.Updates.{passed-too}
use Rattle.swarm_store.proofs.Ops.{service-created}
use Rattle.swarm_store.proofs.state.State.create_service.Goals as goal
use Rattle.swarm_store.specs.Inside.State.{tables_now}

pub put-requires : goal.put-requires
put-requires c = omega (arith, ap service_id c.in_ok-service.ensures, c.requires.ids)

pub returns-clause-done : goal.returns-clause-done
returns-clause-done c =
    service-created c.args.version (tables_now c.args.self.now) c.args.name.now c.args.draft.now c.in_ok-service.service
    c.put.new.self.rows c.in_ok-next_id.next_id c.requires c.in_ok-next_id.ensures.id c.in_ok-service.ensures
    (passed-too c.check_new_service.result c.in_ok-check_new_service.field-0 refusal.NoMemory _ c.check_new_service.ensures
    c.in_ok-check_new_service.was) c.in_ok-put.ensures.ok
