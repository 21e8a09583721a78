use Rattle.std.proofs.Common.{◌∙◌, ap, sym, arith}
use Rattle.std.specs.Option.{option_copied}
use Rattle.swarm_model.specs.Calls.Refusals.{has_name, service_name}
use Rattle.swarm_objects.specs.Rows.{service_id}
use Rattle.swarm_objects.specs.declared.replies.Refusal.TheVariants as refusal
use Rattle.swarm_model.proofs.Base.Updates.{passed-too}
use Rattle.swarm_model.specs.Calls.Services.{update_refusal}
use Rattle.swarm_store.proofs.Ops.{found-above, service-updated}
use Rattle.swarm_store.proofs.state.State.update_service.Goals as goal
use Rattle.swarm_store.specs.Inside.State.{tables_now}

pub put-requires : goal.put-requires
put-requires c =
    let t = tables_now c.args.self.now in
    let s = c.in-Some.service.now in
    let there = sym c.service_named.ensures ∙ ap option_copied c.in-Some.is in
    let above = found-above service_id (has_name service_name c.args.name.now) t.services s c.requires.ordered.services there in
    omega (arith, above, ap service_id c.in_ok-new.ensures)

pub returns-clause-done : goal.returns-clause-done
returns-clause-done c =
    let t = tables_now c.args.self.now in
    let s = c.in-Some.service.now in
    let there = sym c.service_named.ensures ∙ ap option_copied c.in-Some.is in
    service-updated c.args.version t c.args.name.now c.args.asked c.args.draft.now s c.in_ok-new.new c.in_ok-spec.spec
    c.put.new.self.rows c.requires there
    (passed-too c.check_update.result c.in_ok-check_update.field-0 refusal.NoMemory (update_refusal t c.args.asked c.args.draft.now s)
    c.check_update.ensures c.in_ok-check_update.was)
    c.in_ok-spec.ensures c.in_ok-new.ensures c.in_ok-put.ensures.ok
