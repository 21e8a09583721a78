use Rattle.std.proofs.Common.{◌∙◌, ap, sym}
use Rattle.std.specs.Option.{option_copied}
use Rattle.swarm_model.specs.Calls.Refusals.{has_name, service_name}
use Rattle.swarm_objects.specs.Rows.{service_id}
use Rattle.swarm_store.proofs.Ops.{found-above, service-removed}
use Rattle.swarm_store.proofs.state.State.remove_service.Goals as goal
use Rattle.swarm_store.specs.Inside.State.{tables_now}

pub remove-requires : goal.remove-requires
remove-requires c =
    let t = tables_now c.args.self.now in
    let s = c.in-Some.service.now in
    let there = sym c.service_named.ensures ∙ ap option_copied c.in-Some.is in
    found-above service_id (has_name service_name c.args.name.now) t.services s c.requires.ordered.services there

pub returns-clause-done : goal.returns-clause-done
returns-clause-done c =
    let t = tables_now c.args.self.now in
    let s = c.in-Some.service.now in
    let there = sym c.service_named.ensures ∙ ap option_copied c.in-Some.is in
    service-removed c.args.version t c.args.name.now s c.remove.new.self.rows c.forget.new.self.rows there c.in_ok-remove.ensures.ok
    c.in_ok-forget.ensures.ok
