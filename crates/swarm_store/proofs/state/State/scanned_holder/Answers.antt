use Rattle.std.proofs.Common.{◌∙◌, ap, sym, Some}
use Rattle.std.specs.Option.{option_copied, option_eq}
use Rattle.std.specs.Prelude.{◌&&◌, not}
use Rattle.swarm_objects.proofs.RowLemmas.{fewer_above, first_begins, first_found, first_none, first_passed}
use Rattle.swarm_objects.specs.Rows.{service_id}
use Rattle.swarm_objects.specs.Same.{same_number}
use Rattle.swarm_objects.specs.Services.Ports.{holds_port}
use Rattle.swarm_objects.specs.declared.services.Service.{Service}
use Rattle.swarm_store.proofs.state.State.scanned_holder.Goals as goal

pub loop-service-init : goal.loop-service-init
loop-service-init c =
    first_begins service_id (λ (s : Service). not (option_eq same_number c.args.own (Some s.id)) && holds_port c.args.port.udp c.args.number s) service_id c.args.self.now.services.rows c.requires.ordered.services

pub loop-service-smaller : goal.loop-service-smaller
loop-service-smaller c =
    fewer_above service_id c.loop-service.after c.args.self.now.services.rows c.in-Some.service.now c.requires.ordered.services
    (ap option_copied (sym c.in-Some.is) ∙ c.next_service.ensures)

pub loop-service-preserved : goal.loop-service-preserved
loop-service-preserved c =
    sym (first_passed service_id (λ (s : Service). not (option_eq same_number c.args.own (Some s.id)) && holds_port c.args.port.udp c.args.number s) service_id c.loop-service.after c.args.self.now.services.rows c.in-Some.service.now
    c.requires.ordered.services (ap option_copied (sym c.in-Some.is) ∙ c.next_service.ensures)
    (sym c.is_other_holder.ensures ∙ c.if-is_other_holder.false))
    ∙ c.loop-service.invariant

pub returns-then-is_other_holder : goal.returns-then-is_other_holder
returns-then-is_other_holder c =
    sym (first_found service_id (λ (s : Service). not (option_eq same_number c.args.own (Some s.id)) && holds_port c.args.port.udp c.args.number s) service_id c.loop-service.after c.args.self.now.services.rows c.in-Some.service.now
    c.requires.ordered.services (ap option_copied (sym c.in-Some.is) ∙ c.next_service.ensures)
    (sym c.is_other_holder.ensures ∙ c.if-is_other_holder.true))
    ∙ c.loop-service.invariant

pub returns : goal.returns
returns c =
    sym (first_none service_id (λ (s : Service). not (option_eq same_number c.args.own (Some s.id)) && holds_port c.args.port.udp c.args.number s) service_id c.loop-service.after c.args.self.now.services.rows
    (ap option_copied (sym c.in_default.is) ∙ c.next_service.ensures))
    ∙ c.loop-service.invariant
