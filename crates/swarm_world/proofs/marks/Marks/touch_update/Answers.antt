use Rattle.std.proofs.Common.{ap, refl, sym, ◌∙◌}
use Rattle.std.specs.Option.{option_copied}
use Rattle.swarm_world.proofs.Entering.{are_usable}
use Rattle.swarm_world.proofs.Recorded.{usable_rows}
use Rattle.swarm_world.proofs.Renewing.{none_touched, one_touched, renewed_marked}
use Rattle.swarm_world.proofs.marks.Marks.touch_update.Goals as goal
use Rattle.swarm_world.specs.Inside.Records.{tables_of}

pub touch_service-requires : goal.touch_service-requires
touch_service-requires c = usable_rows c.args.parts.now.records (are_usable c.args.parts.now c.requires)

pub touch_service-requires-in-Some : goal.touch_service-requires-in-Some
touch_service-requires-in-Some c = usable_rows c.args.parts.now.records (are_usable c.args.parts.now c.requires)

pub returns-in-Some : goal.returns-in-Some
returns-in-Some c =
    renewed_marked c.args.self.now
    (record c.args.self.now {
      tasks = c.touch_service.new.self;
      services = c.touch_service-in-Some.new.self;
      timed = c.touch_service-in-Some-2.new.self;
      known = c.forget_services.new.self;
    })
    c.args.parts.now c.args.name.now
    (one_touched (tables_of c.args.parts.now.records) c.args.name.now c.args.self.now _ c.in-Some.service.now
    (sym (sym c.service_named.ensures ∙ ap option_copied c.in-Some.is)) c.touch_service.ensures.stays
    c.touch_service.ensures.goes_on c.touch_service-in-Some.ensures.stays c.touch_service-in-Some.ensures.goes_on
    (c.touch_service-in-Some-2.ensures.stays (tables_of c.args.parts.now.records)) c.touch_service-in-Some-2.ensures.goes_on
    refl c.forget_services.ensures)

pub returns-in_default : goal.returns-in_default
returns-in_default c =
    renewed_marked c.args.self.now (record c.args.self.now { known = c.forget_services.new.self }) c.args.parts.now
    c.args.name.now
    (none_touched (tables_of c.args.parts.now.records) c.args.name.now c.args.self.now c.forget_services.new.self
    c.forget_services.ensures
    (sym (sym c.service_named.ensures ∙ ap option_copied c.in_default.is)))
