use Rattle.std.proofs.Common.{sym, ap, ◌∙◌}
use Rattle.swarm_objects.specs.Changes.{with_tables}
use Rattle.swarm_plain.specs.Plain.{tables_of, world_of}
use Rattle.plain_orchestrators.proofs.Restarting.{again, closes, delay_fits, stops}
use Rattle.plain_orchestrators.proofs.restart.restart.Goals as goal

pub returns-then-has_other-clause-ok : goal.returns-then-has_other-clause-ok
returns-then-has_other-clause-ok c =
    let t = tables_of c.args.plain.now in
    let w = world_of c.args.plain.now in
    c.want.ensures
    ∙ ap (with_tables w) (sym (stops c.args.version c.args.id t c.in-Some.task.now c.in-Some-service.service.now
    (sym c.in-Some.ensures) (sym c.in-Some-service.ensures) (sym c.has_other.ensures ∙ c.if-has_other.true)))

pub next_task-requires : goal.next_task-requires
next_task-requires c =
    delay_fits (world_of c.args.plain.now) c.in-Some.task.now.service c.in-Some-service.service.now c.requires
    (sym c.in-Some-service.ensures)

pub returns-in-Some-no_restart-clause-ok : goal.returns-in-Some-no_restart-clause-ok
returns-in-Some-no_restart-clause-ok c =
    let w = world_of c.args.plain.now in
    closes w c.args.version c.args.id c.in-Some.task.now c.in-Some-service.service.now c.in-Some-no_restart.cause
    (world_of c.want-in-Some-no_restart.new.plain) (world_of c.close_place.new.plain)
    (sym c.in-Some.ensures) (sym c.in-Some-service.ensures) (sym c.has_other.ensures ∙ c.if-has_other.false)
    (sym c.no_restart.ensures ∙ c.in-Some-no_restart.is) c.want-in-Some-no_restart.ensures c.close_place.ensures

pub returns-in_ok-next-in-None-clause-ok : goal.returns-in_ok-next-in-None-clause-ok
returns-in_ok-next-in-None-clause-ok c =
    let w = world_of c.args.plain.now in
    again w c.args.version c.args.id c.in-Some.task.now c.in-Some-service.service.now c.new_attempt-attempt.result
    c.in_ok-next-in-None.next c.try_again.result (world_of c.try_again.new.plain)
    (sym c.in-Some.ensures) (sym c.in-Some-service.ensures) (sym c.has_other.ensures ∙ c.if-has_other.false)
    (sym c.no_restart.ensures ∙ c.in-None.is) c.new_attempt-attempt.ensures c.in_ok-next-in-None.ensures
    c.try_again.ensures.ok
