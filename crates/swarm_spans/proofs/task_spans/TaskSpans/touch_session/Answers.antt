use Rattle.std.proofs.Common.{refl}
use Rattle.swarm_spans.proofs.TasksCovered.{expires_but, schedules_all}
use Rattle.swarm_spans.proofs.task_spans.TaskSpans.touch_session.Goals as goal
use Rattle.swarm_spans.specs.TasksCovered.{with_sessions}

pub returns : goal.returns
returns c = record {
  goes_on = λ t next_id sessions usable but are. record {
    expires =
        expires_but c.args.node t next_id sessions c.args.self.now.expires c.add.new.self usable but c.add.ensures
        are.expires;
    orphans = record { has = λ x h due. are.orphans.has x h due };
    rejects = record { has = λ x h due. are.rejects.has x h due };
    restarts = record { has = λ x h due. are.restarts.has x h due };
    raises = record { has = λ x h due. are.raises.has x h due };
    goes = record { has = λ x h due. are.goes.has x h due };
    olds = record { has = λ x h due. are.olds.has x h due };
    deletes = record { has = λ x h due. are.deletes.has x h due };
    addresses = record { has = λ x h due. are.addresses.has x h due };
    notes = record { has = λ x h due. are.notes.has x h due };
    schedules =
        schedules_all t (with_sessions next_id sessions t) c.args.self.now.to_schedule c.args.self.now.schedules c.join.new.self refl
        usable are.to_schedule c.join.ensures.all are.schedules c.join.ensures.wider;
    to_wait = are.to_wait;
    to_schedule = are.to_schedule;
    to_allocate = are.to_allocate;
  };
}
