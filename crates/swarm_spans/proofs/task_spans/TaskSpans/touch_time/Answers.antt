use Rattle.std.proofs.Common.{refl}
use Rattle.swarm_spans.proofs.TasksCovered.{expires_at, orphans_at, raises_at, schedules_all}
use Rattle.swarm_spans.proofs.task_spans.TaskSpans.touch_time.Goals as goal
use Rattle.swarm_spans.specs.TasksCovered.{at_time}

pub returns : goal.returns
returns g c =
    let t = g.R.Rows.tables c.args.rows.now in
    let usable = c.requires.usable in
    record {
      goes_on = λ clock le are. record {
        expires =
            expires_at c.args.until t c.args.self.now.expires c.args.ends.now c.join.new.self c.requires.ends
            c.join.ensures.wider c.join.ensures.all clock le;
        orphans = orphans_at t clock c.tasks_on_down-self.result c.tasks_on_down-self.ensures;
        rejects = record { has = λ x h due. are.rejects.has x h due };
        restarts = record { has = λ x h due. are.restarts.has x h due };
        goes = record { has = λ x h due. are.goes.has x h due };
        olds = record { has = λ x h due. are.olds.has x h due };
        deletes = record { has = λ x h due. are.deletes.has x h due };
        addresses = record { has = λ x h due. are.addresses.has x h due };
        notes = record { has = λ x h due. are.notes.has x h due };
        raises = raises_at t clock c.args.self.now.to_wait c.join-2.new.self are.to_wait c.join-2.ensures.all;
        schedules =
            schedules_all t (at_time clock t) c.args.self.now.to_schedule c.args.self.now.schedules c.join-3.new.self refl usable
            are.to_schedule c.join-3.ensures.all are.schedules c.join-3.ensures.wider;
        to_wait = are.to_wait;
        to_schedule = are.to_schedule;
        to_allocate = are.to_allocate;
      };
    }
