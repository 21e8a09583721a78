use Rattle.std.proofs.Common.{subst}
use Rattle.swarm_spans.specs.Spans.{IsWider}
use Rattle.swarm_world.proofs.Entering.{are_usable}
use Rattle.swarm_world.proofs.Recorded.{usable_rows}
use Rattle.swarm_world.proofs.Ticking.{ends_have, tick_marked}
use Rattle.swarm_world.proofs.marks.Marks.touch_time.Goals as goal
use Rattle.swarm_world.specs.Inside.Records.{tables_of}

pub narrow-requires : goal.narrow-requires
narrow-requires c = record {
  usable = usable_rows c.args.parts.now.records (are_usable c.args.parts.now c.requires.at);
  covers = c.requires.marks.rows.timed;
}

pub touch_time-requires : goal.touch_time-requires
touch_time-requires c = record {
  usable = usable_rows c.args.parts.now.records (are_usable c.args.parts.now c.requires.at);
  downs = c.narrow.ensures.downs;
  ends = record {
    each =
        ends_have c.times_that_no_step_looks_at.ensures c.args.parts.now c.requires.at c.args.self.now c.args.until
        c.wake.new.self.wakes c.wake.new.self.duties c.narrow.new.self.remotes c.ends-ends.result c.requires.marks
        (record { wider = c.wake.ensures.wider; woken = c.wake.ensures.woken; others = c.wake.ensures.others })
        c.narrow.ensures.remotes c.ends-ends.ensures.duties
        (subst (IsWider c.ends-ends.result) c.wake.ensures.waits c.ends-ends.ensures.waits) c.ends-ends.ensures.remotes;
  };
}

pub returns : goal.returns
returns c =
    tick_marked c.times_that_no_step_looks_at.ensures c.args.until c.args.self.now _ c.args.parts.now
    c.touch_time.ensures.goes_on
    (c.touch_time-2.ensures.goes_on (tables_of c.args.parts.now.records) (usable_rows c.args.parts.now.records (are_usable c.args.parts.now c.requires.at)) c.narrow.ensures.updates)
    c.narrow.ensures c.pass_time.ensures
    (record { wider = c.wake.ensures.wider; woken = c.wake.ensures.woken; others = c.wake.ensures.others })
    c.wake.ensures.tells c.wake.ensures.news c.wake.ensures.waits c.wake.ensures.steps c.requires.later
