use Rattle.std.proofs.Common.{subst, sym}
use Rattle.swarm_agent.proofs.RowPlaces.{put_rises}
use Rattle.swarm_agent.proofs.Sleeping.{put-wakes}
use Rattle.swarm_agent.specs.Inside.Sleeping.{AllSleepUntil}
use Rattle.swarm_agent.proofs.executors.Executors.put.Goals as goal

pub invariant_of-self : goal.invariant_of-self
invariant_of-self c = record {
  rising = put_rises c.put.result c.args.executor c.self.inside.rows.items c.put.new.rows.items c.self.invariant.rising
      c.put.ensures.ok c.put.ensures.err;
  sleeping = subst (λ w. AllSleepUntil w c.put.new.rows.items) (sym c.min-self-inside.ensures)
      (put-wakes c.put.result c.wake_time.result c.self.inside.wakes c.args.executor c.self.inside.rows.items
      c.put.new.rows.items c.wake_time.ensures c.self.invariant.sleeping c.put.ensures.ok c.put.ensures.err);
  said = c.put.ensures.said;
}
