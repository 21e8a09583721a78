use Rattle.std.proofs.Common.{subst, sym}
use Rattle.swarm_agent.proofs.RowPlaces.{set_rises}
use Rattle.swarm_agent.proofs.Sleeping.{set-wakes}
use Rattle.swarm_agent.specs.Inside.Sleeping.{AllSleepUntil}
use Rattle.swarm_agent.proofs.executors.Executors.set.Goals as goal

pub invariant_of-self : goal.invariant_of-self
invariant_of-self c = record {
  rising = set_rises c.args.executor c.self.inside.rows.items c.replace.new.rows.items c.self.invariant.rising
      c.replace.ensures.rows;
  sleeping = subst (λ w. AllSleepUntil w c.replace.new.rows.items) (sym c.min-self-inside.ensures)
      (set-wakes c.wake_time.result c.self.inside.wakes c.args.executor c.self.inside.rows.items c.replace.new.rows.items
      c.wake_time.ensures c.self.invariant.sleeping c.replace.ensures.rows);
  said = c.replace.ensures.said;
}
