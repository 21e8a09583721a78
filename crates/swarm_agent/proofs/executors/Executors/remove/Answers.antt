use Rattle.swarm_agent.proofs.RowPlaces.{drop_rises}
use Rattle.swarm_agent.proofs.Sleeping.{drop-wakes}
use Rattle.swarm_agent.proofs.executors.Executors.remove.Goals as goal

pub invariant_of-self : goal.invariant_of-self
invariant_of-self c = record {
  rising = drop_rises c.args.task c.self.inside.rows.items c.forget.new.rows.items c.self.invariant.rising
      c.forget.ensures.rows;
  sleeping = drop-wakes c.self.inside.wakes c.args.task c.self.inside.rows.items c.forget.new.rows.items
      c.self.invariant.sleeping c.forget.ensures.rows;
  said = c.forget.ensures.said;
}
