use Rattle.std.proofs.Common.{ap, length, subst, sym, ◌∙◌}
use Rattle.std.proofs.lemmas.List.{with_items_is}
use Rattle.swarm_objects.specs.Rows.{IsRising, executor_task}
use Rattle.swarm_objects.specs.Agents.NodeAgents.{lost}
use Rattle.swarm_agent.proofs.RowPlaces.{all_rise, lost-task}
use Rattle.swarm_agent.specs.Inside.Saying.{unsaid}
use Rattle.swarm_agent.specs.Inside.Sleeping.{AllSleepUntil}
use Rattle.swarm_agent.proofs.executors.Executors.lose.Goals as goal

pub invariant_of-self : goal.invariant_of-self
invariant_of-self c =
    let size = c.lose_all.auto.rows ∙ ap length c.as_mut_slice.ensures.value ∙ sym c.self.inside.rows.ok.0 in
    record {
      rising = subst (IsRising executor_task) (sym (with_items_is c.self.inside.rows c.lose_all.new.rows size))
          (all_rise (lost 0) c.self.inside.rows.items c.as_mut_slice.result.now c.lose_all.new.rows lost-task
          c.self.invariant.rising c.as_mut_slice.ensures.value c.lose_all.ensures);
      sleeping = subst (AllSleepUntil c.least_wake-self-inside.result) c.as_slice.ensures.value c.least_wake-self-inside.ensures;
      said = sym (c.count_unsaid-self-inside.ensures ∙ ap unsaid c.as_slice-2.ensures.value);
    }
