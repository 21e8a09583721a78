use Rattle.std.proofs.Common.{ap, length, subst, sym, ◌∙◌}
use Rattle.std.proofs.lemmas.List.{with_items_is}
use Rattle.swarm_objects.specs.Rows.{IsRising, executor_task}
use Rattle.swarm_agent.specs.Inside.Named.{named_or_gone}
use Rattle.swarm_agent.proofs.RowPlaces.{all_rise, named-task}
use Rattle.swarm_agent.specs.Inside.Saying.{unsaid}
use Rattle.swarm_agent.specs.Inside.Sleeping.{AllSleepUntil}
use Rattle.swarm_agent.proofs.executors.Executors.leave_out.Goals as goal

pub invariant_of-self : goal.invariant_of-self
invariant_of-self c =
    let size = c.leave_all_out.auto.rows ∙ ap length c.as_mut_slice.ensures.value ∙ sym c.self.inside.rows.ok.0 in
    record {
      rising = subst (IsRising executor_task) (sym (with_items_is c.self.inside.rows c.leave_all_out.new.rows size))
          (all_rise (named_or_gone c.args.named.now) c.self.inside.rows.items c.as_mut_slice.result.now c.leave_all_out.new.rows
          (named-task c.args.named.now) c.self.invariant.rising c.as_mut_slice.ensures.value c.leave_all_out.ensures);
      sleeping = subst (AllSleepUntil c.least_wake-self-inside.result) c.as_slice.ensures.value c.least_wake-self-inside.ensures;
      said = sym (c.count_unsaid-self-inside.ensures ∙ ap unsaid c.as_slice-2.ensures.value);
    }
