use Rattle.std.proofs.Common.{ap, ◌∙◌}
use Rattle.std.specs.Slice.Iter.{iter_rest}
use Rattle.std.specs.Option.{option_map}
use Rattle.swarm_agent.proofs.Changes.{near-above}
use Rattle.swarm_agent.specs.Agent.{phases, task_first}
use Rattle.swarm_objects.specs.Bounds.{has_near_times}
use Rattle.swarm_objects.specs.Rows.{first_of}
use Rattle.swarm_agent.proofs.looks.phase_after.Goals as goal

pub loop-executor-init : goal.loop-executor-init
loop-executor-init c =
    let rows = ap iter_rest c.into_iter-executor-iterator.ensures.into_iter_gives ∙ c.above-executor-items.ensures.rows in
    record {
      near = rw rows (near-above has_near_times c.args.after c.args.executors.now c.requires);
      first = ap (λ es. option_map task_first (first_of (phases es))) rows;
    }
