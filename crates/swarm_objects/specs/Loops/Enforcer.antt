-- The enforcer's duties: tasks on nodes that don't meet their constraints any more.
use Rattle.std.specs.Prelude.{ℕ, Bool, not, ◌&&◌, List}
use Rattle.swarm_objects.specs.Changes.{change_task, in_state}
use Rattle.swarm_objects.specs.Loops.Words.{duty_where}
use Rattle.swarm_objects.specs.Nodes.Words.{meets_all, is_node_and}
use Rattle.swarm_objects.specs.Tasks.Words.{is_live, is_placed}
use Rattle.swarm_objects.specs.World.{Tables}
use Rattle.swarm_objects.specs.declared.duties.Duty.{Duty}
use Rattle.swarm_objects.specs.declared.duties.Duty.TheVariants as duty
use Rattle.swarm_objects.specs.declared.nodes.Node.{Node}
use Rattle.swarm_objects.specs.declared.tasks.Task.{Task}
use Rattle.swarm_objects.specs.declared.tasks.TaskState.TheVariants as state

abbrev pub breaks_constraints : Task → Node → Bool
breaks_constraints x n = not (meets_all x.template.constraints n)

abbrev pub is_misplaced : Tables → Task → Bool
is_misplaced t x = is_live x && is_placed x && is_node_and t (breaks_constraints x) x

abbrev pub enforcer : Tables → List Duty
enforcer t = duty_where (is_misplaced t) (λ x. duty.Reject x.id) t.tasks

-- What they do.

abbrev pub after_reject : ℕ → Tables → ℕ → Tables
after_reject version t x = change_task x (in_state version t.clock state.Rejected) t
