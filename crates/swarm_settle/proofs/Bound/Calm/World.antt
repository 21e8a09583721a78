-- What the tasks that are new at one time have while the time stands: they come no further than PREPARING, and the node
-- of a placed one stays fit.
use Rattle.std.proofs.Common.{Bool, List, arith, false, true, ℕ, ◌≡◌, ◌≤◌}
use Rattle.std.specs.Prelude.{◌&&◌, ◌==◌, ◌||◌}
use Rattle.swarm_model.proofs.Laws.GivesOut.{GivesOut}
use Rattle.swarm_model.proofs.Moves.Rows.{between-has}
use Rattle.swarm_model.proofs.Moves.Worlds.{IsOrderly}
use Rattle.swarm_objects.specs.Agents.Executors.{wants_to_stop}
use Rattle.swarm_objects.specs.Nodes.Filters.{takes_tasks}
use Rattle.swarm_objects.specs.Nodes.Words.{is_node_and, meets_all}
use Rattle.swarm_objects.specs.Rows.{Has, task_id}
use Rattle.swarm_objects.specs.Tasks.Words.{is_live, is_placed}
use Rattle.swarm_objects.specs.Values.Ranks.{rank}
use Rattle.swarm_objects.specs.World.{Tables, World}
use Rattle.swarm_objects.specs.declared.agents.Executor.{Executor}
use Rattle.swarm_objects.specs.declared.agents.NodeAgent.{NodeAgent}
use Rattle.swarm_objects.specs.declared.nodes.Node.{Node}
use Rattle.swarm_objects.specs.declared.tasks.Task.{Task}
use Rattle.swarm_objects.specs.declared.tasks.TaskState.TheVariants as state
use Rattle.swarm_objects.specs.declared.tasks.TaskState.{TaskState}
use Rattle.swarm_objects.specs.declared.templates.Constraint.{Constraint}

-- ACCEPTED, or PREPARING from now on
abbrev pub is_at_start : ℕ → ℕ → TaskState → Bool
is_at_start clock since state.Accepted = true
is_at_start clock since state.Preparing = since == clock
is_at_start clock since _ = false

-- it wants to stop, or has only begun
abbrev pub is_no_further : ℕ → Executor → Bool
is_no_further clock e = wants_to_stop e || is_at_start clock e.since e.state

-- the node takes tasks and meets these constraints
abbrev pub is_fit : Tables → List Constraint → Node → Bool
is_fit t constraints n = takes_tasks t n && meets_all constraints n

abbrev pub is_well_placed : Tables → Task → Bool
is_well_placed t x = is_node_and t (is_fit t x.template.constraints) x

-- the tables' part: tasks from the number on are new
pub record AreCalm (m : ℕ) (t : Tables) : Type 0 where
  pub made : (x : Task) → Has t.tasks x → m ≤ x.id → x.created ≡ t.clock
  pub early : (x : Task) → Has t.tasks x → m ≤ x.id → is_live x ≡ true → rank x.state ≤ rank state.Preparing
  pub placed : (x : Task) → Has t.tasks x → m ≤ x.id → is_placed x ≡ true → is_well_placed t x ≡ true

abbrev pub IsBegun : ℕ → ℕ → NodeAgent → Type 0
IsBegun m clock a = (e : Executor) → Has a.executors e → m ≤ e.task → is_no_further clock e ≡ true

pub record IsCalm (m : ℕ) (w : World) : Type 0 where
  pub tables : AreCalm m w.tables
  pub agents : (a : NodeAgent) → Has w.agents a → IsBegun m w.tables.clock a

-- At the start nothing is new.

pub calm-begins : (w : World) → IsOrderly w → GivesOut w → IsCalm w.tables.next_id w
calm-begins w orderly gives = record {
  tables = record {
    made = λ x h new. absurd (none x h new);
    early = λ x h new live. absurd (none x h new);
    placed = λ x h new there. absurd (none x h new);
  };
  agents = λ a h e k new.
      let below = ((gives.agents a h).executors.given e k).below in absurd (omega (arith, below, new));
}
  where
    none : (x : Task) → Has w.tables.tasks x → w.tables.next_id ≤ x.id → ⊥
    none x h new =
        let inside = between-has task_id 1 w.tables.next_id w.tables.tasks x orderly.tasks h in
        absurd (omega (arith, inside.1, new))
