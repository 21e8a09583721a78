-- The line that sums up a world.
use Rattle.std.specs.Prelude.{ℕ, Bool, ◌&&◌, ◌==◌, List, ◌++◌, length, count_by, codes, decimal}
use Rattle.swarm_objects.specs.Tasks.Words.{is_live}
use Rattle.swarm_objects.specs.Values.Ranks.{rank}
use Rattle.swarm_objects.specs.World.{Tables, World}
use Rattle.swarm_objects.specs.declared.tasks.Task.{Task}
use Rattle.swarm_objects.specs.declared.tasks.TaskState.{TaskState}
use Rattle.swarm_objects.specs.declared.tasks.TaskState.TheVariants as state

-- a live task that was seen in this state
unfoldable pub is_live_in : TaskState → Task → Bool
is_live_in seen t = is_live t && rank t.state == rank seen

unfoldable pub rows_text : ℕ → ℕ → ℕ → List ℕ
rows_text nodes services tasks =
    codes "nodes " ++ decimal nodes ++ codes " services " ++ decimal services ++ codes " tasks " ++ decimal tasks

abbrev pub counts_line : ℕ → ℕ → ℕ → ℕ → ℕ → List ℕ
counts_line nodes services tasks running entries =
    rows_text nodes services tasks ++ codes " running " ++ decimal running ++ codes " entries " ++ decimal entries
    ++ codes "\n"

-- the rows of each table, how many live tasks were seen running, and how many entries there are
abbrev pub summary_of : Tables → ℕ → List ℕ
summary_of t entries =
    counts_line (length t.nodes) (length t.services) (length t.tasks) (count_by (is_live_in state.Running) t.tasks)
    entries

abbrev pub summary : World → List ℕ
summary w = summary_of w.tables w.entries
