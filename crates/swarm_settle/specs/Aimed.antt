-- What tasks have in a quiet world: those that are to stop don't hold up, and the others run as is wanted.
use Rattle.std.specs.Prelude.{true, ◌≡◌}
use Rattle.swarm_settle.specs.Laws.{Wherever}
use Rattle.swarm_settle.specs.Rest.{IsQuiet}
use Rattle.swarm_objects.specs.Nodes.Words.{is_down, is_node_and}
use Rattle.swarm_objects.specs.Rows.{Has}
use Rattle.swarm_objects.specs.Tasks.Words.{is_live, is_placed, is_running, is_unwanted}
use Rattle.swarm_objects.specs.World.{World}
use Rattle.swarm_objects.specs.declared.tasks.Task.{Task}

pub record IsAimed (w : World) (x : Task) : Type 0 where
  -- placed and to stop, it is on a node that is DOWN
  pub stops : is_unwanted x ≡ true → is_placed x ≡ true → is_node_and w.tables (λ n. is_down n.state) x ≡ true
  -- live, what is wanted of it is its goal
  pub goal : is_live x ≡ true → x.desired ≡ x.goal
  -- live and placed, it runs
  pub runs : is_live x ≡ true → is_placed x ≡ true → is_running x ≡ true

abbrev pub AreAimed : World → Type 0
AreAimed w = (x : Task) → Has w.tables.tasks x → IsAimed w x

abbrev pub AimsLaw : Type 0
AimsLaw = Wherever IsQuiet AreAimed
