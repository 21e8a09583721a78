-- No table has more rows than a count can tell.
use Rattle.std.proofs.Common.{ℕ, ◌+◌, ◌<◌, ◌≤◌, ◌^◌, List, [], ◌∷◌, length, arith}
use Rattle.swarm_objects.specs.Rows.{service_id, IsBelow, RisesFrom}
use Rattle.swarm_objects.specs.Usable.{IsUsable}
use Rattle.swarm_objects.specs.World.{Tables}
use Rattle.swarm_objects.proofs.Few.{few_tasks}
use Rattle.swarm_objects.proofs.WalkLemmas.{count_by_no, count_by_yes}

few_rows : {X : Type 0} (key : X → ℕ) (n bound : ℕ) (rows : List X) → RisesFrom key n rows → IsBelow key bound rows → n ≤ bound →
    length rows + n ≤ bound
few_rows key n bound [] rises below within = omega (arith, within)
few_rows key n bound (x ∷ rows) rises below within =
    let rest = few_rows key (key x) bound rows rises.1 below.1 (omega (arith, below.0)) in
    omega (arith, rest, rises.0)

pub few_services : (t : Tables) → IsUsable t → length t.services < 2 ^ 60
few_services t usable =
    let few = few_rows service_id 0 t.next_id t.services usable.sound.ordered.services usable.sound.below.services (omega arith) in
    omega (arith, few, usable.next_id)

pub ruleset live_steps = (count_by_yes, count_by_no, few_tasks)
