-- Sums over the tasks placed on a node.
use Rattle.std.proofs.Common.{◌≡◌, ◌≤◌, ◌+◌, ◌^◌, ◌∷◌, ℕ, Bool, true, false, List, [], ◌∙◌, arith, subst}
use Rattle.std.specs.Prelude.{◌&&◌, ◌<◌, count_by, sum_by}
use Rattle.swarm_objects.proofs.Few.{few_among}
use Rattle.swarm_objects.proofs.Placing.{here_is, load_is}
use Rattle.swarm_objects.specs.Kinds.{bit}
use Rattle.swarm_objects.specs.Nodes.Filters.{here}
use Rattle.swarm_objects.specs.Nodes.Holdings.{is_placed_on, task_cpu, task_mem, tasks_placed_on}
use Rattle.swarm_objects.specs.Tasks.Words.{is_live, is_of}
use Rattle.swarm_objects.specs.Usable.{IsUsable}
use Rattle.swarm_objects.specs.World.{Tables}
use Rattle.swarm_objects.specs.declared.tasks.Task.{Task}
use Rattle.swarm_sched.specs.Inside.Totals.{AreLeft, AreTotals, HasRoom}
use Rattle.swarm_sched.specs.declared.totals.Totals.{Totals}

pub bit_small : (b : Bool) → bit b ≤ 1
bit_small true = omega arith
bit_small false = omega arith

pub has_room : (t : Tables) (node service : ℕ) (s : Totals) (here : ℕ) (x : Task) (from left : List Task) → IsUsable t →
    AreLeft service s here from (tasks_placed_on t node) → from ≡ x ∷ left → HasRoom s × (here + 1 < 2 ^ 64)
has_room t node service s here x from left usable before steps =
    let k : AreLeft service s here (x ∷ left) (tasks_placed_on t node) =
    subst (λ l. AreLeft service s here l (tasks_placed_on t node)) steps before in
    let few = few_among t (is_placed_on node) usable in (
      (omega (arith, few, k.cpu_fits), omega (arith, few, k.mem_fits), omega (arith, few, k.load_fits)),
      omega (arith, few, k.own_fits),
    )

pub totals_are : (t : Tables) (node service : ℕ) (s : Totals) (own : ℕ) (from : List Task) →
    AreLeft service s own from (tasks_placed_on t node) → from ≡ [] →
    (own ≡ here t node service) × AreTotals t node s
totals_are t node service s own from before none =
    let k : AreLeft service s own [] (tasks_placed_on t node) =
    subst (λ l. AreLeft service s own l (tasks_placed_on t node)) none before in
    let cpu : s.cpu ≡ sum_by task_cpu (tasks_placed_on t node) = omega (arith, k.cpu) in
    let mem : s.mem ≡ sum_by task_mem (tasks_placed_on t node) = omega (arith, k.mem) in
    let load : s.load ≡ count_by is_live (tasks_placed_on t node) = omega (arith, k.load) in
    let own_is : own ≡ count_by (λ x. is_of service x && is_live x) (tasks_placed_on t node) = omega (arith, k.own) in
    (own_is ∙ here_is t node service, (cpu, mem, load ∙ load_is t node))
