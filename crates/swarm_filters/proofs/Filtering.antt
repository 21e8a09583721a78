-- Nodes that pass two tests, and how many of the tested ones each filter refuses.
use Rattle.std.proofs.Common.{◌≡◌, ◌<◌, ℕ, Bool, List, [], None, Some, arith, refl, sym, true, ap}
use Rattle.std.proofs.lemmas.Bool.Decides.{nat_tests}
use Rattle.std.specs.Prelude.{count_by, filter, nat_lt, not}
use Rattle.swarm_filters.proofs.Tallies.{IsTally, ends}
use Rattle.swarm_filters.specs.Tested.{is_open}
use Rattle.swarm_objects.proofs.Filters.{count_both}
use Rattle.swarm_objects.proofs.Tests.{find_has, of-all}
use Rattle.swarm_objects.specs.Nodes.BestNode.{best_node, node_cmp}
use Rattle.swarm_objects.specs.Nodes.Filters.{admits, is_tested_on, passes, tested_nodes}
use Rattle.swarm_objects.specs.Nodes.Filters.{filter_numbers, is_refused_by, refusal_counts, refused_by}
use Rattle.swarm_objects.specs.Rows.{least_by}
use Rattle.swarm_objects.specs.World.{Tables}
use Rattle.swarm_objects.specs.declared.nodes.Node.{Node}
use Rattle.swarm_objects.specs.declared.tasks.Task.{Task}
use Rattle.swarm_objects.proofs.Applied.{filter_both}

-- a filter's number is below the length of the counts
pub is_number : (t : Tables) (x : Task) (n : Node) (k : ℕ) → Some k ≡ refused_by t x n → k < 6
is_number t x n k is =
    let has = (find_has (λ k. not (passes t x n k)) filter_numbers k (sym is)).0 in
    let few : nat_lt k 6 ≡ true = of-all (λ k. nat_lt k 6) filter_numbers k refl has in
    grind (arith, nat_tests)

-- the counts of the six filters
pub counts_are : (t : Tables) (x : Task) (counts : List ℕ) (left : List Node) → left ≡ [] →
    IsTally (λ n. is_tested_on x.place n.id) (refused_by t x) t.nodes counts left → counts ≡ refusal_counts t x
counts_are t x counts left none tally =
    let tested : Node → Bool = λ n. is_tested_on x.place n.id in
    ends tested (refused_by t x) t.nodes counts left
    (λ k. count_by (is_refused_by t x k) (tested_nodes t x)) (λ k. count_both tested (is_refused_by t x k) t.nodes)
    none tally

pub best_is : (t : Tables) (x : Task) → least_by (node_cmp t x) None (filter (is_open t x) t.nodes) ≡ best_node t x
unfolding is_open
best_is t x =
    ap (least_by (node_cmp t x) None) (sym (filter_both (λ (n : Node). is_tested_on x.place n.id) (admits t x) t.nodes))
