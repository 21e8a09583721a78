-- The tasks that are placed on a node.
use Rattle.std.proofs.Common.{◌≡◌, ℕ, Bool, List, sym, ap, ◌∙◌}
use Rattle.std.proofs.lemmas.List.Sums.{length-filter, sum_by-cons}
use Rattle.std.specs.Prelude.{◌&&◌, count_by, filter, length}
use Rattle.swarm_objects.proofs.Filters.{filter_within}
use Rattle.swarm_objects.specs.Nodes.BestNode.{load}
use Rattle.swarm_objects.specs.Nodes.Filters.{here}
use Rattle.swarm_objects.specs.Nodes.Holdings.{is_placed_on, tasks_placed_on}
use Rattle.swarm_objects.specs.Tasks.Words.{is_live, is_of, is_on, is_placed}
use Rattle.swarm_objects.specs.World.{Tables}
use Rattle.swarm_objects.proofs.Few.{few_among, few_nodes}
use Rattle.swarm_objects.proofs.WalkLemmas.{count_by_no, count_by_yes}

pub ruleset sum_steps = (sum_by-cons, few_among)

pub ruleset count_steps = (count_by_yes, count_by_no, few_among)

pub ruleset refusal_steps = (count_by_yes, count_by_no, few_nodes)

count_within : {X : Type 0} (p q : X → Bool) (xs : List X) → count_by q (filter p xs) ≡ count_by (λ x. q x && p x) xs
count_within p q xs =
    sym (length-filter q (filter p xs)) ∙ ap length (filter_within p q xs) ∙ length-filter (λ x. q x && p x) xs

pub placed_is : (t : Tables) (node : ℕ) → filter is_placed (filter (is_on node) t.tasks) ≡ tasks_placed_on t node
placed_is t node = filter_within (is_on node) is_placed t.tasks

pub here_is : (t : Tables) (node service : ℕ)
    → count_by (λ x. is_of service x && is_live x) (tasks_placed_on t node) ≡ here t node service
here_is t node service = count_within (is_placed_on node) (λ x. is_of service x && is_live x) t.tasks

pub load_is : (t : Tables) (node : ℕ) → count_by is_live (tasks_placed_on t node) ≡ load t node
load_is t node = count_within (is_placed_on node) is_live t.tasks
