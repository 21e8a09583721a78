-- The service's live tasks on a node, counted among the node's.
use Rattle.std.proofs.Common.{Bool, List, Some, ap, length, sym, ℕ, ◌∙◌, ◌≡◌}
use Rattle.std.proofs.lemmas.List.Sums.{length-filter}
use Rattle.std.specs.Prelude.{count_by, filter, ◌&&◌}
use Rattle.swarm_objects.proofs.Few.{few_among}
use Rattle.swarm_objects.proofs.Filters.{filter_within}
use Rattle.swarm_objects.proofs.WalkLemmas.{count_by_no, count_by_yes}
use Rattle.swarm_objects.specs.Loops.Replicated.{crowd}
use Rattle.swarm_objects.specs.Tasks.Words.{is_live, is_of, is_on}
use Rattle.swarm_objects.specs.World.{Tables}
use Rattle.swarm_objects.specs.declared.services.Service.{Service}
use Rattle.swarm_objects.specs.declared.tasks.Task.{Task}

count_within : {X : Type 0} (p q : X → Bool) (xs : List X) → count_by q (filter p xs) ≡ count_by (λ x. q x && p x) xs
count_within p q xs =
    sym (length-filter q (filter p xs)) ∙ ap length (filter_within p q xs) ∙ length-filter (λ x. q x && p x) xs

-- the service's live ones
abbrev pub is_live_of : Service → Task → Bool
is_live_of s x = is_of s.id x && is_live x

-- counted among the node's tasks, as among all
pub crowd_on : (t : Tables) (s : Service) (node : ℕ) →
    count_by (is_live_of s) (filter (is_on node) t.tasks) ≡ crowd t s (Some node)
crowd_on t s node = count_within (is_on node) (is_live_of s) t.tasks

pub ruleset crowd_steps = (count_by_yes, count_by_no, few_among)
