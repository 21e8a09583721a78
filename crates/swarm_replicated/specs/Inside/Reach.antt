-- How far changes reach.
use Rattle.std.specs.List.{list_all}
use Rattle.std.specs.Prelude.{Bool, List, None, Option, Some, if◌then◌else◌, true, ℕ, ◌==◌}
use Rattle.swarm_objects.specs.declared.rows.Change.{Change}
use Rattle.swarm_replicated.specs.declared.reach.Reach.TheVariants as reach
use Rattle.swarm_replicated.specs.declared.reach.Reach.{Reach}

-- to this number as well
abbrev pub with_one : ℕ → Reach → Reach
with_one k reach.Nothing = reach.One k
with_one k (reach.One j) = if k == j then reach.One k else reach.More
with_one k reach.More = reach.More

-- to what either of them reaches
abbrev pub joined : Reach → Reach → Reach
joined reach.Nothing b = b
joined (reach.One k) b = with_one k b
joined reach.More b = reach.More

-- the test passes for the number that is reached, if there is one; of more than one nothing is said
abbrev pub passes : (Option ℕ → Bool) → Reach → Bool
passes test reach.Nothing = test None
passes test (reach.One k) = test (Some k)
passes test reach.More = true

-- with each of the changes
abbrev pub reach_only : (Option ℕ → Change → Bool) → Reach → List Change → Bool
reach_only test r cs = list_all (λ c. passes (λ o. test o c) r) cs
