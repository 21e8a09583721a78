-- Tasks of which each node is told the same.
use Rattle.std.proofs.Common.{arith, Bool, Some, None, ap, cond, sym, subst, refl, true, false, ℕ, ◌≡◌, ◌∙◌}
use Rattle.std.proofs.lemmas.Bool.Decides.{nat_tests}
use Rattle.std.specs.Option.{option_eq}
use Rattle.std.specs.Prelude.{nat_le, nat_lt, not, ◌&&◌}
use Rattle.swarm_objects.specs.Agents.Messages.{assigned, is_assigned_on}
use Rattle.swarm_objects.specs.Rows.{row_at, task_id}
use Rattle.swarm_objects.specs.Same.{same_number}
use Rattle.swarm_objects.specs.Tasks.Words.{is_below_assigned}
use Rattle.swarm_objects.specs.Values.Ranks.{rank}
use Rattle.swarm_objects.specs.World.{Tables}
use Rattle.swarm_objects.specs.declared.tasks.Task.{Task}
use Rattle.swarm_objects.specs.declared.tasks.TaskState.TheVariants as state
use Rattle.swarm_world.specs.Inside.Touches.{IsToldAlike}

not-below : (a b : ℕ) → nat_le b a ≡ not (nat_lt a b)
not-below a b = go (nat_lt a b) refl
  where
    go : (c : Bool) → nat_lt a b ≡ c → nat_le b a ≡ not c
    go true lt = grind (arith, nat_tests, lt)
    go false lt = grind (arith, nat_tests, lt)

reaches : (x y : Task) → is_below_assigned x ≡ is_below_assigned y →
    nat_le (rank state.Assigned) (rank x.state) ≡ nat_le (rank state.Assigned) (rank y.state)
reaches x y below =
    not-below (rank x.state) (rank state.Assigned) ∙ ap not below ∙ sym (not-below (rank y.state) (rank state.Assigned))

same-assigned : (x y : Task) → x.id ≡ y.id → x.desired ≡ y.desired → x.template.workload ≡ y.template.workload →
    assigned x ≡ assigned y
same-assigned x y id desired workload = λ i. record { task = id i; desired = desired i; workload = workload i }

pub told_alike : (x y : Task) → x.id ≡ y.id → is_below_assigned x ≡ is_below_assigned y → x.node ≡ y.node →
    x.desired ≡ y.desired → x.template.workload ≡ y.template.workload → IsToldAlike x (Some y)
told_alike x y id below node desired workload = λ n.
    let on : is_assigned_on n x ≡ is_assigned_on n y = λ i. reaches x y below i && option_eq same_number (node i) (Some n) in
    λ i. cond (on i) (Some (same-assigned x y id desired workload i)) None

pub row_alike : (t : Tables) (x y : Task) → Some y ≡ row_at task_id x.id t.tasks → IsToldAlike x (Some y) →
    IsToldAlike x (row_at task_id x.id t.tasks)
row_alike t x y row alike = subst (IsToldAlike x) row alike
