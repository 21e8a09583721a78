-- The tasks that fit in a node's resources when it opens a session.
use Rattle.std.proofs.Common.{◌≡◌, ℕ, List, [], ◌++◌, ◌≤◌, length, take, drop, ap, sym, ◌∙◌, append-nil}
use Rattle.std.proofs.lemmas.List.{drop_all, take_all}
use Rattle.swarm_objects.proofs.Within.{after_kept, within}
use Rattle.swarm_objects.specs.Nodes.Opening.{tasks_within}
use Rattle.swarm_objects.specs.declared.tasks.Task.{Task}

-- once no task is left, all are so
pub all_within : (version clock node cpu mem cpu_left mem_left i : ℕ) (tasks old : List Task) → length tasks ≤ i →
    take i tasks ++ within version clock node cpu_left mem_left (drop i tasks) ≡ within version clock node cpu mem old →
    tasks ≡ tasks_within version clock node cpu mem old
all_within version clock node cpu mem cpu_left mem_left i tasks old le so_far =
    sym (append-nil tasks)
    ∙ ap (λ xs. xs ++ []) (sym (take_all i tasks le))
    ∙ ap (λ xs. take i tasks ++ within version clock node cpu_left mem_left xs) (sym (drop_all i tasks le))
    ∙ so_far
    ∙ sym (after_kept version clock node (record { cpu = cpu; mem = mem; tasks = [] }) old)
