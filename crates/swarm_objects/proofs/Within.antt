-- The tasks that fit in a node's resources when it opens a session, told from the front.
use Rattle.std.proofs.Common.{◌≡◌, ℕ, Bool, true, false, cond, List, [], ◌∷◌, ◌++◌, ◌-◌, sym, ◌∙◌, append_assoc, append-nil}
use Rattle.std.specs.Prelude.{fold, if◌then◌else◌, nat_le, ◌&&◌}
use Rattle.swarm_objects.specs.Changes.{in_state}
use Rattle.swarm_objects.specs.Nodes.Holdings.{is_placed_on}
use Rattle.swarm_objects.specs.Nodes.Opening.{TakenSoFar, fits_in, keep_other}
use Rattle.swarm_objects.specs.declared.tasks.Task.{Task}
use Rattle.swarm_objects.specs.declared.tasks.TaskState.TheVariants as state

-- the tasks, where so much is left for them
abbrev pub within : ℕ → ℕ → ℕ → ℕ → ℕ → List Task → List Task
within version clock node cpu mem [] = []
within version clock node cpu mem (x ∷ xs) =
    if is_placed_on node x
    then (
    if nat_le x.template.cpu cpu && nat_le x.template.mem mem
    then x ∷ within version clock node (cpu - x.template.cpu) (mem - x.template.mem) xs
    else in_state version clock state.Rejected x ∷ within version clock node cpu mem xs
    )
    else x ∷ within version clock node cpu mem xs

one_more : (version clock node : ℕ) (kept : TakenSoFar) (x : Task) (xs : List Task) (on fits : Bool) →
    let left = λ (k : TakenSoFar). k.tasks ++ within version clock node k.cpu k.mem xs in
    left (cond on (cond fits
    (record { cpu = kept.cpu - x.template.cpu; mem = kept.mem - x.template.mem; tasks = kept.tasks ++ x ∷ [] })
    (record kept { tasks = kept.tasks ++ in_state version clock state.Rejected x ∷ [] }))
    (record kept { tasks = kept.tasks ++ x ∷ [] }))
    ≡ kept.tasks ++ cond on (cond fits
    (x ∷ within version clock node (kept.cpu - x.template.cpu) (kept.mem - x.template.mem) xs)
    (in_state version clock state.Rejected x ∷ within version clock node kept.cpu kept.mem xs))
    (x ∷ within version clock node kept.cpu kept.mem xs)
one_more version clock node kept x xs true true = append_assoc kept.tasks (x ∷ []) _
one_more version clock node kept x xs true false =
    append_assoc kept.tasks (in_state version clock state.Rejected x ∷ []) _
one_more version clock node kept x xs false true = append_assoc kept.tasks (x ∷ []) _
one_more version clock node kept x xs false false = append_assoc kept.tasks (x ∷ []) _

pub after_kept : (version clock node : ℕ) (kept : TakenSoFar) (tasks : List Task) →
    (fold (keep_other version clock node) kept tasks).tasks
    ≡ kept.tasks ++ within version clock node kept.cpu kept.mem tasks
after_kept version clock node kept [] = sym (append-nil kept.tasks)
after_kept version clock node kept (x ∷ xs) =
    after_kept version clock node (keep_other version clock node kept x) xs
    ∙ one_more version clock node kept x xs (is_placed_on node x) (fits_in kept x)
