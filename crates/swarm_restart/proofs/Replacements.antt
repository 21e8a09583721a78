-- A task that stops, and the one that comes in its place.
use Rattle.std.proofs.Common.{◌≡◌, ℕ, List, [], ◌∷◌, None, Some, refl, sym, subst}
use Rattle.swarm_objects.specs.Changes.{wanted}
use Rattle.swarm_objects.specs.Loops.Restart.{by_policy, new_attempt, next_task, shut, with_attempt}
use Rattle.swarm_objects.specs.Rows.{row_at, task_id}
use Rattle.swarm_objects.specs.Sound.{IsSound}
use Rattle.swarm_objects.specs.Tasks.New.{with_task}
use Rattle.swarm_objects.specs.World.{Tables}
use Rattle.swarm_objects.specs.declared.rows.Change.{Change}
use Rattle.swarm_objects.specs.declared.rows.Change.TheVariants as change
use Rattle.swarm_objects.specs.declared.services.Service.{Service}
use Rattle.swarm_objects.specs.declared.tasks.Desired.TheVariants as desired
use Rattle.swarm_objects.specs.declared.tasks.Task.{Task}
use Rattle.swarm_objects.proofs.Applied.{makes_append, makes_found, makes_kept, makes_new, sound_changed, sound_kept}
use Rattle.swarm_objects.specs.ChangeLists.{Makes}

replaced_makes : (version : ℕ) (t : Tables) (s : Service) (x : Task) → IsSound t → Some x ≡ row_at task_id x.id t.tasks
    → Makes t
    (change.PutTask (wanted version desired.Shutdown x)
    ∷ change.Keep (new_attempt t s x.place)
    ∷ change.PutTask (next_task version t s x.place)
    ∷ [])
    (by_policy version (shut version x.id t) s x.place None)
replaced_makes version t s x sound e =
    let stopped = shut version x.id t in
    let a = new_attempt t s x.place in
    let kept = with_attempt stopped s x.place in
    let n = next_task version t s x.place in
    let sound' = sound_kept stopped a (sound_changed x.id (wanted version desired.Shutdown) t sound (λ y. refl)) in
    makes_append t kept (with_task kept n) (change.PutTask (wanted version desired.Shutdown x) ∷ change.Keep a ∷ [])
    (change.PutTask n ∷ [])
    (makes_append t stopped kept (change.PutTask (wanted version desired.Shutdown x) ∷ []) (change.Keep a ∷ [])
    (makes_found (wanted version desired.Shutdown) x.id t x sound e (λ y. refl)) (makes_kept stopped a))
    (makes_new kept n sound' refl)

pub replacement_makes : (version : ℕ) (t : Tables) (s : Service) (x : Task) (cs : List Change) → IsSound t
    → Some x ≡ row_at task_id x.id t.tasks
    → cs
    ≡ change.PutTask (wanted version desired.Shutdown x)
    ∷ change.Keep (new_attempt t s x.place)
    ∷ change.PutTask (next_task version t s x.place)
    ∷ []
    → Makes t cs (by_policy version (shut version x.id t) s x.place None)
replacement_makes version t s x cs sound e list =
    subst (λ ds. Makes t ds (by_policy version (shut version x.id t) s x.place None)) (sym list)
    (replaced_makes version t s x sound e)
