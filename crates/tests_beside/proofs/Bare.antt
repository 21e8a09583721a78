-- Changes may be applied to tables without their sessions where they may be applied to the tables.
use Rattle.std.proofs.Common.{◌≡◌, Bool, true, false, cond, List, [], ◌∷◌, refl, sym, subst}
use Rattle.swarm_objects.specs.Rows.{has_row, put_row, task_id}
use Rattle.swarm_objects.specs.Tasks.New.{with_task}
use Rattle.swarm_objects.specs.World.{Tables}
use Rattle.swarm_objects.specs.declared.rows.Change.{Change}
use Rattle.swarm_objects.specs.declared.rows.Change.TheVariants as change
use Rattle.swarm_objects.specs.declared.tasks.Task.{Task}
use Rattle.swarm_objects.specs.ChangeLists.{CanApply, CanApplyAll, apply_change, put_task}
use Rattle.swarm_store.specs.Stored.{without_sessions}

put_bare : (b : Bool) (t : Tables) (x : Task)
    → cond b (record (without_sessions t) { tasks = put_row task_id x t.tasks }) (with_task (without_sessions t) x)
    ≡ without_sessions (cond b (record t { tasks = put_row task_id x t.tasks }) (with_task t x))
put_bare true t x = refl
put_bare false t x = refl

one_bare : (t : Tables) (c : Change) → apply_change (without_sessions t) c ≡ without_sessions (apply_change t c)
one_bare t (change.PutNode n) = refl
one_bare t (change.PutService s) = refl
one_bare t (change.PutTask x) = put_bare (has_row task_id x.id t.tasks) t x
one_bare t (change.DropTask id) = refl
one_bare t (change.Keep a) = refl

can_one : (t : Tables) (c : Change) → CanApply t c → CanApply (without_sessions t) c
can_one t (change.PutNode n) is = is
can_one t (change.PutService s) is = is
can_one t (change.PutTask x) is = is
can_one t (change.DropTask id) is = is
can_one t (change.Keep a) is = is

pub can_bare : (cs : List Change) (t : Tables) → CanApplyAll t cs → CanApplyAll (without_sessions t) cs
can_bare [] t is = tt
can_bare (c ∷ cs) t is =
    (can_one t c is.0, subst (λ u. CanApplyAll u cs) (sym (one_bare t c)) (can_bare cs (apply_change t c) is.1))
