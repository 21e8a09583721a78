-- What starts, finishes, pauses and rolls back a run.
use Rattle.std.proofs.Common.{◌≡◌, ℕ, List, [], ◌∷◌, Some, Result, Ok, Err, refl, sym, ap, ◌∙◌, subst}
use Rattle.std.specs.Prelude.{IfOk}
use Rattle.swarm_objects.proofs.RowLemmas.{Has-from_row_at}
use Rattle.swarm_objects.specs.Changes.{change_service}
use Rattle.swarm_objects.specs.Loops.Update.{back_at, change_run, finish_run, finished_status, in_status, new_run, paused, paused_status, rolled_back, start_run, start_status, with_run}
use Rattle.swarm_objects.specs.Rows.{row_at, service_id}
use Rattle.swarm_objects.specs.Sound.{IsSound}
use Rattle.swarm_objects.specs.World.{Tables}
use Rattle.swarm_objects.specs.declared.names.NoMemory.{NoMemory}
use Rattle.swarm_objects.specs.declared.rows.Change.{Change}
use Rattle.swarm_objects.specs.declared.rows.Change.TheVariants as change
use Rattle.swarm_objects.specs.declared.services.RunStatus.TheVariants as status
use Rattle.swarm_objects.specs.declared.services.Service.{Service}
use Rattle.swarm_objects.specs.declared.services.ServiceSpec.{ServiceSpec}
use Rattle.swarm_objects.proofs.Applied.{makes_none, service_makes}
use Rattle.swarm_objects.specs.ChangeLists.{Makes}

-- one service that is there, as the function leaves it
list_makes : (f : Service → Service) (t : Tables) (s : Service) (cs : List Change) → IsSound t
    → Some s ≡ row_at service_id s.id t.services → (f s).id ≡ s.id → cs ≡ change.PutService (f s) ∷ []
    → Makes t cs (change_service s.id f t)
list_makes f t s cs sound e same list =
    subst (λ ds. Makes t ds (change_service s.id f t)) (sym list) (service_makes f t s sound e same)

pub start_makes : (version : ℕ) (t : Tables) (s : Service) (cs : List Change) → IsSound t
    → Some s ≡ row_at service_id s.id t.services
    → cs ≡ change.PutService (with_run version (new_run t s (start_status s.rolling_back)) s) ∷ []
    → Makes t cs (start_run version t s)
start_makes version t s cs sound e list =
    list_makes (with_run version (new_run t s (start_status s.rolling_back))) t s cs sound e refl list

-- the same, of a list that memory may be wanting for
pub start_made : (version : ℕ) (t : Tables) (s : Service) (r : Result (List Change) NoMemory) → IsSound t
    → Some s ≡ row_at service_id s.id t.services
    → IfOk r (λ cs. cs ≡ change.PutService (with_run version (new_run t s (start_status s.rolling_back)) s) ∷ [])
    → IfOk r (λ cs. Makes t cs (start_run version t s))
start_made version t s (Ok cs) sound e list = start_makes version t s cs sound e list
start_made version t s (Err fault) sound e list = tt

pub finish_makes : (version : ℕ) (t : Tables) (s : Service) (cs : List Change) → IsSound t
    → Some s ≡ row_at service_id s.id t.services
    → cs ≡ change.PutService (change_run (λ run. in_status (finished_status run.status) run) version s) ∷ []
    → Makes t cs (finish_run version t s)
finish_makes version t s cs sound e list =
    list_makes (change_run (λ run. in_status (finished_status run.status) run) version) t s cs sound e refl list

pub pause_makes : (version : ℕ) (t : Tables) (s : Service) (cs : List Change) → IsSound t
    → Some s ≡ row_at service_id s.id t.services
    → cs ≡ change.PutService (change_run (λ run. in_status (paused_status run.status) run) version s) ∷ []
    → Makes t cs (paused version t s)
pause_makes version t s cs sound e list =
    list_makes (change_run (λ run. in_status (paused_status run.status) run) version) t s cs sound e refl list

pub rolling_makes : (version : ℕ) (t : Tables) (s : Service) (spec : ServiceSpec) (cs : List Change) → IsSound t
    → Some s ≡ row_at service_id s.id t.services
    → cs
    ≡ change.PutService
    (with_run version (new_run t (back_at version spec s) status.RollbackStarted) (back_at version spec s))
    ∷ []
    → Makes t cs (rolled_back version t (back_at version spec s))
rolling_makes version t s spec cs sound e list =
    let back = back_at version spec s in
    list_makes (λ old. with_run version (new_run t back status.RollbackStarted) back) t s cs sound e refl list

-- a row that is found has the id by which it is found
pub service_by_id : (id : ℕ) (t : Tables) (s : Service) → Some s ≡ row_at service_id id t.services
    → Some s ≡ row_at service_id s.id t.services
service_by_id id t s e =
    e ∙ ap (λ k. row_at service_id k t.services) (sym (Has-from_row_at service_id id t.services s (sym e)).1)

pub ruleset id_steps = (service_by_id, makes_none)
