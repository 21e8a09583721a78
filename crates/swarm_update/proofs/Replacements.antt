-- What swapping and replacing make.
use Rattle.std.proofs.Common.{◌≡◌, ℕ, List, [], ◌∷◌, ◌++◌, Some, refl, sym, ap, ◌∙◌, subst}
use Rattle.std.specs.Prelude.{is_some}
use Rattle.swarm_objects.proofs.RowLemmas.{Has-from_row_at}
use Rattle.swarm_objects.specs.Changes.{change_service, change_where, wanted}
use Rattle.swarm_objects.specs.Loops.Update.{by_order, item_of, live_of_place, replace_place, replaced_in, swap_place}
use Rattle.swarm_objects.specs.Rows.{Has, RisesFrom, has_row, row_at, service_id}
use Rattle.swarm_objects.specs.Services.Words.{is_live_dirty}
use Rattle.swarm_objects.specs.Sound.{IsSound}
use Rattle.swarm_objects.specs.Tasks.New.{goal_of, new_task, with_task}
use Rattle.swarm_objects.specs.Tasks.Places.{place_at, place_tasks}
use Rattle.swarm_objects.specs.Tasks.Words.{is_live}
use Rattle.swarm_objects.specs.World.{Tables}
use Rattle.swarm_objects.specs.declared.rows.Change.{Change}
use Rattle.swarm_objects.specs.declared.rows.Change.TheVariants as change
use Rattle.swarm_objects.specs.declared.services.Service.{Service}
use Rattle.swarm_objects.specs.declared.services.UpdateOrder.{UpdateOrder}
use Rattle.swarm_objects.specs.declared.services.UpdateOrder.TheVariants as order
use Rattle.swarm_objects.specs.declared.tasks.Desired.TheVariants as desired
use Rattle.swarm_objects.proofs.Applied.{each_makes, makes_append, makes_new, put_service, sound_where}
use Rattle.swarm_objects.specs.ChangeLists.{Makes, put_each}
use Rattle.swarm_update.specs.Replacing.{desired_by_order, new_by_order, replacing, stops_by_order}

pub swap_makes : (version : ℕ) (t : Tables) (s : Service) (k : ℕ) (cs : List Change) → IsSound t
    → cs ≡ put_each (is_live_dirty s) (wanted version desired.Shutdown) (place_tasks t s k)
    → Makes t cs (swap_place version t k s)
swap_makes version t s k cs sound list =
    each_makes (is_live_dirty s) (wanted version desired.Shutdown) s (place_at s.spec.mode k) t cs sound
    (λ x. refl) list

-- the tables with the stops, the new task, and the service as the function leaves it
service_last : (f : Service → Service) (t u : Tables) (s : Service) → IsSound t → u.services ≡ t.services
    → Some s ≡ row_at service_id s.id t.services → (f s).id ≡ s.id
    → Makes u (change.PutService (f s) ∷ []) (change_service s.id f u)
service_last f t u s sound same e keeps = record {
  can = (
    ap (λ rows. has_row service_id (f s).id rows) same
        ∙ ap (λ id. has_row service_id id t.services) keeps
        ∙ ap is_some (sym e),
    tt,
  );
  gives =
      put_service f u s (subst (RisesFrom service_id 0) (sym same) sound.ordered.services)
      (subst (λ rows. Has rows s) (sym same) (Has-from_row_at service_id s.id t.services s (sym e)).0) keeps;
}

new_makes : (version : ℕ) (t : Tables) (s : Service) (k : ℕ) (o : UpdateOrder) → IsSound t
    → Makes t
    (stops_by_order version t s k o
    ++ change.PutTask (new_task version t s (place_at s.spec.mode k) (desired_by_order s.spec.mode o))
    ∷ [])
    (by_order version t s k o)
new_makes version t s k order.StopFirst sound =
    let x = new_task version t s (place_at s.spec.mode k) desired.Ready in
    let stopped = change_where (live_of_place s k) (wanted version desired.Shutdown) t in
    makes_append t stopped (with_task stopped x)
    (put_each is_live (wanted version desired.Shutdown) (place_tasks t s k))
    (change.PutTask x ∷ [])
    (each_makes is_live (wanted version desired.Shutdown) s (place_at s.spec.mode k) t
    (put_each is_live (wanted version desired.Shutdown) (place_tasks t s k)) sound (λ y. refl) refl)
    (makes_new stopped x (sound_where (live_of_place s k) (wanted version desired.Shutdown) t sound (λ y. refl)) refl)
new_makes version t s k order.StartFirst sound =
    makes_new t (new_task version t s (place_at s.spec.mode k) (goal_of s.spec.mode)) sound refl

services_kept : (version : ℕ) (t : Tables) (s : Service) (k : ℕ) (o : UpdateOrder)
    → (by_order version t s k o).services ≡ t.services
services_kept version t s k order.StopFirst = refl
services_kept version t s k order.StartFirst = refl

pub replacing_makes : (version : ℕ) (t : Tables) (s : Service) (k : ℕ) (cs : List Change) → IsSound t
    → Some s ≡ row_at service_id s.id t.services → cs ≡ replacing version t s k
    → Makes t cs (replace_place version t k s)
replacing_makes version t s k cs sound e list =
    let o = s.spec.update.order in
    let u = by_order version t s k o in
    let f : Service → Service = replaced_in version (item_of t (place_at s.spec.mode k)) in
    subst (λ ds. Makes t ds (replace_place version t k s)) (sym list)
    (makes_append t u (replace_place version t k s)
    (stops_by_order version t s k o ++ new_by_order version t s k ∷ []) (change.PutService (f s) ∷ [])
    (new_makes version t s k o sound) (service_last f t u s sound (services_kept version t s k o) e refl))
