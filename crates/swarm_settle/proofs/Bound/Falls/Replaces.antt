-- A place whose task is replaced makes the measure smaller.
use Rattle.std.proofs.Common.{Bool, List, None, Option, Some, [], ap, arith, false, inl, inr, map, refl, subst, sym, true, ℕ, ◌++◌, ◌+◌, ◌∷◌, ◌≡◌, ◌≤◌, ◌⊎◌}
use Rattle.std.proofs.lemmas.Bool.Decides.{nat_tests}
use Rattle.std.specs.List.{list_any}
use Rattle.std.specs.Option.{option_map}
use Rattle.std.specs.Prelude.{nat_le, not, ◌&&◌}
use Rattle.swarm_settle.proofs.Bound.Falls.Changed.{changed, falls-renewed}
use Rattle.swarm_settle.proofs.Bound.Falls.Services.{found}
use Rattle.swarm_settle.proofs.Bound.Falls.Touched.{touch}
use Rattle.swarm_settle.proofs.Bound.Falls.Wanted.{shut-left}
use Rattle.swarm_settle.proofs.Bound.Looks.{renews}
use Rattle.swarm_settle.proofs.Bound.Pushes.{StandsNew}
use Rattle.swarm_settle.proofs.Bound.Renewing.{coming-renewed}
use Rattle.swarm_settle.proofs.Bound.Sums.{changed-le}
use Rattle.swarm_settle.specs.Bound.Coming.{coming, coming_of, is_renewed}
use Rattle.swarm_settle.specs.Bound.Left.{runs_left, service_left}
use Rattle.swarm_settle.specs.Bound.Measure.{measure}
use Rattle.swarm_model.proofs.Base.IsDuty.{IsDuty}
use Rattle.swarm_model.proofs.Laws.GivesOut.{GivesOut}
use Rattle.swarm_model.proofs.Moves.Duties.{order-moves}
use Rattle.swarm_model.proofs.Moves.Worlds.{IsOrderly, TablesMove}
use Rattle.swarm_objects.proofs.Tests.{any-has, first_so, has-any, never-both, or_cases, or_left, or_right, second_so, some-and, some-and-cases}
use Rattle.swarm_objects.specs.Changes.{change_service, change_where, wanted, with_tables}
use Rattle.swarm_objects.specs.Kinds.{bit}
use Rattle.swarm_objects.specs.Loops.Update.{after_replace, by_order, is_to_replace, item_of, live_of_place, replace_place, replaced_in, with_item}
use Rattle.swarm_objects.specs.Rows.{Has, is_some_and, service_id}
use Rattle.swarm_objects.specs.Services.Runs.{is_of_version, is_under_way}
use Rattle.swarm_objects.specs.Services.Words.{is_job, is_live_clean, is_live_dirty}
use Rattle.swarm_objects.specs.Tasks.New.{goal_of, new_task}
use Rattle.swarm_objects.specs.Tasks.Places.{closes, closes_dirty, has_clean, has_live, is_dirty_place, is_held_place, is_in_place, newest, place_at, place_tasks}
use Rattle.swarm_objects.specs.Tasks.Words.{is_live}
use Rattle.swarm_objects.specs.Values.Ranks.{desired_rank}
use Rattle.swarm_objects.specs.World.{Tables, World}
use Rattle.swarm_objects.specs.declared.duties.Duty.TheVariants as duty
use Rattle.swarm_objects.specs.declared.services.Mode.TheVariants as mode
use Rattle.swarm_objects.specs.declared.services.Mode.{Mode}
use Rattle.swarm_objects.specs.declared.services.Replaced.{Replaced}
use Rattle.swarm_objects.specs.declared.services.Service.{Service}
use Rattle.swarm_objects.specs.declared.services.UpdateOrder.TheVariants as order
use Rattle.swarm_objects.specs.declared.services.UpdateOrder.{UpdateOrder}
use Rattle.swarm_objects.specs.declared.services.UpdateRun.{UpdateRun}
use Rattle.swarm_objects.specs.declared.tasks.Desired.TheVariants as desired
use Rattle.swarm_objects.specs.declared.tasks.Desired.{Desired}
use Rattle.swarm_objects.specs.declared.tasks.Task.{Task}

-- The run's item changes nothing that counts.

replaced-left : (version : ℕ) (item : Replaced) (s : Service) → service_left (replaced_in version item s) ≤ service_left s
replaced-left version item s = omega (arith, runs (is_job s.spec.mode))
  where
    v : Service
    v = replaced_in version item s

    with_it : UpdateRun → UpdateRun
    with_it run = record run { replaced = with_item item run.replaced }

    opens : (o : Option UpdateRun) → is_some_and is_under_way (option_map with_it o) ≡ is_some_and is_under_way o
    opens None = refl
    opens (Some run) = refl

    versions : (o : Option UpdateRun) →
        is_some_and (is_of_version v) (option_map with_it o) ≡ is_some_and (is_of_version s) o
    versions None = refl
    versions (Some run) = refl

    runs : (b : Bool) → runs_left v b ≤ runs_left s b
    runs true = omega arith
    runs false = omega (arith, ap bit (opens s.run), ap (λ (b : Bool). bit (not b)) (versions s.run))

pub service-stays : (m : ℕ) (w : World) (u : Tables) (id : ℕ) (f : Service → Service) →
    ((v : Service) → service_left (f v) ≤ service_left v) →
    ((t : Tables) (v : Service) → coming_of m t (f v) ≡ coming_of m t v) →
    measure m (with_tables w (change_service id f u)) ≤ measure m (with_tables w u)
service-stays m w u id f less same =
    let services = changed-le service_id id service_left service_left f u.services (λ v h e. less v) (λ v h. omega arith) in
    let come : coming m (change_service id f u) ≤ coming m u =
    changed-le service_id id (coming_of m (change_service id f u)) (coming_of m u) f u.services
    (λ v h e. omega (arith, same (change_service id f u) v)) (λ v h. omega arith) in
    omega (arith, services, come)

-- What is replaced is held, and not renewed.

dirty-held : (t : Tables) (s : Service) (k : ℕ) → is_dirty_place t s k ≡ true → is_held_place t s k ≡ true
dirty-held t s k e = go (or_cases (list_any (is_live_dirty s) (place_tasks t s k)) _ e)
  where
    ys : List Task
    ys = place_tasks t s k

    go : (list_any (is_live_dirty s) ys ≡ true)
        ⊎ ((not (has_live t s k) && is_some_and (closes_dirty s) (newest ys)) ≡ true) → is_held_place t s k ≡ true
    go (inl l) =
        let x = any-has (is_live_dirty s) ys l in
        or_left (list_any is_live ys) _ (has-any is_live ys x.0 x.1 (first_so (is_live x.0) _ x.2))
    go (inr c) =
        let z = some-and-cases (closes_dirty s) (newest ys) (second_so _ (is_some_and (closes_dirty s) (newest ys)) c) in
        or_right (list_any is_live ys) (is_some_and closes (newest ys))
        (some-and closes (newest ys) z.0 z.1 (first_so (closes z.0) _ z.2))

unclean-old : (m : ℕ) (t : Tables) (s : Service) (k : ℕ) → has_clean t s k ≡ false → is_renewed m t s k ≡ false
unclean-old m t s k none = go (is_renewed m t s k) refl
  where
    go : (b : Bool) → is_renewed m t s k ≡ b → b ≡ false
    go true e =
        let x = any-has (renews m s) (place_tasks t s k) e in
        never-both (has_clean t s k) none
        (has-any (is_live_clean s) (place_tasks t s k) x.0 x.1 (first_so (is_live_clean s x.0) _ x.2))
    go false e = refl

-- By the order of the update.

pub ready-live : (x : Mode) → nat_le (desired_rank desired.Ready) (desired_rank (goal_of x)) ≡ true
ready-live (mode.Replicated replicas) = refl
ready-live mode.Global = refl
ready-live (mode.Job concurrent total) = refl

stands : (m version : ℕ) (t : Tables) (s : Service) (k : ℕ) (d : Desired) → m ≤ t.next_id →
    nat_le (desired_rank d) (desired_rank (goal_of s.spec.mode)) ≡ true →
    StandsNew m s k (new_task version t s (place_at s.spec.mode k) d)
stands m version t s k d later live = record {
  service = refl;
  iteration = refl;
  template = refl;
  place = refl;
  live = live;
  new = later;
}

untouched : (f : Task → Task) (xs : List Task) → map (touch (λ x. false) f) xs ≡ xs
untouched f [] = refl
untouched f (x ∷ xs) = ap (λ ys. x ∷ ys) (untouched f xs)

falls-order : (m version : ℕ) (w : World) (s : Service) (k : ℕ) (o : UpdateOrder) → m ≤ w.tables.next_id →
    IsOrderly w → GivesOut w → Has w.tables.services s → is_held_place w.tables s k ≡ true →
    is_renewed m w.tables s k ≡ false → measure m (with_tables w (by_order version w.tables s k o)) + 1 ≤ measure m w
falls-order m version w s k order.StopFirst later orderly gives there held old =
    let t = w.tables in
    let p = place_at s.spec.mode k in
    let test = live_of_place s k in
    let f = wanted version desired.Shutdown in
    let stopped = change_where test f t in
    let x = new_task version stopped s p desired.Ready in
    falls-renewed m w (t.next_id + 1) test f x t.attempts orderly gives
    (order-moves version t s k order.StopFirst orderly.good) (λ y. refl) refl
    (λ y h e. shut-left version w y (orderly.good y h) (second_so (is_in_place s p y) (is_live y) e))
    (coming-renewed m t s k (t.next_id + 1) test f x t.attempts orderly.services there
    (stands m version stopped s k desired.Ready later (ready-live s.spec.mode))
    (λ y h e. first_so (is_in_place s p y) (is_live y) e) (λ y. refl) held old)
falls-order m version w s k order.StartFirst later orderly gives there held old =
    let t = w.tables in
    let p = place_at s.spec.mode k in
    let f = λ (y : Task). y in
    let none = λ (y : Task). false in
    let x = new_task version t s p (goal_of s.spec.mode) in
    let live : nat_le (desired_rank (goal_of s.spec.mode)) (desired_rank (goal_of s.spec.mode)) ≡ true =
    grind (arith, nat_tests) in
    subst (λ (ys : List Task). TablesMove t (changed t (t.next_id + 1) (ys ++ x ∷ []) t.attempts) →
    measure m (with_tables w (changed t (t.next_id + 1) (ys ++ x ∷ []) t.attempts)) + 1 ≤ measure m w)
    (untouched f t.tasks)
    (λ moves. falls-renewed m w (t.next_id + 1) none f x t.attempts orderly gives moves (λ y. refl) refl
    (λ y h e. absurd cc)
    (coming-renewed m t s k (t.next_id + 1) none f x t.attempts orderly.services there
    (stands m version t s k (goal_of s.spec.mode) later live) (λ y h e. absurd cc) (λ y. refl) held old))
    (order-moves version t s k order.StartFirst orderly.good)

pub falls-replace : (m version : ℕ) (w : World) (id k : ℕ) → m ≤ w.tables.next_id → IsOrderly w → GivesOut w →
    IsDuty w (duty.Replace id k) → measure m (with_tables w (after_replace version w.tables id k)) + 1 ≤ measure m w
falls-replace m version w id k later orderly gives of =
    let t = w.tables in
    let r = found t id _ (replace_place version t k) orderly.services of in
    let s = r.row in
    let place = r.fact.1.3.1 in
    let due : is_to_replace t s k ≡ true = place.1 in
    let held = dirty-held t s k (first_so (is_dirty_place t s k) _ due) in
    let old = unclean-old m t s k (not-is (has_clean t s k) (second_so (is_dirty_place t s k) _ due)) in
    let u = by_order version t s k s.spec.update.order in
    let item = item_of t (place_at s.spec.mode k) in
    let fall = falls-order m version w s k s.spec.update.order later orderly gives r.there held old in
    let stay = service-stays m w u s.id (replaced_in version item) (λ v. replaced-left version item v) (λ z v. refl) in
    subst (λ z. measure m (with_tables w z) + 1 ≤ measure m w) (sym r.is) (omega (arith, fall, stay))
  where
    not-is : (b : Bool) → not b ≡ true → b ≡ false
    not-is true e = absurd cc
    not-is false e = refl
