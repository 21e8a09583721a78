-- Every restart makes the measure smaller.
use Rattle.std.proofs.Common.{Bool, None, Option, Some, ap, arith, cond, false, refl, subst, sym, true, ℕ, ◌+◌, ◌∙◌, ◌≡◌, ◌≤◌}
use Rattle.std.proofs.lemmas.Bool.Decides.{nat_tests}
use Rattle.std.specs.Prelude.{is_some}
use Rattle.swarm_settle.proofs.Bound.Calm.World.{AreCalm}
use Rattle.swarm_settle.proofs.Bound.Falls.Closings.{falls-closed}
use Rattle.swarm_settle.proofs.Bound.Falls.Restarts.{Over, falls-anew, falls-beside, has_id, over}
use Rattle.swarm_settle.proofs.Bound.Falls.Touched.{touch}
use Rattle.swarm_settle.specs.Bound.Measure.{measure}
use Rattle.swarm_model.proofs.Base.IsDuty.{IsDuty}
use Rattle.swarm_model.proofs.Laws.GivesOut.{GivesOut}
use Rattle.swarm_model.proofs.Moves.Duties.{found-is}
use Rattle.swarm_model.proofs.Moves.Rows.{has_row-Has}
use Rattle.swarm_model.proofs.Moves.Worlds.{IsGood, IsOrderly}
use Rattle.swarm_model.specs.Laws.OfService.{AreOfServices}
use Rattle.swarm_objects.proofs.RowLemmas.{Has-filter, Has-from_row_at, Has-map}
use Rattle.swarm_objects.proofs.Tests.{never-both, second_so, some-and-cases}
use Rattle.swarm_objects.specs.Changes.{change_task, on_service, wanted, with_tables}
use Rattle.swarm_objects.specs.Loops.Restart.{after_restart, by_policy, closed_by, is_current, restarted, shut, wants_restart}
use Rattle.swarm_objects.specs.Rows.{Has, has_row, is_some_and, on_row, row_at, service_id, task_id}
use Rattle.swarm_objects.specs.Tasks.Places.{counts_for, has_other, is_in_place, newest, place_at, tasks_of_place}
use Rattle.swarm_objects.specs.Tasks.Policy.{no_restart}
use Rattle.swarm_objects.specs.Tasks.Words.{is_kept, is_live}
use Rattle.swarm_objects.specs.Values.Ranks.{desired_rank}
use Rattle.swarm_objects.specs.World.{Tables, World}
use Rattle.swarm_objects.specs.declared.duties.Duty.TheVariants as duty
use Rattle.swarm_objects.specs.declared.services.Service.{Service}
use Rattle.swarm_objects.specs.declared.tasks.Closed.{Closed}
use Rattle.swarm_objects.specs.declared.tasks.Desired.TheVariants as desired
use Rattle.swarm_objects.specs.declared.tasks.Place.{Place}
use Rattle.swarm_objects.specs.declared.tasks.Task.{Task}
use Rattle.swarm_settle.proofs.PlaceLists.{newest-mapped, newest-some, place-map, touch-making}
use Rattle.swarm_settle.proofs.Wholes.{IsWhole}

-- all tasks of a place are to be removed where its newest is
abbrev pub AreWhole : Tables → Type 0
AreWhole t = (s : Service) (p : Place) → Has t.services s → IsWhole (tasks_of_place s p t.tasks)

-- The newest of the place, once the task is to stop.

shut-newest : (m version : ℕ) (w : World) (x z : Task) (s : Service) (k : ℕ) → IsOrderly w → AreWhole w.tables →
    Over m w.tables x s k →
    newest (tasks_of_place s (place_at s.spec.mode k) (shut version x.id w.tables).tasks) ≡ Some z → is_kept z ≡ true
shut-newest m version w x z s k orderly whole over last =
    let t = w.tables in
    let p = place_at s.spec.mode k in
    let stop = wanted version desired.Shutdown in
    let f = touch (has_id x.id) stop in
    let ys = tasks_of_place s p t.tasks in
    let mapped = place-map s p f t.tasks
    (touch-making (has_id x.id) stop
    (λ y. record { id = refl; service = refl; place = refl; iteration = refl; template = refl; goal = refl })) in
    let from = newest-mapped f ys z (ap newest (sym mapped) ∙ last) in
    let kept = whole s p over.of x from.0 (Has-filter (is_in_place s p) t.tasks x over.there over.inside)
    (live-kept x (orderly.good x over.there) over.live) from.1 in
    ap is_kept (sym from.2) ∙ go from.0 (has_id x.id from.0) kept
  where
    live-kept : (y : Task) → IsGood y → is_live y ≡ true → is_kept y ≡ true
    live-kept y good live =
        let low : desired_rank y.desired ≤ desired_rank y.goal = grind (arith, nat_tests, live) in
        grind (arith, nat_tests, low, good.goal)

    go : (y : Task) (b : Bool) → is_kept y ≡ true → is_kept (cond b (wanted version desired.Shutdown y) y) ≡ true
    go y true e = refl
    go y false e = e

falls-policy : (m version : ℕ) (w : World) (x : Task) (s : Service) (k : ℕ) (why : Option Closed) →
    m ≤ w.tables.next_id → IsOrderly w → GivesOut w → AreWhole w.tables → Over m w.tables x s k →
    has_other w.tables s x ≡ false →
    measure m (with_tables w (by_policy version (shut version x.id w.tables) s x.place why)) + 1 ≤ measure m w
falls-policy m version w x s k None later orderly gives whole over none = falls-anew m version w x s k later orderly gives over none
falls-policy m version w x s k (Some cause) later orderly gives whole over none =
    go (newest (tasks_of_place s x.place u.tasks)) refl
  where
    u : Tables
    u = shut version x.id w.tables

    p : Place
    p = place_at s.spec.mode k

    there : Has (tasks_of_place s p u.tasks) (touch (has_id x.id) (wanted version desired.Shutdown) x)
    there =
        subst (λ ys. Has ys (touch (has_id x.id) (wanted version desired.Shutdown) x))
        (sym (place-map s p (touch (has_id x.id) (wanted version desired.Shutdown)) w.tables.tasks
        (touch-making (has_id x.id) (wanted version desired.Shutdown)
        (λ y. record { id = refl; service = refl; place = refl; iteration = refl; template = refl; goal = refl }))))
        (Has-map (touch (has_id x.id) (wanted version desired.Shutdown)) (tasks_of_place s p w.tables.tasks) x
        (Has-filter (is_in_place s p) w.tables.tasks x over.there over.inside))

    at : (o : Option Task) → newest (tasks_of_place s x.place u.tasks) ≡ o → newest (tasks_of_place s p u.tasks) ≡ o
    at o e = ap (λ (q : Place). newest (tasks_of_place s q u.tasks)) (sym over.place) ∙ e

    go : (o : Option Task) → newest (tasks_of_place s x.place u.tasks) ≡ o →
        measure m (with_tables w (on_row u (λ y. change_task y.id (closed_by version cause) u) o)) + 1 ≤ measure m w
    go None e =
        let some = newest-some (tasks_of_place s p u.tasks) _ there in
        absurd (let wrong : ◌≡◌ {A = Option Task} None (Some some.0) = sym (at None e) ∙ some.1 in cc)
    go (Some z) e =
        falls-closed m version w x z s k cause orderly gives over none (at (Some z) e)
        (shut-newest m version w x z s k orderly whole over (at (Some z) e))

falls-restarted : (m version : ℕ) (w : World) (x : Task) (s : Service) (k : ℕ) → m ≤ w.tables.next_id → IsOrderly w →
    GivesOut w → AreWhole w.tables → Over m w.tables x s k →
    measure m (with_tables w (restarted version w.tables x s)) + 1 ≤ measure m w
falls-restarted m version w x s k later orderly gives whole over = go (has_other w.tables s x) refl
  where
    go : (b : Bool) → has_other w.tables s x ≡ b →
        measure m (with_tables w (cond b (shut version x.id w.tables)
        (by_policy version (shut version x.id w.tables) s x.place (no_restart w.tables s x)))) + 1 ≤ measure m w
    go true e = falls-beside m version w x s k orderly gives over e
    go false e = falls-policy m version w x s k (no_restart w.tables s x) later orderly gives whole over e

pub falls-restart : (m version : ℕ) (w : World) (id : ℕ) → m ≤ w.tables.next_id → IsOrderly w → GivesOut w →
    AreOfServices w.tables → AreCalm m w.tables → AreWhole w.tables → IsDuty w (duty.Restart id) →
    measure m (with_tables w (after_restart version w.tables id)) + 1 ≤ measure m w
falls-restart m version w id later orderly gives services calm whole of = go (row_at task_id id t.tasks) refl
  where
    t : Tables
    t = w.tables

    on-its : (x : Task) → Has t.tasks x → wants_restart t x ≡ true → (o : Option Service) →
        row_at service_id x.service t.services ≡ o →
        measure m (with_tables w (on_row t (restarted version t x) o)) + 1 ≤ measure m w
    on-its x there wants None e =
        let current : is_current t x ≡ true = second_so _ (is_current t x) wants in
        let s = some-and-cases (λ v. counts_for v x) (row_at service_id x.service t.services) current in
        absurd (let wrong : ◌≡◌ {A = Option Service} None (Some s.0) = sym e ∙ s.1 in cc)
    on-its x there wants (Some s) e =
        let current : is_current t x ≡ true = second_so _ (is_current t x) wants in
        let counts : counts_for s x ≡ true =
        sym (ap (is_some_and (λ v. counts_for v x)) e) ∙ current in
        let at = Has-from_row_at service_id x.service t.services s e in
        let is = over m t x s services calm there (orderly.good x there) at.0 (sym at.1) counts wants in
        falls-restarted m version w x s is.0 later orderly gives whole is.1

    go : (o : Option Task) → row_at task_id id t.tasks ≡ o →
        measure m (with_tables w (on_row t (λ x. on_service t x.service (restarted version t x)) o)) + 1 ≤ measure m w
    go None e =
        let yes = has_row-Has task_id t.tasks of.row id of.there of.id_is in
        let no : has_row task_id id t.tasks ≡ false = ap is_some e in
        never-both (has_row task_id id t.tasks) no yes
    go (Some x) e =
        let is = found-is t id (λ y. wants_restart t y ≡ true) orderly.tasks of x e in
        on-its x is.0 is.2 (row_at service_id x.service t.services) refl
