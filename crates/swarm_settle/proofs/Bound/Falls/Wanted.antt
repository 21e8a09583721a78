-- Duties by which more is wanted of tasks: raised ones, those of gone services and old iterations, and whole places.
use Rattle.std.proofs.Common.{Bool, List, Some, ap, arith, cond, eqb, false, inl, inr, refl, subst, sym, true, ℕ, ◌+◌, ◌<◌, ◌∙◌, ◌≡◌, ◌≤◌}
use Rattle.std.proofs.lemmas.Bool.Decides.{nat_tests}
use Rattle.std.specs.Prelude.{is_some, nat_lt, not, ◌&&◌, ◌==◌, ◌||◌}
use Rattle.swarm_settle.proofs.Bound.Falls.Rows.{of-any}
use Rattle.swarm_settle.proofs.Bound.Falls.Touched.{falls-touched, touch}
use Rattle.swarm_settle.proofs.Bound.Looks.{SameLook, look-same}
use Rattle.swarm_settle.proofs.Bound.Positions.{left-at, wishes-above, wishes-kept, wishes-live, wishes-ready}
use Rattle.swarm_settle.proofs.Bound.Seen.{AllSeen, SeenSame, coming-unseen}
use Rattle.swarm_settle.specs.Bound.Coming.{coming}
use Rattle.swarm_settle.specs.Bound.Left.{task_left}
use Rattle.swarm_settle.specs.Bound.Measure.{measure}
use Rattle.swarm_model.proofs.Base.IsDuty.{IsDuty}
use Rattle.swarm_model.proofs.Laws.GivesOut.{GivesOut, gives-still}
use Rattle.swarm_model.proofs.Moves.Duties.{dropped-moves, live-most, raised-moves}
use Rattle.swarm_model.proofs.Moves.EachDuty.{tables-moves}
use Rattle.swarm_model.proofs.Moves.Rows.{RisesBetween, between-one, has_row-Has}
use Rattle.swarm_model.proofs.Moves.Tables.{desired-most, move-where, moves-wanted}
use Rattle.swarm_model.proofs.Moves.Worlds.{IsGood, IsOrderly, TaskMoves, orderly-moves}
use Rattle.swarm_objects.proofs.RowLemmas.{Has-from_row_at}
use Rattle.swarm_objects.proofs.Tests.{first_so, never-both, second_so, some-and-cases}
use Rattle.swarm_objects.specs.Changes.{change_where, in_state, wanted, with_tables}
use Rattle.swarm_objects.specs.Kinds.{bit}
use Rattle.swarm_objects.specs.Loops.Scheduler.{after_drop, is_to_drop}
use Rattle.swarm_objects.specs.Loops.Jobs.{after_old, is_old, is_old_of}
use Rattle.swarm_model.specs.Laws.OfService.{AreOfServices}
use Rattle.swarm_objects.specs.Loops.Replicated.{after_gone, is_gone}
use Rattle.swarm_objects.specs.Loops.Restart.{after_raise, is_current, raised, wants_raise}
use Rattle.swarm_objects.specs.Tasks.New.{goal_of}
use Rattle.swarm_objects.specs.Rows.{Has, row_at, service_id, task_id}
use Rattle.swarm_objects.specs.Same.{same_place}
use Rattle.swarm_objects.specs.Services.Words.{has_service, is_job}
use Rattle.swarm_objects.specs.Tasks.Places.{counts_for, is_in_place, place_at}
use Rattle.swarm_objects.specs.Tasks.Words.{is_below_assigned, is_kept, is_live, is_to_wait}
use Rattle.swarm_objects.specs.Values.Ranks.{desired_rank, rank}
use Rattle.swarm_objects.specs.World.{Tables, World}
use Rattle.swarm_objects.specs.declared.duties.Duty.TheVariants as duty
use Rattle.swarm_objects.specs.declared.services.Mode.TheVariants as mode
use Rattle.swarm_objects.specs.declared.services.Mode.{Mode}
use Rattle.swarm_objects.specs.declared.services.Service.{Service}
use Rattle.swarm_objects.specs.declared.tasks.Desired.TheVariants as desired
use Rattle.swarm_objects.specs.declared.tasks.Desired.{Desired}
use Rattle.swarm_objects.specs.declared.tasks.Place.{Place}
use Rattle.swarm_objects.specs.declared.tasks.Task.{Task}
use Rattle.swarm_objects.specs.declared.tasks.TaskState.TheVariants as state
use Rattle.swarm_objects.specs.declared.tasks.TaskState.{TaskState}

-- tasks that pass the test move, and have less before them
pub falls-where : (m : ℕ) (w : World) (test : Task → Bool) (f : Task → Task) → IsOrderly w → GivesOut w →
    ((x : Task) → (f x).id ≡ x.id) →
    ((x : Task) → Has w.tables.tasks x → test x ≡ true → TaskMoves x (f x) × (task_left w (f x) + 3 ≤ task_left w x)) →
    (x : Task) → Has w.tables.tasks x → test x ≡ true → coming m (change_where test f w.tables) ≤ coming m w.tables →
    measure m (with_tables w (change_where test f w.tables)) + 1 ≤ measure m w
falls-where m w test f orderly gives same each x there passes come =
    let v = with_tables w (change_where test f w.tables) in
    let moves = move-where w.tables test f (λ y h e. (each y h e).0) in
    falls-touched m w test f orderly gives (orderly-moves w v orderly (tables-moves w v moves refl refl refl))
    (gives-still w v moves refl refl gives) moves same (λ y h e. (each y h e).1) x there passes come

-- What is left before it.

pub removed-left : (version : ℕ) (w : World) (x : Task) → is_kept x ≡ true →
    task_left w (wanted version desired.Remove x) + 3 ≤ task_left w x
removed-left version w x kept =
    let low : desired_rank x.desired < desired_rank desired.Remove = grind (arith, nat_tests, kept) in
    omega (arith, wishes-kept x.desired low)

pub removed-moves : (version : ℕ) (x : Task) → TaskMoves x (wanted version desired.Remove x)
removed-moves version x = moves-wanted version desired.Remove x (desired-most x.desired)

pub live-low : (x : Task) → IsGood x → is_live x ≡ true → desired_rank x.desired ≤ desired_rank desired.Complete
live-low x good is =
    let low : desired_rank x.desired ≤ desired_rank x.goal = grind (arith, nat_tests, is) in omega (arith, low, good.goal)

pub shut-left : (version : ℕ) (w : World) (x : Task) → IsGood x → is_live x ≡ true →
    task_left w (wanted version desired.Shutdown x) + 3 ≤ task_left w x
shut-left version w x good live = omega (arith, wishes-live x.desired (live-low x good live))

pub shut-moves : (version : ℕ) (x : Task) → IsGood x → is_live x ≡ true → TaskMoves x (wanted version desired.Shutdown x)
shut-moves version x good live = moves-wanted version desired.Shutdown x (live-most x good live)

-- What places see.

pub seen-touch : (s : Service) (p : Place) (test : Task → Bool) (f : Task → Task) (xs : List Task) →
    ((x : Task) → Has xs x → test x ≡ true → SeenSame s p x (f x)) → AllSeen s p (touch test f) xs
seen-touch s p test f xs each x h = go (test x) refl
  where
    go : (b : Bool) → test x ≡ b → SeenSame s p x (cond b (f x) x)
    go true e = each x h e
    go false e = inl (look-same x)

out-of : (s : Service) (p : Place) (x : Task) → counts_for s x ≡ false → is_in_place s p x ≡ false
out-of s p x e = ap (λ (b : Bool). b && same_place x.place p) e

-- A task of no service that is there.

gone-counts : (t : Tables) (s : Service) (x : Task) → Has t.services s → has_service t x ≡ false → counts_for s x ≡ false
gone-counts t s x there none = go (eqb x.service s.id) refl
  where
    go : (b : Bool) → eqb x.service s.id ≡ b → (b && (not (is_job s.spec.mode) || x.iteration == s.iteration)) ≡ false
    go true e =
        never-both (has_service t x) none
        (has_row-Has service_id t.services s x.service there (grind (arith, nat_tests, e)))
    go false e = refl

pub falls-gone : (m version : ℕ) (w : World) (id : ℕ) → IsOrderly w → GivesOut w → IsDuty w (duty.Gone id) →
    measure m (with_tables w (after_gone version w.tables id)) + 1 ≤ measure m w
falls-gone m version w id orderly gives of =
    let t = w.tables in
    let test = λ (x : Task). x.id == id in
    let fact : (x : Task) → Has t.tasks x → test x ≡ true → is_gone t x ≡ true =
    λ x h e. of-any task_id t.next_id id t.tasks (λ y. is_gone t y ≡ true) orderly.tasks of x h (grind (arith, nat_tests, e)) in
    falls-where m w test (wanted version desired.Remove) orderly gives (λ x. refl)
    (λ x h e. (removed-moves version x, removed-left version w x (second_so _ (is_kept x) (fact x h e))))
    of.row of.there (grind (arith, nat_tests, of.id_is))
    (coming-unseen m t (touch test (wanted version desired.Remove))
    (λ s there k. seen-touch s (place_at s.spec.mode k) test (wanted version desired.Remove) t.tasks
    (λ x h e.
    let out = out-of s (place_at s.spec.mode k) x (gone-counts t s x there
    (not-is (has_service t x) (first_so _ _ (fact x h e)))) in
    inr (out, out))))
  where
    not-is : (b : Bool) → not b ≡ true → b ≡ false
    not-is true e = absurd cc
    not-is false e = refl

-- A task of an earlier iteration.

old-counts : (t : Tables) (s : Service) (x : Task) → RisesBetween service_id 1 t.next_id t.services → Has t.services s →
    is_old t x ≡ true → counts_for s x ≡ false
old-counts t s x rises there old = go (eqb x.service s.id) refl
  where
    of : (v : Service) × (row_at service_id x.service t.services ≡ Some v) × (is_old_of x v ≡ true)
    of = some-and-cases (is_old_of x) (row_at service_id x.service t.services) old

    none : (v : Service) → is_old_of x v ≡ true → (not (is_job v.spec.mode) || x.iteration == v.iteration) ≡ false
    none v e =
        let job : is_job v.spec.mode ≡ true = first_so (is_job v.spec.mode) _ (first_so _ _ e) in
        let less : nat_lt x.iteration v.iteration ≡ true = second_so (is_job v.spec.mode) _ (first_so _ _ e) in
        let apart : (x.iteration == v.iteration) ≡ false = grind (arith, nat_tests, less) in
        ap (λ (b : Bool). not b || x.iteration == v.iteration) job ∙ apart

    go : (b : Bool) → eqb x.service s.id ≡ b → (b && (not (is_job s.spec.mode) || x.iteration == s.iteration)) ≡ false
    go true e =
        let at = Has-from_row_at service_id x.service t.services of.0 of.1 in
        let same : of.0 ≡ s =
        between-one service_id 1 t.next_id t.services of.0 s rises at.0 there (at.1 ∙ grind (arith, nat_tests, e)) in
        subst (λ (v : Service). (not (is_job v.spec.mode) || x.iteration == v.iteration) ≡ false) same (none of.0 of.2)
    go false e = refl

old-kept : (t : Tables) (x : Task) → is_old t x ≡ true → is_kept x ≡ true
old-kept t x old =
    let of = some-and-cases (is_old_of x) (row_at service_id x.service t.services) old in second_so _ (is_kept x) of.2

pub falls-old : (m version : ℕ) (w : World) (id : ℕ) → IsOrderly w → GivesOut w → IsDuty w (duty.Old id) →
    measure m (with_tables w (after_old version w.tables id)) + 1 ≤ measure m w
falls-old m version w id orderly gives of =
    let t = w.tables in
    let test = λ (x : Task). x.id == id in
    let fact : (x : Task) → Has t.tasks x → test x ≡ true → is_old t x ≡ true =
    λ x h e. of-any task_id t.next_id id t.tasks (λ y. is_old t y ≡ true) orderly.tasks of x h (grind (arith, nat_tests, e)) in
    falls-where m w test (wanted version desired.Remove) orderly gives (λ x. refl)
    (λ x h e. (removed-moves version x, removed-left version w x (old-kept t x (fact x h e))))
    of.row of.there (grind (arith, nat_tests, of.id_is))
    (coming-unseen m t (touch test (wanted version desired.Remove))
    (λ s there k. seen-touch s (place_at s.spec.mode k) test (wanted version desired.Remove) t.tasks
    (λ x h e.
    let out = out-of s (place_at s.spec.mode k) x (old-counts t s x orderly.services there (fact x h e)) in
    inr (out, out))))

-- A task that waited goes on.

goal-above : (x : Mode) → desired_rank desired.Ready < desired_rank (goal_of x)
goal-above (mode.Replicated replicas) = omega arith
goal-above mode.Global = omega arith
goal-above (mode.Job concurrent total) = omega arith

raised-goal : (t : Tables) (x : Task) → AreOfServices t → Has t.tasks x → wants_raise t x ≡ true →
    desired_rank desired.Ready < desired_rank x.goal
raised-goal t x of there e =
    let current : is_current t x ≡ true = second_so _ (is_current t x) (first_so _ _ e) in
    let s = some-and-cases (λ v. counts_for v x) (row_at service_id x.service t.services) current in
    let at = Has-from_row_at service_id x.service t.services s.0 s.1 in
    let goal = (of x s.0 there at.0 (sym at.1)).goal in
    subst (λ (d : Desired). desired_rank desired.Ready < desired_rank d) (sym goal) (goal-above s.0.spec.mode)

waits : (t : Tables) (x : Task) → wants_raise t x ≡ true → desired_rank x.desired ≡ desired_rank desired.Ready
waits t x e =
    let to_wait : is_to_wait x ≡ true = first_so (is_to_wait x) _ (first_so _ _ (first_so _ _ (first_so _ _ e))) in
    grind (arith, nat_tests, to_wait)

raised-look : (version : ℕ) (x : Task) → IsGood x → desired_rank x.desired ≡ desired_rank desired.Ready →
    desired_rank desired.Ready < desired_rank x.goal → SameLook x (raised version x)
raised-look version x good ready up =
    let then : is_live (raised version x) ≡ true = grind (arith, nat_tests) in
    let was : is_live x ≡ true = grind (arith, nat_tests, ready, up) in
    let kept_then : is_kept (raised version x) ≡ true = grind (arith, nat_tests, good.goal) in
    let kept : is_kept x ≡ true = grind (arith, nat_tests, ready) in
    record {
      id = refl;
      service = refl;
      place = refl;
      iteration = refl;
      template = refl;
      live = then ∙ sym was;
      closes = ap (λ (b : Bool). is_some x.closed && b) (kept_then ∙ sym kept);
    }

raised-left : (version : ℕ) (w : World) (x : Task) → desired_rank x.desired ≡ desired_rank desired.Ready →
    desired_rank desired.Ready < desired_rank x.goal → task_left w (raised version x) + 3 ≤ task_left w x
raised-left version w x ready up =
    omega (arith, wishes-ready x.desired (omega (arith, ready)), wishes-above x.goal up)

pub falls-raise : (m version : ℕ) (w : World) (id : ℕ) → IsOrderly w → GivesOut w → AreOfServices w.tables →
    IsDuty w (duty.Raise id) → measure m (with_tables w (after_raise version w.tables id)) + 1 ≤ measure m w
falls-raise m version w id orderly gives services of =
    let t = w.tables in
    let test = λ (x : Task). x.id == id in
    let fact : (x : Task) → Has t.tasks x → test x ≡ true → wants_raise t x ≡ true =
    λ x h e. of-any task_id t.next_id id t.tasks (λ y. wants_raise t y ≡ true) orderly.tasks of x h (grind (arith, nat_tests, e)) in
    falls-where m w test (raised version) orderly gives (λ x. refl)
    (λ x h e. (
      raised-moves version t x (fact x h e),
      raised-left version w x (waits t x (fact x h e)) (raised-goal t x services h (fact x h e)),
    ))
    of.row of.there (grind (arith, nat_tests, of.id_is))
    (coming-unseen m t (touch test (raised version))
    (λ s there k. seen-touch s (place_at s.spec.mode k) test (raised version) t.tasks
    (λ x h e. inl (raised-look version x (orderly.good x h) (waits t x (fact x h e))
    (raised-goal t x services h (fact x h e))))))

-- A task that isn't wanted, and has no node yet, is given up.

dropped-left : (version clock : ℕ) (w : World) (x : Task) → is_to_drop x ≡ true →
    task_left w (in_state version clock state.Shutdown x) + 3 ≤ task_left w x
dropped-left version clock w x e =
    let below : rank x.state < rank state.Assigned = grind (arith, nat_tests, first_so (is_below_assigned x) _ e) in
    let none : is_below_assigned (in_state version clock state.Shutdown x) ≡ false = refl in
    omega (arith, below, left-at x.state, ap bit none)

in-look : (version clock : ℕ) (s : TaskState) (x : Task) → SameLook x (in_state version clock s x)
in-look version clock s x = record {
  id = refl;
  service = refl;
  place = refl;
  iteration = refl;
  template = refl;
  live = refl;
  closes = refl;
}

pub falls-drop : (m version : ℕ) (w : World) (id : ℕ) → IsOrderly w → GivesOut w → IsDuty w (duty.Drop id) →
    measure m (with_tables w (after_drop version w.tables id)) + 1 ≤ measure m w
falls-drop m version w id orderly gives of =
    let t = w.tables in
    let test = λ (x : Task). x.id == id in
    let f = in_state version t.clock state.Shutdown in
    let fact : (x : Task) → Has t.tasks x → test x ≡ true → is_to_drop x ≡ true =
    λ x h e. of-any task_id t.next_id id t.tasks (λ y. is_to_drop y ≡ true) orderly.tasks of x h (grind (arith, nat_tests, e)) in
    falls-where m w test f orderly gives (λ x. refl)
    (λ x h e. (dropped-moves version t.clock x (fact x h e), dropped-left version t.clock w x (fact x h e)))
    of.row of.there (grind (arith, nat_tests, of.id_is))
    (coming-unseen m t (touch test f)
    (λ s there k. seen-touch s (place_at s.spec.mode k) test f t.tasks
    (λ x h e. inl (in-look version t.clock state.Shutdown x))))
