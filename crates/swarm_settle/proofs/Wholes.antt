-- Where the newest task of a place is to be removed, every one is.
use Rattle.std.proofs.Common.{Bool, List, Option, Some, [], ap, arith, cond, false, not, refl, subst, sym, true, ℕ, ◌++◌, ◌∙◌, ◌∷◌, ◌≡◌, ◌≤◌}
use Rattle.std.proofs.lemmas.Bool.Decides.{nat_tests}
use Rattle.std.specs.Prelude.{filter, map, ◌&&◌, ◌==◌}
use Rattle.swarm_settle.proofs.PlaceLists.{SameMaking, comes-live, counts-of, newest-filter, newest-mapped, newest-push, newest-some, no-places, one-service, one-task, place-counts, place-filter, place-in, place-is, place-map, place-push, same-places, touch, touch-making}
use Rattle.swarm_settle.proofs.ServiceSteps.{respecified-none, respecified-places, run-places}
use Rattle.swarm_settle.proofs.Shapes.{Base, DutyStep, IsNowhere, OpStep, Restarts, closes, comes, creates, drops, goes, leaves, raises, removes, renews, respecifies, runs, shuts, starts_first, stays, still, stops_first, swaps}
use Rattle.swarm_model.proofs.Laws.Timely.{each-changed, each-pushed}
use Rattle.swarm_objects.proofs.RowLemmas.{Has-filter_cases, Has-map_cases}
use Rattle.swarm_objects.proofs.Tests.{both, false_from_ne_true, first_so, never-both, not_from_false, second_so}
use Rattle.swarm_objects.proofs.Newest.{newest_has}
use Rattle.swarm_objects.specs.Changes.{wanted}
use Rattle.swarm_objects.specs.Loops.Restart.{closed_by, raised, shut}
use Rattle.swarm_objects.specs.Loops.Update.{live_of_place}
use Rattle.swarm_objects.specs.Rows.{Has, service_id, task_id}
use Rattle.swarm_objects.specs.Services.Words.{is_job, is_live_dirty}
use Rattle.swarm_objects.specs.Tasks.Places.{counts_for, is_in_place, newest, place_at, tasks_of_place}
use Rattle.swarm_objects.specs.Tasks.Words.{is_kept, is_live, is_to_wait}
use Rattle.swarm_objects.specs.Values.Ranks.{desired_rank}
use Rattle.swarm_objects.specs.World.{Tables}
use Rattle.swarm_objects.specs.declared.services.Service.{Service}
use Rattle.swarm_objects.specs.declared.tasks.Closed.{Closed}
use Rattle.swarm_objects.specs.declared.tasks.Desired.TheVariants as desired
use Rattle.swarm_objects.specs.declared.tasks.Place.{Place}
use Rattle.swarm_objects.specs.declared.tasks.Task.{Task}

abbrev pub IsWhole : List Task → Type 0
IsWhole xs = (y z : Task) → Has xs y → is_kept y ≡ true → newest xs ≡ Some z → is_kept z ≡ true

abbrev pub Wholes : Tables → Type 0
Wholes t = (s : Service) (p : Place) → Has t.services s → IsWhole (tasks_of_place s p t.tasks)

whole-map : (f : Task → Task) (xs : List Task) → ((x : Task) → Has xs x → is_kept (f x) ≡ is_kept x) → IsWhole xs →
    IsWhole (map f xs)
whole-map f xs same is y z h kept last =
    let from = Has-map_cases f xs y h in
    let at = newest-mapped f xs z last in
    let old : is_kept from.0 ≡ true = sym (same from.0 from.1) ∙ ap is_kept from.2 ∙ kept in
    let new = is from.0 at.0 from.1 old at.1 in
    ap is_kept (sym at.2) ∙ same at.0 (newest_has xs at.0 at.1) ∙ new

whole-push : (xs : List Task) (x : Task) → is_kept x ≡ true → IsWhole (xs ++ x ∷ [])
whole-push xs x kept y z h k last =
    let is : Some x ≡ Some z = sym (newest-push xs x) ∙ last in
    let same : x ≡ z = cc in
    ap is_kept (sym same) ∙ kept

whole-filter : (test : Task → Bool) (xs : List Task) →
    ((z : Task) → newest xs ≡ Some z → is_kept z ≡ true → test z ≡ true) → IsWhole xs → IsWhole (filter test xs)
whole-filter test xs passes is y z h kept last =
    let old = Has-filter_cases test xs y h in
    let top = newest-some xs y old.0 in
    let whole = is y top.0 old.0 kept top.1 in
    let left = newest-filter test xs top.0 top.1 (passes top.0 top.1 whole) in
    let is : Some top.0 ≡ Some z = sym left ∙ last in
    let same : top.0 ≡ z = cc in
    ap is_kept (sym same) ∙ whole

-- What keeps a task.

raised-kept : (x : Task) → desired_rank x.goal ≤ desired_rank desired.Complete → is_to_wait x ≡ true →
    is_kept (raised 0 x) ≡ is_kept x
raised-kept x goal waits =
    let a : is_kept (raised 0 x) ≡ true = grind (arith, nat_tests, goal) in
    let b : is_kept x ≡ true = grind (arith, nat_tests, waits) in
    a ∙ sym b

pub live-is-kept : (x : Task) → desired_rank x.goal ≤ desired_rank desired.Complete → is_live x ≡ true →
    is_kept x ≡ true
live-is-kept x goal live =
    let low : desired_rank x.desired ≤ desired_rank x.goal = grind (arith, nat_tests, live) in
    grind (arith, nat_tests, low, goal)

shut-kept : (x : Task) → desired_rank x.goal ≤ desired_rank desired.Complete → is_live x ≡ true →
    is_kept (wanted 0 desired.Shutdown x) ≡ is_kept x
shut-kept x goal live = sym (live-is-kept x goal live)

-- A touched list.

touched-whole : (t : Tables) (test : Task → Bool) (f : Task → Task) → ((x : Task) → SameMaking x (f x)) →
    ((x : Task) → Has t.tasks x → test x ≡ true → is_kept (f x) ≡ is_kept x) → Wholes t →
    (s : Service) (p : Place) → Has t.services s → IsWhole (tasks_of_place s p (map (touch test f) t.tasks))
touched-whole t test f keeps same is s p h =
    subst IsWhole (sym (place-map s p (touch test f) t.tasks (touch-making test f keeps)))
    (whole-map (touch test f) (tasks_of_place s p t.tasks)
    (λ x k. go x (Has-filter_cases (is_in_place s p) t.tasks x k).0 (test x) refl) (is s p h))
  where
    go : (x : Task) → Has t.tasks x → (b : Bool) → test x ≡ b → is_kept (cond b (f x) x) ≡ is_kept x
    go x k true e = same x k e
    go x k false e = refl

pub wanted-making : (d : _) (x : Task) → SameMaking x (wanted 0 d x)
wanted-making d x =
    record { id = refl; service = refl; place = refl; iteration = refl; template = refl; goal = refl }

pub raised-making : (x : Task) → SameMaking x (raised 0 x)
raised-making x =
    record { id = refl; service = refl; place = refl; iteration = refl; template = refl; goal = refl }

pub closed-making : (cause : Closed) (x : Task) → SameMaking x (closed_by 0 cause x)
closed-making cause x =
    record { id = refl; service = refl; place = refl; iteration = refl; template = refl; goal = refl }

pub number-is : (a b : ℕ) → (a == b) ≡ true → a ≡ b
number-is a b e = grind (arith, nat_tests, e)

-- the task with the number is this one
pub at-number : (t : Tables) → Base t → (x y : Task) → Has t.tasks x → Has t.tasks y → (task_id y == x.id) ≡ true →
    x ≡ y
at-number t base x y h k e = one-task t base x y h k (sym (number-is y.id x.id e))

shut-whole : (t : Tables) (x : Task) (s : Service) → Base t → Restarts t x s → Wholes t →
    (v : Service) (p : Place) → Has t.services v →
    IsWhole (tasks_of_place v p (map (touch (λ y. task_id y == x.id) (wanted 0 desired.Shutdown)) t.tasks))
shut-whole t x s base r is =
    touched-whole t (λ y. task_id y == x.id) (wanted 0 desired.Shutdown) (wanted-making desired.Shutdown)
    (λ y k e.
    let same = at-number t base x y r.there k e in
    subst (λ (z : Task). is_kept (wanted 0 desired.Shutdown z) ≡ is_kept z) same
    (shut-kept x (base.goal x r.there) r.live)) is

-- the new task
pushed-whole : (s : Service) (p : Place) (xs : List Task) (y : Task) → is_kept y ≡ true →
    IsWhole (tasks_of_place s p xs) → IsWhole (tasks_of_place s p (xs ++ y ∷ []))
pushed-whole s p xs y kept is =
    place-push IsWhole s p xs y (λ inside. whole-push (tasks_of_place s p xs) y kept) (λ outside. is)

-- tasks of one place of a service stand in the same place of another one
pub stand-alike : (t : Tables) → Base t → (s v : Service) (p q : Place) (x y : Task) → Has t.services s →
    Has t.services v → is_in_place s p x ≡ true → is_in_place s p y ≡ true → is_in_place v q x ≡ true →
    is_in_place v q y ≡ true
stand-alike t base s v p q x y h k x_in y_in x_there =
    let cx = place-counts s p x x_in in
    let dx = place-counts v q x x_there in
    let same = one-service t base s v h k (sym (counts-of s x cx) ∙ counts-of v x dx) in
    let place : y.place ≡ q = place-is s p y y_in ∙ sym (place-is s p x x_in) ∙ place-is v q x x_there in
    place-in v q y (subst (λ (z : Service). counts_for z y ≡ true) same (place-counts s p y y_in)) place

removed-whole : (t : Tables) (s : Service) (k : ℕ) → Base t → Has t.services s → Wholes t → (v : Service) (p : Place) →
    Has t.services v →
    IsWhole (tasks_of_place v p (map (touch (λ x. is_in_place s (place_at s.spec.mode k) x && is_kept x)
    (wanted 0 desired.Remove)) t.tasks))
removed-whole t s k base there is v p h =
    subst IsWhole
    (sym (place-map v p (touch gone (wanted 0 desired.Remove)) t.tasks
    (touch-making gone (wanted 0 desired.Remove) (wanted-making desired.Remove))))
    whole
  where
    q : Place
    q = place_at s.spec.mode k

    gone : Task → Bool
    gone x = is_in_place s q x && is_kept x

    left : (x : Task) (b : Bool) → gone x ≡ b → is_kept (cond b (wanted 0 desired.Remove x) x) ≡ true →
        (is_kept x ≡ true) × (is_in_place s q x ≡ false)
    left x true e kept = absurd cc
    left x false e kept = (
      kept,
      false_from_ne_true (is_in_place s q x)
          (λ inside. never-both (gone x) e (both (is_in_place s q x) (is_kept x) inside kept)),
    )

    outside : (x : Task) → is_in_place s q x ≡ false → is_kept x ≡ true →
        is_kept (touch gone (wanted 0 desired.Remove) x) ≡ true
    outside x e kept =
        ap (λ (b : Bool). is_kept (cond (b && is_kept x) (wanted 0 desired.Remove x) x)) e ∙ kept

    whole : IsWhole (map (touch gone (wanted 0 desired.Remove)) (tasks_of_place v p t.tasks))
    whole y z in_list kept last =
        let from = Has-map_cases (touch gone (wanted 0 desired.Remove)) (tasks_of_place v p t.tasks) y in_list in
        let at = newest-mapped (touch gone (wanted 0 desired.Remove)) (tasks_of_place v p t.tasks) z last in
        let still_there = left from.0 (gone from.0) refl (ap is_kept from.2 ∙ kept) in
        let x_in = Has-filter_cases (is_in_place v p) t.tasks from.0 from.1 in
        let z_in =
        Has-filter_cases (is_in_place v p) t.tasks at.0 (newest_has (tasks_of_place v p t.tasks) at.0 at.1) in
        let old = is v p h from.0 at.0 from.1 still_there.0 at.1 in
        let away : is_in_place s q at.0 ≡ false =
        false_from_ne_true (is_in_place s q at.0)
        (λ inside.
        never-both (is_in_place s q from.0) still_there.1
        (stand-alike t base v s p q at.0 from.0 h there z_in.1 x_in.1 inside)) in
        ap is_kept (sym at.2) ∙ outside at.0 away old

-- a task that stands nowhere
gone-whole : (t : Tables) (x : Task) → Base t → Has t.tasks x → IsNowhere t x → Wholes t → (s : Service) (p : Place) →
    Has t.services s →
    IsWhole (tasks_of_place s p (map (touch (λ y. task_id y == x.id) (wanted 0 desired.Remove)) t.tasks))
gone-whole t x base there nowhere is s p h =
    subst IsWhole
    (sym (place-map s p (touch at (wanted 0 desired.Remove)) t.tasks
    (touch-making at (wanted 0 desired.Remove) (wanted-making desired.Remove))))
    (whole-map (touch at (wanted 0 desired.Remove)) (tasks_of_place s p t.tasks) (λ y k. go y k (at y) refl) (is s p h))
  where
    at : Task → Bool
    at y = task_id y == x.id

    go : (y : Task) → Has (tasks_of_place s p t.tasks) y → (b : Bool) → at y ≡ b →
        is_kept (cond b (wanted 0 desired.Remove y) y) ≡ is_kept y
    go y k false e = refl
    go y k true e =
        let inside = Has-filter_cases (is_in_place s p) t.tasks y k in
        let same = at-number t base x y there inside.0 e in
        never-both (counts_for s x) (nowhere s h)
        (subst (λ (z : Task). counts_for s z ≡ true) (sym same) (place-counts s p y inside.1))

pub wholes-duty : (e : ℕ) (t u : Tables) (set : Option (ℕ × Closed)) → Base t → DutyStep e t set u → Wholes t →
    Wholes u
wholes-duty e t u set base stays is = is
wholes-duty e t u set base (raises x h w) is =
    touched-whole t (λ y. task_id y == x.id) (raised 0) raised-making
    (λ y k c.
    let same = at-number t base x y h k c in
    subst (λ (z : Task). is_kept (raised 0 z) ≡ is_kept z) same (raised-kept x (base.goal x h) w)) is
wholes-duty e t u set base (goes x h none) is = gone-whole t x base h none is
wholes-duty e t u set base (shuts x s r other) is = shut-whole t x s base r is
wholes-duty e t u set base (renews x y s r none new) is =
    λ v p h. pushed-whole v p _ y (comes-live t s x.place y new).1 (shut-whole t x s base r is v p h)
wholes-duty e t u set base (closes x y s cause r none last) is =
    touched-whole (shut 0 x.id t) (λ z. task_id z == y.id) (closed_by 0 cause) (closed-making cause)
    (λ z k c. refl) (shut-whole t x s base r is)
wholes-duty e t u set base (swaps s run k r) is =
    touched-whole t (λ x. is_in_place s (place_at s.spec.mode k) x && is_live_dirty s x) (wanted 0 desired.Shutdown)
    (wanted-making desired.Shutdown)
    (λ x h c. shut-kept x (base.goal x h) (first_so (is_live x) _ (second_so _ (is_live_dirty s x) c))) is
wholes-duty e t u set base (removes s k h) is = removed-whole t s k base h is
wholes-duty e t u set base (creates s k y h unheld room new) is =
    λ v p there. pushed-whole v p t.tasks y (comes-live t s _ y new).1 (is v p there)
wholes-duty e t u set base (drops x h dead old) is = λ v p there.
    subst IsWhole (sym (place-filter v p (λ y. not (task_id y == x.id)) t.tasks))
    (whole-filter (λ y. not (task_id y == x.id)) (tasks_of_place v p t.tasks)
    (λ z last kept. not_from_false (task_id z == x.id) (false_from_ne_true (task_id z == x.id)
    (λ same. old v p z there last kept (number-is z.id x.id same))))
    (is v p there))
wholes-duty e t u set base (stops_first s run k y r new) is =
    λ v p h. pushed-whole v p _ y (comes-live t s _ y new).1
    (touched-whole t (live_of_place s k) (wanted 0 desired.Shutdown) (wanted-making desired.Shutdown)
    (λ x there c. shut-kept x (base.goal x there) (second_so _ (is_live x) c)) is v p h)
wholes-duty e t u set base (starts_first s run k y r new) is =
    λ v p there. pushed-whole v p t.tasks y (comes-live t s _ y new).1 (is v p there)
wholes-duty e t u set base (runs s v h no_job step) is = λ z p.
    each-changed (λ (w : Service). IsWhole (tasks_of_place w p t.tasks)) service_id s.id (λ old. v) t.services
    (λ w k. is w p k)
    (λ w k same. subst IsWhole (sym (same-places s v (run-places e t s v step) p t.tasks)) (is s p h)) z

none-whole : IsWhole []
none-whole y z h kept last = absurd h

pub wholes-op : (e : ℕ) (t u : Tables) → Base t → OpStep e t u → Wholes t → Wholes u
wholes-op e t u base still is = is
wholes-op e t u base (respecifies s v spec h r) is = λ z p.
    each-changed (λ (w : Service). IsWhole (tasks_of_place w p t.tasks)) service_id s.id (λ old. v) t.services
    (λ w k. is w p k) (λ w k same. go p (is_job s.spec.mode) refl) z
  where
    go : (p : Place) (b : Bool) → is_job s.spec.mode ≡ b → IsWhole (tasks_of_place v p t.tasks)
    go p true job =
        subst IsWhole (sym (no-places v p t.tasks (respecified-none e t spec s v base h r job))) none-whole
    go p false job =
        subst IsWhole (sym (same-places s v (respecified-places e spec s v r job) p t.tasks)) (is s p h)
wholes-op e t u base (comes s none run at) is = λ z p.
    each-pushed (λ (w : Service). IsWhole (tasks_of_place w p t.tasks)) t.services s (λ w k. is w p k)
    (subst IsWhole
    (sym (no-places s p t.tasks (λ x h. false_from_ne_true (counts_for s x) (λ c. none x h (counts-of s x c)))))
    none-whole) z
wholes-op e t u base (leaves id) is = λ s p h. is s p (Has-filter_cases _ t.services s h).0
