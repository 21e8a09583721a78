-- Where a run to the present template came to its end, no live task is dirty, and a place that is closed has a clean
-- newest task or was closed later.
use Rattle.std.proofs.Common.{Bool, List, None, Option, Some, [], ap, arith, cond, false, inl, inr, not, refl, subst, sym, true, ℕ, ◌++◌, ◌+◌, ◌<◌, ◌∙◌, ◌∷◌, ◌≡◌, ◌≤◌, ◌⊎◌}
use Rattle.std.proofs.lemmas.Bool.Decides.{nat_tests}
use Rattle.std.specs.List.{list_any}
use Rattle.std.specs.Prelude.{filter, map, ◌&&◌, ◌==◌, ◌||◌}
use Rattle.swarm_settle.proofs.Goals.{Goals}
use Rattle.swarm_settle.proofs.Held.{closes-kept, member-number, newest-left}
use Rattle.swarm_settle.proofs.JobBounds.{Sinks, gone-sinks, other-place, raised-sinks, shut-sinks}
use Rattle.swarm_settle.proofs.PlaceLists.{SameMaking, SamePlaces, comes-counts, comes-live, counts-of, newest-mapped, one-service, place-counts, place-filter, place-in, place-is, place-map, place-push, same-places, touch, touch-making, untouched}
use Rattle.swarm_settle.proofs.ServiceSteps.{respecified-places, run-places}
use Rattle.swarm_settle.proofs.Shapes.{Base, Closings, Comes, DutyStep, IsLater, OpStep, Respecifies, Restarts, RunStep, Runs, SameButRun, begins, closes, comes, creates, drops, ends, goes, goes_back, is_done, leaves, pushed, raises, removes, renews, respecifies, runs, shuts, starts_first, stays, still, stops_first, swaps}
use Rattle.swarm_settle.proofs.Versions.{IsVersioned, Versions}
use Rattle.swarm_settle.proofs.Wholes.{Wholes, at-number, closed-making, number-is, raised-making, stand-alike, wanted-making}
use Rattle.swarm_model.proofs.Laws.Alone.{none-of-any}
use Rattle.swarm_model.proofs.Laws.Timely.{each-changed, each-pushed}
use Rattle.swarm_model.proofs.Laws.OneEach.{job-alike}
use Rattle.swarm_model.specs.Closing.{Closing}
use Rattle.swarm_objects.proofs.RowLemmas.{Has-append_cases, Has-append_right, Has-filter, Has-filter_cases, Has-map, Has-map_cases}
use Rattle.swarm_objects.proofs.SameLemmas.{Decides-same_template}
use Rattle.swarm_objects.proofs.Tests.{any-has, both, false_from_ne_true, first_so, has-any, neither_left, neither_right, never-both, not-true, not_from_false, or_right, second_so, some-and}
use Rattle.swarm_objects.proofs.Newest.{newest_has}
use Rattle.swarm_objects.specs.Changes.{wanted}
use Rattle.swarm_objects.specs.Loops.Restart.{closed_by, raised, shut}
use Rattle.swarm_objects.specs.Rows.{Has, is_some_and, service_id, task_id}
use Rattle.swarm_objects.specs.Same.{same_place, same_template}
use Rattle.swarm_objects.specs.Services.Runs.{is_open, is_under_way}
use Rattle.swarm_objects.specs.Services.Words.{is_clean, is_job, is_live_dirty}
use Rattle.swarm_objects.specs.Tasks.Places.{closes as closes_place, closes_dirty, counts_for, has_dirty_place, has_live, has_other, is_dirty_place, is_in_place, newest, place_at, place_numbers, place_tasks, tasks_of_place}
use Rattle.swarm_objects.specs.Tasks.Words.{is_kept, is_live, is_to_wait}
use Rattle.swarm_objects.specs.World.{Tables}
use Rattle.swarm_objects.specs.declared.services.RunStatus.TheVariants as status
use Rattle.swarm_objects.specs.declared.services.RunStatus.{RunStatus}
use Rattle.swarm_objects.specs.declared.services.Service.{Service}
use Rattle.swarm_objects.specs.declared.services.ServiceSpec.{ServiceSpec}
use Rattle.swarm_objects.specs.declared.services.UpdateRun.{UpdateRun}
use Rattle.swarm_objects.specs.declared.tasks.Closed.{Closed}
use Rattle.swarm_objects.specs.declared.tasks.Desired.TheVariants as desired
use Rattle.swarm_objects.specs.declared.tasks.Place.{Place}
use Rattle.swarm_objects.specs.declared.tasks.Task.{Task}
use Rattle.swarm_objects.specs.declared.templates.Template.{Template}

-- the task is clean, or its cause came after the template
abbrev pub IsClosedWell : Closings → Service → Task → Type 0
IsClosedWell c s z =
    (is_clean s z ≡ true) ⊎ ((k : Closing) × (c z.id ≡ Some k) × (s.template_version < k.entry))

pub record IsEndedWell (c : Closings) (s : Service) (xs : List Task) : Type 0 where
  pub clean : (y : Task) → Has xs y → is_live y ≡ true → is_clean s y ≡ true
  pub closed : list_any is_live xs ≡ false → (z : Task) → newest xs ≡ Some z → closes_place z ≡ true →
      IsClosedWell c s z

-- the run to the present template came to its end
abbrev pub IsRunDone : Service → Type 0
IsRunDone s =
    (run : UpdateRun) × (s.run ≡ Some run) × (is_done run.status ≡ true) × (run.version ≡ s.template_version)

abbrev pub IsEndedService : Closings → Tables → Service → Type 0
IsEndedService c t s =
    is_job s.spec.mode ≡ false → IsRunDone s → (p : Place) → IsEndedWell c s (tasks_of_place s p t.tasks)

abbrev pub EndedRuns : Closings → Tables → Type 0
EndedRuns c t = (s : Service) → Has t.services s → IsEndedService c t s

done-open : (s : RunStatus) → is_done s ≡ true → is_open s ≡ false
done-open status.Completed e = refl
done-open status.RollbackCompleted e = refl
done-open status.Updating e = absurd cc
done-open status.RollbackStarted e = absurd cc
done-open status.Paused e = absurd cc
done-open status.RollbackPaused e = absurd cc

-- no run is under way and at its end
pub not-done : (s : Service) (run : UpdateRun) → s.run ≡ Some run → is_under_way run ≡ true → ¬ (IsRunDone s)
not-done s run e way done =
    let is : Some run ≡ Some done.0 = sym e ∙ done.1 in
    let same : run ≡ done.0 = cc in
    never-both (is_under_way run) (ap is_under_way same ∙ done-open done.0.status done.2) way

-- Lists.

clean-same : (s : Service) (x y : Task) → SameMaking x y → is_clean s y ≡ is_clean s x
clean-same s x y m =
    ap (λ (a : Template). same_template a s.spec.template && (not (is_job s.spec.mode) || y.iteration == s.iteration))
    m.template
    ∙ ap (λ (k : ℕ). same_template x.template s.spec.template && (not (is_job s.spec.mode) || k == s.iteration))
    m.iteration

closed-read : (c d : Closings) (s : Service) (z y : Task) → SameMaking z y → d y.id ≡ c z.id → IsClosedWell c s z →
    IsClosedWell d s y
closed-read c d s z y m same (inl e) = inl (clean-same s z y m ∙ e)
closed-read c d s z y m same (inr k) = inr (k.0, same ∙ k.1, k.2)

pub ended-read : (c d : Closings) (s : Service) (xs : List Task) → ((id : ℕ) → d id ≡ c id) → IsEndedWell c s xs →
    IsEndedWell d s xs
ended-read c d s xs same is = record {
  clean = is.clean;
  closed = λ none z last e.
      closed-read c d s z z
      (record { id = refl; service = refl; place = refl; iteration = refl; template = refl; goal = refl })
      (same z.id) (is.closed none z last e);
}

-- of a change that makes nothing live, lets nothing close, and leaves a live task where there was one
ended-map : (c : Closings) (s : Service) (xs : List Task) (f : Task → Task) → ((x : Task) → SameMaking x (f x)) →
    ((x : Task) → Has xs x → is_live (f x) ≡ true → is_live x ≡ true) →
    ((x : Task) → Has xs x → closes_place (f x) ≡ true → closes_place x ≡ true) →
    (list_any is_live (map f xs) ≡ false → list_any is_live xs ≡ false) → IsEndedWell c s xs →
    IsEndedWell c s (map f xs)
ended-map c s xs f keeps alive shuts_not stay is = record {
  clean = λ y h live.
      let from = Has-map_cases f xs y h in
      ap (is_clean s) (sym from.2) ∙ clean-same s from.0 (f from.0) (keeps from.0)
      ∙ is.clean from.0 from.1 (alive from.0 from.1 (ap is_live from.2 ∙ live));
  closed = λ none z last e.
      let at = newest-mapped f xs z last in
      let before = shuts_not at.0 (newest_has xs at.0 at.1) (ap closes_place at.2 ∙ e) in
      subst (IsClosedWell c s) at.2
      (closed-read c c s at.0 (f at.0) (keeps at.0) (ap c (keeps at.0).id) (is.closed (stay none) at.0 at.1 before));
}

-- a clean live task comes
ended-push : (c : Closings) (s : Service) (xs : List Task) (y : Task) →
    ((x : Task) → Has xs x → is_live x ≡ true → is_clean s x ≡ true) → is_live y ≡ true → is_clean s y ≡ true →
    IsEndedWell c s (xs ++ y ∷ [])
ended-push c s xs y all live clean = record {
  clean = λ x h alive. go x alive (Has-append_cases xs (y ∷ []) x h);
  closed = λ none z last e.
      absurd (let some : list_any is_live (xs ++ y ∷ []) ≡ true =
      has-any is_live (xs ++ y ∷ []) y (Has-append_right xs (y ∷ []) y (inl refl)) live in
      never-both (list_any is_live (xs ++ y ∷ [])) none some);
}
  where
    go : (x : Task) → is_live x ≡ true → Has xs x ⊎ Has (y ∷ []) x → is_clean s x ≡ true
    go x alive (inl h) = all x h alive
    go x alive (inr (inl e)) = ap (is_clean s) (sym e) ∙ clean
    go x alive (inr (inr h)) = absurd h

comes-clean : (t : Tables) (s : Service) (p : Place) (y : Task) → Comes t s p y → is_clean s y ≡ true
comes-clean t s p y new =
    both (same_template y.template s.spec.template) _
    ((Decides-same_template y.template s.spec.template).1 new.template)
    (or_right (not (is_job s.spec.mode)) (y.iteration == s.iteration) (grind (arith, nat_tests, new.iteration)))

-- Places that a touch leaves alone.

untouched-place : (s : Service) (p : Place) (test : Task → Bool) (f : Task → Task) (xs : List Task) →
    ((x : Task) → SameMaking x (f x)) → ((x : Task) → Has (tasks_of_place s p xs) x → test x ≡ false) →
    tasks_of_place s p (map (touch test f) xs) ≡ tasks_of_place s p xs
untouched-place s p test f xs keeps none =
    place-map s p (touch test f) xs (touch-making test f keeps) ∙ untouched test f (tasks_of_place s p xs) none

-- a place without the task
without-task : (t : Tables) (x : Task) (v : Service) (p : Place) (f : Task → Task) → Base t → Has t.tasks x →
    is_in_place v p x ≡ false → ((y : Task) → SameMaking y (f y)) →
    tasks_of_place v p (map (touch (λ y. task_id y == x.id) f) t.tasks) ≡ tasks_of_place v p t.tasks
without-task t x v p f base h out keeps =
    untouched-place v p (λ y. task_id y == x.id) f t.tasks keeps
    (λ y k.
    let inside = Has-filter_cases (is_in_place v p) t.tasks y k in
    false_from_ne_true (task_id y == x.id)
    (λ e. never-both (is_in_place v p x) out
    (ap (is_in_place v p) (at-number t base x y h inside.0 e) ∙ inside.1)))

-- Duties.

-- where the places of the service stay as they were
ended-same : (c d : Closings) (s : Service) (xs ys : List Task) → ys ≡ xs → ((id : ℕ) → d id ≡ c id) →
    IsEndedWell c s xs → IsEndedWell d s ys
ended-same c d s xs ys e same is = subst (IsEndedWell d s) (sym e) (ended-read c d s xs same is)

raised-ended : (c : Closings) (t : Tables) (x : Task) → Base t → Goals t → Has t.tasks x → is_to_wait x ≡ true →
    (v : Service) (p : Place) → IsEndedWell c v (tasks_of_place v p t.tasks) →
    IsEndedWell c v (tasks_of_place v p (map (touch (λ y. task_id y == x.id) (raised 0)) t.tasks))
raised-ended c t x base goals h w v p is =
    subst (IsEndedWell c v)
    (sym (place-map v p (touch at (raised 0)) t.tasks (touch-making at (raised 0) raised-making)))
    (ended-map c v xs (touch at (raised 0)) (touch-making at (raised 0) raised-making)
    (λ y k. (sinks y (there y k) (at y) refl).live) (λ y k. (sinks y (there y k) (at y) refl).closes)
    (λ none. false_from_ne_true (list_any is_live xs) (λ some. still_live none (any-has is_live xs some))) is)
  where
    at : Task → Bool
    at y = task_id y == x.id

    xs : List Task
    xs = tasks_of_place v p t.tasks

    there : (y : Task) → Has xs y → Has t.tasks y
    there y k = (Has-filter_cases (is_in_place v p) t.tasks y k).0

    sinks : (y : Task) → Has t.tasks y → (b : Bool) → at y ≡ b → Sinks y (cond b (raised 0 y) y)
    sinks y k true e =
        subst (λ (z : Task). Sinks z (raised 0 z)) (at-number t base x y h k e) (raised-sinks x (goals x h) w)
    sinks y k false e = record { live = λ j. j; closes = λ j. j }

    stays_live : (y : Task) (b : Bool) → is_live y ≡ true → is_live (cond b (raised 0 y) y) ≡ true
    stays_live y true live = grind (arith, nat_tests)
    stays_live y false live = live

    still_live : list_any is_live (map (touch at (raised 0)) xs) ≡ false →
        (y : Task) × Has xs y × (is_live y ≡ true) → ⊥
    still_live none one =
        never-both _ none
        (has-any is_live (map (touch at (raised 0)) xs) (touch at (raised 0) one.0)
        (Has-map (touch at (raised 0)) xs one.0 one.1) (stays_live one.0 (at one.0) one.2))

-- tasks of one place that are to stop, where another live one is left
stopped-ended : (c : Closings) (t : Tables) (test : Task → Bool) → Base t →
    ((x : Task) → Has t.tasks x → test x ≡ true → is_live x ≡ true) → (v : Service) (p : Place) →
    (list_any is_live (map (touch test (wanted 0 desired.Shutdown)) (tasks_of_place v p t.tasks)) ≡ false →
    list_any is_live (tasks_of_place v p t.tasks) ≡ false) →
    IsEndedWell c v (tasks_of_place v p t.tasks) →
    IsEndedWell c v (tasks_of_place v p (map (touch test (wanted 0 desired.Shutdown)) t.tasks))
stopped-ended c t test base lives v p stay is =
    subst (IsEndedWell c v)
    (sym (place-map v p (touch test f) t.tasks (touch-making test f (wanted-making desired.Shutdown))))
    (ended-map c v xs (touch test f) (touch-making test f (wanted-making desired.Shutdown))
    (λ y k. (sinks y (there y k) (test y) refl).live) (λ y k. (sinks y (there y k) (test y) refl).closes) stay is)
  where
    f : Task → Task
    f = wanted 0 desired.Shutdown

    xs : List Task
    xs = tasks_of_place v p t.tasks

    there : (y : Task) → Has xs y → Has t.tasks y
    there y k = (Has-filter_cases (is_in_place v p) t.tasks y k).0

    sinks : (y : Task) → Has t.tasks y → (b : Bool) → test y ≡ b → Sinks y (cond b (f y) y)
    sinks y k true e = shut-sinks y (base.goal y k) (lives y k e)
    sinks y k false e = record { live = λ j. j; closes = λ j. j }

still-live : (test : Task → Bool) (f : Task → Task) (xs : List Task) (y : Task) → Has xs y → is_live y ≡ true →
    test y ≡ false → list_any is_live (map (touch test f) xs) ≡ true
still-live test f xs y h live out =
    has-any is_live (map (touch test f) xs) (touch test f y) (Has-map (touch test f) xs y h)
    (ap (λ (b : Bool). is_live (cond b (f y) y)) out ∙ live)

-- the place of a task in its own service
own-place : (t : Tables) (x : Task) (s : Service) → Restarts t x s → is_in_place s x.place x ≡ true
own-place t x s r = place-in s x.place x r.counts refl

shuts-ended : (c : Closings) (t : Tables) (x : Task) (s : Service) → Base t → Restarts t x s → has_other t s x ≡ true →
    (v : Service) (p : Place) → Has t.services v → IsEndedWell c v (tasks_of_place v p t.tasks) →
    IsEndedWell c v (tasks_of_place v p (shut 0 x.id t).tasks)
shuts-ended c t x s base r other v p h is =
    stopped-ended c t at base
    (λ y k e. subst (λ (z : Task). is_live z ≡ true) (at-number t base x y r.there k e) r.live) v p
    (λ none. false_from_ne_true (list_any is_live xs) (λ some. let one = any-has is_live xs some in
    go none one.0 one.1 one.2 (at one.0) refl)) is
  where
    at : Task → Bool
    at y = task_id y == x.id

    xs : List Task
    xs = tasks_of_place v p t.tasks

    go : list_any is_live (map (touch at (wanted 0 desired.Shutdown)) xs) ≡ false → (y : Task) → Has xs y →
        is_live y ≡ true → (b : Bool) → at y ≡ b → ⊥
    go none y k live false e = never-both _ none (still-live at (wanted 0 desired.Shutdown) xs y k live e)
    go none y k live true e =
        let y_in = Has-filter_cases (is_in_place v p) t.tasks y k in
        let same = at-number t base x y r.there y_in.0 e in
        let x_in : is_in_place v p x ≡ true = ap (is_in_place v p) same ∙ y_in.1 in
        let another =
        any-has (λ z. is_live z && not (z.id == x.id)) (tasks_of_place s x.place t.tasks) other in
        let z_in = Has-filter_cases (is_in_place s x.place) t.tasks another.0 another.1 in
        let inside =
        stand-alike t base s v x.place p x another.0 r.of h (own-place t x s r) z_in.1 x_in in
        never-both _ none
        (still-live at (wanted 0 desired.Shutdown) xs another.0
        (Has-filter (is_in_place v p) t.tasks another.0 z_in.0 inside) (first_so (is_live another.0) _ another.2)
        (not-true (another.0.id == x.id) (second_so (is_live another.0) _ another.2)))

-- live tasks stay clean
clean-map : (c : Closings) (s : Service) (xs : List Task) (f : Task → Task) → ((x : Task) → SameMaking x (f x)) →
    ((x : Task) → Has xs x → is_live (f x) ≡ true → is_live x ≡ true) →
    ((x : Task) → Has xs x → is_live x ≡ true → is_clean s x ≡ true) → (y : Task) → Has (map f xs) y →
    is_live y ≡ true → is_clean s y ≡ true
clean-map c s xs f keeps alive all y h live =
    let from = Has-map_cases f xs y h in
    ap (is_clean s) (sym from.2) ∙ clean-same s from.0 (f from.0) (keeps from.0)
    ∙ all from.0 from.1 (alive from.0 from.1 (ap is_live from.2 ∙ live))

shut-clean : (c : Closings) (t : Tables) (x : Task) (s : Service) → Base t → Restarts t x s → (v : Service)
    (p : Place) → IsEndedWell c v (tasks_of_place v p t.tasks) → (y : Task) →
    Has (tasks_of_place v p (shut 0 x.id t).tasks) y → is_live y ≡ true → is_clean v y ≡ true
shut-clean c t x s base r v p is y h live =
    clean-map c v (tasks_of_place v p t.tasks) (touch at f) (touch-making at f (wanted-making desired.Shutdown))
    (λ z k. alive z (Has-filter_cases (is_in_place v p) t.tasks z k).0 (at z) refl) is.clean y
    (subst (λ (zs : List Task). Has zs y)
    (place-map v p (touch at f) t.tasks (touch-making at f (wanted-making desired.Shutdown))) h) live
  where
    at : Task → Bool
    at z = task_id z == x.id

    f : Task → Task
    f = wanted 0 desired.Shutdown

    alive : (z : Task) → Has t.tasks z → (b : Bool) → at z ≡ b → is_live (cond b (f z) z) ≡ true → is_live z ≡ true
    alive z k true e l =
        subst (λ (w : Task). is_live w ≡ true) (at-number t base x z r.there k e) r.live
    alive z k false e l = l

renews-ended : (c : Closings) (t : Tables) (x y : Task) (s : Service) → Base t → Restarts t x s →
    Comes t s x.place y → (v : Service) (p : Place) → Has t.services v →
    IsEndedWell c v (tasks_of_place v p t.tasks) → IsEndedWell c v (tasks_of_place v p (pushed (shut 0 x.id t) y).tasks)
renews-ended c t x y s base r new v p h is =
    place-push (IsEndedWell c v) v p (shut 0 x.id t).tasks y
    (λ inside.
    let same = one-service t base s v r.of h (sym new.service ∙ counts-of v y (place-counts v p y inside)) in
    ended-push c v (tasks_of_place v p (shut 0 x.id t).tasks) y (shut-clean c t x s base r v p is)
    (comes-live t s x.place y new).0
    (subst (λ (z : Service). is_clean z y ≡ true) same (comes-clean t s x.place y new)))
    (λ outside.
    ended-same c c v (tasks_of_place v p t.tasks) (tasks_of_place v p (shut 0 x.id t).tasks)
    (without-task t x v p (wanted 0 desired.Shutdown) base r.there
    (false_from_ne_true (is_in_place v p x)
    (λ x_in. never-both (is_in_place v p y) outside (beside x_in))) (wanted-making desired.Shutdown)) (λ id. refl) is)
  where
    beside : is_in_place v p x ≡ true → is_in_place v p y ≡ true
    beside x_in =
        let counts = place-counts v p x x_in in
        let same = one-service t base s v r.of h (sym (counts-of s x r.counts) ∙ counts-of v x counts) in
        place-in v p y (subst (λ (z : Service). counts_for z y ≡ true) same (comes-counts t s x.place y new))
        (new.place ∙ place-is v p x x_in)

closes-ended : (n : ℕ) (c d : Closings) (t : Tables) (x y : Task) (s : Service) (cause : Closed) → Base t →
    Restarts t x s → newest (tasks_of_place s x.place (shut 0 x.id t).tasks) ≡ Some y →
    IsLater (n + 1) (Some (y.id, cause)) c d → (v : Service) (p : Place) → Has t.services v → v.template_version ≤ n →
    IsEndedWell c v (tasks_of_place v p t.tasks) →
    IsEndedWell d v (tasks_of_place v p
    (map (touch (λ z. task_id z == y.id) (closed_by 0 cause)) (shut 0 x.id t).tasks))
closes-ended n c d t x y s cause base r y_last later v p h low is =
    subst (IsEndedWell d v) (sym (place-map v p (touch at_y g) (shut 0 x.id t).tasks (touch-making at_y g keep_g)))
    (record {
      clean = clean-map c v ys (touch at_y g) (touch-making at_y g keep_g) (λ z k. alive z (at_y z))
          (shut-clean c t x s base r v p is);
      closed = λ none z last e. shut_well none z last e;
    })
  where
    at_x : Task → Bool
    at_x z = task_id z == x.id

    at_y : Task → Bool
    at_y z = task_id z == y.id

    f : Task → Task
    f = wanted 0 desired.Shutdown

    g : Task → Task
    g = closed_by 0 cause

    keep_g : (z : Task) → SameMaking z (g z)
    keep_g = closed-making cause

    xs : List Task
    xs = tasks_of_place v p t.tasks

    ys : List Task
    ys = tasks_of_place v p (shut 0 x.id t).tasks

    ys_is : ys ≡ map (touch at_x f) xs
    ys_is = place-map v p (touch at_x f) t.tasks (touch-making at_x f (wanted-making desired.Shutdown))

    alive : (z : Task) (b : Bool) → is_live (cond b (g z) z) ≡ true → is_live z ≡ true
    alive z true l = l
    alive z false l = l

    lives_on : (z : Task) (b : Bool) → is_live z ≡ true → is_live (cond b (g z) z) ≡ true
    lives_on z true l = l
    lives_on z false l = l

    -- a live task of the place was no other than x
    none_live : list_any is_live (map (touch at_y g) ys) ≡ false → (w : Task) → newest ys ≡ Some w →
        at_y w ≡ false → list_any is_live xs ≡ false
    none_live none w last other =
        false_from_ne_true (list_any is_live xs)
        (λ some. let one = any-has is_live xs some in go one.0 one.1 one.2 (at_x one.0) refl)
      where
        go : (u : Task) → Has xs u → is_live u ≡ true → (b : Bool) → at_x u ≡ b → ⊥
        go u k live false e =
            let some_y : list_any is_live ys ≡ true =
            subst (λ (zs : List Task). list_any is_live zs ≡ true) (sym ys_is) (still-live at_x f xs u k live e) in
            let one = any-has is_live ys some_y in
            never-both _ none
            (has-any is_live (map (touch at_y g) ys) (touch at_y g one.0) (Has-map (touch at_y g) ys one.0 one.1)
            (lives_on one.0 (at_y one.0) one.2))
        go u k live true e =
            let u_in = Has-filter_cases (is_in_place v p) t.tasks u k in
            let same = at-number t base x u r.there u_in.0 e in
            let x_in : is_in_place v p x ≡ true = ap (is_in_place v p) same ∙ u_in.1 in
            let one = one-service t base s v r.of h
            (sym (counts-of s x r.counts) ∙ counts-of v x (place-counts v p x x_in)) in
            let place = place-is v p x x_in in
            let same_list : tasks_of_place s x.place (shut 0 x.id t).tasks ≡ ys =
            ap (λ (z : Service). tasks_of_place z x.place (shut 0 x.id t).tasks) one
            ∙ ap (λ (q : Place). tasks_of_place v q (shut 0 x.id t).tasks) place in
            let y_too : newest ys ≡ Some y = ap newest (sym same_list) ∙ y_last in
            let is_some : Some w ≡ Some y = sym last ∙ y_too in
            let is_y : w ≡ y = cc in
            let numbers : w.id ≡ y.id = ap task_id is_y in
            never-both (at_y w) other (grind (arith, nat_tests, numbers))

    shut_well : list_any is_live (map (touch at_y g) ys) ≡ false → (z : Task) →
        newest (map (touch at_y g) ys) ≡ Some z → closes_place z ≡ true → IsClosedWell d v z
    shut_well none z last e =
        let at = newest-mapped (touch at_y g) ys z last in
        subst (IsClosedWell d v) at.2 (go at.0 at.1 (at_y at.0) refl (ap closes_place at.2 ∙ e))
      where
        go : (w : Task) → newest ys ≡ Some w → (b : Bool) → at_y w ≡ b → closes_place (cond b (g w) w) ≡ true →
            IsClosedWell d v (cond b (g w) w)
        go w w_last true k shuts_it =
            inr (
              record { entry = n + 1; cause = cause },
              ap (λ (j : ℕ). d j) (number-is w.id y.id k) ∙ later.0,
              omega (arith, low),
            )
        go w w_last false k shuts_it =
            let w_from = newest-mapped (touch at_x f) xs w (ap newest (sym ys_is) ∙ w_last) in
            let nothing = none_live none w w_last k in
            let keeps = touch-making at_x f (wanted-making desired.Shutdown) w_from.0 in
            let keeps_w : SameMaking w_from.0 w = subst (SameMaking w_from.0) w_from.2 keeps in
            let old = is.closed nothing w_from.0 w_from.1
            (shut_before w_from.0 (Has-filter_cases (is_in_place v p) t.tasks w_from.0
            (newest_has xs w_from.0 w_from.1)).0 (at_x w_from.0) refl (ap closes_place w_from.2 ∙ shuts_it)) in
            closed-read c d v w_from.0 w keeps_w
            (later.1 w.id (λ same. never-both (at_y w) k (grind (arith, nat_tests, same))) ∙ ap c keeps_w.id) old
          where
            shut_before : (u : Task) → Has t.tasks u → (b : Bool) → at_x u ≡ b → closes_place (cond b (f u) u) ≡ true →
                closes_place u ≡ true
            shut_before u j true q l =
                let same = at-number t base x u r.there j q in
                let live : is_live u ≡ true = subst (λ (z : Task). is_live z ≡ true) same r.live in
                (shut-sinks u (base.goal u j) live).closes l
            shut_before u j false q l = l

-- A service that has no run under way stands in no place of one that has.

other-service : (t : Tables) (s v : Service) (run : UpdateRun) → Runs t s run → IsRunDone v → ¬ (s ≡ v)
other-service t s v run r done same = not-done s run r.run_is r.under_way (subst IsRunDone (sym same) done)

apart : (t : Tables) (s v : Service) (q p : Place) (x : Task) → Base t → Has t.services s → Has t.services v →
    ¬ (s ≡ v) → is_in_place v p x ≡ true → is_in_place s q x ≡ false
apart t s v q p x base h k other inside =
    false_from_ne_true (is_in_place s q x)
    (λ there.
    other (one-service t base s v h k
    (sym (counts-of s x (place-counts s q x there)) ∙ counts-of v x (place-counts v p x inside))))

-- the place without what another service's place gets
place-apart : (t : Tables) (s v : Service) (q p : Place) (test : Task → Bool) → Base t → Has t.services s →
    Has t.services v → ¬ (s ≡ v) →
    tasks_of_place v p (map (touch (λ x. is_in_place s q x && test x) (wanted 0 desired.Shutdown)) t.tasks)
    ≡ tasks_of_place v p t.tasks
place-apart t s v q p test base h k other =
    untouched-place v p (λ x. is_in_place s q x && test x) (wanted 0 desired.Shutdown) t.tasks
    (wanted-making desired.Shutdown)
    (λ x j.
    let inside = Has-filter_cases (is_in_place v p) t.tasks x j in
    ap (λ (b : Bool). b && test x) (apart t s v q p x base h k other inside.1))

push-apart : (c : Closings) (t : Tables) (s v : Service) (q p : Place) (xs : List Task) (y : Task) → Base t →
    Has t.services s → Has t.services v → Comes t s q y → ¬ (s ≡ v) → IsEndedWell c v (tasks_of_place v p xs) →
    IsEndedWell c v (tasks_of_place v p (xs ++ y ∷ []))
push-apart c t s v q p xs y base h k new other is =
    place-push (IsEndedWell c v) v p xs y
    (λ inside. never-both (is_in_place v p y) (other-place t base s v q p y h k new other) inside) (λ outside. is)

removes-ended : (c : Closings) (t : Tables) (s : Service) (k : ℕ) → Base t → Has t.services s → (v : Service)
    (p : Place) → Has t.services v → IsEndedWell c v (tasks_of_place v p t.tasks) →
    IsEndedWell c v (tasks_of_place v p (map (touch (λ x. is_in_place s (place_at s.spec.mode k) x && is_kept x)
    (wanted 0 desired.Remove)) t.tasks))
removes-ended c t s k base there v p h is =
    subst (IsEndedWell c v)
    (sym (place-map v p (touch gone f) t.tasks (touch-making gone f (wanted-making desired.Remove))))
    (record {
      clean = clean-map c v xs (touch gone f) (touch-making gone f (wanted-making desired.Remove))
          (λ y j. (sinks y (in_tasks y j) (gone y)).live) is.clean;
      closed = λ none z last e. shut_well none z last e;
    })
  where
    q : Place
    q = place_at s.spec.mode k

    gone : Task → Bool
    gone x = is_in_place s q x && is_kept x

    f : Task → Task
    f = wanted 0 desired.Remove

    xs : List Task
    xs = tasks_of_place v p t.tasks

    in_tasks : (y : Task) → Has xs y → Has t.tasks y
    in_tasks y j = (Has-filter_cases (is_in_place v p) t.tasks y j).0

    sinks : (y : Task) → Has t.tasks y → (b : Bool) → Sinks y (cond b (f y) y)
    sinks y j true = gone-sinks y (base.goal y j)
    sinks y j false = record { live = λ l. l; closes = λ l. l }

    -- where the newest one stays as it was, so do all
    all_left : (w : Task) → Has xs w → is_kept w ≡ true → gone w ≡ false → (y : Task) → Has xs y → gone y ≡ false
    all_left w w_has kept left y y_has =
        false_from_ne_true (gone y)
        (λ goes_too.
        let w_in = Has-filter_cases (is_in_place v p) t.tasks w w_has in
        let y_in = Has-filter_cases (is_in_place v p) t.tasks y y_has in
        let inside = stand-alike t base v s p q y w h there y_in.1 w_in.1 (first_so (is_in_place s q y) _ goes_too) in
        never-both (gone w) left (both (is_in_place s q w) (is_kept w) inside kept))

    shut_well : list_any is_live (map (touch gone f) xs) ≡ false → (z : Task) →
        newest (map (touch gone f) xs) ≡ Some z → closes_place z ≡ true → IsClosedWell c v z
    shut_well none z last e =
        let at = newest-mapped (touch gone f) xs z last in
        subst (IsClosedWell c v) at.2 (go at.0 at.1 (gone at.0) refl (ap closes_place at.2 ∙ e))
      where
        go : (w : Task) → newest xs ≡ Some w → (b : Bool) → gone w ≡ b → closes_place (cond b (f w) w) ≡ true →
            IsClosedWell c v (cond b (f w) w)
        go w w_last true j shuts_it = absurd (let wrong : false ≡ true = second_so _ false shuts_it in cc)
        go w w_last false j shuts_it =
            let same : map (touch gone f) xs ≡ xs =
            untouched gone f xs (all_left w (newest_has xs w w_last) (closes-kept w shuts_it) j) in
            is.closed (ap (list_any is_live) (sym same) ∙ none) w w_last shuts_it

creates-ended : (c : Closings) (t : Tables) (s : Service) (q : Place) (y : Task) → Base t → Has t.services s →
    Comes t s q y → (v : Service) (p : Place) → Has t.services v → IsEndedWell c v (tasks_of_place v p t.tasks) →
    IsEndedWell c v (tasks_of_place v p (pushed t y).tasks)
creates-ended c t s q y base there new v p h is =
    place-push (IsEndedWell c v) v p t.tasks y
    (λ inside.
    let same = one-service t base s v there h (sym new.service ∙ counts-of v y (place-counts v p y inside)) in
    ended-push c v (tasks_of_place v p t.tasks) y is.clean (comes-live t s q y new).0
    (subst (λ (z : Service). is_clean z y ≡ true) same (comes-clean t s q y new)))
    (λ outside. is)

drops-ended : (c : Closings) (t : Tables) (x : Task) → Base t → Wholes t → Has t.tasks x → is_live x ≡ false →
    ((s : Service) (p : Place) (z : Task) → Has t.services s → newest (tasks_of_place s p t.tasks) ≡ Some z →
    is_kept z ≡ true → ¬ (z.id ≡ x.id)) → (v : Service) (p : Place) → Has t.services v →
    IsEndedWell c v (tasks_of_place v p t.tasks) →
    IsEndedWell c v (tasks_of_place v p (filter (λ y. not (task_id y == x.id)) t.tasks))
drops-ended c t x base whole there dead old v p h is =
    subst (IsEndedWell c v) (sym (place-filter v p left t.tasks))
    (record {
      clean = λ y k live. is.clean y (Has-filter_cases left xs y k).0 live;
      closed = λ none z last e.
          is.closed (none_before none) z
          (newest-left left xs z (whole v p h)
          (λ w w_last kept. not_from_false (task_id w == x.id) (false_from_ne_true (task_id w == x.id)
          (λ same. old v p w h w_last kept (number-is w.id x.id same)))) last (closes-kept z e)) e;
    })
  where
    left : Task → Bool
    left y = not (task_id y == x.id)

    xs : List Task
    xs = tasks_of_place v p t.tasks

    none_before : list_any is_live (filter left xs) ≡ false → list_any is_live xs ≡ false
    none_before none =
        false_from_ne_true (list_any is_live xs)
        (λ some. let one = any-has is_live xs some in go one.0 one.1 one.2 (task_id one.0 == x.id) refl)
      where
        go : (u : Task) → Has xs u → is_live u ≡ true → (b : Bool) → (task_id u == x.id) ≡ b → ⊥
        go u k live true e =
            let same = at-number t base x u there (Has-filter_cases (is_in_place v p) t.tasks u k).0 e in
            never-both (is_live x) dead (ap is_live same ∙ live)
        go u k live false e =
            never-both _ none (has-any is_live (filter left xs) u
            (Has-filter left xs u k (not_from_false (task_id u == x.id) e)) live)

-- Runs.

-- where no place is dirty
clean-ended : (c : Closings) (t : Tables) (s : Service) → Base t → Has t.services s → has_dirty_place t s ≡ false →
    (p : Place) → IsEndedWell c s (tasks_of_place s p t.tasks)
clean-ended c t s base h none p = record {
  clean = λ y k live. clean_one y k live;
  closed = λ dead z last e. inl (clean_last dead z last e);
}
  where
    -- the number of the place
    at : (y : Task) → Has (tasks_of_place s p t.tasks) y → (k : ℕ) × (p ≡ place_at s.spec.mode k)
    at y k =
        let inside = Has-filter_cases (is_in_place s p) t.tasks y k in
        let number = base.place y s inside.0 h (counts-of s y (place-counts s p y inside.1)) in
        (number.0, sym (place-is s p y inside.1) ∙ number.1)

    not_dirty : (k : ℕ) (y : Task) → Has (place_tasks t s k) y → is_dirty_place t s k ≡ false
    not_dirty k y h_y =
        none-of-any (is_dirty_place t s) (place_numbers t s) none k (member-number t s k y h_y)

    settled : (a b : Bool) → a ≡ true → (a && not b) ≡ false → b ≡ true
    settled true true e f = refl
    settled true false e f = absurd cc
    settled false b e f = absurd cc

    clean_one : (y : Task) → Has (tasks_of_place s p t.tasks) y → is_live y ≡ true → is_clean s y ≡ true
    clean_one y k live =
        let number = at y k in
        let there : Has (place_tasks t s number.0) y =
        subst (λ (q : Place). Has (tasks_of_place s q t.tasks) y) number.1 k in
        let no_dirty =
        neither_left (list_any (is_live_dirty s) (place_tasks t s number.0)) _ (not_dirty number.0 y there) in
        settled (is_live y) (is_clean s y) live
        (none-of-any (is_live_dirty s) (place_tasks t s number.0) no_dirty y there)

    clean_last : list_any is_live (tasks_of_place s p t.tasks) ≡ false → (z : Task) →
        newest (tasks_of_place s p t.tasks) ≡ Some z → closes_place z ≡ true → is_clean s z ≡ true
    clean_last dead z last e =
        let number = at z (newest_has (tasks_of_place s p t.tasks) z last) in
        let there : Has (place_tasks t s number.0) z =
        subst (λ (q : Place). Has (tasks_of_place s q t.tasks) z) number.1
        (newest_has (tasks_of_place s p t.tasks) z last) in
        let last_too : newest (place_tasks t s number.0) ≡ Some z =
        subst (λ (q : Place). newest (tasks_of_place s q t.tasks) ≡ Some z) number.1 last in
        let dead_too : has_live t s number.0 ≡ false =
        subst (λ (q : Place). list_any is_live (tasks_of_place s q t.tasks) ≡ false) number.1 dead in
        let no_dirty =
        neither_right (list_any (is_live_dirty s) (place_tasks t s number.0)) _ (not_dirty number.0 z there) in
        let parts : closes_dirty s z ≡ false =
        false_from_ne_true (closes_dirty s z)
        (λ dirty.
        never-both (not (has_live t s number.0) && is_some_and (closes_dirty s) (newest (place_tasks t s number.0)))
        no_dirty
        (both (not (has_live t s number.0)) _ (not_from_false (has_live t s number.0) dead_too)
        (some-and (closes_dirty s) (newest (place_tasks t s number.0)) z last_too dirty))) in
        settled (closes_place z) (is_clean s z) e parts

clean-but-run : (s v : Service) → SameButRun s v → (y : Task) → is_clean v y ≡ is_clean s y
clean-but-run s v but y =
    ap (λ (q : ServiceSpec). same_template y.template q.template && (not (is_job q.mode) || y.iteration == v.iteration))
    but.spec
    ∙ ap (λ (k : ℕ). same_template y.template s.spec.template && (not (is_job s.spec.mode) || y.iteration == k))
    but.iteration

ended-other : (c : Closings) (s v : Service) (xs : List Task) → ((y : Task) → is_clean v y ≡ is_clean s y) →
    v.template_version ≡ s.template_version → IsEndedWell c s xs → IsEndedWell c v xs
ended-other c s v xs clean version is = record {
  clean = λ y k live. clean y ∙ is.clean y k live;
  closed = λ none z last e. go z (is.closed none z last e);
}
  where
    go : (z : Task) → IsClosedWell c s z → IsClosedWell c v z
    go z (inl e) = inl (clean z ∙ e)
    go z (inr k) = inr (k.0, k.1, omega (arith, version, k.2))

run-ended : (e : ℕ) (c d : Closings) (t : Tables) (s v : Service) → Base t → Has t.services s → RunStep e t s v →
    ((id : ℕ) → d id ≡ c id) → IsEndedService d t v
run-ended e c d t s v base h (begins run but at version way) same no_job done = absurd (not-done v run at way done)
run-ended e c d t s v base h (goes_back spec run id previous spec_is alike iteration template at version way) same
    no_job done =
    absurd (not-done v run at way done)
run-ended e c d t s v base h (ends old run but at to version none) same no_job done = λ p.
    let is : Some run ≡ Some done.0 = sym to ∙ done.1 in
    let one : run ≡ done.0 = cc in
    let over : is_done run.status ≡ true = ap (λ (r : UpdateRun). is_done r.status) one ∙ done.2 in
    subst (IsEndedWell d v) (sym (same-places s v (run-places e t s v (ends old run but at to version none)) p t.tasks))
    (ended-other d s v (tasks_of_place s p t.tasks) (clean-but-run s v but) but.template_version
    (clean-ended d t s base h (none over) p))

pub ended-duty : (n : ℕ) (c d : Closings) (t u : Tables) (set : Option (ℕ × Closed)) → Base t → Goals t → Wholes t →
    Versions n n t → DutyStep (n + 1) t set u → IsLater (n + 1) set c d → EndedRuns c t → EndedRuns d u
ended-duty n c d t u set base goals whole versions stays later is v h no_job done p =
    ended-read c d v _ later (is v h no_job done p)
ended-duty n c d t u set base goals whole versions (raises x k w) later is v h no_job done p =
    ended-read c d v _ later (raised-ended c t x base goals k w v p (is v h no_job done p))
ended-duty n c d t u set base goals whole versions (goes x k none) later is v h no_job done p =
    ended-same c d v _ _
    (without-task t x v p (wanted 0 desired.Remove) base k
    (ap (λ (b : Bool). b && same_place x.place p) (none v h)) (wanted-making desired.Remove)) later
    (is v h no_job done p)
ended-duty n c d t u set base goals whole versions (shuts x s r other) later is v h no_job done p =
    ended-read c d v _ later (shuts-ended c t x s base r other v p h (is v h no_job done p))
ended-duty n c d t u set base goals whole versions (renews x y s r none new) later is v h no_job done p =
    ended-read c d v _ later (renews-ended c t x y s base r new v p h (is v h no_job done p))
ended-duty n c d t u set base goals whole versions (closes x y s cause r none last) later is v h no_job done p =
    closes-ended n c d t x y s cause base r last later v p h (versions v h).template (is v h no_job done p)
ended-duty n c d t u set base goals whole versions (swaps s run k r) later is v h no_job done p =
    ended-same c d v _ _
    (place-apart t s v (place_at s.spec.mode k) p (is_live_dirty s) base r.of h (other-service t s v run r done)) later
    (is v h no_job done p)
ended-duty n c d t u set base goals whole versions (removes s k there) later is v h no_job done p =
    ended-read c d v _ later (removes-ended c t s k base there v p h (is v h no_job done p))
ended-duty n c d t u set base goals whole versions (creates s k y there unheld room new) later is v h no_job done p =
    ended-read c d v _ later (creates-ended c t s _ y base there new v p h (is v h no_job done p))
ended-duty n c d t u set base goals whole versions (drops x there dead old) later is v h no_job done p =
    ended-read c d v _ later (drops-ended c t x base whole there dead old v p h (is v h no_job done p))
ended-duty n c d t u set base goals whole versions (stops_first s run k y r new) later is v h no_job done p =
    let other = other-service t s v run r done in
    ended-read c d v _ later
    (push-apart c t s v _ p _ y base r.of h new other
    (ended-same c c v _ _ (place-apart t s v (place_at s.spec.mode k) p is_live base r.of h other) (λ id. refl)
    (is v h no_job done p)))
ended-duty n c d t u set base goals whole versions (starts_first s run k y r new) later is v h no_job done p =
    ended-read c d v _ later
    (push-apart c t s v _ p t.tasks y base r.of h new (other-service t s v run r done) (is v h no_job done p))
ended-duty n c d t u set base goals whole versions (runs s w there job step) later is v h no_job done p =
    each-changed (IsEndedService d t) service_id s.id (λ old. w) t.services
    (λ z k none over q. ended-read c d z _ later (is z k none over q))
    (λ z k same. run-ended (n + 1) c d t s w base there step later) v h no_job done p

-- Operations.

respecified-ended : (n : ℕ) (c : Closings) (t : Tables) (s v : Service) (spec : ServiceSpec) → Has t.services s →
    IsVersioned n (n + 1) s → Respecifies (n + 1) spec s v → IsEndedService c t s → IsEndedService c t v
respecified-ended n c t s v spec h versioned r is no_job done p =
    go (same_template spec.template s.spec.template) refl r.template_version
  where
    s_no_job : is_job s.spec.mode ≡ false
    s_no_job =
        sym (job-alike spec.mode s.spec.mode r.alike) ∙ ap (λ (q : ServiceSpec). is_job q.mode) (sym r.spec_is) ∙ no_job

    places : SamePlaces s v
    places = respecified-places (n + 1) spec s v r s_no_job

    clean : spec.template ≡ s.spec.template → (y : Task) → is_clean v y ≡ is_clean s y
    clean same y =
        ap (λ (q : ServiceSpec). same_template y.template q.template &&
        (not (is_job q.mode) || y.iteration == v.iteration))
        r.spec_is
        ∙ ap (λ (a : Template). same_template y.template a && (not (is_job spec.mode) || y.iteration == v.iteration))
        same
        ∙ ap (λ (b : Bool). same_template y.template s.spec.template && (not b || y.iteration == v.iteration))
        (job-alike spec.mode s.spec.mode r.alike)
        ∙ free (is_job s.spec.mode) s_no_job
      where
        free : (b : Bool) → b ≡ false →
            (same_template y.template s.spec.template && (not b || y.iteration == v.iteration))
            ≡ (same_template y.template s.spec.template && (not b || y.iteration == s.iteration))
        free false e = refl
        free true e = absurd cc

    go : (b : Bool) → same_template spec.template s.spec.template ≡ b →
        v.template_version ≡ cond b s.template_version (n + 1) → IsEndedWell c v (tasks_of_place v p t.tasks)
    go true same version =
        subst (IsEndedWell c v) (sym (same-places s v places p t.tasks))
        (ended-other c s v (tasks_of_place s p t.tasks)
        (clean ((Decides-same_template spec.template s.spec.template).0 same)) version
        (is s_no_job (done.0, sym r.run ∙ done.1, done.2, done.3 ∙ version) p))
    go false same version =
        let old = versioned.run done.0 (sym r.run ∙ done.1) in
        absurd (omega (arith, old.1, done.3, version))

pub ended-op : (n : ℕ) (c : Closings) (t u : Tables) → Versions n (n + 1) t → OpStep (n + 1) t u → EndedRuns c t →
    EndedRuns c u
ended-op n c t u versions still is = is
ended-op n c t u versions (respecifies s v spec h r) is =
    each-changed (IsEndedService c t) service_id s.id (λ old. v) t.services is
    (λ z k same. respecified-ended n c t s v spec h (versions s h) r (is s h))
ended-op n c t u versions (comes s none run at) is =
    each-pushed (IsEndedService c t) t.services s is
    (λ no_job done p. absurd (let wrong : None ≡ Some done.0 = sym run ∙ done.1 in cc))
ended-op n c t u versions (leaves id) is = λ s h. is s (Has-filter_cases _ t.services s h).0
