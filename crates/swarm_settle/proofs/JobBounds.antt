-- A job has at most its total of held places, and at most as many places with a live task as may run at once.
use Rattle.std.proofs.Common.{Bool, List, Option, Some, [], ap, arith, cond, false, inl, inr, length, not, refl, subst, sym, true, ℕ, ◌++◌, ◌∙◌, ◌∷◌, ◌≡◌, ◌≤◌, ◌⊎◌}
use Rattle.std.proofs.lemmas.Bool.Decides.{nat_tests}
use Rattle.std.specs.Prelude.{filter, fold, map, ◌==◌}
use Rattle.swarm_settle.proofs.Goals.{Goals, HasGoal}
use Rattle.swarm_settle.proofs.Held.{Falls, falls-filter, falls-live, falls-map, falls-same, held-has, live-has, live-rise, one-more, rising-within}
use Rattle.swarm_settle.proofs.PlaceLists.{SameMaking, counts-of, one-service, place-counts, place-filter, place-in, place-is, place-map, place-push, touch, touch-making}
use Rattle.swarm_settle.proofs.ServiceSteps.{respecified-none, respecified-places, run-places}
use Rattle.swarm_settle.proofs.Shapes.{Base, Comes, DutyStep, HasRoom, OpStep, Restarts, closes, comes, creates, drops, goes, leaves, pushed, raises, removes, renews, respecifies, runs, shuts, starts_first, stays, still, stops_first, swaps}
use Rattle.swarm_settle.proofs.Wholes.{Wholes, at-number, closed-making, live-is-kept, number-is, raised-making, wanted-making}
use Rattle.swarm_model.proofs.Laws.Alone.{held-rise, number-at}
use Rattle.swarm_model.proofs.Laws.Timely.{each-changed, each-pushed}
use Rattle.swarm_model.proofs.Moves.Rows.{between-change, between-one}
use Rattle.swarm_objects.proofs.Gaps.{Has-with_number_keeps, Has-with_row, IsRising-with_row}
use Rattle.swarm_objects.proofs.RowLemmas.{Has-filter, Has-filter_cases}
use Rattle.swarm_objects.proofs.Tests.{both, false_from_ne_true, first_so, has-any, never-both, not_from_false, second_so}
use Rattle.swarm_objects.proofs.Filters.{filter_none}
use Rattle.swarm_objects.proofs.Newest.{newest_has}
use Rattle.swarm_objects.specs.Changes.{wanted}
use Rattle.swarm_objects.specs.Loops.Restart.{closed_by, raised, shut}
use Rattle.swarm_objects.specs.Loops.Update.{live_of_place}
use Rattle.swarm_objects.specs.Rows.{Has, itself, service_id, task_id, with_number}
use Rattle.swarm_objects.specs.Services.Words.{is_job, is_live_dirty}
use Rattle.swarm_objects.specs.Tasks.Places.{closes as closes_place, counts_for, has_live, held_places, is_held_place, is_in_place, live_places, newest, place_at, place_number, place_numbers, tasks_of_place}
use Rattle.swarm_objects.specs.Tasks.Words.{is_kept, is_live, is_to_wait}
use Rattle.swarm_objects.specs.Values.Ranks.{desired_rank}
use Rattle.swarm_objects.specs.World.{Tables}
use Rattle.swarm_objects.specs.declared.services.Mode.TheVariants as mode
use Rattle.swarm_objects.specs.declared.services.Mode.{Mode}
use Rattle.swarm_objects.specs.declared.services.Service.{Service}
use Rattle.swarm_objects.specs.declared.tasks.Closed.{Closed}
use Rattle.swarm_objects.specs.declared.tasks.Desired.TheVariants as desired
use Rattle.swarm_objects.specs.declared.tasks.Place.{Place}
use Rattle.swarm_objects.specs.declared.tasks.Task.{Task}

abbrev pub IsBounded : Tables → Service → Type 0
IsBounded t s =
    (c n : ℕ) → s.spec.mode ≡ mode.Job c n → (length (held_places t s) ≤ n) × (length (live_places t s) ≤ c)

abbrev pub JobBounds : Tables → Type 0
JobBounds t = (s : Service) → Has t.services s → IsBounded t s

abbrev FallsIn : Tables → Tables → Service → Place → Type 0
FallsIn t u s p = Falls (tasks_of_place s p t.tasks) (tasks_of_place s p u.tasks)

-- Touched tasks.

-- what a change of a task may do: it makes none live, and lets none close
pub record Sinks (x y : Task) : Type 0 where
  pub live : is_live y ≡ true → is_live x ≡ true
  pub closes : closes_place y ≡ true → closes_place x ≡ true

pub touched-falls : (s : Service) (p : Place) (xs : List Task) (test : Task → Bool) (f : Task → Task) →
    ((x : Task) → SameMaking x (f x)) → ((x : Task) → Has xs x → test x ≡ true → Sinks x (f x)) →
    Falls (tasks_of_place s p xs) (tasks_of_place s p (map (touch test f) xs))
touched-falls s p xs test f keeps sinks =
    subst (λ (ys : List Task). Falls (tasks_of_place s p xs) ys)
    (sym (place-map s p (touch test f) xs (touch-making test f keeps)))
    (falls-map (touch test f) (tasks_of_place s p xs)
    (λ x h. (go x (Has-filter_cases (is_in_place s p) xs x h).0 (test x) refl).live)
    (λ x h. (go x (Has-filter_cases (is_in_place s p) xs x h).0 (test x) refl).closes))
  where
    go : (x : Task) → Has xs x → (b : Bool) → test x ≡ b → Sinks x (cond b (f x) x)
    go x h true e = sinks x h e
    go x h false e = record { live = λ k. k; closes = λ k. k }

pub falls-then : (xs ys zs : List Task) → Falls xs ys → Falls ys zs → Falls xs zs
falls-then xs ys zs a b = record { held = λ e. a.held (b.held e); live = λ e. a.live (b.live e) }

pub raised-sinks : (x : Task) → HasGoal x → is_to_wait x ≡ true → Sinks x (raised 0 x)
raised-sinks x goal waits = record { live = λ e. live goal.goal; closes = λ e. closing e }
  where
    rank_is : desired_rank x.desired ≡ 384
    rank_is = number-is (desired_rank x.desired) 384 waits

    live : (x.goal ≡ desired.Running) ⊎ (x.goal ≡ desired.Complete) → is_live x ≡ true
    live (inl e) = let g : desired_rank x.goal ≡ 512 = ap desired_rank e in grind (arith, nat_tests, rank_is, g)
    live (inr e) = let g : desired_rank x.goal ≡ 576 = ap desired_rank e in grind (arith, nat_tests, rank_is, g)

    closing : closes_place (raised 0 x) ≡ true → closes_place x ≡ true
    closing e = both _ (is_kept x) (first_so _ (is_kept (raised 0 x)) e) (grind (arith, nat_tests, rank_is))

pub shut-sinks : (x : Task) → desired_rank x.goal ≤ desired_rank desired.Complete → is_live x ≡ true →
    Sinks x (wanted 0 desired.Shutdown x)
shut-sinks x goal live = record {
  live = λ e. live;
  closes = λ e. both _ (is_kept x) (first_so _ true e) (live-is-kept x goal live);
}

pub gone-sinks : (x : Task) → desired_rank x.goal ≤ desired_rank desired.Complete → Sinks x (wanted 0 desired.Remove x)
gone-sinks x goal = record {
  live = λ e. absurd (dead e);
  closes = λ e. absurd (let none : false ≡ true = second_so _ false e in cc);
}
  where
    dead : ¬ (is_live (wanted 0 desired.Remove x) ≡ true)
    dead e = let up : 800 ≤ desired_rank x.goal = grind (arith, nat_tests, e) in omega (arith, up, goal)

pub shut-falls : (t : Tables) (x : Task) (s : Service) → Base t → Restarts t x s → (v : Service) (p : Place) →
    FallsIn t (shut 0 x.id t) v p
shut-falls t x s base r v p =
    touched-falls v p t.tasks (λ y. task_id y == x.id) (wanted 0 desired.Shutdown) (wanted-making desired.Shutdown)
    (λ y h e.
    let same = at-number t base x y r.there h e in
    subst (λ (z : Task). Sinks z (wanted 0 desired.Shutdown z)) same (shut-sinks x (base.goal x r.there) r.live))

-- the place of a live task
live-place : (t : Tables) (v : Service) (p : Place) (x : Task) (ys : List Task) → Has t.tasks x → is_live x ≡ true →
    is_in_place v p x ≡ true → Falls (tasks_of_place v p t.tasks) ys
live-place t v p x ys h live inside =
    falls-live (tasks_of_place v p t.tasks) ys
    (has-any is_live (tasks_of_place v p t.tasks) x (Has-filter (is_in_place v p) t.tasks x h inside) live)

-- numbers are as they were
pub shut-one : (t : Tables) (x : Task) → Base t → (y z : Task) → Has (shut 0 x.id t).tasks y →
    Has (shut 0 x.id t).tasks z → y.id ≡ z.id → y ≡ z
shut-one t x base y z h k e =
    between-one task_id 1 base.high (shut 0 x.id t).tasks y z
    (between-change task_id 1 base.high x.id (wanted 0 desired.Shutdown) t.tasks (λ w. refl) base.tasks) h k e

closed-falls : (t : Tables) (x y : Task) (s : Service) (cause : Closed) → Base t → Restarts t x s →
    newest (tasks_of_place s x.place (shut 0 x.id t).tasks) ≡ Some y → (v : Service) (p : Place) → Has t.services v →
    Falls (tasks_of_place v p t.tasks)
    (tasks_of_place v p (map (touch (λ z. task_id z == y.id) (closed_by 0 cause)) (shut 0 x.id t).tasks))
closed-falls t x y s cause base r last v p h = go (is_in_place v p y) refl
  where
    xs : List Task
    xs = (shut 0 x.id t).tasks

    first : Falls (tasks_of_place v p t.tasks) (tasks_of_place v p xs)
    first = shut-falls t x s base r v p

    -- y stands where x does
    y_in : Has xs y × (is_in_place s x.place y ≡ true)
    y_in = Has-filter_cases (is_in_place s x.place) xs y (newest_has (tasks_of_place s x.place xs) y last)

    go : (b : Bool) → is_in_place v p y ≡ b →
        Falls (tasks_of_place v p t.tasks)
        (tasks_of_place v p (map (touch (λ z. task_id z == y.id) (closed_by 0 cause)) xs))
    go true e =
        let counts = place-counts s x.place y y_in.1 in
        let same = one-service t base s v r.of h (sym (counts-of s y counts) ∙ counts-of v y (place-counts v p y e)) in
        let place : x.place ≡ p = sym (place-is s x.place y y_in.1) ∙ place-is v p y e in
        live-place t v p x _ r.there r.live
        (place-in v p x (subst (λ (z : Service). counts_for z x ≡ true) same r.counts) place)
    go false e =
        falls-then _ _ _ first
        (subst (λ (ys : List Task). Falls (tasks_of_place v p xs) ys)
        (sym (place-map v p (touch (λ z. task_id z == y.id) (closed_by 0 cause)) xs
        (touch-making (λ z. task_id z == y.id) (closed_by 0 cause) (closed-making cause))))
        (falls-map (touch (λ z. task_id z == y.id) (closed_by 0 cause)) (tasks_of_place v p xs)
        (λ z k. alive z (task_id z == y.id))
        (λ z k. shut_before z (task_id z == y.id) refl (Has-filter_cases (is_in_place v p) xs z k))))
      where
        alive : (z : Task) (b : Bool) → is_live (cond b (closed_by 0 cause z) z) ≡ true → is_live z ≡ true
        alive z true k = k
        alive z false k = k

        shut_before : (z : Task) (b : Bool) → (task_id z == y.id) ≡ b → Has xs z × (is_in_place v p z ≡ true) →
            closes_place (cond b (closed_by 0 cause z) z) ≡ true → closes_place z ≡ true
        shut_before z false at inside k = k
        shut_before z true at inside k =
            let same : y ≡ z = one-of z inside.0 (number-is z.id y.id at) in
            never-both (is_in_place v p y) e (ap (is_in_place v p) same ∙ inside.1)
          where
            one-of : (w : Task) → Has xs w → w.id ≡ y.id → y ≡ w
            one-of w k at = shut-one t x base y w y_in.0 k (sym at)

-- Tasks that come.

pub record Creation (t u : Tables) : Type 0 where
  pub service : Service
  pub number : ℕ
  pub task : Task
  pub there : Has t.services service
  pub room : HasRoom t service
  pub comes : Comes t service (place_at service.spec.mode number) task
  pub tasks : u.tasks ≡ t.tasks ++ task ∷ []

-- the task counts for no other service
pub other-place : (t : Tables) → Base t → (s v : Service) (p q : Place) (y : Task) → Has t.services s →
    Has t.services v →
    Comes t s p y → ¬ (s ≡ v) → is_in_place v q y ≡ false
other-place t base s v p q y h k new other =
    false_from_ne_true (is_in_place v q y)
    (λ inside.
    other (one-service t base s v h k (sym new.service ∙ counts-of v y (place-counts v q y inside))))

-- a place where the task doesn't stand
outside-falls : (s : Service) (p : Place) (xs : List Task) (y : Task) → is_in_place s p y ≡ false →
    Falls (tasks_of_place s p xs) (tasks_of_place s p (xs ++ y ∷ []))
outside-falls s p xs y out =
    place-push (λ (ys : List Task). Falls (tasks_of_place s p xs) ys) s p xs y (λ inside. never-both _ out inside)
    (λ outside. falls-same (tasks_of_place s p xs))

job-other : (t : Tables) (s v : Service) → is_job s.spec.mode ≡ false → is_job v.spec.mode ≡ true → ¬ (s ≡ v)
job-other t s v no_job job same =
    never-both (is_job s.spec.mode) no_job (ap (λ (z : Service). is_job z.spec.mode) same ∙ job)

abbrev AllFall : Tables → Tables → Type 0
AllFall t u = (v : Service) (p : Place) → Has t.services v → is_job v.spec.mode ≡ true → FallsIn t u v p

-- in places of jobs nothing comes to be held or live, but in the one place that gets a task
pub falls-duty : (e : ℕ) (t u : Tables) (set : Option (ℕ × Closed)) → Base t → Goals t → Wholes t →
    DutyStep e t set u → AllFall t u ⊎ Creation t u
falls-duty e t u set base goals whole stays = inl (λ v p h job. falls-same _)
falls-duty e t u set base goals whole (raises x h w) =
    inl (λ v p k job.
    touched-falls v p t.tasks (λ y. task_id y == x.id) (raised 0) raised-making
    (λ y there c.
    let same = at-number t base x y h there c in
    subst (λ (z : Task). Sinks z (raised 0 z)) same (raised-sinks x (goals x h) w)))
falls-duty e t u set base goals whole (goes x h none) =
    inl (λ v p k job.
    touched-falls v p t.tasks (λ y. task_id y == x.id) (wanted 0 desired.Remove) (wanted-making desired.Remove)
    (λ y there c. gone-sinks y (base.goal y there)))
falls-duty e t u set base goals whole (shuts x s r other) = inl (λ v p k job. shut-falls t x s base r v p)
falls-duty e t u set base goals whole (renews x y s r none new) = inl (λ v p k job. go v p k (is_in_place v p y) refl)
  where
    go : (v : Service) (p : Place) → Has t.services v → (b : Bool) → is_in_place v p y ≡ b →
        FallsIn t (pushed (shut 0 x.id t) y) v p
    go v p k true inside =
        let same = one-service t base s v r.of k (sym new.service ∙ counts-of v y (place-counts v p y inside)) in
        let place : x.place ≡ p = sym new.place ∙ place-is v p y inside in
        live-place t v p x _ r.there r.live
        (place-in v p x (subst (λ (z : Service). counts_for z x ≡ true) same r.counts) place)
    go v p k false outside =
        falls-then _ _ _ (shut-falls t x s base r v p) (outside-falls v p (shut 0 x.id t).tasks y outside)
falls-duty e t u set base goals whole (closes x y s cause r none last) =
    inl (λ v p k job. closed-falls t x y s cause base r last v p k)
falls-duty e t u set base goals whole (swaps s run k r) =
    inl (λ v p h job.
    touched-falls v p t.tasks _ (wanted 0 desired.Shutdown) (wanted-making desired.Shutdown)
    (λ x there c. shut-sinks x (base.goal x there) (first_so (is_live x) _ (second_so _ (is_live_dirty s x) c))))
falls-duty e t u set base goals whole (removes s k h) =
    inl (λ v p there job.
    touched-falls v p t.tasks _ (wanted 0 desired.Remove) (wanted-making desired.Remove)
    (λ x k c. gone-sinks x (base.goal x k)))
falls-duty e t u set base goals whole (creates s k y h unheld room new) =
    inr (record { service = s; number = k; task = y; there = h; room = room; comes = new; tasks = refl })
falls-duty e t u set base goals whole (drops x h dead old) =
    inl (λ v p there job.
    subst (λ (ys : List Task). Falls (tasks_of_place v p t.tasks) ys)
    (sym (place-filter v p (λ y. not (task_id y == x.id)) t.tasks))
    (falls-filter (λ y. not (task_id y == x.id)) (tasks_of_place v p t.tasks) (whole v p there)
    (λ z last kept. not_from_false (task_id z == x.id) (false_from_ne_true (task_id z == x.id)
    (λ same. old v p z there last kept (number-is z.id x.id same))))))
falls-duty e t u set base goals whole (stops_first s run k y r new) =
    inl (λ v p h job.
    falls-then _ _ _
    (touched-falls v p t.tasks (live_of_place s k) (wanted 0 desired.Shutdown) (wanted-making desired.Shutdown)
    (λ x there c. shut-sinks x (base.goal x there) (second_so _ (is_live x) c)))
    (outside-falls v p _ y
    (other-place t base s v _ p y r.of h new (job-other t s v r.no_job job))))
falls-duty e t u set base goals whole (starts_first s run k y r new) =
    inl (λ v p h job.
    outside-falls v p t.tasks y (other-place t base s v _ p y r.of h new (job-other t s v r.no_job job)))
falls-duty e t u set base goals whole (runs s v h no_job step) = inl (λ z p k job. falls-same _)

-- Bounds.

is-job : (m : Mode) (c n : ℕ) → m ≡ mode.Job c n → is_job m ≡ true
is-job m c n e = ap is_job e

-- where nothing comes, there are no more
fallen-bounds : (t u : Tables) (s : Service) → ((p : Place) → FallsIn t u s p) → IsBounded t s → IsBounded u s
fallen-bounds t u s falls is c n e = (
  (let le = rising-within (held_places u s) (held_places t s) (held-rise u s) (held-rise t s)
      (λ k h. held-has t s k
      ((falls (place_at s.spec.mode k)).held (Has-filter_cases (is_held_place u s) (place_numbers u s) k h).1)) in
      omega (arith, le, (is c n e).0)),
  (let le = rising-within (live_places u s) (live_places t s) (live-rise u s) (live-rise t s)
      (λ k h. live-has t s k
      ((falls (place_at s.spec.mode k)).live (Has-filter_cases (has_live u s) (place_numbers u s) k h).1)) in
      omega (arith, le, (is c n e).1)),
)

-- where the task stands in the place of one number
created-bounds : (t u : Tables) → Base t → (made : Creation t u) → IsBounded u made.service
created-bounds t u base made c n e = (
  (let le = rising-within (held_places u s) (with_number k (held_places t s)) (held-rise u s)
      (IsRising-with_row itself k (held_places t s) (held-rise t s))
      (λ j h. held_or j (Has-filter_cases (is_held_place u s) (place_numbers u s) j h).1 (j == k) refl) in
      omega (arith, le, one-more k (held_places t s), (made.room c n e).1)),
  (let le = rising-within (live_places u s) (with_number k (live_places t s)) (live-rise u s)
      (IsRising-with_row itself k (live_places t s) (live-rise t s))
      (λ j h. live_or j (Has-filter_cases (has_live u s) (place_numbers u s) j h).1 (j == k) refl) in
      omega (arith, le, one-more k (live_places t s), (made.room c n e).0)),
)
  where
    s : Service
    s = made.service

    k : ℕ
    k = made.number

    elsewhere : (j : ℕ) → (j == k) ≡ false → FallsIn t u s (place_at s.spec.mode j)
    elsewhere j other =
        subst (λ (xs : List Task). Falls (tasks_of_place s (place_at s.spec.mode j) t.tasks)
        (tasks_of_place s (place_at s.spec.mode j) xs)) (sym made.tasks)
        (outside-falls s (place_at s.spec.mode j) t.tasks made.task
        (false_from_ne_true (is_in_place s (place_at s.spec.mode j) made.task)
        (λ inside.
        let at = sym (place-is s (place_at s.spec.mode j) made.task inside) ∙ made.comes.place in
        let same : j ≡ k = sym (number-at s.spec.mode j) ∙ ap place_number at ∙ number-at s.spec.mode k in
        never-both (j == k) other (grind (arith, nat_tests, same)))))

    held_or : (j : ℕ) → is_held_place u s j ≡ true → (b : Bool) → (j == k) ≡ b → Has (with_number k (held_places t s)) j
    held_or j held true at =
        subst (Has (with_number k (held_places t s))) (sym (number-is j k at)) (Has-with_row itself k (held_places t s))
    held_or j held false at =
        Has-with_number_keeps k j (held_places t s) (held-has t s j ((elsewhere j at).held held))

    live_or : (j : ℕ) → has_live u s j ≡ true → (b : Bool) → (j == k) ≡ b → Has (with_number k (live_places t s)) j
    live_or j live true at =
        subst (Has (with_number k (live_places t s))) (sym (number-is j k at)) (Has-with_row itself k (live_places t s))
    live_or j live false at =
        Has-with_number_keeps k j (live_places t s) (live-has t s j ((elsewhere j at).live live))

made-bounds : (t u : Tables) → Base t → Creation t u → (v : Service) → Has t.services v → IsBounded t v → IsBounded u v
made-bounds t u base made v h is = go (counts_for v made.task) refl
  where
    go : (b : Bool) → counts_for v made.task ≡ b → IsBounded u v
    go true e =
        let same = one-service t base made.service v made.there h
        (sym made.comes.service ∙ counts-of v made.task e) in
        subst (IsBounded u) same (created-bounds t u base made)
    go false e =
        fallen-bounds t u v
        (λ p. subst (λ (xs : List Task). Falls (tasks_of_place v p t.tasks) (tasks_of_place v p xs)) (sym made.tasks)
        (outside-falls v p t.tasks made.task
        (false_from_ne_true (is_in_place v p made.task) (λ inside. never-both (counts_for v made.task) e
        (place-counts v p made.task inside))))) is

bounds-by : (t u : Tables) → Base t → u.services ≡ t.services → AllFall t u ⊎ Creation t u → JobBounds t → JobBounds u
bounds-by t u base services (inl falls) is v h = λ c n e.
    let there = subst (λ (ss : List Service). Has ss v) services h in
    fallen-bounds t u v (λ p. falls v p there (is-job v.spec.mode c n e)) (is v there) c n e
bounds-by t u base services (inr made) is v h =
    let there = subst (λ (ss : List Service). Has ss v) services h in
    made-bounds t u base made v there (is v there)

no-bounds : (t : Tables) (s : Service) → is_job s.spec.mode ≡ false → IsBounded t s
no-bounds t s no_job c n e = never-both (is_job s.spec.mode) no_job (is-job s.spec.mode c n e)

pub bounds-duty : (e : ℕ) (t u : Tables) (set : Option (ℕ × Closed)) → Base t → Goals t → Wholes t →
    DutyStep e t set u → JobBounds t → JobBounds u
bounds-duty e t u set base goals whole (runs s v h no_job step) is =
    each-changed (IsBounded t) service_id s.id (λ old. v) t.services is
    (λ z k same. no-bounds t v ((run-places e t s v step).job ∙ no_job))
bounds-duty e t u set base goals whole stays is = is
bounds-duty e t u set base goals whole (raises x h w) is =
    bounds-by t u base refl (falls-duty e t u set base goals whole (raises x h w)) is
bounds-duty e t u set base goals whole (goes x h none) is =
    bounds-by t u base refl (falls-duty e t u set base goals whole (goes x h none)) is
bounds-duty e t u set base goals whole (shuts x s r other) is =
    bounds-by t u base refl (falls-duty e t u set base goals whole (shuts x s r other)) is
bounds-duty e t u set base goals whole (renews x y s r none new) is =
    bounds-by t u base refl (falls-duty e t u set base goals whole (renews x y s r none new)) is
bounds-duty e t u set base goals whole (closes x y s cause r none last) is =
    bounds-by t u base refl (falls-duty e t u set base goals whole (closes x y s cause r none last)) is
bounds-duty e t u set base goals whole (swaps s run k r) is =
    bounds-by t u base refl (falls-duty e t u set base goals whole (swaps s run k r)) is
bounds-duty e t u set base goals whole (removes s k h) is =
    bounds-by t u base refl (falls-duty e t u set base goals whole (removes s k h)) is
bounds-duty e t u set base goals whole (creates s k y h unheld room new) is =
    bounds-by t u base refl (falls-duty e t u set base goals whole (creates s k y h unheld room new)) is
bounds-duty e t u set base goals whole (drops x h dead old) is =
    bounds-by t u base refl (falls-duty e t u set base goals whole (drops x h dead old)) is
bounds-duty e t u set base goals whole (stops_first s run k y r new) is =
    bounds-by t u base refl (falls-duty e t u set base goals whole (stops_first s run k y r new)) is
bounds-duty e t u set base goals whole (starts_first s run k y r new) is =
    bounds-by t u base refl (falls-duty e t u set base goals whole (starts_first s run k y r new)) is

-- no task counts
empty-bounds : (t : Tables) (s : Service) → ((x : Task) → Has t.tasks x → counts_for s x ≡ false) → IsBounded t s
empty-bounds t s none c n e =
    let no_number : place_numbers t s ≡ [] =
    ap (λ (xs : List Task). fold (λ ks x. with_number (place_number x.place) ks) [] xs)
    (filter_none (counts_for s) t.tasks none) in
    let held : length (held_places t s) ≡ 0 = ap (λ (ks : List ℕ). length (filter (is_held_place t s) ks)) no_number in
    let live : length (live_places t s) ≡ 0 = ap (λ (ks : List ℕ). length (filter (has_live t s) ks)) no_number in
    (omega (arith, held), omega (arith, live))

pub bounds-op : (e : ℕ) (t u : Tables) → Base t → OpStep e t u → JobBounds t → JobBounds u
bounds-op e t u base still is = is
bounds-op e t u base (respecifies s v spec h r) is =
    each-changed (IsBounded t) service_id s.id (λ old. v) t.services is (λ z k same. go (is_job s.spec.mode) refl)
  where
    go : (b : Bool) → is_job s.spec.mode ≡ b → IsBounded t v
    go true job = empty-bounds t v (respecified-none e t spec s v base h r job)
    go false job = no-bounds t v ((respecified-places e spec s v r job).job ∙ job)
bounds-op e t u base (comes s none run at) is =
    each-pushed (IsBounded t) t.services s is
    (empty-bounds t s (λ x h. false_from_ne_true (counts_for s x) (λ c. none x h (counts-of s x c))))
bounds-op e t u base (leaves id) is = λ s h. is s (Has-filter_cases _ t.services s h).0
