-- The tasks of a place where tasks change, come or go; and the newest of them.
use Rattle.std.proofs.Common.{Bool, List, None, Option, Some, [], ap, arith, cond, false, inl, inr, not, refl, subst, sym, true, ℕ, ◌++◌, ◌∙◌, ◌∷◌, ◌≡◌, ◌⊎◌}
use Rattle.std.proofs.lemmas.Bool.Decides.{nat_tests}
use Rattle.std.specs.List.{last_or}
use Rattle.std.specs.Option.{option_map}
use Rattle.std.specs.Prelude.{filter, map, ◌&&◌, ◌==◌, ◌||◌}
use Rattle.swarm_settle.proofs.Shapes.{Base, Comes}
use Rattle.swarm_model.proofs.Laws.Alone.{is-place}
use Rattle.swarm_model.proofs.Moves.Rows.{between-one}
use Rattle.swarm_objects.proofs.RowLemmas.{Has-map_cases}
use Rattle.swarm_objects.proofs.SameLemmas.{Decides-same_place}
use Rattle.swarm_objects.proofs.Tests.{both, first_so, never-both, or_right, second_so}
use Rattle.swarm_objects.proofs.Filters.{filter_map, filter_none, filter_same}
use Rattle.swarm_objects.proofs.Newest.{last_last}
use Rattle.swarm_objects.specs.Rows.{Has, service_id, task_id}
use Rattle.swarm_objects.specs.Same.{same_place}
use Rattle.swarm_objects.specs.Services.Words.{is_job}
use Rattle.swarm_objects.specs.Tasks.New.{goal_of}
use Rattle.swarm_objects.specs.Tasks.Places.{counts_for, is_in_place, newest, tasks_of_place}
use Rattle.swarm_objects.specs.Tasks.Words.{is_kept, is_live}
use Rattle.swarm_objects.specs.Values.Ranks.{desired_rank}
use Rattle.swarm_objects.specs.World.{Tables}
use Rattle.swarm_objects.specs.declared.services.Mode.TheVariants as mode
use Rattle.swarm_objects.specs.declared.services.Mode.{Mode}
use Rattle.swarm_objects.specs.declared.services.Service.{Service}
use Rattle.swarm_objects.specs.declared.tasks.Desired.TheVariants as desired
use Rattle.swarm_objects.specs.declared.tasks.Place.{Place}
use Rattle.swarm_objects.specs.declared.tasks.Task.{Task}

-- The last row.

last-map : {X : Type 0} (f : X → X) (o : Option X) (xs : List X) →
    last_or (option_map f o) (map f xs) ≡ option_map f (last_or o xs)
last-map f o [] = refl
last-map f o (x ∷ xs) = last-map f (Some x) xs

pub newest-map : (f : Task → Task) (xs : List Task) → newest (map f xs) ≡ option_map f (newest xs)
newest-map f xs = last-map f None xs

some-map : {X : Type 0} (f : X → X) (o : Option X) (z : X) → option_map f o ≡ Some z →
    (x : X) × (o ≡ Some x) × (f x ≡ z)
some-map f None z e = absurd cc
some-map f (Some x) z e = (x, refl, cc)

pub newest-mapped : (f : Task → Task) (xs : List Task) (z : Task) → newest (map f xs) ≡ Some z →
    (x : Task) × (newest xs ≡ Some x) × (f x ≡ z)
newest-mapped f xs z e = some-map f (newest xs) z (sym (newest-map f xs) ∙ e)

pub newest-push : (xs : List Task) (x : Task) → newest (xs ++ x ∷ []) ≡ Some x
newest-push xs x = last_last None xs x

last-filter : {X : Type 0} (test : X → Bool) (o p : Option X) (xs : List X) (z : X) → last_or o xs ≡ Some z →
    test z ≡ true → (o ≡ Some z → p ≡ Some z) → last_or p (filter test xs) ≡ Some z
last-filter test o p [] z e t k = k e
last-filter test o p (x ∷ xs) z e t k =
    go (test x) refl (last-filter test (Some x) (Some x) xs z e t (λ q. q))
    (λ lost. last-filter test (Some x) p xs z e t (λ q. absurd (lost q)))
  where
    go : (b : Bool) → test x ≡ b → last_or (Some x) (filter test xs) ≡ Some z →
        (¬ (Some x ≡ Some z) → last_or p (filter test xs) ≡ Some z) →
        last_or p (cond b (x ∷ filter test xs) (filter test xs)) ≡ Some z
    go true f stays rest = stays
    go false f stays rest =
        rest (λ (q : Some x ≡ Some z). let is : x ≡ z = cc in never-both (test z) (ap test (sym is) ∙ f) t)

pub newest-filter : (test : Task → Bool) (xs : List Task) (z : Task) → newest xs ≡ Some z → test z ≡ true →
    newest (filter test xs) ≡ Some z
newest-filter test xs z e t = last-filter test None None xs z e t (λ q. q)

last-some : {X : Type 0} (o : Option X) (xs : List X) (y : X) → Has xs y → (z : X) × (last_or o xs ≡ Some z)
last-some o [] y h = absurd h
last-some o (x ∷ []) y h = (x, refl)
last-some o (x ∷ w ∷ xs) y (inl e) = last-some (Some x) (w ∷ xs) w (inl refl)
last-some o (x ∷ w ∷ xs) y (inr h) = last-some (Some x) (w ∷ xs) y h

pub newest-some : (xs : List Task) (y : Task) → Has xs y → (z : Task) × (newest xs ≡ Some z)
newest-some xs y h = last-some None xs y h

-- Rows that are touched.

abbrev pub touch : (Task → Bool) → (Task → Task) → Task → Task
touch test f x = cond (test x) (f x) x

pub untouched : (test : Task → Bool) (f : Task → Task) (xs : List Task) → ((x : Task) → Has xs x → test x ≡ false) →
    map (touch test f) xs ≡ xs
untouched test f [] none = refl
untouched test f (x ∷ xs) none =
    ap (λ (b : Bool). cond b (f x) x ∷ map (touch test f) xs) (none x (inl refl))
    ∙ ap (λ (ys : List Task). x ∷ ys) (untouched test f xs (λ y h. none y (inr h)))

-- what a task was made with
pub record SameMaking (x y : Task) : Type 0 where
  pub id : y.id ≡ x.id
  pub service : y.service ≡ x.service
  pub place : y.place ≡ x.place
  pub iteration : y.iteration ≡ x.iteration
  pub template : y.template ≡ x.template
  pub goal : y.goal ≡ x.goal

pub making-refl : (x : Task) → SameMaking x x
making-refl x =
    record { id = refl; service = refl; place = refl; iteration = refl; template = refl; goal = refl }

pub touch-making : (test : Task → Bool) (f : Task → Task) → ((x : Task) → SameMaking x (f x)) → (x : Task) →
    SameMaking x (touch test f x)
touch-making test f keeps x = go (test x)
  where
    go : (b : Bool) → SameMaking x (cond b (f x) x)
    go true = keeps x
    go false = making-refl x

pub in-place-same : (s : Service) (p : Place) (x y : Task) → SameMaking x y → is_in_place s p y ≡ is_in_place s p x
in-place-same s p x y m =
    ap (λ (k : ℕ). (k == s.id && (not (is_job s.spec.mode) || y.iteration == s.iteration)) && same_place y.place p)
    m.service
    ∙ ap (λ (k : ℕ). (x.service == s.id && (not (is_job s.spec.mode) || k == s.iteration)) && same_place y.place p)
    m.iteration
    ∙ ap (λ (q : Place). (x.service == s.id && (not (is_job s.spec.mode) || x.iteration == s.iteration))
    && same_place q p) m.place

pub place-map : (s : Service) (p : Place) (f : Task → Task) (xs : List Task) → ((x : Task) → SameMaking x (f x)) →
    tasks_of_place s p (map f xs) ≡ map f (tasks_of_place s p xs)
place-map s p f xs keeps = filter_map (is_in_place s p) f xs (λ x. in-place-same s p x (f x) (keeps x))

filter-swap : {X : Type 0} (p q : X → Bool) (xs : List X) → filter p (filter q xs) ≡ filter q (filter p xs)
filter-swap p q [] = refl
filter-swap p q (x ∷ xs) = go (p x) refl (q x) refl (filter-swap p q xs)
  where
    go : (a : Bool) → p x ≡ a → (b : Bool) → q x ≡ b → filter p (filter q xs) ≡ filter q (filter p xs) →
        filter p (cond b (x ∷ filter q xs) (filter q xs)) ≡ filter q (cond a (x ∷ filter p xs) (filter p xs))
    go true e true f rest =
        ap (λ (c : Bool). cond c (x ∷ filter p (filter q xs)) (filter p (filter q xs))) e
        ∙ ap (λ ys. x ∷ ys) rest
        ∙ sym (ap (λ (c : Bool). cond c (x ∷ filter q (filter p xs)) (filter q (filter p xs))) f)
    go true e false f rest =
        rest ∙ sym (ap (λ (c : Bool). cond c (x ∷ filter q (filter p xs)) (filter q (filter p xs))) f)
    go false e true f rest =
        ap (λ (c : Bool). cond c (x ∷ filter p (filter q xs)) (filter p (filter q xs))) e ∙ rest
    go false e false f rest = rest

pub place-filter : (s : Service) (p : Place) (test : Task → Bool) (xs : List Task) →
    tasks_of_place s p (filter test xs) ≡ filter test (tasks_of_place s p xs)
place-filter s p test xs = filter-swap (is_in_place s p) test xs

filter-push : {X : Type 0} (test : X → Bool) (xs : List X) (x : X) →
    filter test (xs ++ x ∷ []) ≡ filter test xs ++ cond (test x) (x ∷ []) []
filter-push test [] x = refl
filter-push test (y ∷ xs) x =
    ap (λ ys. cond (test y) (y ∷ ys) ys) (filter-push test xs x) ∙ go (test y)
  where
    go : (b : Bool) →
        cond b (y ∷ (filter test xs ++ cond (test x) (x ∷ []) [])) (filter test xs ++ cond (test x) (x ∷ []) [])
        ≡ cond b (y ∷ filter test xs) (filter test xs) ++ cond (test x) (x ∷ []) []
    go true = refl
    go false = refl

pub append-none : {X : Type 0} (xs : List X) → xs ++ [] ≡ xs
append-none [] = refl
append-none (x ∷ xs) = ap (λ ys. x ∷ ys) (append-none xs)

-- what holds of the place, with the new task where it stands there
pub place-push : (P : List Task → Type 0) (s : Service) (p : Place) (xs : List Task) (y : Task) →
    (is_in_place s p y ≡ true → P (tasks_of_place s p xs ++ y ∷ [])) →
    (is_in_place s p y ≡ false → P (tasks_of_place s p xs)) → P (tasks_of_place s p (xs ++ y ∷ []))
place-push P s p xs y inside outside =
    subst P (sym (filter-push (is_in_place s p) xs y)) (go (is_in_place s p y) refl)
  where
    go : (b : Bool) → is_in_place s p y ≡ b → P (tasks_of_place s p xs ++ cond b (y ∷ []) [])
    go true e = inside e
    go false e = subst P (sym (append-none (tasks_of_place s p xs))) (outside e)

-- Members of places.

pub counts-of : (s : Service) (x : Task) → counts_for s x ≡ true → x.service ≡ s.id
counts-of s x e = grind (arith, nat_tests, first_so (x.service == s.id) _ e)

pub place-counts : (s : Service) (p : Place) (x : Task) → is_in_place s p x ≡ true → counts_for s x ≡ true
place-counts s p x e = first_so (counts_for s x) (same_place x.place p) e

pub place-is : (s : Service) (p : Place) (x : Task) → is_in_place s p x ≡ true → x.place ≡ p
place-is s p x e = is-place x.place p (second_so (counts_for s x) (same_place x.place p) e)

pub place-in : (s : Service) (p : Place) (x : Task) → counts_for s x ≡ true → x.place ≡ p → is_in_place s p x ≡ true
place-in s p x e f = both (counts_for s x) (same_place x.place p) e ((Decides-same_place x.place p).1 f)

-- two services that are there and count one task are one
pub one-service : (t : Tables) → Base t → (s v : Service) → Has t.services s → Has t.services v → s.id ≡ v.id → s ≡ v
one-service t base s v h k e = between-one service_id 1 base.high t.services s v base.services h k e

pub one-task : (t : Tables) → Base t → (x y : Task) → Has t.tasks x → Has t.tasks y → x.id ≡ y.id → x ≡ y
one-task t base x y h k e = between-one task_id 1 base.high t.tasks x y base.tasks h k e

pub comes-counts : (t : Tables) (s : Service) (p : Place) (y : Task) → Comes t s p y → counts_for s y ≡ true
comes-counts t s p y new =
    both (y.service == s.id) _ (grind (arith, nat_tests, new.service))
    (or_right (not (is_job s.spec.mode)) (y.iteration == s.iteration) (grind (arith, nat_tests, new.iteration)))

pub goal-kinds : (m : Mode) → (goal_of m ≡ desired.Running) ⊎ (goal_of m ≡ desired.Complete)
goal-kinds (mode.Replicated n) = inl refl
goal-kinds mode.Global = inl refl
goal-kinds (mode.Job c n) = inr refl

-- a new task is live, and not to be removed
pub comes-live : (t : Tables) (s : Service) (p : Place) (y : Task) → Comes t s p y →
    (is_live y ≡ true) × (is_kept y ≡ true)
comes-live t s p y new = go new.wanted (goal-kinds s.spec.mode)
  where
    go : (y.desired ≡ desired.Ready) ⊎ (y.desired ≡ y.goal) →
        (goal_of s.spec.mode ≡ desired.Running) ⊎ (goal_of s.spec.mode ≡ desired.Complete) →
        (is_live y ≡ true) × (is_kept y ≡ true)
    go w (inl g) = with_goal w (ap desired_rank (new.goal ∙ g))
      where
        with_goal : (y.desired ≡ desired.Ready) ⊎ (y.desired ≡ y.goal) → desired_rank y.goal ≡ 512 →
            (is_live y ≡ true) × (is_kept y ≡ true)
        with_goal (inl d) k =
            let r : desired_rank y.desired ≡ 384 = ap desired_rank d in
            (grind (arith, nat_tests, r, k), grind (arith, nat_tests, r))
        with_goal (inr d) k =
            let r : desired_rank y.desired ≡ 512 = ap desired_rank d ∙ k in
            (grind (arith, nat_tests, r, k), grind (arith, nat_tests, r))
    go w (inr g) = with_goal w (ap desired_rank (new.goal ∙ g))
      where
        with_goal : (y.desired ≡ desired.Ready) ⊎ (y.desired ≡ y.goal) → desired_rank y.goal ≡ 576 →
            (is_live y ≡ true) × (is_kept y ≡ true)
        with_goal (inl d) k =
            let r : desired_rank y.desired ≡ 384 = ap desired_rank d in
            (grind (arith, nat_tests, r, k), grind (arith, nat_tests, r))
        with_goal (inr d) k =
            let r : desired_rank y.desired ≡ 576 = ap desired_rank d ∙ k in
            (grind (arith, nat_tests, r, k), grind (arith, nat_tests, r))

-- What holds of each task that was there, and of each that is touched.
pub each-touched : (P : Task → Type 0) (test : Task → Bool) (f : Task → Task) (xs : List Task) →
    ((x : Task) → Has xs x → P x) → ((x : Task) → Has xs x → test x ≡ true → P (f x)) → (y : Task) →
    Has (map (touch test f) xs) y → P y
each-touched P test f xs all touched y h =
    let from = Has-map_cases (touch test f) xs y h in
    subst P from.2 (go from.0 from.1 (test from.0) refl)
  where
    go : (x : Task) → Has xs x → (b : Bool) → test x ≡ b → P (cond b (f x) x)
    go x k true e = touched x k e
    go x k false e = all x k

-- or is touched
pub each-touched-by : (P : Task → Type 0) (test : Task → Bool) (f : Task → Task) (xs : List Task) →
    ((x : Task) → Has xs x → test x ≡ false → P x) → ((x : Task) → Has xs x → test x ≡ true → P (f x)) → (y : Task) →
    Has (map (touch test f) xs) y → P y
each-touched-by P test f xs left touched y h =
    let from = Has-map_cases (touch test f) xs y h in
    subst P from.2 (go from.0 from.1 (test from.0) refl)
  where
    go : (x : Task) → Has xs x → (b : Bool) → test x ≡ b → P (cond b (f x) x)
    go x k true e = touched x k e
    go x k false e = left x k e

-- Services that keep their places.

pub record SamePlaces (s v : Service) : Type 0 where
  pub id : v.id ≡ s.id
  pub job : is_job v.spec.mode ≡ is_job s.spec.mode
  pub now : is_job s.spec.mode ≡ true → v.iteration ≡ s.iteration

pub counts-same : (s v : Service) → SamePlaces s v → (x : Task) → counts_for v x ≡ counts_for s x
counts-same s v same x =
    ap (λ (k : ℕ). x.service == k && (not (is_job v.spec.mode) || x.iteration == v.iteration)) same.id
    ∙ ap (λ (b : Bool). x.service == s.id && (not b || x.iteration == v.iteration)) same.job
    ∙ go (is_job s.spec.mode) same.now
  where
    go : (b : Bool) → (b ≡ true → v.iteration ≡ s.iteration) →
        (x.service == s.id && (not b || x.iteration == v.iteration))
        ≡ (x.service == s.id && (not b || x.iteration == s.iteration))
    go true now = ap (λ (k : ℕ). x.service == s.id && (not true || x.iteration == k)) (now refl)
    go false now = refl

pub same-places : (s v : Service) → SamePlaces s v → (p : Place) (xs : List Task) →
    tasks_of_place v p xs ≡ tasks_of_place s p xs
same-places s v same p xs =
    filter_same (is_in_place v p) (is_in_place s p) xs
    (λ x. ap (λ (b : Bool). b && same_place x.place p) (counts-same s v same x))

-- no task counts for the service
pub no-places : (s : Service) (p : Place) (xs : List Task) → ((x : Task) → Has xs x → counts_for s x ≡ false) →
    tasks_of_place s p xs ≡ []
no-places s p xs none =
    filter_none (is_in_place s p) xs
    (λ x h. ap (λ (b : Bool). b && same_place x.place p) (none x h))
