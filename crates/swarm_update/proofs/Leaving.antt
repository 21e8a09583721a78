-- Changes that leave what is remembered of a service's update.
use Rattle.std.proofs.Common.{◌≡◌, ◌∙◌, ◌∷◌, ◌⊎◌, ◌<◌, ℕ, Bool, List, None, Option, Some, [], ap, arith, cond, eqb, false, fold, get_or, inl, inr, ltb, not, refl, subst, sym, true}
use Rattle.std.proofs.lemmas.Bool.Decides.{nat_tests}
use Rattle.std.specs.List.{list_any}
use Rattle.std.specs.Prelude.{IfSome, count_by, filter, ◌&&◌, ◌++◌, ◌||◌}
use Rattle.role_words.proofs.Numbers.{number_equal, same_number}
use Rattle.role_words.specs.Marks.{has_number, tasks_at}
use Rattle.role_words.specs.Suspects.{is_suspect}
use Rattle.swarm_objects.proofs.Filters.{filter_again}
use Rattle.swarm_objects.proofs.PlaceLemmas.{and_left, any_again, count_again}
use Rattle.swarm_objects.proofs.RowLemmas.{Has-append_cases, Has-filter_cases, Has-from_row_at, Has-map_cases, row_at-Some}
use Rattle.swarm_objects.proofs.Tests.{any_filter, both, first_so, or_false, second_so}
use Rattle.swarm_objects.specs.ChangeLists.{apply_change, apply_changes}
use Rattle.swarm_objects.specs.Rows.{Has, drop_row, has_row, is_row_and, is_some_and, put_row, row_at, service_id, task_id, with_number}
use Rattle.swarm_objects.specs.Same.{same_place}
use Rattle.swarm_objects.specs.Services.Runs.{counts_as_failure, failures, is_failure}
use Rattle.swarm_objects.specs.Tasks.New.{with_task}
use Rattle.swarm_objects.specs.Tasks.Places.{counts_for, is_in_place, place_at, place_number}
use Rattle.swarm_objects.specs.Tasks.Words.{is_of}
use Rattle.swarm_objects.specs.Usable.{IsUsable}
use Rattle.swarm_objects.specs.World.{Tables}
use Rattle.swarm_objects.specs.declared.rows.Change.TheVariants as change
use Rattle.swarm_objects.specs.declared.rows.Change.{Change}
use Rattle.swarm_objects.specs.declared.services.Service.{Service}
use Rattle.swarm_objects.specs.declared.services.ServiceSpec.{ServiceSpec}
use Rattle.swarm_objects.specs.declared.services.UpdateRun.{UpdateRun}
use Rattle.swarm_objects.specs.declared.tasks.Task.{Task}
use Rattle.swarm_update.proofs.Marking.{number_is, true_false}
use Rattle.swarm_update.specs.KnownSurvey.{AreClean, HasAlike, HasNoSuspect, IsLess, IsOf, IsSo, Knows, KnowsKept, Leaves, leaves_out, may_fail, touches}
use Rattle.swarm_update.specs.Marks.{mark_of}
use Rattle.swarm_update.specs.declared.clean.CleanServices.{CleanServices}
use Rattle.swarm_update.specs.declared.known_survey.Kept.{Kept}
use Rattle.swarm_update.specs.StalePlaces.{is_stale}
use Rattle.swarm_update.specs.declared.known_survey.KnownSurvey.{KnownSurvey}
use Rattle.swarm_update.specs.declared.known_survey.Subject.{Subject}
use Rattle.swarm_update.specs.declared.marks.TheConstants.{WIDTH}
use Rattle.swarm_update.specs.declared.stale_places.StalePlaces.{StalePlaces}
use Rattle.swarm_update.specs.declared.survey.Survey.{Survey}
use Rattle.swarm_update.specs.Surveys.{Tells}
use Rattle.swarm_update.proofs.Renoting.{shows_others}

-- What changes leave of the tasks that pass a test.

-- the change puts none that passes, and none that it puts or drops passed
pub record Misses (p : Task → Bool) (tasks : List Task) (c : Change) : Type 0 where
  pub put : (x : Task) → c ≡ change.PutTask x → (p x ≡ false) × ((y : Task) → Has tasks y → y.id ≡ x.id → p y ≡ false)
  pub drop : (id : ℕ) → c ≡ change.DropTask id → (y : Task) → Has tasks y → y.id ≡ id → p y ≡ false

filter-put : (p : Task → Bool) (x : Task) (tasks : List Task) → p x ≡ false →
    ((y : Task) → Has tasks y → y.id ≡ x.id → p y ≡ false) → filter p (put_row task_id x tasks) ≡ filter p tasks
filter-put p x [] off none = refl
filter-put p x (y ∷ tasks) off none = go (eqb y.id x.id) refl (filter-put p x tasks off (λ z h e. none z (inr h) e))
  where
    go : (b : Bool) → eqb y.id x.id ≡ b → filter p (put_row task_id x tasks) ≡ filter p tasks →
        filter p (cond b x y ∷ put_row task_id x tasks) ≡ filter p (y ∷ tasks)
    go true is rest =
        let out : p y ≡ false = none y (inl refl) (grind (arith, nat_tests, is)) in
        ap (λ c. cond c (x ∷ filter p (put_row task_id x tasks)) (filter p (put_row task_id x tasks))) off ∙ rest
        ∙ sym (ap (λ c. cond c (y ∷ filter p tasks) (filter p tasks)) out)
    go false is rest = ap (λ l. cond (p y) (y ∷ l) l) rest

filter-last : (p : Task → Bool) (x : Task) (tasks : List Task) → p x ≡ false → filter p (tasks ++ x ∷ []) ≡ filter p tasks
filter-last p x [] off = ap (λ c. cond c (x ∷ []) []) off
filter-last p x (y ∷ tasks) off = ap (λ l. cond (p y) (y ∷ l) l) (filter-last p x tasks off)

filter-drop : (p : Task → Bool) (id : ℕ) (tasks : List Task) → ((y : Task) → Has tasks y → y.id ≡ id → p y ≡ false) →
    filter p (drop_row task_id id tasks) ≡ filter p tasks
filter-drop p id [] none = refl
filter-drop p id (y ∷ tasks) none = go (eqb y.id id) refl (filter-drop p id tasks (λ z h e. none z (inr h) e))
  where
    go : (b : Bool) → eqb y.id id ≡ b → filter p (drop_row task_id id tasks) ≡ filter p tasks →
        filter p (cond (not b) (y ∷ drop_row task_id id tasks) (drop_row task_id id tasks)) ≡ filter p (y ∷ tasks)
    go true is rest =
        rest ∙ sym (ap (λ c. cond c (y ∷ filter p tasks) (filter p tasks)) (none y (inl refl) (grind (arith, nat_tests, is))))
    go false is rest = ap (λ l. cond (p y) (y ∷ l) l) rest

-- a task is there after the change that was there, or doesn't pass
was-there : (p : Task → Bool) (t : Tables) (c : Change) → Misses p t.tasks c → (y : Task)
    → Has (apply_change t c).tasks y → Has t.tasks y ⊎ (p y ≡ false)
was-there p t (change.PutNode n) misses y h = inl h
was-there p t (change.PutService s) misses y h = inl h
was-there p t (change.PutTask x) misses y h = go (has_row task_id x.id t.tasks) h
  where
    put : (z : Task) (b : Bool) → Has t.tasks z → cond b x z ≡ y → Has t.tasks y ⊎ (p y ≡ false)
    put z true h e = inr (subst (λ v. p v ≡ false) e (misses.put x refl).0)
    put z false h e = inl (subst (Has t.tasks) e h)

    last : Has t.tasks y ⊎ Has (x ∷ []) y → Has t.tasks y ⊎ (p y ≡ false)
    last (inl h) = inl h
    last (inr (inl e)) = inr (subst (λ v. p v ≡ false) e (misses.put x refl).0)
    last (inr (inr h)) = absurd h

    go : (b : Bool) → Has (cond b (record t { tasks = put_row task_id x t.tasks }) (with_task t x)).tasks y →
        Has t.tasks y ⊎ (p y ≡ false)
    go true h =
        let from = Has-map_cases (λ z. cond (eqb z.id x.id) x z) t.tasks y h in
        put from.0 (eqb from.0.id x.id) from.1 from.2
    go false h = last (Has-append_cases t.tasks (x ∷ []) y h)
was-there p t (change.DropTask id) misses y h =
    inl (Has-filter_cases (λ z. not (eqb z.id id)) t.tasks y h).0
was-there p t (change.Keep a) misses y h = inl h

still-misses : (p : Task → Bool) (t : Tables) (c d : Change) → Misses p t.tasks c → Misses p t.tasks d →
    Misses p (apply_change t c).tasks d
still-misses p t c d first second = record {
  put = λ x e. ((second.put x e).0, λ y h same. here y h ((second.put x e).1 y) same);
  drop = λ id e y h same. here y h (second.drop id e y) same;
}
  where
    here : {k : ℕ} (y : Task) → Has (apply_change t c).tasks y → (Has t.tasks y → y.id ≡ k → p y ≡ false) → y.id ≡ k →
        p y ≡ false
    here y h there same = elim (was-there p t c first y h) [ inl was ↦ there was same | inr off ↦ off ]

change-leaves : (p : Task → Bool) (t : Tables) (c : Change) → Misses p t.tasks c →
    filter p (apply_change t c).tasks ≡ filter p t.tasks
change-leaves p t (change.PutNode n) misses = refl
change-leaves p t (change.PutService s) misses = refl
change-leaves p t (change.PutTask x) misses = go (has_row task_id x.id t.tasks)
  where
    go : (b : Bool) →
        filter p (cond b (record t { tasks = put_row task_id x t.tasks }) (with_task t x)).tasks ≡ filter p t.tasks
    go true = filter-put p x t.tasks (misses.put x refl).0 (misses.put x refl).1
    go false = filter-last p x t.tasks (misses.put x refl).0
change-leaves p t (change.DropTask id) misses = filter-drop p id t.tasks (misses.drop id refl)
change-leaves p t (change.Keep a) misses = refl

pub changes-leave : (p : Task → Bool) (cs : List Change) (t : Tables) → ((c : Change) → Has cs c → Misses p t.tasks c) →
    filter p (apply_changes t cs).tasks ≡ filter p t.tasks
changes-leave p [] t misses = refl
changes-leave p (c ∷ cs) t misses =
    changes-leave p cs (apply_change t c)
    (λ d h. still-misses p t c d (misses c (inl refl)) (misses d (inr h)))
    ∙ change-leaves p t c (misses c (inl refl))

-- The numbers of a service's places.

or_turned : (a b c : Bool) → ((a || b) || c) ≡ (b || (a || c))
or_turned true true c = refl
or_turned true false c = refl
or_turned false true c = refl
or_turned false false c = refl

or_same : (a b c : Bool) → a ≡ b → (a || c) ≡ (a || (b || c))
or_same true b c e = refl
or_same false true c e = absurd cc
or_same false false c e = refl

or_moved : (a b c : Bool) → (a || (b || c)) ≡ (b || (a || c))
or_moved true true c = refl
or_moved true false c = refl
or_moved false true c = refl
or_moved false false c = refl

any_with : (p : ℕ → Bool) (k : ℕ) (ks : List ℕ) → list_any p (with_number k ks) ≡ (p k || list_any p ks)
any_with p k [] = refl
any_with p k (j ∷ js) = go (ltb k j) (eqb k j) (same_number k j) (any_with p k js)
  where
    go : (a b : Bool) → (b ≡ true → k ≡ j) → list_any p (with_number k js) ≡ (p k || list_any p js) →
        list_any p (cond a (k ∷ j ∷ js) (cond b (k ∷ js) (j ∷ with_number k js))) ≡ (p k || (p j || list_any p js))
    go true b same e = refl
    go false true same e = or_same (p k) (p j) (list_any p js) (ap p (same refl))
    go false false same e = ap (λ c. p j || c) e ∙ or_moved (p j) (p k) (list_any p js)

abbrev add_number : List ℕ → Task → List ℕ
add_number ks x = with_number (place_number x.place) ks

any_folded : (p : ℕ → Bool) (ks : List ℕ) (tasks : List Task)
    → list_any p (fold add_number ks tasks) ≡ (list_any p ks || list_any (λ (x : Task). p (place_number x.place)) tasks)
any_folded p ks [] = sym (or_false (list_any p ks))
any_folded p ks (x ∷ tasks) =
    any_folded p (with_number (place_number x.place) ks) tasks
    ∙ ap (λ b. b || list_any (λ (y : Task). p (place_number y.place)) tasks) (any_with p (place_number x.place) ks)
    ∙ or_turned (p (place_number x.place)) (list_any p ks) (list_any (λ (y : Task). p (place_number y.place)) tasks)

-- the task is one of the service's, and its place has this number
abbrev is_numbered : Service → ℕ → Task → Bool
is_numbered s k x = is_of s.id x && eqb (place_number x.place) k

abbrev counts_at : Service → ℕ → Task → Bool
counts_at s k x = counts_for s x && eqb (place_number x.place) k

number_as : (s : Service) (tasks : List Task) (k : ℕ)
    → has_number s tasks k ≡ list_any (counts_at s k) (filter (is_numbered s k) tasks)
number_as s tasks k =
    any_folded (λ j. eqb j k) [] (filter (counts_for s) tasks)
    ∙ any_filter (counts_for s) (λ (x : Task). eqb (place_number x.place) k) tasks
    ∙ sym (any_again (counts_at s k) (is_numbered s k) tasks (λ x e.
    both (is_of s.id x) (eqb (place_number x.place) k)
    (and_left (is_of s.id x) _ (first_so (counts_for s x) (eqb (place_number x.place) k) e))
    (second_so (counts_for s x) (eqb (place_number x.place) k) e)))

tasks_as : (s : Service) (tasks : List Task) (k : ℕ)
    → tasks_at s tasks k ≡ filter (is_in_place s (place_at s.spec.mode k)) (filter (is_numbered s k) tasks)
tasks_as s tasks k =
    sym (filter_again (is_in_place s (place_at s.spec.mode k)) (is_numbered s k) tasks (λ x e.
    both (is_of s.id x) (eqb (place_number x.place) k)
    (and_left (is_of s.id x) _ (first_so (counts_for s x) (same_place x.place (place_at s.spec.mode k)) e))
    (number_equal (place_number x.place) k (number_is s x k e))))

-- What a list of changes leaves.

not_of : (b : Bool) → not b ≡ false → b ≡ true
not_of true e = refl
not_of false e = absurd cc

none_of : (t : Tables) (p : Task → Bool) (id : ℕ) → IsUsable t → is_row_and task_id p t.tasks id ≡ false → (y : Task)
    → Has t.tasks y → y.id ≡ id → p y ≡ false
none_of t p id usable off y h same =
    let at = subst (λ (n : ℕ). row_at task_id n t.tasks ≡ Some y) same
    (row_at-Some task_id 0 t.tasks y usable.sound.ordered.tasks h) in
    sym (ap (is_some_and p) at) ∙ off

misses : (p : Task → Bool) (t : Tables) (k : Subject) (far : Bool) (c : Change) → IsUsable t
    → ((x : Task) → touches k far x ≡ false → p x ≡ false) → Leaves t k far c → Misses p t.tasks c
misses p t k far (change.PutNode n) usable less e = record { put = λ x f. absurd cc; drop = λ j f. absurd cc }
misses p t k far (change.PutService s) usable less e = record { put = λ x f. absurd cc; drop = λ j f. absurd cc }
misses p t k far (change.PutTask z) usable less e = record {
  put = λ x f. let same : z ≡ x = cc in
      subst (λ (v : Task). (p v ≡ false) × ((y : Task) → Has t.tasks y → y.id ≡ v.id → p y ≡ false)) same
      (less z e.0, λ y h is. less y (none_of t (touches k far) z.id usable e.1 y h is));
  drop = λ j f. absurd cc;
}
misses p t k far (change.DropTask i) usable less e = record {
  put = λ x f. absurd cc;
  drop = λ j f. let same : i ≡ j = cc in
      subst (λ (n : ℕ). (y : Task) → Has t.tasks y → y.id ≡ n → p y ≡ false) same
      (λ y h is. less y (none_of t (touches k far) i usable e y h is));
}
misses p t k far (change.Keep a) usable less e = record { put = λ x f. absurd cc; drop = λ j f. absurd cc }

left_same : (p : Task → Bool) (t : Tables) (k : Subject) (far : Bool) (cs : List Change) → IsUsable t
    → ((c : Change) → Has cs c → Leaves t k far c) → ((x : Task) → touches k far x ≡ false → p x ≡ false)
    → filter p (apply_changes t cs).tasks ≡ filter p t.tasks
left_same p t k far cs usable all less =
    changes-leave p cs t (λ c h. misses p t k far c usable less (all c h))

-- The service.

pub record CameFrom (t : Tables) (id : ℕ) (s : Service) : Type 0 where
  pub row : Service
  pub is : row_at service_id id t.services ≡ Some row
  pub spec : s.spec ≡ row.spec
  pub iteration : s.iteration ≡ row.iteration

put-cases : (s : Service) (id : ℕ) (rows : List Service) (z : Service)
    → row_at service_id id (put_row service_id s rows) ≡ Some z
    → (row_at service_id id rows ≡ Some z) ⊎ ((s ≡ z) × (s.id ≡ id))
put-cases s id [] z e = inl e
put-cases s id (r ∷ rows) z e = go (eqb r.id s.id) refl (eqb s.id id) refl (eqb r.id id) refl (put-cases s id rows z) e
  where
    go : (a : Bool) → eqb r.id s.id ≡ a → (b : Bool) → eqb s.id id ≡ b → (c : Bool) → eqb r.id id ≡ c
        → (row_at service_id id (put_row service_id s rows) ≡ Some z
        → (row_at service_id id rows ≡ Some z) ⊎ ((s ≡ z) × (s.id ≡ id)))
        → row_at service_id id (cond a s r ∷ put_row service_id s rows) ≡ Some z
        → (cond c (Some r) (row_at service_id id rows) ≡ Some z) ⊎ ((s ≡ z) × (s.id ≡ id))
    go true ea true eb c ec rest f =
        let found : Some s ≡ Some z =
        sym (ap (λ b. cond b (Some s) (row_at service_id id (put_row service_id s rows))) eb) ∙ f in
        inr (cc, same_number s.id id eb)
    go true ea false eb true ec rest f =
        absurd (true_false (eqb s.id id)
        (number_equal s.id id (sym (same_number r.id s.id ea) ∙ same_number r.id id ec)) eb)
    go true ea false eb false ec rest f =
        rest (sym (ap (λ b. cond b (Some s) (row_at service_id id (put_row service_id s rows))) eb) ∙ f)
    go false ea b eb true ec rest f =
        inl (sym (ap (λ b. cond b (Some r) (row_at service_id id (put_row service_id s rows))) ec) ∙ f)
    go false ea b eb false ec rest f =
        rest (sym (ap (λ b. cond b (Some r) (row_at service_id id (put_row service_id s rows))) ec) ∙ f)

-- a service with this id that the change puts is alike
abbrev pub PutsAlike : Tables → ℕ → Change → Type 0
PutsAlike t id c = (s : Service) → c ≡ change.PutService s → s.id ≡ id → HasAlike t s

came_step : (t u : Tables) (id : ℕ) (c : Change)
    → ((z : Service) → row_at service_id id u.services ≡ Some z → CameFrom t id z) → PutsAlike t id c
    → (z : Service) → row_at service_id id (apply_change u c).services ≡ Some z → CameFrom t id z
came_step t u id (change.PutNode n) before alike = before
came_step t u id (change.PutService s) before alike = λ z at. elim (put-cases s id u.services z at) [
  | inl was ↦ before z was
  | inr is ↦
      let a = alike s refl is.1 in
      record {
        row = a.row;
        is = subst (λ (n : ℕ). row_at service_id n t.services ≡ Some a.row) is.1 a.is;
        spec = ap (λ (x : Service). x.spec) (sym is.0) ∙ a.spec;
        iteration = ap (λ (x : Service). x.iteration) (sym is.0) ∙ a.iteration;
      }
]
came_step t u id (change.PutTask x) before alike = go (has_row task_id x.id u.tasks)
  where
    go : (b : Bool) → (z : Service)
        → row_at service_id id (cond b (record u { tasks = put_row task_id x u.tasks }) (with_task u x)).services
        ≡ Some z
        → CameFrom t id z
    go true = before
    go false = before
came_step t u id (change.DropTask i) before alike = before
came_step t u id (change.Keep a) before alike = before

came : (t u : Tables) (id : ℕ) (cs : List Change)
    → ((z : Service) → row_at service_id id u.services ≡ Some z → CameFrom t id z)
    → ((c : Change) → Has cs c → PutsAlike t id c)
    → (z : Service) → row_at service_id id (apply_changes u cs).services ≡ Some z → CameFrom t id z
came t u id [] before alike = before
came t u id (c ∷ cs) before alike =
    came t (apply_change u c) id cs (came_step t u id c before (alike c (inl refl))) (λ d h. alike d (inr h))

-- where each service that is put is alike, the row is one that was there
pub row_came : (t : Tables) (id : ℕ) (cs : List Change) → ((c : Change) → Has cs c → PutsAlike t id c)
    → (z : Service) → row_at service_id id (apply_changes t cs).services ≡ Some z → CameFrom t id z
row_came t id cs = came t t id cs (λ z e. record { row = z; is = e; spec = refl; iteration = refl })

leaves_alike : (t : Tables) (k : Subject) (far : Bool) (c : Change) → Leaves t k far c → PutsAlike t k.service c
leaves_alike t k far (change.PutService z) leaves = λ s e.
    let same : z ≡ s = cc in subst (λ (x : Service). x.id ≡ k.service → HasAlike t x) same leaves
leaves_alike t k far (change.PutNode n) leaves = λ s e. absurd cc
leaves_alike t k far (change.PutTask x) leaves = λ s e. absurd cc
leaves_alike t k far (change.DropTask i) leaves = λ s e. absurd cc
leaves_alike t k far (change.Keep a) leaves = λ s e. absurd cc

-- The clock.

clock_step : (t : Tables) (c : Change) → (apply_change t c).clock ≡ t.clock
clock_step t (change.PutNode n) = refl
clock_step t (change.PutService s) = refl
clock_step t (change.PutTask x) = go (has_row task_id x.id t.tasks)
  where
    go : (b : Bool) → (cond b (record t { tasks = put_row task_id x t.tasks }) (with_task t x)).clock ≡ t.clock
    go true = refl
    go false = refl
clock_step t (change.DropTask id) = refl
clock_step t (change.Keep a) = refl

clock_stays : (cs : List Change) (t : Tables) → (apply_changes t cs).clock ≡ t.clock
clock_stays [] t = refl
clock_stays (c ∷ cs) t = clock_stays cs (apply_change t c) ∙ clock_step t c

-- What is told of the service.

-- the service with another's id, and another's parts that are read
abbrev pub as_read : ℕ → ServiceSpec → ℕ → Service → Service
as_read id spec iteration s = record s { id = id; spec = spec; iteration = iteration }

recast : (v : Survey) (k : Subject) (t : Tables) (s z : Service)
    → IsSo v k t (as_read z.id z.spec z.iteration s) → IsSo v k t z
recast v k t s z h = record {
  places = record {
    wide = h.places.wide;
    marks = h.places.marks;
    reach = h.places.reach;
    far = h.places.far;
  };
  failures = h.failures;
}

back : (v : Survey) (k : Subject) (t : Tables) (s : Service)
    → IsSo v k t s → IsSo v k t (as_read s.id s.spec s.iteration s)
back v k t s h = record {
  places = record {
    wide = h.places.wide;
    marks = h.places.marks;
    reach = h.places.reach;
    far = h.places.far;
  };
  failures = h.failures;
}

alike_so : (v : Survey) (k : Subject) (t : Tables) (s z : Service) → s.id ≡ z.id → s.spec ≡ z.spec
    → s.iteration ≡ z.iteration → IsSo v k t s → IsSo v k t z
alike_so v k t s z id spec iteration h =
    recast v k t s z
    (subst (λ n. IsSo v k t (as_read n z.spec z.iteration s)) id
    (subst (λ d. IsSo v k t (as_read s.id d z.iteration s)) spec
    (subst (λ n. IsSo v k t (as_read s.id s.spec n s)) iteration (back v k t s h))))

-- a task that isn't touched has no number of a place that the marks tell of
unnumbered : (k : Subject) (far : Bool) (s : Service) (n : ℕ) (x : Task) → s.id ≡ k.service
    → leaves_out k far n ≡ false → touches k far x ≡ false → is_numbered s n x ≡ false
unnumbered k far s n x id out off = go (is_numbered s n x) refl
  where
    go : (b : Bool) → is_numbered s n x ≡ b → b ≡ false
    go false e = refl
    go true e =
        let own : is_of k.service x ≡ true =
        ap (λ i. is_of i x) (sym id) ∙ first_so (is_of s.id x) (eqb (place_number x.place) n) e in
        let at : place_number x.place ≡ n =
        same_number (place_number x.place) n (second_so (is_of s.id x) (eqb (place_number x.place) n) e) in
        absurd (true_false (touches k far x)
        (both (is_of k.service x) _ own
        (ap (λ (b : Bool). not b || (k.is_counted && may_fail k.version x)) (ap (leaves_out k far) at ∙ out))) off)

-- nor is it a failure, where these are counted
no_failure : (k : Subject) (far : Bool) (s : Service) (run : UpdateRun) (x : Task) → s.id ≡ k.service
    → k.is_counted ≡ true → run.version ≡ k.version → touches k far x ≡ false → is_failure s run x ≡ false
no_failure k far s run x id counted version off = go (is_failure s run x) refl
  where
    later_or : (a b : Bool) → b ≡ true → (a || b) ≡ true
    later_or true b e = refl
    later_or false b e = e

    go : (b : Bool) → is_failure s run x ≡ b → b ≡ false
    go false e = refl
    go true e =
        let three = and_left (is_of s.id x && eqb x.born run.version && counts_as_failure x.state) _ e in
        let two = first_so (is_of s.id x && eqb x.born run.version) (counts_as_failure x.state) three in
        let own : is_of k.service x ≡ true =
        ap (λ i. is_of i x) (sym id) ∙ first_so (is_of s.id x) (eqb x.born run.version) two in
        let fails : may_fail k.version x ≡ true =
        both (eqb x.born k.version) (counts_as_failure x.state)
        (ap (eqb x.born) (sym version) ∙ second_so (is_of s.id x) (eqb x.born run.version) two)
        (second_so (is_of s.id x && eqb x.born run.version) (counts_as_failure x.state) three) in
        absurd (true_false (touches k far x)
        (both (is_of k.service x) _ own
        (later_or (not (leaves_out k far (place_number x.place))) _ (both k.is_counted _ counted fails))) off)

out_below : (k : Subject) (far : Bool) (n : ℕ) → n < WIDTH → is_stale k.stale n ≡ false → leaves_out k far n ≡ false
out_below k far n lt out =
    let below : ltb n WIDTH ≡ true = grind (arith, nat_tests, lt) in
    ap (λ b. cond b (is_stale k.stale n) far) below ∙ out

out_above : (k : Subject) (far : Bool) (n : ℕ) → ltb n WIDTH ≡ false → far ≡ false → leaves_out k far n ≡ false
out_above k far n above near = ap (λ b. cond b (is_stale k.stale n) far) above ∙ near

-- the same of tables of which all is the same that isn't touched
stays_so : (v : Survey) (k : Subject) (t u : Tables) (s : Service) → s.id ≡ k.service → u.clock ≡ t.clock
    → ((p : Task → Bool) → ((x : Task) → touches k v.places.has_far x ≡ false → p x ≡ false)
    → filter p u.tasks ≡ filter p t.tasks) → IsSo v k t s → IsSo v k u s
stays_so v k t u s id clock stay h = record {
  places = record {
    wide = h.places.wide;
    marks = λ n lt out. h.places.marks n lt out
        ∙ ap (mark_of t s) (sym (tasks n (out_below k v.places.has_far n lt out)))
        ∙ ap (λ c. mark_of (record t { clock = c }) s (tasks_at s u.tasks n)) (sym clock);
    reach = λ n e lt out. h.places.reach n (sym (number n (out_below k v.places.has_far n lt out)) ∙ e) lt out;
    far = λ near n e. far near n e (ltb n WIDTH) refl;
  };
  failures = λ counted run version. h.failures counted run version ∙ sym (failed counted run version);
}
  where
    numbered : (n : ℕ) → leaves_out k v.places.has_far n ≡ false
        → filter (is_numbered s n) u.tasks ≡ filter (is_numbered s n) t.tasks
    numbered n out = stay (is_numbered s n) (λ x off. unnumbered k v.places.has_far s n x id out off)

    tasks : (n : ℕ) → leaves_out k v.places.has_far n ≡ false → tasks_at s u.tasks n ≡ tasks_at s t.tasks n
    tasks n out =
        tasks_as s u.tasks n
        ∙ ap (filter (is_in_place s (place_at s.spec.mode n))) (numbered n out)
        ∙ sym (tasks_as s t.tasks n)

    number : (n : ℕ) → leaves_out k v.places.has_far n ≡ false → has_number s u.tasks n ≡ has_number s t.tasks n
    number n out =
        number_as s u.tasks n ∙ ap (list_any (counts_at s n)) (numbered n out) ∙ sym (number_as s t.tasks n)

    far : v.places.has_far ≡ false → (n : ℕ) → has_number s u.tasks n ≡ true → (b : Bool) → ltb n WIDTH ≡ b → n < WIDTH
    far near n e true below = grind (arith, nat_tests, below)
    far near n e false above =
        h.places.far near n (sym (number n (out_above k v.places.has_far n above near)) ∙ e)

    failed : k.is_counted ≡ true → (run : UpdateRun) → run.version ≡ k.version → failures u s run ≡ failures t s run
    failed counted run version =
        sym (count_again (is_failure s run) (is_failure s run) u.tasks (λ x e. e))
        ∙ ap (count_by (is_failure s run))
        (stay (is_failure s run) (λ x off. no_failure k v.places.has_far s run x id counted version off))
        ∙ count_again (is_failure s run) (is_failure s run) t.tasks (λ x e. e)

-- what is remembered goes on being so
pub goes_on : (t : Tables) (v : Survey) (k : Subject) (cs : List Change) → IsUsable t → IsOf t v k
    → ((c : Change) → Has cs c → Leaves t k v.places.has_far c) → IsOf (apply_changes t cs) v k
goes_on t v k cs usable known all = record { each = λ z at. one z at (from z at) }
  where
    from : (z : Service) → row_at service_id k.service (apply_changes t cs).services ≡ Some z
        → CameFrom t k.service z
    from = row_came t k.service cs
        (λ c h. leaves_alike t k v.places.has_far c (all c h))

    one : (z : Service) → row_at service_id k.service (apply_changes t cs).services ≡ Some z → CameFrom t k.service z
        → IsSo v k (apply_changes t cs) z
    one z at c =
        let own : z.id ≡ k.service =
        (Has-from_row_at service_id k.service (apply_changes t cs).services z at).1 in
        let was : c.row.id ≡ k.service = (Has-from_row_at service_id k.service t.services c.row c.is).1 in
        stays_so v k t (apply_changes t cs) z own (clock_stays cs t)
        (λ p less. left_same p t k v.places.has_far cs usable all less)
        (alike_so v k t c.row z (was ∙ sym own) (sym c.spec) (sym c.iteration) (known.each c.row c.is))

-- Less is remembered.

pub less_same : (k : Subject) → IsLess k k
less_same k = record {
  service = refl;
  version = refl;
  counted = λ e. e;
  stale = λ n lt out. out;
}

pub less_then : (a b c : Subject) → IsLess a b → IsLess b c → IsLess a c
less_then a b c h g = record {
  service = g.service ∙ h.service;
  version = g.version ∙ h.version;
  counted = λ e. h.counted (g.counted e);
  stale = λ n lt out. h.stale n lt (g.stale n lt out);
}

pub less_so : (t : Tables) (v : Survey) (a b : Subject) → IsLess a b → IsOf t v a → IsOf t v b
less_so t v a b less h = record {
  each = λ s at. one s (h.each s (ap (λ n. row_at service_id n t.services) (sym less.service) ∙ at));
}
  where
    one : (s : Service) → IsSo v a t s → IsSo v b t s
    one s so = record {
      places = record {
        wide = so.places.wide;
        marks = λ n lt out. so.places.marks n lt (less.stale n lt out);
        reach = λ n e lt out. so.places.reach n e lt (less.stale n lt out);
        far = so.places.far;
      };
      failures = λ e run version. so.failures (less.counted e) run (version ∙ less.version);
    }

-- with one stale place more
pub less_stale : (a : Subject) (more : StalePlaces) (m : ℕ)
    → ((n : ℕ) → is_stale more n ≡ (eqb n m || is_stale a.stale n)) → IsLess a (record a { stale = more })
less_stale a more m is = record {
  service = refl;
  version = refl;
  counted = λ e. e;
  stale = λ n lt out. second (eqb n m) (is_stale a.stale n) (sym (is n) ∙ out);
}
  where
    second : (a b : Bool) → (a || b) ≡ false → b ≡ false
    second true b f = absurd cc
    second false b f = f

pub stale_own : (stale more : StalePlaces) (m : ℕ) → ((n : ℕ) → is_stale more n ≡ (eqb n m || is_stale stale n))
    → is_stale more m ≡ true
stale_own stale more m is = is m ∙ ap (λ b. b || is_stale stale m) (number_equal m m refl)

-- What is kept.

pub if_some_then : {X : Type 0} {P Q : X → Type 0} (o : Option X) → IfSome o P → ((x : X) → P x → Q x) → IfSome o Q
if_some_then None h then_so = tt
if_some_then (Some x) h then_so = then_so x h

-- a new survey of the service's row
pub told_known : (t : Tables) (v : Survey) (k : Subject) (s : Service) (run : UpdateRun) → Tells v t s run
    → k.service ≡ s.id → k.version ≡ run.version → row_at service_id s.id t.services ≡ Some s → IsOf t v k
told_known t v k s run tells id version row = record { each = λ z at. one z (found z at) }
  where
    found : (z : Service) → row_at service_id k.service t.services ≡ Some z → s ≡ z
    found z at =
        let same : Some s ≡ Some z =
        sym row ∙ ap (λ n. row_at service_id n t.services) (sym id) ∙ at in
        cc

    one : (z : Service) → s ≡ z → IsSo v k t z
    one z same = subst (IsSo v k t) same (record {
      places = shows_others v.places t s (is_stale k.stale) tells.places;
      failures = λ counted other is.
          tells.failures ∙ ap (λ n. failures t s (record run { version = n })) (sym version ∙ sym is);
    })

-- Tables with the same services and tasks, at the same time.

kept_same : (t u : Tables) (kept : Kept) → u.services ≡ t.services → u.tasks ≡ t.tasks → u.clock ≡ t.clock
    → KnowsKept t kept → KnowsKept u kept
kept_same t u kept services tasks clock known =
    if_some_then kept.subject known (λ k h. record {
      each = λ s at. one k h s (sym (ap (row_at service_id k.service) services) ∙ at);
    })
  where
    one : (k : Subject) → IsOf t kept.survey k → (s : Service) → row_at service_id k.service t.services ≡ Some s
        → IsSo kept.survey k u s
    one k h s at =
        stays_so kept.survey k t u s (Has-from_row_at service_id k.service t.services s at).1 clock
        (λ p less. ap (filter p) tasks) (h.each s at)

pub clean_same : (t u : Tables) (id : ℕ) → u.services ≡ t.services → u.tasks ≡ t.tasks → HasNoSuspect t id → HasNoSuspect u id
clean_same t u id services tasks h = record {
  each = λ s at.
      ap (λ l. list_any (is_suspect s) (filter (is_of s.id) l)) tasks
      ∙ h.each s (sym (ap (row_at service_id id) services) ∙ at);
}

pub slots_same : (t u : Tables) (clean : CleanServices) → ((id : ℕ) → HasNoSuspect t id → HasNoSuspect u id)
    → AreClean t clean → AreClean u clean
slots_same t u clean goes h = record {
  each = λ slot lt.
      if_some_then (get_or clean.services slot None) (h.each slot lt)
      (λ id is. record { none = goes id is.none; stands = is.stands });
}

pub knows_same : (t u : Tables) (known : KnownSurvey) → u.services ≡ t.services → u.tasks ≡ t.tasks
    → u.clock ≡ t.clock → Knows t known → Knows u known
knows_same t u known services tasks clock knows = record {
  survey = if_some_then known.kept knows.survey (λ kept are. record {
    each = λ slot lt.
        if_some_then (get_or kept.value.slots slot None) (are.each slot lt)
        (λ b h. record { knows = kept_same t u b.value services tasks clock h.knows; stands = h.stands });
  });
  clean = slots_same t u known.clean (λ id h. clean_same t u id services tasks h) knows.clean;
}

pub ruleset less_steps = (less_same, less_then)
