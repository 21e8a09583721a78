-- The marks show what the tasks of a service say of its places.
use Rattle.std.proofs.Common.{◌≡◌, ◌≢◌, inl, inr, ℕ, ◌+◌, ◌<◌, ◌≤◌, Bool, true, false, cond, eqb, ltb, List, [], ◌∷◌, ◌++◌, Option, None, Some, refl, sym, ap, subst, ◌∙◌, arith, get_or, set, max, length}
use Rattle.std.proofs.lemmas.Bool.Decides.{nat_tests}
use Rattle.std.proofs.lemmas.List.{append_assoc, append-nil, get_or-set_same, get_or-set_other, get_or-replicate, length-set, length-replicate}
use Rattle.std.proofs.lemmas.List.Folds.{list_any-append}
use Rattle.std.specs.List.{list_any, last_or}
use Rattle.std.specs.Prelude.{◌||◌, count_by, filter, fold}
use Rattle.swarm_objects.specs.Rows.{is_some_and, with_number}
use Rattle.swarm_objects.specs.Same.{same_place}
use Rattle.swarm_objects.specs.Services.Runs.{is_failure, is_flying}
use Rattle.swarm_objects.specs.Services.Words.{is_live_clean, is_live_dirty}
use Rattle.swarm_objects.specs.Tasks.Places.{closes_dirty, counts_for, is_in_place, place_at, place_number}
use Rattle.swarm_objects.specs.Tasks.Words.{is_live, is_of}
use Rattle.swarm_objects.specs.World.{Tables}
use Rattle.swarm_objects.specs.declared.services.Service.{Service}
use Rattle.swarm_objects.specs.declared.services.UpdateRun.{UpdateRun}
use Rattle.swarm_objects.specs.declared.tasks.Task.{Task}
use Rattle.swarm_objects.proofs.PlaceLemmas.{counted_of_service, in_place_of_service}
use Rattle.role_words.specs.Marks.{has_number, tasks_at}
use Rattle.role_words.specs.UpdateMarks.{runs_clean}
use Rattle.role_words.proofs.Numbers.{and_left, and_right, has_cases, has_keeps, has_new, number_at, one_place, or_false, tasks_more}
use Rattle.swarm_update.specs.Marks.{blank, mark_at, mark_of, mark_with, noted, noted_all, noted_at, ShowsPlaces}
use Rattle.swarm_update.specs.Surveys.{Tells}
use Rattle.swarm_update.specs.declared.marks.Mark.{Mark}
use Rattle.swarm_update.specs.declared.marks.Places.{Places}
use Rattle.swarm_update.specs.declared.marks.TheConstants.{UNMARKED, WIDTH}
use Rattle.swarm_update.specs.declared.survey.Survey.{Survey}
use Rattle.swarm_update.proofs.Failures.{failures_of_service}

-- A task more in a place.

any_more : {X : Type 0} (p : X → Bool) (xs : List X) (x : X) → list_any p (xs ++ x ∷ []) ≡ (list_any p xs || p x)
any_more p xs x = list_any-append p xs (x ∷ []) ∙ ap (λ b. list_any p xs || b) (or_false (p x))

last_is : (o : Option Task) (xs : List Task) (x : Task) → last_or o (xs ++ x ∷ []) ≡ Some x
last_is o [] x = refl
last_is o (y ∷ xs) x = last_is (Some y) xs x

abbrev six : Bool → Bool → Bool → Bool → Bool → Bool → Mark
six a b c d e f =
    record { has_live = a; has_dirty = b; has_clean = c; has_running = d; has_flying = e; is_closed = f }

same_six : (a b c d e f g h i j k l : Bool) → a ≡ g → b ≡ h → c ≡ i → d ≡ j → e ≡ k → f ≡ l
    → six a b c d e f ≡ six g h i j k l
same_six a b c d e f g h i j k l o p q r s t =
    ap (λ x. six x b c d e f) o
    ∙ ap (λ x. six g x c d e f) p
    ∙ ap (λ x. six g h x d e f) q
    ∙ ap (λ x. six g h i x e f) r
    ∙ ap (λ x. six g h i j x f) s
    ∙ ap (λ x. six g h i j k x) t

pub mark_more : (t : Tables) (s : Service) (xs : List Task) (x : Task)
    → mark_of t s (xs ++ x ∷ []) ≡ mark_with t s x (mark_of t s xs)
mark_more t s xs x =
    same_six _ _ _ _ _ _ _ _ _ _ _ _ (any_more is_live xs x) (any_more (is_live_dirty s) xs x)
    (any_more (is_live_clean s) xs x) (any_more (runs_clean s) xs x) (any_more (is_flying t s) xs x)
    (ap (is_some_and (closes_dirty s)) (last_is None xs x))

pub number_is : (s : Service) (x : Task) (k : ℕ) → is_in_place s (place_at s.spec.mode k) x ≡ true
    → place_number x.place ≡ k
number_is s x k e =
    one_place x.place (place_at s.spec.mode k)
    (and_right (counts_for s x) (same_place x.place (place_at s.spec.mode k)) e)
    ∙ number_at s.spec.mode k

refuted : (b : Bool) → (b ≡ true → ⊥) → b ≡ false
refuted true h = absurd (h refl)
refuted false h = refl

pub true_false : (b : Bool) → b ≡ true → b ≡ false → ⊥
true_false true e f = absurd cc
true_false false e f = absurd cc

other : (s : Service) (x : Task) (k : ℕ) → (place_number x.place ≡ k → ⊥)
    → is_in_place s (place_at s.spec.mode k) x ≡ false
other s x k apart = refuted (is_in_place s (place_at s.spec.mode k) x) (λ e. apart (number_is s x k e))

tasks_stay : (s : Service) (tasks : List Task) (x : Task) (k : ℕ)
    → is_in_place s (place_at s.spec.mode k) x ≡ false → tasks_at s (tasks ++ x ∷ []) k ≡ tasks_at s tasks k
tasks_stay s tasks x k e =
    tasks_more s tasks x k
    ∙ ap (λ b. tasks_at s tasks k ++ cond b (x ∷ []) []) e
    ∙ append-nil (tasks_at s tasks k)

tasks_grow : (s : Service) (tasks : List Task) (x : Task) (k : ℕ) → is_in_place s (place_at s.spec.mode k) x ≡ true
    → tasks_at s (tasks ++ x ∷ []) k ≡ tasks_at s tasks k ++ x ∷ []
tasks_grow s tasks x k e = tasks_more s tasks x k ∙ ap (λ b. tasks_at s tasks k ++ cond b (x ∷ []) []) e

-- A number that no task has is none of a place with tasks.

abbrev AreNumbered : Service → List Task → Type 0
AreNumbered s tasks = (k : ℕ) → has_number s tasks k ≡ false → tasks_at s tasks k ≡ []

numbered_more : (s : Service) (tasks : List Task) (x : Task) → AreNumbered s tasks → AreNumbered s (tasks ++ x ∷ [])
numbered_more s tasks x h k none =
    tasks_stay s tasks x k (refuted (is_in_place s (place_at s.spec.mode k) x) here)
    ∙ h k (refuted (has_number s tasks k) before)
  where
    here : is_in_place s (place_at s.spec.mode k) x ≡ true → ⊥
    here e =
        let counts = and_left (counts_for s x) (same_place x.place (place_at s.spec.mode k)) e in
        true_false (has_number s (tasks ++ x ∷ []) k) (has_new s tasks x k counts (number_is s x k e)) none

    before : has_number s tasks k ≡ true → ⊥
    before e = true_false (has_number s (tasks ++ x ∷ []) k) (has_keeps s tasks x k e) none

numbered_fold : (s : Service) (done left : List Task) → AreNumbered s done → AreNumbered s (done ++ left)
numbered_fold s done [] h = subst (AreNumbered s) (sym (append-nil done)) h
numbered_fold s done (x ∷ left) h =
    subst (AreNumbered s) (append_assoc done (x ∷ []) left)
    (numbered_fold s (done ++ x ∷ []) left (numbered_more s done x h))

pub are_numbered : (s : Service) (tasks : List Task) (k : ℕ) → has_number s tasks k ≡ false
    → tasks_at s tasks k ≡ []
are_numbered s tasks k none = numbered_fold s [] tasks (λ j e. refl) k none

-- A task more.

shows_blank : (t : Tables) (s : Service) → ShowsPlaces blank t s []
shows_blank t s = record {
  wide = length-replicate WIDTH UNMARKED;
  marks = λ k lt. get_or-replicate WIDTH k UNMARKED UNMARKED lt;
  reach = λ k e lt. absurd cc;
  far = λ f k e. absurd cc;
}

-- its place has a number from the width on
passes : (v : Places) (t : Tables) (s : Service) (x : Task) (tasks : List Task) → WIDTH ≤ place_number x.place
    → ShowsPlaces v t s tasks → ShowsPlaces (record v { has_far = true }) t s (tasks ++ x ∷ [])
passes v t s x tasks le h = record {
  wide = h.wide;
  marks = λ k lt. h.marks k lt
      ∙ ap (mark_of t s) (sym (tasks_stay s tasks x k (other s x k (λ e. omega (arith, e, le, lt)))));
  reach = λ k e lt. elim (has_cases s tasks x k e) [
    | inl both ↦ absurd (omega (arith, both.1, le, lt))
    | inr old ↦ h.reach k old lt
  ];
  far = λ f k e. absurd cc;
}

-- it has a lower one
falls : (v : Places) (t : Tables) (s : Service) (x : Task) (tasks : List Task) (i : ℕ) → place_number x.place ≡ i
    → i < WIDTH → ShowsPlaces v t s tasks → ShowsPlaces (noted_at t s x i v) t s (tasks ++ x ∷ [])
falls v t s x tasks i is lt h = record {
  wide = wide (is_in_place s (place_at s.spec.mode i) x);
  marks = λ k below. marks k below (eqb k i) refl (is_in_place s (place_at s.spec.mode i) x) refl;
  reach = λ k e below. elim (has_cases s tasks x k e) [
    | inl both ↦ new_reach k both.1
    | inr old ↦ old_reach k (h.reach k old below)
  ];
  far = λ f k e. elim (has_cases s tasks x k e) [
    | inl both ↦ omega (arith, both.1, is, lt)
    | inr old ↦ h.far f k old
  ];
}
  where
    new : Mark
    new = mark_with t s x (mark_at v i)

    wide : (c : Bool) → length (cond c (set v.marks i new) v.marks) ≡ WIDTH
    wide true = length-set v.marks i new ∙ h.wide
    wide false = h.wide

    new_reach : (k : ℕ) → place_number x.place ≡ k → k < max v.reach (i + 1)
    new_reach k e = grind (arith, e, is)

    old_reach : (k : ℕ) → k < v.reach → k < max v.reach (i + 1)
    old_reach k below = grind (arith, below)

    marks : (k : ℕ) → k < WIDTH → (b : Bool) → eqb k i ≡ b → (c : Bool) → is_in_place s (place_at s.spec.mode i) x ≡ c
        → get_or (cond c (set v.marks i new) v.marks) k UNMARKED ≡ mark_of t s (tasks_at s (tasks ++ x ∷ []) k)
    marks k below true e true f =
        let same : i ≡ k = grind (arith, nat_tests) in
        subst (λ n. get_or (set v.marks i new) n UNMARKED ≡ mark_of t s (tasks_at s (tasks ++ x ∷ []) n)) same
        (get_or-set_same v.marks i new UNMARKED (omega (arith, lt, h.wide))
        ∙ ap (mark_with t s x) (h.marks i lt)
        ∙ sym (mark_more t s (tasks_at s tasks i) x)
        ∙ ap (mark_of t s) (sym (tasks_grow s tasks x i f)))
    marks k below true e false f =
        let same : i ≡ k = grind (arith, nat_tests) in
        subst (λ n. mark_at v n ≡ mark_of t s (tasks_at s (tasks ++ x ∷ []) n)) same
        (h.marks i lt ∙ ap (mark_of t s) (sym (tasks_stay s tasks x i f)))
    marks k below false e true f =
        let differ : k ≢ i = grind (arith, nat_tests) in
        get_or-set_other v.marks i k new UNMARKED differ
        ∙ h.marks k below
        ∙ ap (mark_of t s) (sym (tasks_stay s tasks x k (other s x k (λ p. differ (omega (arith, p, is))))))
    marks k below false e false f =
        let differ : k ≢ i = grind (arith, nat_tests) in
        h.marks k below
        ∙ ap (mark_of t s) (sym (tasks_stay s tasks x k (other s x k (λ p. differ (omega (arith, p, is))))))

shows_more : (v : Places) (t : Tables) (s : Service) (x : Task) (tasks : List Task)
    → ShowsPlaces v t s tasks → ShowsPlaces (noted t s v x) t s (tasks ++ x ∷ [])
shows_more v t s x tasks h = go (ltb (place_number x.place) WIDTH) refl
  where
    go : (b : Bool) → ltb (place_number x.place) WIDTH ≡ b
        → ShowsPlaces (cond b (noted_at t s x (place_number x.place) v) (record v { has_far = true })) t s
        (tasks ++ x ∷ [])
    go true e =
        let lt : place_number x.place < WIDTH = grind (arith, nat_tests) in
        falls v t s x tasks (place_number x.place) refl lt h
    go false e =
        let le : WIDTH ≤ place_number x.place = grind (arith, nat_tests) in
        passes v t s x tasks le h

-- All tasks of the service.

shows_fold : (t : Tables) (s : Service) (v : Places) (done left : List Task) → ShowsPlaces v t s done
    → ShowsPlaces (fold (noted t s) v left) t s (done ++ left)
shows_fold t s v done [] h = subst (ShowsPlaces v t s) (sym (append-nil done)) h
shows_fold t s v done (x ∷ left) h =
    subst (ShowsPlaces (fold (noted t s) (noted t s v x) left) t s) (append_assoc done (x ∷ []) left)
    (shows_fold t s (noted t s v x) (done ++ x ∷ []) left (shows_more v t s x done h))

has_alone : (s : Service) (tasks : List Task) (k : ℕ)
    → has_number s (filter (is_of s.id) tasks) k ≡ has_number s tasks k
has_alone s tasks k =
    ap (list_any (λ j. eqb j k))
    (ap (fold (λ ks (x : Task). with_number (place_number x.place) ks) []) (counted_of_service s tasks))

shows_all : (t : Tables) (s : Service) → ShowsPlaces (noted_all t s) t s t.tasks
shows_all t s = record {
  wide = alone.wide;
  marks = λ k lt. alone.marks k lt
      ∙ ap (mark_of t s) (in_place_of_service s (place_at s.spec.mode k) t.tasks);
  reach = λ k e lt. alone.reach k (has_alone s t.tasks k ∙ e) lt;
  far = λ f k e. alone.far f k (has_alone s t.tasks k ∙ e);
}
  where
    alone : ShowsPlaces (noted_all t s) t s (filter (is_of s.id) t.tasks)
    alone = shows_fold t s blank [] (filter (is_of s.id) t.tasks) (shows_blank t s)

tells_all : (v : Survey) (t : Tables) (s : Service) (run : UpdateRun) → v.places ≡ noted_all t s
    → v.failures ≡ count_by (is_failure s run) (filter (is_of s.id) t.tasks) → Tells v t s run
tells_all v t s run places failed = record {
  places = subst (λ p. ShowsPlaces p t s t.tasks) (sym places) (shows_all t s);
  failures = failed ∙ failures_of_service t s run;
}

-- none is left
pub tells_left : (v : Survey) (t : Tables) (s : Service) (run : UpdateRun) (left : List Task) → left ≡ []
    → fold (noted t s) v.places left ≡ noted_all t s
    → v.failures + count_by (is_failure s run) left ≡ count_by (is_failure s run) (filter (is_of s.id) t.tasks)
    → Tells v t s run
tells_left v t s run left is places failed =
    let none : count_by (is_failure s run) left ≡ 0 = ap (count_by (is_failure s run)) is in
    tells_all v t s run (sym (ap (fold (noted t s) v.places) is) ∙ places) (omega (arith, failed, none))
