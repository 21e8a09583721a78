-- A window for updates shows what the tasks of a service say of its places.
use Rattle.std.proofs.Common.{◌≡◌, ◌≢◌, ℕ, ◌+◌, ◌-◌, ◌<◌, ◌≤◌, Bool, true, false, cond, eqb, ltb, leb, List, [], ◌∷◌, ◌++◌, Option, None, Some, refl, sym, ap, subst, ◌∙◌, arith, get_or, set}
use Rattle.std.proofs.lemmas.Bool.Decides.{nat_tests}
use Rattle.std.proofs.lemmas.List.{append_assoc, append-nil, get_or-set_same, get_or-set_other, get_or-replicate, length-set, length-replicate}
use Rattle.std.proofs.lemmas.List.Folds.{list_any-append}
use Rattle.std.specs.List.{list_any, last_or}
use Rattle.std.specs.Prelude.{◌&&◌, ◌||◌, filter, fold}
use Rattle.swarm_objects.specs.Rows.{is_some_and}
use Rattle.swarm_objects.specs.Same.{same_place}
use Rattle.swarm_objects.specs.Services.Runs.{is_flying}
use Rattle.swarm_objects.specs.Services.Words.{is_live_clean, is_live_dirty}
use Rattle.swarm_objects.specs.Tasks.Places.{closes_dirty, counts_for, is_in_place, place_at, place_number}
use Rattle.swarm_objects.specs.Tasks.Words.{is_live, is_of}
use Rattle.swarm_objects.specs.World.{Tables}
use Rattle.swarm_objects.specs.declared.services.Service.{Service}
use Rattle.swarm_objects.specs.declared.tasks.Task.{Task}
use Rattle.swarm_objects.proofs.PlaceLemmas.{in_place_of_service}
use Rattle.role_words.specs.Marks.{stands, tasks_at}
use Rattle.role_words.specs.UpdateMarks.{covers, marked, marked_at, runs_clean, unmarked, update_mark_at, update_mark_of, update_mark_with, update_window, ShowsUpdates}
use Rattle.role_words.specs.declared.update_window.UpdateMark.{UpdateMark}
use Rattle.role_words.specs.declared.update_window.TheConstants.{UNMARKED}
use Rattle.role_words.specs.declared.update_window.UpdateWindow.{UpdateWindow}
use Rattle.role_words.specs.declared.window.TheConstants.{WIDTH}
use Rattle.role_words.proofs.Numbers.{and_left, and_right, number_at, one_place, or_false, tasks_more}

-- A task more in a place.

any_more : {X : Type 0} (p : X → Bool) (xs : List X) (x : X) → list_any p (xs ++ x ∷ []) ≡ (list_any p xs || p x)
any_more p xs x = list_any-append p xs (x ∷ []) ∙ ap (λ b. list_any p xs || b) (or_false (p x))

last_is : (o : Option Task) (xs : List Task) (x : Task) → last_or o (xs ++ x ∷ []) ≡ Some x
last_is o [] x = refl
last_is o (y ∷ xs) x = last_is (Some y) xs x

abbrev pub six : Bool → Bool → Bool → Bool → Bool → Bool → UpdateMark
six a b c d e f =
    record { has_live = a; has_dirty = b; has_clean = c; has_running = d; has_flying = e; is_closed = f }

same_six : (a b c d e f g h i j k l : Bool) → a ≡ g → b ≡ h → c ≡ i → d ≡ j → e ≡ k → f ≡ l
    → six a b c d e f ≡ six g h i j k l
same_six a b c d e f g h i j k l o p q r s t =
    ap (λ x. six x b c d e f) o
    ∙ ap (λ x. six g x c d e f) p
    ∙ ap (λ x. six g h x d e f) q
    ∙ ap (λ x. six g h i x e f) r
    ∙ ap (λ x. six g h i j x f) s
    ∙ ap (λ x. six g h i j k x) t

mark_more : (t : Tables) (s : Service) (xs : List Task) (x : Task)
    → update_mark_of t s (xs ++ x ∷ []) ≡ update_mark_with t s x (update_mark_of t s xs)
mark_more t s xs x =
    same_six _ _ _ _ _ _ _ _ _ _ _ _ (any_more is_live xs x) (any_more (is_live_dirty s) xs x)
    (any_more (is_live_clean s) xs x) (any_more (runs_clean s) xs x) (any_more (is_flying t s) xs x)
    (ap (is_some_and (closes_dirty s)) (last_is None xs x))

-- Where it stands, and where it doesn't.

number_is : (s : Service) (x : Task) (k : ℕ) → is_in_place s (place_at s.spec.mode k) x ≡ true
    → place_number x.place ≡ k
number_is s x k e =
    one_place x.place (place_at s.spec.mode k)
    (and_right (counts_for s x) (same_place x.place (place_at s.spec.mode k)) e)
    ∙ number_at s.spec.mode k

refuted : (b : Bool) → (b ≡ true → ⊥) → b ≡ false
refuted true h = absurd (h refl)
refuted false h = refl

other : (s : Service) (x : Task) (k : ℕ) → (place_number x.place ≡ k → ⊥)
    → is_in_place s (place_at s.spec.mode k) x ≡ false
other s x k apart = refuted (is_in_place s (place_at s.spec.mode k) x) (λ e. apart (number_is s x k e))

nowhere : (s : Service) (x : Task) (k : ℕ) → stands s x ≡ false → is_in_place s (place_at s.spec.mode k) x ≡ false
nowhere s x k no' = refuted (is_in_place s (place_at s.spec.mode k) x) (λ e. differs (sym (here e) ∙ no'))
  where
    here : is_in_place s (place_at s.spec.mode k) x ≡ true → stands s x ≡ true
    here e = ap (λ n. is_in_place s (place_at s.spec.mode n) x) (number_is s x k e) ∙ e

    differs : true ≡ false → ⊥
    differs d = absurd cc

tasks_stay : (s : Service) (tasks : List Task) (x : Task) (k : ℕ)
    → is_in_place s (place_at s.spec.mode k) x ≡ false → tasks_at s (tasks ++ x ∷ []) k ≡ tasks_at s tasks k
tasks_stay s tasks x k e =
    tasks_more s tasks x k
    ∙ ap (λ b. tasks_at s tasks k ++ cond b (x ∷ []) []) e
    ∙ append-nil (tasks_at s tasks k)

tasks_grow : (s : Service) (tasks : List Task) (x : Task) (k : ℕ) → is_in_place s (place_at s.spec.mode k) x ≡ true
    → tasks_at s (tasks ++ x ∷ []) k ≡ tasks_at s tasks k ++ x ∷ []
tasks_grow s tasks x k e = tasks_more s tasks x k ∙ ap (λ b. tasks_at s tasks k ++ cond b (x ∷ []) []) e

-- A task more in a window.

shows_unmarked : (t : Tables) (s : Service) (first : ℕ) → ShowsUpdates (unmarked first) t s []
shows_unmarked t s first = record {
  wide = length-replicate WIDTH UNMARKED;
  marks = λ i lt. get_or-replicate WIDTH i UNMARKED UNMARKED lt;
}

-- it stands in no place of the window
passes : (w : UpdateWindow) (t : Tables) (s : Service) (x : Task) (tasks : List Task)
    → ((i : ℕ) → i < WIDTH → is_in_place s (place_at s.spec.mode (w.first + i)) x ≡ false)
    → ShowsUpdates w t s tasks → ShowsUpdates w t s (tasks ++ x ∷ [])
passes w t s x tasks apart h = record {
  wide = h.wide;
  marks = λ i lt. h.marks i lt ∙ ap (update_mark_of t s) (sym (tasks_stay s tasks x (w.first + i) (apart i lt)));
}

-- it stands in one of the window
falls : (w : UpdateWindow) (t : Tables) (s : Service) (x : Task) (tasks : List Task) (i : ℕ)
    → place_number x.place ≡ w.first + i → i < WIDTH → stands s x ≡ true
    → ShowsUpdates w t s tasks → ShowsUpdates (marked_at t s x i w) t s (tasks ++ x ∷ [])
falls w t s x tasks i is lt here h = record {
  wide = length-set w.marks i (update_mark_with t s x (update_mark_at w i)) ∙ h.wide;
  marks = λ j below. here_or j below (eqb j i) refl;
}
  where
    new : UpdateMark
    new = update_mark_with t s x (update_mark_at w i)

    stands_there : is_in_place s (place_at s.spec.mode (w.first + i)) x ≡ true
    stands_there = ap (λ n. is_in_place s (place_at s.spec.mode n) x) (sym is) ∙ here

    here_or : (j : ℕ) → j < WIDTH → (b : Bool) → eqb j i ≡ b
        → get_or (set w.marks i new) j UNMARKED ≡ update_mark_of t s (tasks_at s (tasks ++ x ∷ []) (w.first + j))
    here_or j below true e =
        let same : i ≡ j = grind (arith, nat_tests) in
        subst (λ n. get_or (set w.marks i new) n UNMARKED
        ≡ update_mark_of t s (tasks_at s (tasks ++ x ∷ []) (w.first + n))) same
        (get_or-set_same w.marks i new UNMARKED (omega (arith, lt, h.wide))
        ∙ ap (update_mark_with t s x) (h.marks i lt)
        ∙ sym (mark_more t s (tasks_at s tasks (w.first + i)) x)
        ∙ ap (update_mark_of t s) (sym (tasks_grow s tasks x (w.first + i) stands_there)))
    here_or j below false e =
        let differ : j ≢ i = grind (arith, nat_tests) in
        get_or-set_other w.marks i j new UNMARKED differ
        ∙ h.marks j below
        ∙ ap (update_mark_of t s) (sym (tasks_stay s tasks x (w.first + j)
        (other s x (w.first + j) (λ f. differ (omega (arith, f, is))))))

shows_more : (w : UpdateWindow) (t : Tables) (s : Service) (x : Task) (tasks : List Task)
    → ShowsUpdates w t s tasks → ShowsUpdates (marked t s w x) t s (tasks ++ x ∷ [])
shows_more w t s x tasks h = go (leb w.first k) refl (ltb (k - w.first) WIDTH) refl (stands s x) refl
  where
    k : ℕ
    k = place_number x.place

    go : (a : Bool) → leb w.first k ≡ a → (b : Bool) → ltb (k - w.first) WIDTH ≡ b → (c : Bool) → stands s x ≡ c
        → ShowsUpdates (cond (a && b && c) (marked_at t s x (k - w.first) w) w) t s (tasks ++ x ∷ [])
    go true e true f true g =
        let le : w.first ≤ k = grind (arith, nat_tests) in
        let lt : k - w.first < WIDTH = grind (arith, nat_tests) in
        falls w t s x tasks (k - w.first) (omega (arith, le)) lt g h
    go true e true f false g = passes w t s x tasks (λ i lt. nowhere s x (w.first + i) g) h
    go true e false f c g =
        let ge : WIDTH ≤ k - w.first = grind (arith, nat_tests) in
        passes w t s x tasks (λ i lt. other s x (w.first + i) (λ q. omega (arith, q, ge, lt))) h
    go false e b f c g =
        let lt : k < w.first = grind (arith, nat_tests) in
        passes w t s x tasks (λ i below. other s x (w.first + i) (λ q. omega (arith, q, lt))) h

-- All tasks of the service.

shows_fold : (t : Tables) (s : Service) (w : UpdateWindow) (done left : List Task) → ShowsUpdates w t s done
    → ShowsUpdates (fold (marked t s) w left) t s (done ++ left)
shows_fold t s w done [] h = subst (ShowsUpdates w t s) (sym (append-nil done)) h
shows_fold t s w done (x ∷ left) h =
    subst (ShowsUpdates (fold (marked t s) (marked t s w x) left) t s) (append_assoc done (x ∷ []) left)
    (shows_fold t s (marked t s w x) (done ++ x ∷ []) left (shows_more w t s x done h))

first_stays : (t : Tables) (s : Service) (w : UpdateWindow) (xs : List Task)
    → (fold (marked t s) w xs).first ≡ w.first
first_stays t s w [] = refl
first_stays t s w (x ∷ xs) =
    first_stays t s (marked t s w x) xs ∙ go (covers w (place_number x.place) && stands s x)
  where
    go : (b : Bool) → (cond b (marked_at t s x (place_number x.place - w.first) w) w).first ≡ w.first
    go true = refl
    go false = refl

pub shows_window : (t : Tables) (s : Service) (first : ℕ) → ShowsUpdates (update_window t s first) t s t.tasks
shows_window t s first = record {
  wide = alone.wide;
  marks = λ i lt. alone.marks i lt
      ∙ ap (update_mark_of t s)
      (in_place_of_service s (place_at s.spec.mode ((update_window t s first).first + i)) t.tasks);
}
  where
    alone : ShowsUpdates (update_window t s first) t s (filter (is_of s.id) t.tasks)
    alone = shows_fold t s (unmarked first) [] (filter (is_of s.id) t.tasks) (shows_unmarked t s first)

covers_own : (w : UpdateWindow) (k : ℕ) → w.first ≡ k → covers w k ≡ true
covers_own w k e = grind (arith, nat_tests)

pub covers_first : (t : Tables) (s : Service) (k : ℕ) → covers (update_window t s k) k ≡ true
covers_first t s k =
    covers_own (update_window t s k) k (first_stays t s (unmarked k) (filter (is_of s.id) t.tasks))

pub mark_shown : (w : UpdateWindow) (t : Tables) (s : Service) (tasks : List Task) (k : ℕ) → ShowsUpdates w t s tasks
    → covers w k ≡ true → update_mark_at w (k - w.first) ≡ update_mark_of t s (tasks_at s tasks k)
mark_shown w t s tasks k h e =
    let le : w.first ≤ k = grind (arith, nat_tests, and_left (leb w.first k) (ltb (k - w.first) WIDTH) e) in
    let lt : k - w.first < WIDTH = grind (arith, nat_tests, and_right (leb w.first k) (ltb (k - w.first) WIDTH) e) in
    h.marks (k - w.first) lt
    ∙ ap (λ n. update_mark_of t s (tasks_at s tasks n)) (omega (arith, le))

pub window_covers : (w : UpdateWindow) (k : ℕ) → covers w k ≡ true → k - w.first < WIDTH
window_covers w k e =
    grind (arith, nat_tests, and_right (leb w.first k) (ltb (k - w.first) WIDTH) e)
