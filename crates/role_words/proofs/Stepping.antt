-- The places that are left of a service, from one to the next.
use Rattle.std.proofs.Common.{◌≡◌, ◌⊎◌, inl, inr, ℕ, ◌+◌, ◌-◌, ◌<◌, ◌≤◌, Bool, true, false, cond, eqb, ltb, leb, List, [], ◌∷◌, Option, None, Some, refl, sym, ap, subst, ◌∙◌, arith, map}
use Rattle.std.proofs.Math.Nat.{mod-eq_of_lt}
use Rattle.std.proofs.lemmas.Bool.Decides.{nat_tests}
use Rattle.std.specs.Iterator.{YieldsFirst}
use Rattle.std.specs.List.{list_any}
use Rattle.std.specs.Prelude.{◌||◌, filter}
use Rattle.swarm_objects.specs.Rows.{itself, IsRising, RisesFrom}
use Rattle.swarm_objects.specs.Tasks.Places.{numbers_of}
use Rattle.swarm_objects.specs.declared.services.Service.{Service}
use Rattle.swarm_objects.specs.declared.tasks.Task.{Task}
use Rattle.role_words.specs.Marks.{has_number}
use Rattle.role_words.specs.Slots.{slot_of, slots, slots_from}
use Rattle.role_words.specs.Windows.{mark_at, rest, slot_at, IsNextPlace, GivesNext, IsFresh, IsFrom, IsNext, IsOut, NoneBefore, Shows, Steps}
use Rattle.role_words.specs.declared.window.Slot.{Slot}
use Rattle.role_words.specs.declared.window.Window.{Window}
use Rattle.role_words.specs.declared.window.TheConstants.{WIDTH}
use Rattle.role_words.proofs.Numbers.{numbers-rising, same_number}

abbrev has : ℕ → List ℕ → Bool
has k ks = list_any (λ j. eqb j k) ks

or_cases : (a b : Bool) → (a || b) ≡ true → (a ≡ true) ⊎ (b ≡ true)
or_cases true b e = inl refl
or_cases false b e = inr e

or_right : (a b : Bool) → b ≡ true → (a || b) ≡ true
or_right true b e = refl
or_right false b e = e

has_above : (n k : ℕ) (ks : List ℕ) → RisesFrom itself n ks → has k ks ≡ true → n < k
has_above n k [] r e = absurd cc
has_above n k (j ∷ js) r e = elim (or_cases (eqb j k) (has k js) e) [
  | inl here ↦ let same : j ≡ k = same_number j k here in omega (arith, r.0, same)
  | inr there ↦ let above = has_above j k js r.1 there in omega (arith, r.0, above)
]

-- all of those that rise from a number are left from the one after it
left_all : (n k : ℕ) (ks : List ℕ) → RisesFrom itself n ks → k ≤ n + 1 → filter (leb k) ks ≡ ks
left_all n k [] r le = refl
left_all n k (j ∷ js) r le =
    let here : leb k j ≡ true = grind (arith, nat_tests, r.0) in
    ap (λ b. cond b (j ∷ filter (leb k) js) (filter (leb k) js)) here
    ∙ ap (λ js. j ∷ js) (left_all j k js r.1 (omega (arith, le, r.0)))

pub rises_from : (n : ℕ) (ks : List ℕ) → RisesFrom itself n ks → IsRising itself ks
rises_from n [] r = tt
rises_from n (j ∷ js) r = r.1

-- from a number that is one of them, it comes first
pub comes_first : (k : ℕ) (ks : List ℕ) → IsRising itself ks → has k ks ≡ true
    → filter (leb k) ks ≡ k ∷ filter (leb (k + 1)) ks
comes_first k [] r e = absurd cc
comes_first k (j ∷ js) r e =
    go (eqb j k) refl (or_cases (eqb j k) (has k js) e) (comes_first k js (rises_from j js r))
  where
    go : (b : Bool) → eqb j k ≡ b → (eqb j k ≡ true) ⊎ (has k js ≡ true)
        → (has k js ≡ true → filter (leb k) js ≡ k ∷ filter (leb (k + 1)) js)
        → filter (leb k) (j ∷ js) ≡ k ∷ filter (leb (k + 1)) (j ∷ js)
    go true f either below =
        let same : j ≡ k = same_number j k f in
        subst (λ m. filter (leb m) (j ∷ js) ≡ m ∷ filter (leb (m + 1)) (j ∷ js)) same
        (let yes : leb j j ≡ true = grind (arith, nat_tests) in
        let no' : leb (j + 1) j ≡ false = grind (arith, nat_tests) in
        ap (λ b. cond b (j ∷ filter (leb j) js) (filter (leb j) js)) yes
        ∙ ap (λ ks. j ∷ ks) (left_all j j js r (omega arith)
        ∙ sym (ap (λ b. cond b (j ∷ filter (leb (j + 1)) js) (filter (leb (j + 1)) js)) no'
        ∙ left_all j (j + 1) js r (omega arith))))
    go false f (inl here) below = absurd (differs (sym f ∙ here))
      where
        differs : false ≡ true → ⊥
        differs d = absurd cc
    go false f (inr there) below =
        let above : j < k = has_above j k js r there in
        let no' : leb k j ≡ false = grind (arith, nat_tests, above) in
        let more : leb (k + 1) j ≡ false = grind (arith, nat_tests, above) in
        ap (λ b. cond b (j ∷ filter (leb k) js) (filter (leb k) js)) no'
        ∙ below there
        ∙ ap (λ ks. k ∷ ks) (sym (ap (λ b. cond b (j ∷ filter (leb (k + 1)) js) (filter (leb (k + 1)) js)) more))

-- where none of them lies between two numbers, the same are left from both
pub same_left : (n m : ℕ) (ks : List ℕ) → n ≤ m → ((j : ℕ) → has j ks ≡ true → n ≤ j → m ≤ j)
    → filter (leb n) ks ≡ filter (leb m) ks
same_left n m [] le between = refl
same_left n m (j ∷ js) le between =
    ap (λ b. cond b (j ∷ filter (leb n) js) (filter (leb n) js)) tests
    ∙ ap (λ ks. cond (leb m j) (j ∷ ks) ks) (same_left n m js le (λ i e. between i (or_right (eqb j i) (has i js) e)))
  where
    here : has j (j ∷ js) ≡ true
    here = let self : eqb j j ≡ true = grind (arith, nat_tests) in ap (λ b. b || has j js) self

    tests : leb n j ≡ leb m j
    tests = go (leb n j) refl (leb m j) refl
      where
        go : (a : Bool) → leb n j ≡ a → (b : Bool) → leb m j ≡ b → a ≡ b
        go true e true f = refl
        go true e false f =
            let low : n ≤ j = grind (arith, nat_tests) in
            let high : j < m = grind (arith, nat_tests) in
            absurd (let up = between j here low in omega (arith, up, high))
        go false e true f =
            let low : j < n = grind (arith, nat_tests) in
            let high : m ≤ j = grind (arith, nat_tests) in
            absurd (omega (arith, low, high, le))
        go false e false f = refl

pub none_from : (n : ℕ) (ks : List ℕ) → ((j : ℕ) → has j ks ≡ true → n ≤ j → ⊥) → filter (leb n) ks ≡ []
none_from n [] none = refl
none_from n (j ∷ js) none =
    go (leb n j) refl (none_from n js (λ i e. none i (or_right (eqb j i) (has i js) e)))
  where
    here : has j (j ∷ js) ≡ true
    here = let self : eqb j j ≡ true = grind (arith, nat_tests) in ap (λ b. b || has j js) self

    go : (b : Bool) → leb n j ≡ b → filter (leb n) js ≡ [] → cond b (j ∷ filter (leb n) js) (filter (leb n) js) ≡ []
    go true e below = let low : n ≤ j = grind (arith, nat_tests) in absurd (none j here low)
    go false e below = below

pub all_left : (ks : List ℕ) → filter (leb 0) ks ≡ ks
all_left [] = refl
all_left (k ∷ ks) =
    let yes : leb 0 k ≡ true = grind (arith, nat_tests) in
    ap (λ b. cond b (k ∷ filter (leb 0) ks) (filter (leb 0) ks)) yes ∙ ap (λ js. k ∷ js) (all_left ks)

-- The window.

abbrev slot : ℕ → Bool → Bool → Slot
slot k a b = record { number = k; is_live = a; is_held = b }

same_slot : (k j : ℕ) (a c b d : Bool) → k ≡ j → a ≡ c → b ≡ d → slot k a b ≡ slot j c d
same_slot k j a c b d p q r = ap (λ n. slot n a b) p ∙ ap (λ x. slot j x b) q ∙ ap (λ x. slot j c x) r

has_mark : (w : Window) (s : Service) (tasks : List Task) (i : ℕ) → Shows w s tasks → i < WIDTH
    → (mark_at w i).has_task ≡ has_number s tasks (w.first + i)
has_mark w s tasks i h lt = ap (λ m. m.has_task) (h.marks i lt)

-- the place at an index that has a task is the service's with that number
slot_here : (w : Window) (s : Service) (tasks : List Task) (i : ℕ) → Shows w s tasks → i < WIDTH
    → (mark_at w i).has_task ≡ true → slot_of s tasks (w.first + i) ≡ slot_at w i
slot_here w s tasks i h lt there =
    same_slot _ _ _ _ _ _ (sym (mod-eq_of_lt (h.small (w.first + i) (sym (has_mark w s tasks i h lt) ∙ there))))
    (ap (λ m. m.is_live) (sym (h.marks i lt)))
    (ap (λ m. m.is_live || m.is_closed) (sym (h.marks i lt)))

-- the index of a number in the window
index_of : (w : Window) (s : Service) (tasks : List Task) (k : ℕ) → Shows w s tasks → has_number s tasks k ≡ true
    → w.first ≤ k → k < w.first + WIDTH → (mark_at w (k - w.first)).has_task ≡ true
index_of w s tasks k h there le lt =
    has_mark w s tasks (k - w.first) h (omega (arith, le, lt))
    ∙ ap (has_number s tasks) (let e : w.first + (k - w.first) ≡ k = omega (arith, le) in e)
    ∙ there

true_false : (b : Bool) → b ≡ true → b ≡ false → ⊥
true_false true e f = absurd cc
true_false false e f = absurd cc

gives_slot : (w : Window) (s : Service) (tasks : List Task) (i : ℕ) → Shows w s tasks → IsNext w i
    → rest w s tasks ≡ slot_at w i ∷ slots_from (w.first + (i + 1)) s tasks
gives_slot w s tasks i h is =
    ap (map (slot_of s tasks))
    (same_left (w.first + w.index) (w.first + i) (numbers_of s tasks) (omega (arith, is.from)) between
    ∙ comes_first (w.first + i) (numbers_of s tasks) (numbers-rising s tasks)
    (sym (has_mark w s tasks i h is.within) ∙ is.has_task))
    ∙ ap (λ k. slot_of s tasks (w.first + i) ∷ slots_from k s tasks)
    (let e : w.first + i + 1 ≡ w.first + (i + 1) = omega arith in e)
    ∙ ap (λ x. x ∷ slots_from (w.first + (i + 1)) s tasks) (slot_here w s tasks i h is.within is.has_task)
  where
    between : (j : ℕ) → has_number s tasks j ≡ true → w.first + w.index ≤ j → w.first + i ≤ j
    between j there le = go (leb (w.first + i) j) refl
      where
        go : (b : Bool) → leb (w.first + i) j ≡ b → w.first + i ≤ j
        go true e = grind (arith, nat_tests)
        go false e =
            let low : j < w.first + i = grind (arith, nat_tests) in
            absurd (true_false (mark_at w (j - w.first)).has_task
            (index_of w s tasks j h there (omega (arith, le)) (omega (arith, low, is.within)))
            (is.none_before (j - w.first) (omega (arith, le)) (omega (arith, low, le)) (omega (arith, low, is.within))))

gives_none : (w : Window) (s : Service) (tasks : List Task) → Shows w s tasks → NoneBefore w.reach w
    → IsOut w s tasks
gives_none w s tasks h none k there le = go (leb (w.first + WIDTH) k) refl
  where
    blank : (b : Bool) → ltb (k - w.first) w.reach ≡ b → k < w.first + WIDTH
        → (mark_at w (k - w.first)).has_task ≡ false
    blank true e lt =
        none (k - w.first) (omega (arith, le)) (let f : k - w.first < w.reach = grind (arith, nat_tests) in f)
        (omega (arith, le, lt))
    blank false e lt =
        h.reach (k - w.first) (let f : w.reach ≤ k - w.first = grind (arith, nat_tests) in f) (omega (arith, le, lt))

    go : (b : Bool) → leb (w.first + WIDTH) k ≡ b → w.first + WIDTH ≤ k
    go true e = grind (arith, nat_tests)
    go false e =
        let low : k < w.first + WIDTH = grind (arith, nat_tests) in
        absurd (true_false (mark_at w (k - w.first)).has_task
        (index_of w s tasks k h there (omega (arith, le)) low) (blank (ltb (k - w.first) w.reach) refl low))

moved : (w : Window) (s : Service) (tasks : List Task) (i : ℕ) → i ≤ WIDTH → Shows w s tasks
    → Shows (record w { index = i }) s tasks
moved w s tasks i le h = record {
  wide = h.wide;
  marks = h.marks;
  reach = h.reach;
  beyond = h.beyond;
  behind = h.behind;
  index = le;
  small = h.small;
}

pub steps_to : (w : Window) (s : Service) (tasks : List Task) (i : ℕ) → IsNext w i → Shows w s tasks
    → Steps w (record w { index = i + 1 }) (Some (slot_at w i)) s tasks
steps_to w s tasks i is h =
    record { shows = moved w s tasks (i + 1) (omega (arith, is.within)) h; gives = gives_slot w s tasks i h is }

pub steps_out : (w : Window) (s : Service) (tasks : List Task) → NoneBefore w.reach w → Shows w s tasks
    → Steps w w None s tasks
steps_out w s tasks none h = record { shows = h; gives = (refl, gives_none w s tasks h none) }

-- From one window to the next.

out : (w new : Window) (r : Option Slot) (s : Service) (tasks : List Task) → r ≡ None → Steps w new r s tasks
    → (new ≡ w) × IsOut w s tasks
out w new r s tasks is steps = subst (λ o. GivesNext w new o s tasks) is steps.gives

behind_is : (w new : Window) (o : Option ℕ) → new ≡ w → o ≡ new.beyond → w.beyond ≡ o
behind_is w new o same e = sym (e ∙ ap (λ v. v.beyond) same)

-- where the window has no place more and none is behind it, none is left
left_none : (w : Window) (s : Service) (tasks : List Task) → Shows w s tasks → IsOut w s tasks → w.beyond ≡ None
    → rest w s tasks ≡ []
left_none w s tasks h gone none =
    ap (map (slot_of s tasks)) (none_from (w.first + w.index) (numbers_of s tasks)
    (λ k there le. subst (λ b. IsFrom b k) none (h.beyond k there (gone k there le))))

-- where one is behind it, those from the least such place on are left
left_behind : (w : Window) (s : Service) (tasks : List Task) (b : ℕ) → Shows w s tasks → IsOut w s tasks
    → w.beyond ≡ Some b → rest w s tasks ≡ slots_from b s tasks
left_behind w s tasks b h gone is =
    ap (map (slot_of s tasks)) (same_left (w.first + w.index) b (numbers_of s tasks)
    (omega (arith, (h.behind b is).1, h.index))
    (λ k there le. subst (λ o. IsFrom o k) is (h.beyond k there (gone k there le))))

pub follows_in : (w new : Window) (r : Option Slot) (x : Slot) (s : Service) (tasks : List Task) → r ≡ Some x
    → Steps w new r s tasks → IsNextPlace w new (Some x) s tasks
follows_in w new r x s tasks is steps =
    record { shows = steps.shows; left = subst (λ o. GivesNext w new o s tasks) is steps.gives }

pub follows_none : (w new : Window) (r : Option Slot) (o : Option ℕ) (s : Service) (tasks : List Task)
    → Shows w s tasks → r ≡ None → Steps w new r s tasks → o ≡ new.beyond → o ≡ None → IsNextPlace w new None s tasks
follows_none w new r o s tasks h is steps behind none =
    let gone = out w new r s tasks is steps in
    let nothing = left_none w s tasks h gone.1 (behind_is w new o gone.0 behind ∙ none) in
    record { shows = steps.shows; left = (nothing, ap (λ v. rest v s tasks) gone.0 ∙ nothing) }

pub follows_behind : (w new next last : Window) (r x : Option Slot) (o : Option ℕ) (b : ℕ) (s : Service)
    (tasks : List Task) → Shows w s tasks → r ≡ None → Steps w new r s tasks → o ≡ new.beyond → o ≡ Some b
    → IsFresh next b → Steps next last x s tasks → IsNextPlace w last x s tasks
follows_behind w new next last r x o b s tasks h is steps behind some fresh again =
    record { shows = again.shows; left = go x again }
  where
    gone : (new ≡ w) × IsOut w s tasks
    gone = out w new r s tasks is steps

    there : w.beyond ≡ Some b
    there = behind_is w new o gone.0 behind ∙ some

    begins : rest w s tasks ≡ rest next s tasks
    begins =
        left_behind w s tasks b h gone.1 there
        ∙ ap (λ k. slots_from k s tasks) (let e : b ≡ next.first + next.index = omega (arith, fresh.0, fresh.1) in e)

    go : (y : Option Slot) → Steps next last y s tasks → YieldsFirst (λ it. it) (rest w s tasks) y (rest last s tasks)
    go (Some y) q = begins ∙ q.gives
    go None q =
        let far = q.gives.1 b (h.behind b there).0 (omega (arith, fresh.0, fresh.1)) in
        absurd (omega (arith, far, fresh.0))

-- The whole of the places.

pub all_slots : (w : Window) (s : Service) (tasks : List Task) → IsFresh w 0 → rest w s tasks ≡ slots s tasks
all_slots w s tasks fresh =
    ap (λ k. slots_from k s tasks) (let e : w.first + w.index ≡ 0 = omega (arith, fresh.0, fresh.1) in e)
    ∙ ap (map (slot_of s tasks)) (all_left (numbers_of s tasks))
