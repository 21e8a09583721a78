-- What changes make of a service's places: those that they spare are held as before, and what becomes of another one.
use Rattle.std.proofs.Common.{Bool, List, None, Option, Some, [], ap, arith, cond, eqb, false, inl, inr, is_some, map}
use Rattle.std.proofs.Common.{not, refl, subst, sym, true, ℕ, ◌∙◌, ◌∷◌, ◌≡◌, ◌≤◌, ◌⊎◌}
use Rattle.std.proofs.lemmas.Bool.Decides.{nat_tests}
use Rattle.std.specs.List.{last_or, list_all, list_any}
use Rattle.std.specs.Option.{option_map}
use Rattle.std.specs.Prelude.{filter, nat_le, nat_lt, ◌&&◌, ◌||◌}
use Rattle.role_words.proofs.Numbers.{number_at, number_equal, one_place, same_number}
use Rattle.role_words.specs.Marks.{stands}
use Rattle.swarm_objects.proofs.RowLemmas.{Has-append_cases, Has-append_left, Has-append_right, Has-filter}
use Rattle.swarm_objects.proofs.RowLemmas.{Has-filter_cases, Has-from_row_at, Has-map, Has-map_cases, row_at-Some}
use Rattle.swarm_objects.proofs.Newest.{newest_has}
use Rattle.swarm_objects.proofs.Tests.{any-has, any_map, first_so, has-any, never-both, of-all, or_cases, or_left}
use Rattle.swarm_objects.proofs.Tests.{or_right, same_bool_is, same_test, second_so, some-and-cases}
use Rattle.swarm_objects.specs.ChangeLists.{apply_change, apply_changes}
use Rattle.swarm_objects.specs.Rows.{Has, has_row, is_some_and, put_row, row_at, task_id}
use Rattle.swarm_objects.specs.Same.{same_bool, same_place}
use Rattle.swarm_objects.specs.Tasks.New.{with_task}
use Rattle.swarm_objects.specs.Tasks.Places.{closes, counts_for, is_held_place, is_in_place, newest, place_at}
use Rattle.swarm_objects.specs.Tasks.Places.{place_number, place_tasks}
use Rattle.swarm_objects.specs.Tasks.Words.{is_live}
use Rattle.swarm_objects.specs.Usable.{IsUsable}
use Rattle.swarm_objects.specs.World.{Tables}
use Rattle.swarm_objects.specs.declared.rows.Change.TheVariants as change
use Rattle.swarm_objects.specs.declared.rows.Change.{Change}
use Rattle.swarm_objects.specs.declared.services.Service.{Service}
use Rattle.swarm_objects.specs.declared.tasks.Task.{Task}
use Rattle.swarm_replicated.proofs.Leaving.{not-of}
use Rattle.swarm_replicated.proofs.Sights.{Keeps, Shows, none-there, seen, seen-changes, shown}
use Rattle.swarm_replicated.specs.Inside.PlaceChanges.{fills, goes_on, holds, is_alike, is_elsewhere, is_emptied}
use Rattle.swarm_replicated.specs.Inside.PlaceChanges.{is_filled, is_it, is_kept, is_named, leaves_full, may_hold}
use Rattle.swarm_replicated.specs.Inside.PlaceChanges.{may_stay, names, puts_none, spares, was_elsewhere}

-- What the tasks of a place show: whether they are live, and whether they close it.

abbrev Sight : Type 0
Sight = Bool × Bool

abbrev make : Task → Sight
make x = (is_live x, closes x)

abbrev sight_by : (Task → Bool) → Task → Option Sight
sight_by test x = cond (test x) (Some (make x)) None

abbrev sight : Service → ℕ → Task → Option Sight
sight s j = sight_by (is_in_place s (place_at s.spec.mode j))

abbrev show_held : List Sight → Bool
show_held all = list_any (λ (v : Sight). v.0) all || is_some_and (λ (v : Sight). v.1) (last_or None all)

seen-is : (test : Task → Bool) (tasks : List Task) → seen (sight_by test) tasks ≡ map make (filter test tasks)
seen-is test [] = refl
seen-is test (x ∷ tasks) = go (test x) (seen-is test tasks)
  where
    go : (b : Bool) → seen (sight_by test) tasks ≡ map make (filter test tasks) →
        shown (cond b (Some (make x)) None) (seen (sight_by test) tasks) ≡ map make (cond b (x ∷ filter test tasks) (filter test tasks))
    go true rest = ap (λ l. make x ∷ l) rest
    go false rest = rest

last-made : (o : Option Task) (tasks : List Task) →
    is_some_and (λ (v : Sight). v.1) (last_or (option_map make o) (map make tasks)) ≡ is_some_and closes (last_or o tasks)
last-made None [] = refl
last-made (Some x) [] = refl
last-made o (x ∷ tasks) = last-made (Some x) tasks

held-seen : (t : Tables) (s : Service) (j : ℕ) → is_held_place t s j ≡ show_held (seen (sight s j) t.tasks)
held-seen t s j =
    let test = is_in_place s (place_at s.spec.mode j) in
    sym (ap show_held (seen-is test t.tasks)
    ∙ ap (λ b. b || is_some_and (λ (v : Sight). v.1) (last_or None (map make (filter test t.tasks))))
    (any_map (λ (v : Sight). v.0) make (filter test t.tasks))
    ∙ ap (λ b. list_any is_live (filter test t.tasks) || b) (last-made None (filter test t.tasks)))

-- Where a task stands.

pub stands-at : (s : Service) (x : Task) (j : ℕ) → is_in_place s (place_at s.spec.mode j) x ≡ true →
    (stands s x ≡ true) × (place_number x.place ≡ j)
stands-at s x j e =
    (subst (λ n. is_in_place s (place_at s.spec.mode n) x ≡ true) (sym number) e, number)
  where
    number : place_number x.place ≡ j
    number =
        one_place x.place (place_at s.spec.mode j) (second_so (counts_for s x) (same_place x.place (place_at s.spec.mode j)) e)
        ∙ number_at s.spec.mode j

pub at-stands : (s : Service) (x : Task) (j : ℕ) → stands s x ≡ true → place_number x.place ≡ j →
    is_in_place s (place_at s.spec.mode j) x ≡ true
at-stands s x j e number = subst (λ n. is_in_place s (place_at s.spec.mode n) x ≡ true) number e

pub is-it : (o : Option ℕ) (j : ℕ) → is_it o j ≡ true → o ≡ Some j
is-it None j e = absurd cc
is-it (Some k) j e = ap Some (same_number k j e)

away : (s : Service) (o : Option ℕ) (x : Task) (j : ℕ) → is_elsewhere s o x ≡ false → (o ≡ Some j → ⊥) →
    sight s j x ≡ None
away s o x j off apart = go (is_in_place s (place_at s.spec.mode j) x) refl
  where
    it : (a b : Bool) → (a && not b) ≡ false → a ≡ true → b ≡ true
    it true true e f = refl
    it true false e f = absurd cc
    it false b e f = absurd cc

    go : (b : Bool) → is_in_place s (place_at s.spec.mode j) x ≡ b → cond b (Some (make x)) None ≡ None
    go true e =
        let at = stands-at s x j e in
        absurd (apart (is-it o (place_number x.place) (it (stands s x) (is_it o (place_number x.place)) off at.0) ∙ ap Some at.1))
    go false e = refl

alike : (s : Service) (x y : Task) (j : ℕ) → is_alike s x y ≡ true → sight s j x ≡ sight s j y
alike s x y j e =
    ap (λ b. cond b (Some (make x)) None) same_test_is
    ∙ ap (λ (v : Sight). cond (is_in_place s (place_at s.spec.mode j) y) (Some v) None) (ap (λ b. (b, closes x)) live ∙ ap (λ b. (is_live y, b)) shut)
  where
    shut : closes x ≡ closes y
    shut = same_bool_is (closes x) (closes y) (second_so _ (same_bool (closes x) (closes y)) e)

    four : ((stands s x && stands s y) && eqb (place_number x.place) (place_number y.place)) && same_bool (is_live x) (is_live y) ≡ true
    four = first_so _ (same_bool (closes x) (closes y)) e

    live : is_live x ≡ is_live y
    live = same_bool_is (is_live x) (is_live y) (second_so _ (same_bool (is_live x) (is_live y)) four)

    three : (stands s x && stands s y) && eqb (place_number x.place) (place_number y.place) ≡ true
    three = first_so _ (same_bool (is_live x) (is_live y)) four

    number : place_number x.place ≡ place_number y.place
    number = same_number (place_number x.place) (place_number y.place) (second_so (stands s x && stands s y) _ three)

    two : stands s x && stands s y ≡ true
    two = first_so (stands s x && stands s y) _ three

    same_test_is : is_in_place s (place_at s.spec.mode j) x ≡ is_in_place s (place_at s.spec.mode j) y
    same_test_is = same_test (is_in_place s (place_at s.spec.mode j) x) (is_in_place s (place_at s.spec.mode j) y)
        (λ f. at-stands s y j (second_so (stands s x) (stands s y) two) (sym number ∙ (stands-at s x j f).1))
        (λ f. at-stands s x j (first_so (stands s x) (stands s y) two) (number ∙ (stands-at s y j f).1))

-- A change that spares a place leaves what its tasks show.

the-row : (t : Tables) (id : ℕ) (y : Task) → IsUsable t → Has t.tasks y → y.id ≡ id → row_at task_id id t.tasks ≡ Some y
the-row t id y usable h same =
    subst (λ (n : ℕ). row_at task_id n t.tasks ≡ Some y) same (row_at-Some task_id 0 t.tasks y usable.sound.ordered.tasks h)

was-away : (t : Tables) (s : Service) (o : Option ℕ) (j id : ℕ) → IsUsable t → not (was_elsewhere t s o id) ≡ true →
    (o ≡ Some j → ⊥) → (y : Task) → Has t.tasks y → y.id ≡ id → sight s j y ≡ None
was-away t s o j id usable off apart y h same =
    away s o y j
    (sym (ap (is_some_and (is_elsewhere s o)) (the-row t id y usable h same)) ∙ not-of (was_elsewhere t s o id) off) apart

spared-put : (t : Tables) (s : Service) (o : Option ℕ) (j : ℕ) (x : Task) → IsUsable t → (o ≡ Some j → ⊥) →
    spares t s o (change.PutTask x) ≡ true → Shows (sight s j) t.tasks x.id (sight s j x)
spared-put t s o j x usable apart e =
    go (or_cases (goes_on t s x) (not (is_elsewhere s o x) && not (was_elsewhere t s o x.id)) e)
  where
    go : (goes_on t s x ≡ true) ⊎ (not (is_elsewhere s o x) && not (was_elsewhere t s o x.id) ≡ true) →
        Shows (sight s j) t.tasks x.id (sight s j x)
    go (inl on) =
        let row = some-and-cases (is_alike s x) (row_at task_id x.id t.tasks) on in
        let there = Has-from_row_at task_id x.id t.tasks row.0 row.1 in
        record {
          each = λ y h same.
              let one : Some y ≡ Some row.0 = sym (the-row t x.id y usable h same) ∙ row.1 in
              let is : row.0 ≡ y = cc in
              subst (λ (z : Task). sight s j z ≡ sight s j x) is (sym (alike s x row.0 j row.2));
          none = λ off. absurd (off row.0 there.0 there.1);
        }
    go (inr off) =
        let out = away s o x j (not-of (is_elsewhere s o x) (first_so (not (is_elsewhere s o x)) _ off)) apart in
        record {
          each = λ y h same.
              was-away t s o j x.id usable (second_so (not (is_elsewhere s o x)) _ off) apart y h same ∙ sym out;
          none = λ none. out;
        }

spared : (t : Tables) (s : Service) (o : Option ℕ) (j : ℕ) → IsUsable t → (o ≡ Some j → ⊥) → (c : Change) →
    spares t s o c ≡ true → Keeps (sight s j) t.tasks c
spared t s o j usable apart (change.PutNode n) e = tt
spared t s o j usable apart (change.PutService v) e = tt
spared t s o j usable apart (change.PutTask x) e = spared-put t s o j x usable apart e
spared t s o j usable apart (change.DropTask id) e =
    record { each = was-away t s o j id usable e apart; none = λ none. refl }
spared t s o j usable apart (change.Keep a) e = tt

-- it is held as before
pub held-spared : (t : Tables) (s : Service) (o : Option ℕ) (cs : List Change) (j : ℕ) → IsUsable t →
    list_all (spares t s o) cs ≡ true → (o ≡ Some j → ⊥) → is_held_place (apply_changes t cs) s j ≡ is_held_place t s j
held-spared t s o cs j usable all apart =
    held-seen (apply_changes t cs) s j
    ∙ ap show_held (seen-changes (sight s j) cs t (λ c h. spared t s o j usable apart c (of-all (spares t s o) cs c all h)))
    ∙ sym (held-seen t s j)

-- A place is held by a live task.

live-holds : (u : Tables) (s : Service) (k : ℕ) (x : Task) → Has u.tasks x → is_live x ≡ true →
    is_in_place s (place_at s.spec.mode k) x ≡ true → is_held_place u s k ≡ true
live-holds u s k x h live at =
    or_left (list_any is_live (place_tasks u s k)) _
    (has-any is_live (place_tasks u s k) x (Has-filter (is_in_place s (place_at s.spec.mode k)) u.tasks x h at) live)

-- a task among these, with this id or a greater one, holds the place
record Full (s : Service) (k next : ℕ) (tasks : List Task) : Type 0 where
  task : Task
  there : Has tasks task
  new : next ≤ task.id
  it_holds : holds s k task ≡ true

same-or : (a b : Bool) → (a || b) ≡ true → a ≡ false → b ≡ true
same-or true b e f = absurd cc
same-or false b e f = e

full-put : (s : Service) (k next : ℕ) (x : Task) (tasks : List Task) → leaves_full s k next (change.PutTask x) ≡ true →
    Full s k next tasks → Full s k next (put_row task_id x tasks)
full-put s k next x tasks e full = go (eqb full.task.id x.id) refl (Has-map (λ z. cond (eqb z.id x.id) x z) tasks full.task full.there)
  where
    go : (b : Bool) → eqb full.task.id x.id ≡ b → Has (put_row task_id x tasks) (cond b x full.task) →
        Full s k next (put_row task_id x tasks)
    go true is h =
        let same : full.task.id ≡ x.id = grind (arith, nat_tests, is) in
        let new : next ≤ x.id = subst (λ n. next ≤ n) same full.new in
        let not_less : nat_lt x.id next ≡ false = grind (arith, nat_tests, new) in
        record { task = x; there = h; new = new; it_holds = same-or (nat_lt x.id next) (holds s k x) e not_less }
    go false is h = record { task = full.task; there = h; new = full.new; it_holds = full.it_holds }

full-stays : (t : Tables) (s : Service) (k next : ℕ) (c : Change) → leaves_full s k next c ≡ true →
    Full s k next t.tasks → Full s k next (apply_change t c).tasks
full-stays t s k next (change.PutNode n) e full = full
full-stays t s k next (change.PutService v) e full = full
full-stays t s k next (change.PutTask x) e full = go (has_row task_id x.id t.tasks)
  where
    go : (b : Bool) → Full s k next (cond b (record t { tasks = put_row task_id x t.tasks }) (with_task t x)).tasks
    go true = full-put s k next x t.tasks e full
    go false =
        record { task = full.task; there = Has-append_left t.tasks (x ∷ []) full.task full.there; new = full.new; it_holds = full.it_holds }
full-stays t s k next (change.DropTask id) e full =
    let new = full.new in
    let other : not (eqb full.task.id id) ≡ true = grind (arith, nat_tests, e, new) in
    record {
      task = full.task;
      there = Has-filter (λ z. not (eqb z.id id)) t.tasks full.task full.there other;
      new = full.new;
      it_holds = full.it_holds;
    }
full-stays t s k next (change.Keep a) e full = full

full-all : (s : Service) (k next : ℕ) (cs : List Change) (t : Tables) → list_all (leaves_full s k next) cs ≡ true →
    Full s k next t.tasks → Full s k next (apply_changes t cs).tasks
full-all s k next [] t all full = full
full-all s k next (c ∷ cs) t all full =
    full-all s k next cs (apply_change t c) (second_so (leaves_full s k next c) _ all)
    (full-stays t s k next c (first_so (leaves_full s k next c) _ all) full)

put-there : (x : Task) (tasks : List Task) → has_row task_id x.id tasks ≡ true → Has (put_row task_id x tasks) x
put-there x tasks is = go (row_at task_id x.id tasks) refl is
  where
    go : (o : Option Task) → row_at task_id x.id tasks ≡ o → is_some o ≡ true → Has (put_row task_id x tasks) x
    go None at e = absurd cc
    go (Some y) at e =
        let row = Has-from_row_at task_id x.id tasks y at in
        subst (Has (put_row task_id x tasks)) (ap (λ b. cond b x y) (number_equal y.id x.id row.1))
        (Has-map (λ z. cond (eqb z.id x.id) x z) tasks y row.0)

full-made : (t : Tables) (s : Service) (k next : ℕ) (c : Change) → fills s k next c ≡ true →
    Full s k next (apply_change t c).tasks
full-made t s k next (change.PutNode n) e = absurd cc
full-made t s k next (change.PutService v) e = absurd cc
full-made t s k next (change.PutTask x) e = go (has_row task_id x.id t.tasks) refl
  where
    new : next ≤ x.id
    new = let le = first_so (nat_le next x.id) (holds s k x) e in grind (arith, nat_tests, le)

    make_full : (tasks : List Task) → Has tasks x → Full s k next tasks
    make_full tasks h = record { task = x; there = h; new = new; it_holds = second_so (nat_le next x.id) (holds s k x) e }

    go : (b : Bool) → has_row task_id x.id t.tasks ≡ b →
        Full s k next (cond b (record t { tasks = put_row task_id x t.tasks }) (with_task t x)).tasks
    go true is = make_full (put_row task_id x t.tasks) (put-there x t.tasks is)
    go false is = make_full (with_task t x).tasks (Has-append_right t.tasks (x ∷ []) x (inl refl))
full-made t s k next (change.DropTask id) e = absurd cc
full-made t s k next (change.Keep a) e = absurd cc

full-some : (s : Service) (k next : ℕ) (cs : List Change) (t : Tables) → list_any (fills s k next) cs ≡ true →
    list_all (leaves_full s k next) cs ≡ true → Full s k next (apply_changes t cs).tasks
full-some s k next [] t some all = absurd cc
full-some s k next (c ∷ cs) t some all =
    go (or_cases (fills s k next c) (list_any (fills s k next) cs) some)
    (full-some s k next cs (apply_change t c))
  where
    rest : list_all (leaves_full s k next) cs ≡ true
    rest = second_so (leaves_full s k next c) _ all

    go : (fills s k next c ≡ true) ⊎ (list_any (fills s k next) cs ≡ true) →
        (list_any (fills s k next) cs ≡ true → list_all (leaves_full s k next) cs ≡ true →
        Full s k next (apply_changes (apply_change t c) cs).tasks) →
        Full s k next (apply_changes t (c ∷ cs)).tasks
    go (inl here) below = full-all s k next cs (apply_change t c) rest (full-made t s k next c here)
    go (inr later) below = below later rest

-- a new task came
pub filled : (t : Tables) (s : Service) (k : ℕ) (cs : List Change) → is_filled t s k cs ≡ true →
    is_held_place (apply_changes t cs) s k ≡ true
filled t s k cs e =
    let full = full-some s k t.next_id cs t (first_so (list_any (fills s k t.next_id) cs) _ e) (second_so (list_any (fills s k t.next_id) cs) _ e) in
    let both = first_so (is_live full.task && stands s full.task) _ full.it_holds in
    live-holds (apply_changes t cs) s k full.task full.there (first_so (is_live full.task) (stands s full.task) both)
    (at-stands s full.task k (second_so (is_live full.task) (stands s full.task) both)
    (same_number (place_number full.task.place) k (second_so (is_live full.task && stands s full.task) _ full.it_holds)))

-- A task that no change names stays.

not-named : (a b : Bool) → (a || b) ≡ false → (a ≡ false) × (b ≡ false)
not-named true b e = absurd cc
not-named false b e = (refl, e)

stays-one : (t : Tables) (x : Task) (c : Change) → names x.id c ≡ false → Has t.tasks x → Has (apply_change t c).tasks x
stays-one t x (change.PutNode n) off h = h
stays-one t x (change.PutService v) off h = h
stays-one t x (change.PutTask y) off h = go (has_row task_id y.id t.tasks)
  where
    other : eqb x.id y.id ≡ false
    other = grind (arith, nat_tests, off)

    go : (b : Bool) → Has (cond b (record t { tasks = put_row task_id y t.tasks }) (with_task t y)).tasks x
    go true =
        subst (Has (put_row task_id y t.tasks)) (ap (λ b. cond b y x) other)
        (Has-map (λ z. cond (eqb z.id y.id) y z) t.tasks x h)
    go false = Has-append_left t.tasks (y ∷ []) x h
stays-one t x (change.DropTask k) off h =
    let other : not (eqb x.id k) ≡ true = grind (arith, nat_tests, off) in
    Has-filter (λ z. not (eqb z.id k)) t.tasks x h other
stays-one t x (change.Keep a) off h = h

stays : (x : Task) (cs : List Change) (t : Tables) → is_named cs x.id ≡ false → Has t.tasks x →
    Has (apply_changes t cs).tasks x
stays x [] t off h = h
stays x (c ∷ cs) t off h =
    let out = not-named (names x.id c) (list_any (names x.id) cs) off in
    stays x cs (apply_change t c) out.1 (stays-one t x c out.0 h)

pub kept : (t : Tables) (s : Service) (k : ℕ) (cs : List Change) → is_kept t s k cs ≡ true →
    is_held_place (apply_changes t cs) s k ≡ true
kept t s k cs e =
    let one = any-has (λ x. is_live x && not (is_named cs x.id)) (place_tasks t s k) e in
    let inside = Has-filter_cases (is_in_place s (place_at s.spec.mode k)) t.tasks one.0 one.1 in
    live-holds (apply_changes t cs) s k one.0
    (stays one.0 cs t (not-of (is_named cs one.0.id) (second_so (is_live one.0) (not (is_named cs one.0.id)) one.2)) inside.0)
    (first_so (is_live one.0) (not (is_named cs one.0.id)) one.2) inside.1

-- A place is held by no task that may hold it.

abbrev may_here : Service → ℕ → Task → Bool
may_here s k x = is_in_place s (place_at s.spec.mode k) x && may_hold x

-- none of these may hold the place but those that the changes name
abbrev NoneBut : Service → ℕ → List Change → List Task → Type 0
NoneBut s k cs tasks = (y : Task) → Has tasks y → (may_here s k y ≡ false) ⊎ (is_named cs y.id ≡ true)

puts-none : (s : Service) (k : ℕ) (x : Task) → puts_none s k (change.PutTask x) ≡ true → may_here s k x ≡ false
puts-none s k x e = go (is_in_place s (place_at s.spec.mode k) x) refl
  where
    out : (a b c : Bool) → ((not a || not b) || not c) ≡ true → b ≡ true → c ≡ true → a ≡ false
    out true b c e f g = absurd cc
    out false b c e f g = refl

    go : (b : Bool) → is_in_place s (place_at s.spec.mode k) x ≡ b → (b && may_hold x) ≡ false
    go true at =
        let is = stands-at s x k at in
        out (may_hold x) (stands s x) (eqb (place_number x.place) k) e is.0 (number_equal (place_number x.place) k is.1)
    go false at = refl

named-later : (s : Service) (k : ℕ) (c : Change) (cs : List Change) (y : Task) → names y.id c ≡ false →
    (may_here s k y ≡ false) ⊎ (is_named (c ∷ cs) y.id ≡ true) → (may_here s k y ≡ false) ⊎ (is_named cs y.id ≡ true)
named-later s k c cs y off (inl none) = inl none
named-later s k c cs y off (inr named) = inr (same-or (names y.id c) (is_named cs y.id) named off)

none-one : (t : Tables) (s : Service) (k : ℕ) (c : Change) (cs : List Change) → puts_none s k c ≡ true →
    NoneBut s k (c ∷ cs) t.tasks → NoneBut s k cs (apply_change t c).tasks
none-one t s k (change.PutNode n) cs e none y h = named-later s k (change.PutNode n) cs y refl (none y h)
none-one t s k (change.PutService v) cs e none y h = named-later s k (change.PutService v) cs y refl (none y h)
none-one t s k (change.PutTask x) cs e none y h = go (has_row task_id x.id t.tasks) refl h
  where
    put : (z : Task) → Has t.tasks z → (b : Bool) → eqb z.id x.id ≡ b → cond b x z ≡ y →
        (may_here s k y ≡ false) ⊎ (is_named cs y.id ≡ true)
    put z there true is e' = inl (subst (λ (v : Task). may_here s k v ≡ false) e' (puts-none s k x e))
    put z there false is e' =
        let other : eqb x.id z.id ≡ false = grind (arith, nat_tests, is) in
        subst (λ (v : Task). (may_here s k v ≡ false) ⊎ (is_named cs v.id ≡ true)) e'
        (named-later s k (change.PutTask x) cs z other (none z there))

    last : has_row task_id x.id t.tasks ≡ false → (b : Bool) → eqb x.id y.id ≡ b → Has t.tasks y ⊎ Has (x ∷ []) y →
        (may_here s k y ≡ false) ⊎ (is_named cs y.id ≡ true)
    last new true is (inl there) =
        let same : y.id ≡ x.id = grind (arith, nat_tests, is) in absurd (none-there x.id t.tasks new y there same)
    last new false is (inl there) = named-later s k (change.PutTask x) cs y is (none y there)
    last new b is (inr (inl e')) = inl (subst (λ (v : Task). may_here s k v ≡ false) e' (puts-none s k x e))
    last new b is (inr (inr h)) = absurd h

    go : (b : Bool) → has_row task_id x.id t.tasks ≡ b →
        Has (cond b (record t { tasks = put_row task_id x t.tasks }) (with_task t x)).tasks y →
        (may_here s k y ≡ false) ⊎ (is_named cs y.id ≡ true)
    go true new h =
        let from = Has-map_cases (λ z. cond (eqb z.id x.id) x z) t.tasks y h in
        put from.0 from.1 (eqb from.0.id x.id) refl from.2
    go false new h = last new (eqb x.id y.id) refl (Has-append_cases t.tasks (x ∷ []) y h)
none-one t s k (change.DropTask id) cs e none y h =
    let from = Has-filter_cases (λ z. not (eqb z.id id)) t.tasks y h in
    let apart = from.1 in
    let other : eqb id y.id ≡ false = grind (arith, nat_tests, apart) in
    named-later s k (change.DropTask id) cs y other (none y from.0)
none-one t s k (change.Keep a) cs e none y h = named-later s k (change.Keep a) cs y refl (none y h)

none-all : (s : Service) (k : ℕ) (cs : List Change) (t : Tables) → list_all (puts_none s k) cs ≡ true →
    NoneBut s k cs t.tasks → (y : Task) → Has (apply_changes t cs).tasks y → may_here s k y ≡ false
none-all s k [] t all none y h = elim (none y h) [ inl off ↦ off | inr named ↦ absurd cc ]
none-all s k (c ∷ cs) t all none y h =
    none-all s k cs (apply_change t c) (second_so (puts_none s k c) _ all)
    (none-one t s k c cs (first_so (puts_none s k c) _ all) none) y h

never : (a b : Bool) → (a && b) ≡ false → a ≡ true → b ≡ true → ⊥
never true true e f g = absurd cc
never true false e f g = absurd cc
never false b e f g = absurd cc

pub emptied : (t : Tables) (s : Service) (k : ℕ) (cs : List Change) → is_emptied t s k cs ≡ true →
    is_held_place (apply_changes t cs) s k ≡ false
emptied t s k cs e = go (is_held_place (apply_changes t cs) s k) refl
  where
    u : Tables
    u = apply_changes t cs

    test : Task → Bool
    test = is_in_place s (place_at s.spec.mode k)

    unstaying : may_stay t s k cs ≡ false
    unstaying = not-of (may_stay t s k cs) (second_so (list_all (puts_none s k) cs) _ e)

    none : NoneBut s k cs t.tasks
    none y h = at (test y) refl (is_named cs y.id) refl (may_hold y) refl
      where
        at : (b : Bool) → test y ≡ b → (c : Bool) → is_named cs y.id ≡ c → (d : Bool) → may_hold y ≡ d →
            (b && d ≡ false) ⊎ (c ≡ true)
        at false f c g d i = inl refl
        at true f true g d i = inr refl
        at true f false g false i = inl refl
        at true f false g true i =
            never-both (may_stay t s k cs) unstaying
            (has-any (λ x. may_hold x && not (is_named cs x.id)) (place_tasks t s k) y (Has-filter test t.tasks y h f)
            (ap (λ b. b && not (is_named cs y.id)) i ∙ ap not g))

    off : (y : Task) → Has u.tasks y → may_here s k y ≡ false
    off = none-all s k cs t (first_so (list_all (puts_none s k) cs) _ e) none

    out : (y : Task) → Has (place_tasks u s k) y → may_hold y ≡ true → ⊥
    out y h may =
        let inside = Has-filter_cases test u.tasks y h in
        never (test y) (may_hold y) (off y inside.0) inside.1 may

    which : (list_any is_live (place_tasks u s k) ≡ true) ⊎ (is_some_and closes (newest (place_tasks u s k)) ≡ true) → ⊥
    which (inl live) =
        let one = any-has is_live (place_tasks u s k) live in
        out one.0 one.1 (or_left (is_live one.0) (closes one.0) one.2)
    which (inr shut) =
        let last = some-and-cases closes (newest (place_tasks u s k)) shut in
        out last.0 (newest_has (place_tasks u s k) last.0 last.1) (or_right (is_live last.0) (closes last.0) last.2)

    go : (b : Bool) → is_held_place u s k ≡ b → b ≡ false
    go true is = absurd (which (or_cases _ _ is))
    go false is = refl
