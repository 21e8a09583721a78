-- A task that ends its place makes the measure smaller.
use Rattle.std.proofs.Common.{Bool, List, None, Option, Some, ap, arith, cond, false, map, refl, subst, sym, true, ℕ, ◌+◌, ◌∙◌, ◌≡◌, ◌≤◌}
use Rattle.std.proofs.lemmas.Bool.Decides.{nat_tests}
use Rattle.std.specs.List.{list_any}
use Rattle.std.specs.Option.{option_map}
use Rattle.std.specs.Prelude.{count_by}
use Rattle.swarm_settle.proofs.Bound.ComingFills.{by-number}
use Rattle.swarm_settle.proofs.Bound.ComingSteps.{coming-stays}
use Rattle.swarm_settle.proofs.Bound.Falls.Changed.{falls-changed}
use Rattle.swarm_settle.proofs.Bound.Falls.Places.{seen-elsewhere}
use Rattle.swarm_settle.proofs.Bound.Falls.Restarts.{Over, alone-old, has_id, is-it}
use Rattle.swarm_settle.proofs.Bound.Falls.Rows.{has-mapped}
use Rattle.swarm_settle.proofs.Bound.Falls.Touched.{count-some, due-untouched, tasks-touched, touch, touch-id}
use Rattle.swarm_settle.proofs.Bound.Falls.Wanted.{shut-left}
use Rattle.swarm_settle.proofs.Bound.Seen.{AllSeen, held-seen, renewed-seen}
use Rattle.swarm_settle.proofs.Bound.Sending.DueRows.{due_of}
use Rattle.swarm_settle.proofs.Bound.Sending.Numbers.{count-tested, count_below}
use Rattle.swarm_settle.proofs.Bound.Sending.Worlds.{in-numbers}
use Rattle.swarm_settle.proofs.Bound.Sums.{mapped-le, sum-le}
use Rattle.swarm_settle.specs.Bound.Coming.{coming, coming_of, is_renewed}
use Rattle.swarm_settle.specs.Bound.Left.{task_left}
use Rattle.swarm_settle.specs.Bound.Measure.{measure}
use Rattle.swarm_model.proofs.Laws.GivesOut.{GivesOut}
use Rattle.swarm_model.proofs.Moves.Duties.{closed-moves, shut-task}
use Rattle.swarm_model.proofs.Moves.Rows.{RisesBetween, between-change, between-one}
use Rattle.swarm_model.proofs.Moves.Tables.{move-any_task}
use Rattle.swarm_model.proofs.Moves.Worlds.{IsOrderly, tables-then}
use Rattle.swarm_objects.proofs.Newest.{newest_has}
use Rattle.swarm_objects.proofs.RowLemmas.{Has-filter, Has-filter_cases, row_at-map}
use Rattle.swarm_objects.proofs.Tests.{has-any, never-both, or_left, or_right}
use Rattle.swarm_objects.specs.Changes.{change_task, wanted, with_tables}
use Rattle.swarm_objects.specs.Loops.Restart.{closed_by, shut}
use Rattle.swarm_objects.specs.Rows.{Has, is_row_and, is_some_and, row_at, service_id, task_id}
use Rattle.swarm_objects.specs.Tasks.Places.{closes, has_other, is_held_place, is_in_place, newest, place_at, tasks_of_place}
use Rattle.swarm_objects.specs.Tasks.Words.{is_kept, is_live}
use Rattle.swarm_objects.specs.World.{World}
use Rattle.swarm_objects.specs.declared.services.Service.{Service}
use Rattle.swarm_objects.specs.declared.tasks.Closed.{Closed}
use Rattle.swarm_objects.specs.declared.tasks.Desired.TheVariants as desired
use Rattle.swarm_objects.specs.declared.tasks.Task.{Task}
use Rattle.swarm_settle.proofs.PlaceLists.{SameMaking, making-refl, newest-map, place-map}

-- The task with the number is closed, and the others stay.

abbrev closing : ℕ → Closed → ℕ → Task → Task
closing version cause id = touch (has_id id) (closed_by version cause)

closing-left : (version : ℕ) (cause : Closed) (id : ℕ) (w : World) (y : Task) →
    task_left w (closing version cause id y) ≤ task_left w y
closing-left version cause id w y = go (has_id id y)
  where
    go : (b : Bool) → task_left w (cond b (closed_by version cause y) y) ≤ task_left w y
    go true = omega arith
    go false = omega arith

closing-id : (version : ℕ) (cause : Closed) (id : ℕ) (y : Task) → (closing version cause id y).id ≡ y.id
closing-id version cause id y = touch-id (has_id id) (closed_by version cause) (λ z. refl) y

closing-due : (version : ℕ) (cause : Closed) (id node k : ℕ) (xs : List Task) →
    due_of node (row_at task_id k (map (closing version cause id) xs)) ≡ due_of node (row_at task_id k xs)
closing-due version cause id node k xs =
    ap (due_of node) (row_at-map task_id k (closing version cause id) xs (closing-id version cause id))
    ∙ go (row_at task_id k xs)
  where
    one : (y : Task) (b : Bool) → due_of node (Some (cond b (closed_by version cause y) y)) ≡ due_of node (Some y)
    one y true = refl
    one y false = refl

    go : (o : Option Task) → due_of node (option_map (closing version cause id) o) ≡ due_of node o
    go None = refl
    go (Some y) = one y (has_id id y)

closing-making : (version : ℕ) (cause : Closed) (id : ℕ) (y : Task) → SameMaking y (closing version cause id y)
closing-making version cause id y = go (has_id id y)
  where
    go : (b : Bool) → SameMaking y (cond b (closed_by version cause y) y)
    go true = record { id = refl; service = refl; place = refl; iteration = refl; template = refl; goal = refl }
    go false = making-refl y

-- the newest of a place, closed, closes it, where it is kept
closes-place : (version : ℕ) (cause : Closed) (s : Service) (k : ℕ) (xs : List Task) (z : Task) →
    newest (tasks_of_place s (place_at s.spec.mode k) xs) ≡ Some z → is_kept z ≡ true →
    is_some_and closes (newest (tasks_of_place s (place_at s.spec.mode k) (map (closing version cause z.id) xs))) ≡ true
closes-place version cause s k xs z last kept =
    let p = place_at s.spec.mode k in
    let f = closing version cause z.id in
    let is : has_id z.id z ≡ true = grind (arith, nat_tests) in
    ap (λ (ys : List Task). is_some_and closes (newest ys)) (place-map s p f xs (closing-making version cause z.id))
    ∙ ap (is_some_and closes) (newest-map f (tasks_of_place s p xs) ∙ ap (option_map f) last)
    ∙ ap (λ (b : Bool). closes (cond b (closed_by version cause z) z)) is
    ∙ kept

-- the place's newest task, z, closes it
pub falls-closed : (m version : ℕ) (w : World) (x z : Task) (s : Service) (k : ℕ) (cause : Closed) → IsOrderly w →
    GivesOut w → Over m w.tables x s k → has_other w.tables s x ≡ false →
    newest (tasks_of_place s (place_at s.spec.mode k) (shut version x.id w.tables).tasks) ≡ Some z → is_kept z ≡ true →
    measure m (with_tables w (change_task z.id (closed_by version cause) (shut version x.id w.tables))) + 1 ≤ measure m w
falls-closed m version w x z s k cause orderly gives over none last kept =
    let t = w.tables in
    let p = place_at s.spec.mode k in
    let test = has_id x.id in
    let stop = wanted version desired.Shutdown in
    let f = touch test stop in
    let xs = map f t.tasks in
    let g = closing version cause z.id in
    let stopped = shut version x.id t in
    let u = change_task z.id (closed_by version cause) stopped in
    let first = shut-task version t x orderly.tasks over.there (orderly.good x over.there) over.live in
    let moves = tables-then t stopped u first
    (move-any_task stopped z.id (closed_by version cause) (λ y h. closed-moves version cause y)) in
    let inside : (y : Task) → Has t.tasks y → test y ≡ true → is_in_place s p y ≡ true =
    λ y h e. subst (λ v. is_in_place s p v ≡ true) (is-it w x y orderly over.there h e) over.inside in
    let live : (y : Task) → Has t.tasks y → test y ≡ true → is_live y ≡ true =
    λ y h e. subst (λ v. is_live v ≡ true) (is-it w x y orderly over.there h e) over.live in
    let top = Has-filter_cases (is_in_place s p) xs z (newest_has (tasks_of_place s p xs) z last) in
    let closed_inside : (y : Task) → Has xs y → has_id z.id y ≡ true → is_in_place s p y ≡ true =
    λ y h e.
    let same = between-one task_id 1 stopped.next_id xs z y (orderly-shut w version x orderly) top.0 h
    (grind (arith, nat_tests, e)) in
    subst (λ v. is_in_place s p v ≡ true) same top.1 in
    let was : is_held_place t s k ≡ true =
    or_left (list_any is_live (tasks_of_place s p t.tasks)) _
    (has-any is_live (tasks_of_place s p t.tasks) x
    (Has-filter (is_in_place s p) t.tasks x over.there over.inside) over.live) in
    let is : is_held_place u s k ≡ true =
    or_right (list_any is_live (tasks_of_place s p (map g xs))) _ (closes-place version cause s k xs z last kept) in
    let old = alone-old m w x s k over none in
    let seen_by : (v : Service) (j : ℕ) → (v.id ≡ s.id → j ≡ k → ⊥) → AllSeen v (place_at v.spec.mode j) f t.tasks =
    λ v j apart. seen-elsewhere v s j k test stop t.tasks apart inside (λ y. refl) in
    let then_by : (v : Service) (j : ℕ) → (v.id ≡ s.id → j ≡ k → ⊥) → AllSeen v (place_at v.spec.mode j) g xs =
    λ v j apart. seen-elsewhere v s j k (has_id z.id) (closed_by version cause) xs apart closed_inside (λ y. refl) in
    let held_by : (v : Service) (j : ℕ) → (v.id ≡ s.id → j ≡ k → ⊥) → is_held_place u v j ≡ is_held_place t v j =
    λ v j apart. held-seen v (place_at v.spec.mode j) g xs (then_by v j apart)
    ∙ held-seen v (place_at v.spec.mode j) f t.tasks (seen_by v j apart) in
    let renewed_by : (v : Service) (j : ℕ) → (v.id ≡ s.id → j ≡ k → ⊥) → is_renewed m t v j ≡ true →
    is_renewed m u v j ≡ true =
    λ v j apart e. renewed-seen m v (place_at v.spec.mode j) g xs (then_by v j apart)
    ∙ renewed-seen m v (place_at v.spec.mode j) f t.tasks (seen_by v j apart) ∙ e in
    let one : coming_of m u s ≤ coming_of m t s =
    coming-stays m t u s (record { nodes = refl; live = λ n. refl })
    (record {
      held = λ j. by-number j k
          (λ e. ap (is_held_place u s) e ∙ is ∙ sym was ∙ sym (ap (is_held_place t s) e))
          (λ off. held_by s j (λ same number. off number));
    })
    (λ j e. by-number j k (λ same. never-both (is_renewed m t s k) old (sym (ap (is_renewed m t s) same) ∙ e))
    (λ off. renewed_by s j (λ same number. off number) e)) in
    let come : coming m u ≤ coming m t =
    sum-le (coming_of m u) (coming_of m t) t.services
    (λ v h. by-number v.id s.id
    (λ e. subst (λ (y : Service). coming_of m u y ≤ coming_of m t y)
    (between-one service_id 1 t.next_id t.services s v orderly.services over.of h (sym e)) one)
    (λ off. coming-stays m t u v (record { nodes = refl; live = λ n. refl })
    (record { held = λ j. held_by v j (λ same number. off same) }) (λ j e. renewed_by v j (λ same number. off same) e))) in
    let bound = in-numbers w t.next_id (omega arith) orderly gives in
    let count : count_below (is_row_and task_id test t.tasks) t.next_id ≡ count_by test t.tasks =
    count-tested task_id test 0 t.next_id t.tasks bound.rises bound.below in
    let left = tasks-touched w test stop (λ y h e. shut-left version w y (orderly.good y h) (live y h e)) in
    let lower = mapped-le (task_left w) (task_left w) g xs (λ y h. closing-left version cause z.id w y) in
    falls-changed m w t.next_id (map g xs) t.attempts (is_row_and task_id test t.tasks) (count_by test t.tasks) 0 orderly
    gives moves
    (λ node i out. closing-due version cause z.id node i xs ∙ due-untouched t test stop (λ y. refl) node i out)
    (λ i e. has-mapped task_id i g xs (closing-id version cause z.id)
    ∙ has-mapped task_id i f t.tasks (touch-id test stop (λ y. refl)) ∙ e)
    (omega (arith, count)) (omega (arith, left, lower)) (omega (arith, come))
    (omega (arith, count-some test t.tasks x over.there (grind (arith, nat_tests))))
  where
    orderly-shut : (w : World) (version : ℕ) (x : Task) → IsOrderly w →
        RisesBetween task_id 1 w.tables.next_id (shut version x.id w.tables).tasks
    orderly-shut w version x is =
        between-change task_id 1 w.tables.next_id x.id (wanted version desired.Shutdown) w.tables.tasks (λ y. refl) is.tasks
