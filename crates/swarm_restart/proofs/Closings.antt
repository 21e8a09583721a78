-- A task that stops, and whose place is closed.
use Rattle.std.proofs.Common.{◌≡◌, ℕ, Bool, true, false, cond, eqb, inl, inr, List, [], ◌∷◌, Option, Some, None, refl, sym, ap, ◌∙◌, subst, arith, map}
use Rattle.std.proofs.lemmas.Bool.Decides.{nat_tests}
use Rattle.std.specs.List.{last_or}
use Rattle.std.specs.Option.{option_map}
use Rattle.swarm_objects.proofs.RowLemmas.{row_at-Some, row_at-map, Has-filter_cases}
use Rattle.swarm_objects.proofs.Filters.{filter_map}
use Rattle.swarm_objects.proofs.Newest.{last_has}
use Rattle.swarm_objects.specs.Changes.{change_task, wanted}
use Rattle.swarm_objects.specs.Loops.Restart.{by_policy, closed_by, shut}
use Rattle.swarm_objects.specs.Rows.{change_row, on_row, row_at, task_id}
use Rattle.swarm_objects.specs.Sound.{IsSound}
use Rattle.swarm_objects.specs.Tasks.Places.{is_in_place, newest, tasks_of_place}
use Rattle.swarm_objects.specs.World.{Tables}
use Rattle.swarm_objects.specs.declared.rows.Change.{Change}
use Rattle.swarm_objects.specs.declared.rows.Change.TheVariants as change
use Rattle.swarm_objects.specs.declared.services.Service.{Service}
use Rattle.swarm_objects.specs.declared.tasks.Closed.{Closed}
use Rattle.swarm_objects.specs.declared.tasks.Desired.TheVariants as desired
use Rattle.swarm_objects.specs.declared.tasks.Place.{Place}
use Rattle.swarm_objects.specs.declared.tasks.Task.{Task}
use Rattle.swarm_restart.specs.Closing.{closing_changes, closing_found}
use Rattle.swarm_objects.proofs.Applied.{makes_append, makes_found, put_found, sound_changed}
use Rattle.swarm_objects.specs.ChangeLists.{Makes, apply_changes}

-- the task as it stops, and another one as it is
abbrev stopped : ℕ → ℕ → Task → Task
stopped version id x = cond (eqb x.id id) (wanted version desired.Shutdown x) x

keeps_id : (version id : ℕ) (x : Task) → (stopped version id x).id ≡ x.id
keeps_id version id x = go (eqb x.id id)
  where
    go : (b : Bool) → (cond b (wanted version desired.Shutdown x) x).id ≡ x.id
    go true = refl
    go false = refl

keeps_place : (version id : ℕ) (s : Service) (p : Place) (x : Task) → is_in_place s p (stopped version id x)
    ≡ is_in_place s p x
keeps_place version id s p x = go (eqb x.id id)
  where
    go : (b : Bool) → is_in_place s p (cond b (wanted version desired.Shutdown x) x) ≡ is_in_place s p x
    go true = refl
    go false = refl

-- The newest task of the place stays the newest.

last_map : {X : Type 0} (g : X → X) (o : Option X) (xs : List X) → last_or (option_map g o) (map g xs)
    ≡ option_map g (last_or o xs)
last_map g o [] = refl
last_map g o (x ∷ xs) = last_map g (Some x) xs

newest_stopped : (version id : ℕ) (s : Service) (p : Place) (tasks : List Task)
    → newest (tasks_of_place s p (map (stopped version id) tasks))
    ≡ option_map (stopped version id) (newest (tasks_of_place s p tasks))
newest_stopped version id s p tasks =
    ap (last_or None) (filter_map (is_in_place s p) (stopped version id) tasks (keeps_place version id s p))
    ∙ last_map (stopped version id) None (tasks_of_place s p tasks)

newest_there : (s : Service) (p : Place) (t : Tables) (y : Task) → IsSound t → newest (tasks_of_place s p t.tasks)
    ≡ Some y
    → Some y ≡ row_at task_id y.id t.tasks
newest_there s p t y sound e = elim (last_has None (tasks_of_place s p t.tasks) y e) [
  | inl none ↦ absurd cc
  | inr h ↦ sym (row_at-Some task_id 0 t.tasks y sound.ordered.tasks (Has-filter_cases (is_in_place s p) t.tasks y h).0)
]

-- The task is the newest itself.

change_row-twice : {X : Type 0} (key : X → ℕ) (id : ℕ) (f g : X → X) (rows : List X) → ((x : X) → key (f x) ≡ key x)
    → change_row key id g (change_row key id f rows) ≡ change_row key id (λ x. g (f x)) rows
change_row-twice key id f g [] same = refl
change_row-twice key id f g (x ∷ rows) same =
    ap (λ y. y ∷ change_row key id g (change_row key id f rows)) (go (eqb (key x) id) refl)
    ∙ ap (λ zs. cond (eqb (key x) id) (g (f x)) x ∷ zs) (change_row-twice key id f g rows same)
  where
    go : (b : Bool) → eqb (key x) id ≡ b
        → cond (eqb (key (cond b (f x) x)) id) (g (cond b (f x) x)) (cond b (f x) x) ≡ cond b (g (f x)) x
    go true e = ap (λ k. cond (eqb k id) (g (f x)) (f x)) (same x) ∙ ap (λ b. cond b (g (f x)) (f x)) e
    go false e = ap (λ b. cond b (g x) x) e

closing_same : (version : ℕ) (cause : Closed) (t : Tables) (x y : Task) → IsSound t → Some x
    ≡ row_at task_id x.id t.tasks
    → y.id ≡ x.id
    → apply_changes t (change.PutTask (closed_by version cause (wanted version desired.Shutdown x)) ∷ [])
    ≡ change_task y.id (closed_by version cause) (shut version x.id t)
closing_same version cause t x y sound e same =
    put_found (λ z. closed_by version cause (wanted version desired.Shutdown z)) x.id t x sound e refl
    ∙ ap (λ rows. record t { tasks = rows })
    (sym
    (change_row-twice task_id x.id (wanted version desired.Shutdown) (closed_by version cause) t.tasks (λ z. refl)))
    ∙ ap (λ id. change_task id (closed_by version cause) (shut version x.id t)) (sym same)

-- The newest is another one.

still_there : (version id : ℕ) (t : Tables) (y : Task) → eqb y.id id ≡ false → Some y ≡ row_at task_id y.id t.tasks
    → Some y ≡ row_at task_id y.id (shut version id t).tasks
still_there version id t y other e =
    sym
    (row_at-map task_id y.id (stopped version id) t.tasks (keeps_id version id)
    ∙ ap (option_map (stopped version id)) (sym e)
    ∙ ap Some (ap (λ b. cond b (wanted version desired.Shutdown y) y) other))

closing_other : (version : ℕ) (cause : Closed) (t : Tables) (x y : Task) → IsSound t → Some x
    ≡ row_at task_id x.id t.tasks
    → Some y ≡ row_at task_id y.id t.tasks → eqb y.id x.id ≡ false
    → Makes t (change.PutTask (wanted version desired.Shutdown x) ∷ change.PutTask (closed_by version cause y) ∷ [])
    (change_task y.id (closed_by version cause) (shut version x.id t))
closing_other version cause t x y sound e f other =
    makes_append t (shut version x.id t) (change_task y.id (closed_by version cause) (shut version x.id t))
    (change.PutTask (wanted version desired.Shutdown x) ∷ []) (change.PutTask (closed_by version cause y) ∷ [])
    (makes_found (wanted version desired.Shutdown) x.id t x sound e (λ z. refl))
    (makes_found (closed_by version cause) y.id (shut version x.id t) y
    (sound_changed x.id (wanted version desired.Shutdown) t sound (λ z. refl)) (still_there version x.id t y other f)
    (λ z. refl))

closing_both : (version : ℕ) (cause : Closed) (t : Tables) (x y : Task) → IsSound t → Some x
    ≡ row_at task_id x.id t.tasks
    → Some y ≡ row_at task_id y.id t.tasks
    → Makes t (closing_changes version cause x y) (change_task y.id (closed_by version cause) (shut version x.id t))
closing_both version cause t x y sound e f = go (eqb y.id x.id) refl
  where
    go : (b : Bool) → eqb y.id x.id ≡ b
        → Makes t
        (cond b (change.PutTask (closed_by version cause (wanted version desired.Shutdown x)) ∷ [])
        (change.PutTask (wanted version desired.Shutdown x) ∷ change.PutTask (closed_by version cause y) ∷ []))
        (change_task y.id (closed_by version cause) (shut version x.id t))
    go true q = record {
      can =
          (makes_found (λ z. closed_by version cause (wanted version desired.Shutdown z)) x.id t x sound e
          (λ z. refl)).can;
      gives = closing_same version cause t x y sound e (grind (arith, nat_tests));
    }
    go false q = closing_other version cause t x y sound e f q

-- the newest task of the place, as the stop left it, gets the cause
abbrev close_newest : ℕ → Closed → Tables → Option Task → Tables
close_newest version cause u o = on_row u (λ y. change_task y.id (closed_by version cause) u) o

found_makes : (version : ℕ) (cause : Closed) (t : Tables) (x : Task) (o : Option Task) → IsSound t
    → Some x ≡ row_at task_id x.id t.tasks → ((y : Task) → o ≡ Some y → Some y ≡ row_at task_id y.id t.tasks)
    → Makes t (closing_found version cause x o)
    (close_newest version cause (shut version x.id t) (option_map (stopped version x.id) o))
found_makes version cause t x None sound e there =
    makes_found (wanted version desired.Shutdown) x.id t x sound e (λ z. refl)
found_makes version cause t x (Some y) sound e there =
    subst (λ id. Makes t (closing_changes version cause x y) (change_task id (closed_by version cause) (shut version x.id t)))
    (sym (keeps_id version x.id y)) (closing_both version cause t x y sound e (there y refl))

pub closing_makes : (version : ℕ) (cause : Closed) (t : Tables) (s : Service) (x : Task) (cs : List Change) → IsSound t
    → Some x ≡ row_at task_id x.id t.tasks → cs
    ≡ closing_found version cause x (newest (tasks_of_place s x.place t.tasks))
    → Makes t cs (by_policy version (shut version x.id t) s x.place (Some cause))
closing_makes version cause t s x cs sound e list =
    let o = newest (tasks_of_place s x.place t.tasks) in
    let u = shut version x.id t in
    subst (λ ds. Makes t ds (by_policy version u s x.place (Some cause))) (sym list)
    (subst (λ p. Makes t (closing_found version cause x o) (close_newest version cause u p))
    (sym (newest_stopped version x.id s x.place t.tasks))
    (found_makes version cause t x o sound e (λ y f. newest_there s x.place t y sound f)))
