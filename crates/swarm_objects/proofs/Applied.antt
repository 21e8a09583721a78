-- What applying changes makes of the tables.
use Rattle.std.proofs.Common.{◌≡◌, ℕ, ◌≤◌, Bool, true, false, cond, eqb, inl, inr, List, [], ◌∷◌, ◌++◌, Option, Some, None, refl, sym, ap, ◌∙◌, subst, arith}
use Rattle.std.proofs.lemmas.Bool.Decides.{nat_tests}
use Rattle.std.specs.Prelude.{◌&&◌, filter, map, is_some, nat_lt}
use Rattle.swarm_objects.specs.Changes.{change_node, change_service, change_task, change_where, in_state, noted, raised_to, wanted, with_new, without_place}
use Rattle.swarm_objects.specs.Loops.Reaper.{without_task}
use Rattle.swarm_objects.specs.Rows.{change_row, put_row, row_at, has_row, node_id, service_id, task_id, Has, IsBelow, RisesFrom}
use Rattle.swarm_objects.specs.Sound.{IsSound}
use Rattle.swarm_objects.specs.Tasks.New.{new_task, with_task}
use Rattle.swarm_objects.specs.Tasks.Places.{is_in_place, place_at, place_tasks, tasks_of_place}
use Rattle.swarm_objects.specs.Tasks.Words.{is_kept}
use Rattle.swarm_objects.specs.Values.Ranks.{rank}
use Rattle.swarm_objects.specs.World.{Tables}
use Rattle.swarm_objects.specs.declared.nodes.Node.{Node}
use Rattle.swarm_objects.specs.declared.rows.Change.{Change}
use Rattle.swarm_objects.specs.declared.rows.Change.TheVariants as change
use Rattle.swarm_objects.specs.declared.services.Service.{Service}
use Rattle.swarm_objects.specs.declared.tasks.Attempt.{Attempt}
use Rattle.swarm_objects.specs.declared.tasks.Desired.{Desired}
use Rattle.swarm_objects.specs.declared.tasks.Desired.TheVariants as desired
use Rattle.swarm_objects.specs.declared.tasks.Note.{Note}
use Rattle.swarm_objects.specs.declared.tasks.Place.{Place}
use Rattle.swarm_objects.specs.declared.tasks.Task.{Task}
use Rattle.swarm_objects.specs.declared.tasks.TaskState.{TaskState}
use Rattle.swarm_objects.proofs.RowLemmas.{change_row_above, put_row-change, row_at-Some, Has-from_row_at, Has-filter_cases, RisesFrom-filter, RisesFrom-map, IsBelow-map}
use Rattle.swarm_objects.proofs.RowChanges.{change_row-None, drop_row-None, rising_from, same_change}
use Rattle.swarm_objects.specs.ChangeLists.{apply_change, apply_changes, put_each, put_found as put_found_list, put_node_found, put_raised, drop_found, CanApplyAll, Makes}

pub change_none : (id : ℕ) (f : Task → Task) (t : Tables) → None ≡ row_at task_id id t.tasks → t ≡ change_task id f t
change_none id f t e = ap (λ rows. record t { tasks = rows }) (sym (change_row-None task_id id f t.tasks (sym e)))

there : (t : Tables) (x : Task) → IsSound t → Has t.tasks x → has_row task_id x.id t.tasks ≡ true
there t x sound h = ap is_some (row_at-Some task_id 0 t.tasks x sound.ordered.tasks h)

-- putting what a change makes of a task is the change
pub put_changed : (f : Task → Task) (t : Tables) (x : Task) → IsSound t → Has t.tasks x → (f x).id ≡ x.id
    → apply_change t (change.PutTask (f x)) ≡ change_task x.id f t
put_changed f t x sound h same =
    ap (λ b. cond b (record t { tasks = put_row task_id (f x) t.tasks }) (with_task t (f x)))
    (ap (λ id. has_row task_id id t.tasks) same ∙ there t x sound h)
    ∙ ap (λ rows. record t { tasks = rows }) (put_row-change task_id 0 f t.tasks x sound.ordered.tasks h same)

pub put_found : (f : Task → Task) (id : ℕ) (t : Tables) (x : Task) → IsSound t → Some x ≡ row_at task_id id t.tasks
    → (f x).id ≡ x.id → apply_changes t (change.PutTask (f x) ∷ []) ≡ change_task id f t
put_found f id t x sound e same =
    let h = Has-from_row_at task_id id t.tasks x (sym e) in put_changed f t x sound h.0 same
    ∙ ap (λ k. change_task k f t) h.1

-- a task with the next id is new

row_at-None_past : {X : Type 0} (key : X → ℕ) (bound id : ℕ) (rows : List X) → IsBelow key bound rows → bound ≤ id
    → row_at key id rows ≡ None
row_at-None_past key bound id [] b le = refl
row_at-None_past key bound id (x ∷ rows) b le = grind (arith, nat_tests, b.0, row_at-None_past key bound id rows b.1 le)

pub put_new : (t : Tables) (x : Task) → IsSound t → x.id ≡ t.next_id → apply_change t (change.PutTask x) ≡ with_task t x
put_new t x sound e =
    let gone : row_at task_id x.id t.tasks ≡ None =
    row_at-None_past task_id t.next_id x.id t.tasks sound.below.tasks (omega (arith, e)) in
    ap (λ o. cond (is_some o) (record t { tasks = put_row task_id x t.tasks }) (with_task t x)) gone

-- all rows that pass a test, one put after the other

abbrev pub puts : (Task → Task) → List Task → List Task → List Task
puts f [] rows = rows
puts f (x ∷ xs) rows = puts f xs (put_row task_id (f x) rows)

pub puts_below : (f : Task → Task) (n : ℕ) (xs : List Task) (z : Task) (rows : List Task) → ((x : Task) → (f x).id ≡ x.id)
    → RisesFrom task_id n xs → z.id ≤ n → puts f xs (z ∷ rows) ≡ z ∷ puts f xs rows
puts_below f n [] z rows same r le = refl
puts_below f n (x ∷ xs) z rows same r le =
    let other : eqb z.id (f x).id ≡ false = grind (arith, nat_tests, same x, r.0) in
    ap (λ b. puts f xs (cond b (f x) z ∷ put_row task_id (f x) rows)) other
    ∙ puts_below f x.id xs z (put_row task_id (f x) rows) same r.1 (omega (arith, r.0))

puts_where : (test : Task → Bool) (f : Task → Task) (n : ℕ) (rows : List Task) → ((x : Task) → (f x).id ≡ x.id)
    → RisesFrom task_id n rows
    → puts f (filter test rows) rows ≡ map (λ x. cond (test x) (f x) x) rows
puts_where test f n [] same r = refl
puts_where test f n (x ∷ rows) same r = go (test x) (puts_where test f x.id rows same r.1)
  where
    rises : RisesFrom task_id x.id (filter test rows)
    rises = RisesFrom-filter task_id x.id test rows r.1

    go : (b : Bool) → puts f (filter test rows) rows ≡ map (λ y. cond (test y) (f y) y) rows
        → puts f (cond b (x ∷ filter test rows) (filter test rows)) (x ∷ rows) ≡ cond b (f x) x
        ∷ map (λ y. cond (test y) (f y) y) rows
    go true e =
        let self : eqb x.id (f x).id ≡ true = grind (arith, nat_tests, same x) in
        let above : put_row task_id (f x) rows ≡ rows =
        change_row_above task_id x.id (f x).id (λ _. f x) rows r.1 (omega (arith, same x)) in
        ap (λ b. puts f (filter test rows) (cond b (f x) x ∷ put_row task_id (f x) rows)) self
        ∙ ap (λ zs. puts f (filter test rows) (f x ∷ zs)) above
        ∙ puts_below f x.id (filter test rows) (f x) rows same rises (omega (arith, same x))
        ∙ ap (λ zs. f x ∷ zs) e
    go false e = puts_below f x.id (filter test rows) x rows same rises (omega arith) ∙ ap (λ zs. x ∷ zs) e

-- the puts stay puts
put_keeps : (f : Task → Task) (x : Task) (id : ℕ) (rows : List Task) → (f x).id ≡ x.id
    → has_row task_id id (put_row task_id (f x) rows) ≡ has_row task_id id rows
put_keeps f x id [] same = refl
put_keeps f x id (y ∷ rows) same = go (eqb y.id (f x).id) refl (put_keeps f x id rows same)
  where
    go : (b : Bool) → eqb y.id (f x).id ≡ b → has_row task_id id (put_row task_id (f x) rows) ≡ has_row task_id id rows
        → is_some (cond (eqb (cond b (f x) y).id id) (Some (cond b (f x) y))
        (row_at task_id id (put_row task_id (f x) rows)))
        ≡ is_some (cond (eqb y.id id) (Some y) (row_at task_id id rows))
    go true q e =
        let is : y.id ≡ (f x).id = grind (arith, nat_tests) in
        ap (λ k. is_some (cond (eqb k id) (Some (f x)) (row_at task_id id (put_row task_id (f x) rows)))) (sym is)
        ∙ either (eqb y.id id) e
      where
        either : (c : Bool) → has_row task_id id (put_row task_id (f x) rows) ≡ has_row task_id id rows
            → is_some (cond c (Some (f x)) (row_at task_id id (put_row task_id (f x) rows)))
            ≡ is_some (cond c (Some y) (row_at task_id id rows))
        either true k = refl
        either false k = k
    go false q e = either (eqb y.id id) e
      where
        either : (c : Bool) → has_row task_id id (put_row task_id (f x) rows) ≡ has_row task_id id rows
            → is_some (cond c (Some y) (row_at task_id id (put_row task_id (f x) rows)))
            ≡ is_some (cond c (Some y) (row_at task_id id rows))
        either true k = refl
        either false k = k

abbrev AreThere : List Task → List Task → Type 0
AreThere xs rows = (x : Task) → Has xs x → has_row task_id x.id rows ≡ true

pub applied_puts : (f : Task → Task) (xs : List Task) (t : Tables) → ((x : Task) → (f x).id ≡ x.id) → AreThere xs t.tasks
    → apply_changes t (map (λ x. change.PutTask (f x)) xs) ≡ record t { tasks = puts f xs t.tasks }
applied_puts f [] t same are = refl
applied_puts f (x ∷ xs) t same are =
    let is : has_row task_id (f x).id t.tasks ≡ true = ap (λ id. has_row task_id id t.tasks) (same x)
    ∙ are x (inl refl) in
    ap (λ b. apply_changes (cond b (record t { tasks = put_row task_id (f x) t.tasks }) (with_task t (f x)))
    (map (λ y. change.PutTask (f y)) xs)) is
    ∙ applied_puts f xs (record t { tasks = put_row task_id (f x) t.tasks }) same
    (λ y h. put_keeps f x y.id t.tasks (same x) ∙ are y (inr h))

pub applied_where : (test : Task → Bool) (f : Task → Task) (t : Tables) → IsSound t → ((x : Task) → (f x).id ≡ x.id)
    → apply_changes t (map (λ x. change.PutTask (f x)) (filter test t.tasks)) ≡ change_where test f t
applied_where test f t sound same =
    applied_puts f (filter test t.tasks) t same (λ x h. there t x sound (Has-filter_cases test t.tasks x h).0)
    ∙ ap (λ rows. record t { tasks = rows }) (puts_where test f 0 t.tasks same sound.ordered.tasks)

pub filter_both : {X : Type 0} (p q : X → Bool) (xs : List X) → filter q (filter p xs) ≡ filter (λ x. p x && q x) xs
filter_both p q [] = refl
filter_both p q (x ∷ xs) = go (p x) (filter_both p q xs)
  where
    go : (b : Bool) → filter q (filter p xs) ≡ filter (λ y. p y && q y) xs
        → filter q (cond b (x ∷ filter p xs) (filter p xs))
        ≡ cond (b && q x) (x ∷ filter (λ y. p y && q y) xs) (filter (λ y. p y && q y) xs)
    go true e = ap (λ zs. cond (q x) (x ∷ zs) zs) e
    go false e = e

-- Tables stay sound under changes of tasks that keep their ids.

keeps_id : (test : Task → Bool) (f : Task → Task) → ((x : Task) → (f x).id ≡ x.id) → (x : Task)
    → (cond (test x) (f x) x).id ≡ x.id
keeps_id test f same x = go (test x)
  where
    go : (b : Bool) → (cond b (f x) x).id ≡ x.id
    go true = same x
    go false = refl

pub sound_where : (test : Task → Bool) (f : Task → Task) (t : Tables) → IsSound t → ((x : Task) → (f x).id ≡ x.id)
    → IsSound (change_where test f t)
sound_where test f t sound same = record {
  ordered = record {
    nodes = sound.ordered.nodes;
    services = sound.ordered.services;
    tasks = RisesFrom-map task_id 0 (λ x. cond (test x) (f x) x) t.tasks (keeps_id test f same) sound.ordered.tasks;
    networks = sound.ordered.networks;
    sessions = sound.ordered.sessions;
  };
  below = record {
    nodes = sound.below.nodes;
    services = sound.below.services;
    tasks = IsBelow-map task_id t.next_id (λ x. cond (test x) (f x) x) t.tasks (keeps_id test f same) sound.below.tasks;
    networks = sound.below.networks;
  };
  subnets = sound.subnets;
}

-- the tasks of a place that pass a test
pub applied_in_place : (test : Task → Bool) (f : Task → Task) (s : Service) (p : Place) (t : Tables) → IsSound t
    → ((x : Task) → (f x).id ≡ x.id)
    → apply_changes t (map (λ x. change.PutTask (f x)) (filter test (tasks_of_place s p t.tasks)))
    ≡ change_where (λ x. is_in_place s p x && test x) f t
applied_in_place test f s p t sound same =
    ap (λ xs. apply_changes t (map (λ x. change.PutTask (f x)) xs)) (filter_both (is_in_place s p) test t.tasks)
    ∙ applied_where (λ x. is_in_place s p x && test x) f t sound same

pub applied_append : (t : Tables) (xs ys : List Change) → apply_changes t (xs ++ ys)
    ≡ apply_changes (apply_changes t xs) ys
applied_append t [] ys = refl
applied_append t (x ∷ xs) ys = applied_append (apply_change t x) xs ys

-- a service that is there
pub put_service : (f : Service → Service) (t : Tables) (s : Service) → RisesFrom service_id 0 t.services
    → Has t.services s → (f s).id ≡ s.id
    → apply_change t (change.PutService (f s)) ≡ record t { services = change_row service_id s.id f t.services }
put_service f t s r h same =
    ap (λ rows. record t { services = rows }) (put_row-change service_id 0 f t.services s r h same)

-- Changes that may be applied, and what they make.

pub makes_none : (t : Tables) (cs : List Change) → cs ≡ [] → Makes t cs t
makes_none t cs e = subst (λ ds. Makes t ds t) (sym e) (record { can = tt; gives = refl })

pub service_makes : (f : Service → Service) (t : Tables) (s : Service) → IsSound t → Some s
    ≡ row_at service_id s.id t.services
    → (f s).id ≡ s.id → Makes t (change.PutService (f s) ∷ []) (change_service s.id f t)
service_makes f t s sound e same = record {
  can = (ap (λ id. has_row service_id id t.services) same ∙ ap is_some (sym e), tt);
  gives = put_service f t s sound.ordered.services (Has-from_row_at service_id s.id t.services s (sym e)).0 same;
}

pub makes_found : (f : Task → Task) (id : ℕ) (t : Tables) (x : Task) → IsSound t → Some x ≡ row_at task_id id t.tasks
    → ((y : Task) → (f y).id ≡ y.id) → Makes t (change.PutTask (f x) ∷ []) (change_task id f t)
makes_found f id t x sound e same = record {
  can = (
    inl (ap (λ k. has_row task_id k t.tasks) (same x)
        ∙ there t x sound (Has-from_row_at task_id id t.tasks x (sym e)).0),
    tt,
  );
  gives = put_found f id t x sound e (same x);
}

pub makes_new : (t : Tables) (x : Task) → IsSound t → x.id ≡ t.next_id → Makes t (change.PutTask x ∷ []) (with_task t x)
makes_new t x sound e = record { can = (inr e, tt); gives = put_new t x sound e }

pub can_puts : (f : Task → Task) (xs : List Task) (t : Tables) → ((x : Task) → (f x).id ≡ x.id) → AreThere xs t.tasks
    → CanApplyAll t (map (λ x. change.PutTask (f x)) xs)
can_puts f [] t same are = tt
can_puts f (x ∷ xs) t same are =
    let is : has_row task_id (f x).id t.tasks ≡ true = ap (λ id. has_row task_id id t.tasks) (same x)
    ∙ are x (inl refl) in (
      inl is,
      subst (λ u. CanApplyAll u (map (λ y. change.PutTask (f y)) xs))
          (sym (ap (λ b. cond b (record t { tasks = put_row task_id (f x) t.tasks }) (with_task t (f x))) is))
          (can_puts f xs (record t { tasks = put_row task_id (f x) t.tasks }) same
          (λ y h. put_keeps f x y.id t.tasks (same x) ∙ are y (inr h))),
    )

pub makes_in_place : (test : Task → Bool) (f : Task → Task) (s : Service) (p : Place) (t : Tables) → IsSound t
    → ((x : Task) → (f x).id ≡ x.id)
    → Makes t (map (λ x. change.PutTask (f x)) (filter test (tasks_of_place s p t.tasks)))
    (change_where (λ x. is_in_place s p x && test x) f t)
makes_in_place test f s p t sound same = record {
  can =
      can_puts f (filter test (tasks_of_place s p t.tasks)) t same
      (λ x h. there t x sound (Has-filter_cases (is_in_place s p) t.tasks x
      (Has-filter_cases test (tasks_of_place s p t.tasks) x h).0).0);
  gives = applied_in_place test f s p t sound same;
}

-- one change behind another
can_append : (t : Tables) (xs ys : List Change) → CanApplyAll t xs → CanApplyAll (apply_changes t xs) ys
    → CanApplyAll t (xs ++ ys)
can_append t [] ys a b = b
can_append t (x ∷ xs) ys a b = (a.0, can_append (apply_change t x) xs ys a.1 b)

pub makes_append : (t u v : Tables) (xs ys : List Change) → Makes t xs u → Makes u ys v → Makes t (xs ++ ys) v
makes_append t u v xs ys m n = record {
  can = can_append t xs ys m.can (subst (λ w. CanApplyAll w ys) (sym m.gives) n.can);
  gives = applied_append t xs ys ∙ ap (λ w. apply_changes w ys) m.gives ∙ n.gives;
}

-- Told of a list that equals the changes.

pub each_makes : (test : Task → Bool) (f : Task → Task) (s : Service) (p : Place) (t : Tables) (cs : List Change)
    → IsSound t
    → ((x : Task) → (f x).id ≡ x.id) → cs ≡ put_each test f (tasks_of_place s p t.tasks)
    → Makes t cs (change_where (λ x. is_in_place s p x && test x) f t)
each_makes test f s p t cs sound same e =
    subst (λ ds. Makes t ds (change_where (λ x. is_in_place s p x && test x) f t)) (sym e)
    (makes_in_place test f s p t sound same)

pub removals_make : (version : ℕ) (s : Service) (k : ℕ) (t : Tables) (cs : List Change) → IsSound t
    → cs ≡ put_each is_kept (wanted version desired.Remove) (place_tasks t s k)
    → Makes t cs (without_place version t s k)
removals_make version s k t cs sound e =
    each_makes is_kept (wanted version desired.Remove) s (place_at s.spec.mode k) t cs sound (λ x. refl) e

pub new_makes : (t : Tables) (x : Task) (cs : List Change) → IsSound t → x.id ≡ t.next_id → cs ≡ change.PutTask x ∷ []
    → Makes t cs (with_task t x)
new_makes t x cs sound same e = subst (λ ds. Makes t ds (with_task t x)) (sym e) (makes_new t x sound same)

pub newcomer_makes : (version : ℕ) (t : Tables) (s : Service) (k : ℕ) (d : Desired) (cs : List Change) → IsSound t
    → cs ≡ change.PutTask (new_task version t s (place_at s.spec.mode k) d) ∷ [] → Makes t cs (with_new version d t s k)
newcomer_makes version t s k d cs sound e =
    new_makes t (new_task version t s (place_at s.spec.mode k) d) cs sound refl e

pub found_makes : (f : Task → Task) (id : ℕ) (t : Tables) (cs : List Change) → IsSound t
    → ((x : Task) → (f x).id ≡ x.id)
    → cs ≡ put_found_list f (row_at task_id id t.tasks) → Makes t cs (change_task id f t)
found_makes f id t cs sound same list = go (row_at task_id id t.tasks) refl list
  where
    go : (o : Option Task) → row_at task_id id t.tasks ≡ o → cs ≡ put_found_list f o → Makes t cs (change_task id f t)
    go None e l = subst (λ u. Makes t cs u) (change_none id f t (sym e)) (makes_none t cs l)
    go (Some x) e l = subst (λ ds. Makes t ds (change_task id f t)) (sym l) (makes_found f id t x sound (sym e) same)

pub wishes_make : (version : ℕ) (d : Desired) (id : ℕ) (t : Tables) (cs : List Change) → IsSound t
    → cs ≡ put_found_list (wanted version d) (row_at task_id id t.tasks)
    → Makes t cs (change_task id (wanted version d) t)
wishes_make version d id t cs sound list = found_makes (wanted version d) id t cs sound (λ x. refl) list

pub states_make : (version : ℕ) (s : TaskState) (id : ℕ) (t : Tables) (cs : List Change) → IsSound t
    → cs ≡ put_found_list (in_state version t.clock s) (row_at task_id id t.tasks)
    → Makes t cs (change_task id (in_state version t.clock s) t)
states_make version s id t cs sound list = found_makes (in_state version t.clock s) id t cs sound (λ x. refl) list

pub notes_make : (version : ℕ) (n : Note) (id : ℕ) (t : Tables) (cs : List Change) → IsSound t
    → cs ≡ put_found_list (noted version n) (row_at task_id id t.tasks)
    → Makes t cs (change_task id (noted version n) t)
notes_make version n id t cs sound list = found_makes (noted version n) id t cs sound (λ x. refl) list

-- A state that rises.

raised_id : (version clock : ℕ) (s : TaskState) (x : Task) → (raised_to version clock s x).id ≡ x.id
raised_id version clock s x = go (nat_lt (rank x.state) (rank s))
  where
    go : (b : Bool) → (cond b (in_state version clock s x) x).id ≡ x.id
    go true = refl
    go false = refl

-- a change that leaves the one row with the id as it is changes nothing
unchanged : (id : ℕ) (f : Task → Task) (t : Tables) (x : Task) → IsSound t → row_at task_id id t.tasks ≡ Some x
    → f x ≡ x → t ≡ change_task id f t
unchanged id f t x sound e same =
    ap (λ rows. record t { tasks = rows })
    (sym (same_change task_id id f (λ y. y) t.tasks x (rising_from task_id 0 t.tasks sound.ordered.tasks) e same
    ∙ itself t.tasks))
  where
    itself : (rows : List Task) → change_row task_id id (λ y. y) rows ≡ rows
    itself [] = refl
    itself (y ∷ rows) = go (eqb y.id id) (itself rows)
      where
        go : (b : Bool) → change_row task_id id (λ z. z) rows ≡ rows
            → cond b y y ∷ change_row task_id id (λ z. z) rows ≡ y ∷ rows
        go true k = ap (λ zs. y ∷ zs) k
        go false k = ap (λ zs. y ∷ zs) k

pub raises_make : (version : ℕ) (s : TaskState) (id : ℕ) (t : Tables) (cs : List Change) → IsSound t
    → cs ≡ put_raised version t.clock s (row_at task_id id t.tasks)
    → Makes t cs (change_task id (raised_to version t.clock s) t)
raises_make version s id t cs sound list = go (row_at task_id id t.tasks) refl list
  where
    f : Task → Task
    f = raised_to version t.clock s

    by_rank : (x : Task) → row_at task_id id t.tasks ≡ Some x → (b : Bool) → nat_lt (rank x.state) (rank s) ≡ b
        → cs ≡ cond b (change.PutTask (in_state version t.clock s x) ∷ []) [] → Makes t cs (change_task id f t)
    by_rank x e true above l =
        let is : f x ≡ in_state version t.clock s x = ap (λ b. cond b (in_state version t.clock s x) x) above in
        subst (λ ds. Makes t ds (change_task id f t)) (ap (λ y. change.PutTask y ∷ []) is ∙ sym l)
        (makes_found f id t x sound (sym e) (raised_id version t.clock s))
    by_rank x e false above l =
        subst (λ u. Makes t cs u)
        (unchanged id f t x sound e (ap (λ b. cond b (in_state version t.clock s x) x) above)) (makes_none t cs l)

    go : (o : Option Task) → row_at task_id id t.tasks ≡ o → cs ≡ put_raised version t.clock s o
        → Makes t cs (change_task id f t)
    go None e l = subst (λ u. Makes t cs u) (change_none id f t (sym e)) (makes_none t cs l)
    go (Some x) e l = by_rank x e (nat_lt (rank x.state) (rank s)) refl l

-- A task that goes.

pub drops_make : (id : ℕ) (t : Tables) (cs : List Change) → IsSound t → cs ≡ drop_found (row_at task_id id t.tasks)
    → Makes t cs (without_task id t)
drops_make id t cs sound list = go (row_at task_id id t.tasks) refl list
  where
    go : (o : Option Task) → row_at task_id id t.tasks ≡ o → cs ≡ drop_found o → Makes t cs (without_task id t)
    go None e l =
        subst (λ rows. Makes t cs (record t { tasks = rows })) (sym (drop_row-None task_id id t.tasks e))
        (makes_none t cs l)
    go (Some x) e l =
        let found = Has-from_row_at task_id id t.tasks x e in
        subst (λ ds. Makes t ds (without_task id t)) (sym l)
        (record { can = (there t x sound found.0, tt); gives = ap (λ k. without_task k t) found.1 })

-- Tables stay sound under a change of one task, and with an attempt more.

keeps_one_id : (id : ℕ) (f : Task → Task) → ((x : Task) → (f x).id ≡ x.id) → (x : Task)
    → (cond (eqb x.id id) (f x) x).id ≡ x.id
keeps_one_id id f same x = go (eqb x.id id)
  where
    go : (b : Bool) → (cond b (f x) x).id ≡ x.id
    go true = same x
    go false = refl

pub sound_changed : (id : ℕ) (f : Task → Task) (t : Tables) → IsSound t → ((x : Task) → (f x).id ≡ x.id)
    → IsSound (change_task id f t)
sound_changed id f t sound same = record {
  ordered = record {
    nodes = sound.ordered.nodes;
    services = sound.ordered.services;
    tasks =
        RisesFrom-map task_id 0 (λ x. cond (eqb x.id id) (f x) x) t.tasks (keeps_one_id id f same) sound.ordered.tasks;
    networks = sound.ordered.networks;
    sessions = sound.ordered.sessions;
  };
  below = record {
    nodes = sound.below.nodes;
    services = sound.below.services;
    tasks =
        IsBelow-map task_id t.next_id (λ x. cond (eqb x.id id) (f x) x) t.tasks
        (keeps_one_id id f same) sound.below.tasks;
    networks = sound.below.networks;
  };
  subnets = sound.subnets;
}

pub sound_kept : (t : Tables) (a : Attempt) → IsSound t → IsSound (record t { attempts = t.attempts ++ a ∷ [] })
sound_kept t a sound = record {
  ordered = record {
    nodes = sound.ordered.nodes;
    services = sound.ordered.services;
    tasks = sound.ordered.tasks;
    networks = sound.ordered.networks;
    sessions = sound.ordered.sessions;
  };
  below = record {
    nodes = sound.below.nodes;
    services = sound.below.services;
    tasks = sound.below.tasks;
    networks = sound.below.networks;
  };
  subnets = sound.subnets;
}

pub makes_kept : (t : Tables) (a : Attempt)
    → Makes t (change.Keep a ∷ []) (record t { attempts = t.attempts ++ a ∷ [] })
makes_kept t a = record { can = (tt, tt); gives = refl }

-- a row that is found has the id by which it is found
pub there_by_id : (id : ℕ) (t : Tables) (x : Task) → Some x ≡ row_at task_id id t.tasks → Some x
    ≡ row_at task_id x.id t.tasks
there_by_id id t x e = e ∙ ap (λ k. row_at task_id k t.tasks) (sym (Has-from_row_at task_id id t.tasks x (sym e)).1)

-- A node.

node_makes : (f : Node → Node) (id : ℕ) (t : Tables) (n : Node) → IsSound t → Some n ≡ row_at node_id id t.nodes
    → ((m : Node) → (f m).id ≡ m.id) → Makes t (change.PutNode (f n) ∷ []) (change_node id f t)
node_makes f id t n sound e same =
    let h = Has-from_row_at node_id id t.nodes n (sym e) in
    let is : has_row node_id n.id t.nodes ≡ true =
    ap is_some (row_at-Some node_id 0 t.nodes n sound.ordered.nodes h.0) in record {
      can = (ap (λ k. has_row node_id k t.nodes) (same n) ∙ is, tt);
      gives =
          ap (λ rows. record t { nodes = rows })
          (put_row-change node_id 0 f t.nodes n sound.ordered.nodes h.0 (same n)
          ∙ ap (λ k. change_row node_id k f t.nodes) h.1);
    }

pub node_found_makes : (f : Node → Node) (id : ℕ) (t : Tables) (cs : List Change) → IsSound t
    → ((n : Node) → (f n).id ≡ n.id)
    → cs ≡ put_node_found f (row_at node_id id t.nodes) → Makes t cs (change_node id f t)
node_found_makes f id t cs sound same list = go (row_at node_id id t.nodes) refl list
  where
    go : (o : Option Node) → row_at node_id id t.nodes ≡ o → cs ≡ put_node_found f o → Makes t cs (change_node id f t)
    go None e l =
        subst (λ rows. Makes t cs (record t { nodes = rows })) (sym (change_row-None node_id id f t.nodes e))
        (makes_none t cs l)
    go (Some n) e l = subst (λ ds. Makes t ds (change_node id f t)) (sym l) (node_makes f id t n sound (sym e) same)
