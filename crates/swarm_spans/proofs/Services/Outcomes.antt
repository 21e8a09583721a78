-- What a list of changes makes of each row.
use Rattle.std.proofs.Common.{Bool, List, None, Option, Some, [], ap, cond, eqb, false, inl, inr, refl, subst, sym, true, ℕ, arith, ◌++◌, ◌∙◌, ◌∷◌, ◌≡◌, ◌⊎◌}
use Rattle.std.proofs.lemmas.Bool.Decides.{nat_tests}
use Rattle.std.specs.List.{list_any}
use Rattle.std.specs.Prelude.{is_some}
use Rattle.swarm_objects.specs.ChangeLists.{apply_change, apply_changes, put_task}
use Rattle.swarm_objects.specs.Rows.{Has, drop_row, has_row, put_row, row_at, service_id, task_id}
use Rattle.swarm_objects.specs.Tasks.New.{with_task}
use Rattle.swarm_objects.specs.World.{Tables}
use Rattle.swarm_objects.specs.declared.rows.Change.{Change}
use Rattle.swarm_objects.specs.declared.rows.Change.TheVariants as change
use Rattle.swarm_objects.specs.declared.services.Service.{Service}
use Rattle.swarm_objects.specs.declared.tasks.Task.{Task}
use Rattle.swarm_spans.specs.Services.Touches.{puts_node}

-- A put and a drop, row by row.

at-put : {X : Type 0} (key : X → ℕ) (new : X) (rows : List X) (id : ℕ)
    → row_at key id (put_row key new rows)
    ≡ cond (eqb (key new) id) (cond (is_some (row_at key id rows)) (Some new) None) (row_at key id rows)
at-put key new [] id = grind (arith, nat_tests)
at-put key new (x ∷ rows) id = grind (arith, nat_tests, at-put key new rows id)

at-drop : {X : Type 0} (key : X → ℕ) (gone : ℕ) (rows : List X) (id : ℕ)
    → row_at key id (drop_row key gone rows) ≡ cond (eqb gone id) None (row_at key id rows)
at-drop key gone [] id = grind (arith, nat_tests)
at-drop key gone (x ∷ rows) id = grind (arith, nat_tests, at-drop key gone rows id)

at-push : {X : Type 0} (key : X → ℕ) (new : X) (rows : List X) (id : ℕ)
    → row_at key id (rows ++ new ∷ [])
    ≡ cond (is_some (row_at key id rows)) (row_at key id rows) (cond (eqb (key new) id) (Some new) None)
at-push key new [] id = refl
at-push {X} key new (x ∷ rows) id = go (eqb (key x) id) (at-push key new rows id)
  where
    go : (b : Bool)
        → row_at key id (rows ++ new ∷ [])
        ≡ cond (is_some (row_at key id rows)) (row_at key id rows) (cond (eqb (key new) id) (Some new) None)
        → cond b (Some x) (row_at key id (rows ++ new ∷ []))
        ≡ cond (is_some (cond b (Some x) (row_at key id rows))) (cond b (Some x) (row_at key id rows))
        (cond (eqb (key new) id) (Some new) None)
    go true k = refl
    go false k = k

-- of a task, what it is after: as before, or put, or gone
abbrev pub TaskTurns : Tables → List Change → ℕ → Option Task → Type 0
TaskTurns t cs id o =
    (o ≡ row_at task_id id t.tasks)
    ⊎ (((x : Task) × Has cs (change.PutTask x) × (x.id ≡ id) × (o ≡ Some x))
    ⊎ (Has cs (change.DropTask id) × (o ≡ None)))

put-turns : (t : Tables) (x : Task) (id : ℕ)
    → (row_at task_id id (put_task t x).tasks ≡ row_at task_id id t.tasks)
    ⊎ ((x.id ≡ id) × (row_at task_id id (put_task t x).tasks ≡ Some x))
put-turns t x id = go (has_row task_id x.id t.tasks) refl
  where
    split : (b : Bool) → eqb x.id id ≡ b → (rows : List Task)
        → row_at task_id id rows ≡ cond b (Some x) (row_at task_id id t.tasks)
        → (row_at task_id id rows ≡ row_at task_id id t.tasks) ⊎ ((x.id ≡ id) × (row_at task_id id rows ≡ Some x))
    split true e rows k = inr (grind (arith, nat_tests, e), k)
    split false e rows k = inl k

    shown : (b : Bool) → has_row task_id x.id t.tasks ≡ b → (c : Bool) → eqb x.id id ≡ c
        → row_at task_id id (cond b (record t { tasks = put_row task_id x t.tasks }) (with_task t x)).tasks
        ≡ cond c (Some x) (row_at task_id id t.tasks)
    shown true there true e =
        let same : x.id ≡ id = grind (arith, nat_tests, e) in
        at-put task_id x t.tasks id
        ∙ ap (λ b. cond b (cond (is_some (row_at task_id id t.tasks)) (Some x) None) (row_at task_id id t.tasks)) e
        ∙ ap (λ b. cond b (Some x) None) (subst (λ k. has_row task_id k t.tasks ≡ true) same there)
    shown true there false e =
        at-put task_id x t.tasks id
        ∙ ap (λ b. cond b (cond (is_some (row_at task_id id t.tasks)) (Some x) None) (row_at task_id id t.tasks)) e
    shown false absent true e =
        let same : x.id ≡ id = grind (arith, nat_tests, e) in
        at-push task_id x t.tasks id
        ∙ ap (λ b. cond b (row_at task_id id t.tasks) (cond (eqb x.id id) (Some x) None))
        (subst (λ k. has_row task_id k t.tasks ≡ false) same absent)
        ∙ ap (λ b. cond b (Some x) None) e
    shown false absent false e =
        at-push task_id x t.tasks id
        ∙ ap (λ b. cond (is_some (row_at task_id id t.tasks)) (row_at task_id id t.tasks) (cond b (Some x) None)) e
        ∙ itself (row_at task_id id t.tasks)
      where
        itself : (o : Option Task) → cond (is_some o) o None ≡ o
        itself None = refl
        itself (Some z) = refl

    go : (b : Bool) → has_row task_id x.id t.tasks ≡ b
        → (row_at task_id id (put_task t x).tasks ≡ row_at task_id id t.tasks)
        ⊎ ((x.id ≡ id) × (row_at task_id id (put_task t x).tasks ≡ Some x))
    go b e =
        split (eqb x.id id) refl (put_task t x).tasks (shown (has_row task_id x.id t.tasks) refl (eqb x.id id) refl)

one-turns : (t : Tables) (c : Change) (cs : List Change) (id : ℕ)
    → TaskTurns t (c ∷ cs) id (row_at task_id id (apply_change t c).tasks)
one-turns t (change.PutNode n) cs id = inl refl
one-turns t (change.PutService s) cs id = inl refl
one-turns t (change.Keep a) cs id = inl refl
one-turns t (change.PutTask x) cs id =
    elim (put-turns t x id) [ inl same ↦ inl same | inr new ↦ inr (inl (x, inl refl, new.0, new.1)) ]
one-turns t (change.DropTask gone) cs id = go (eqb gone id) refl
  where
    go : (b : Bool) → eqb gone id ≡ b
        → TaskTurns t (change.DropTask gone ∷ cs) id (row_at task_id id (drop_row task_id gone t.tasks))
    go true e =
        let same : gone ≡ id = grind (arith, nat_tests, e) in
        inr (inr (
          inl (ap (λ k. change.DropTask k) same),
          at-drop task_id gone t.tasks id ∙ ap (λ b. cond b None (row_at task_id id t.tasks)) e,
        ))
    go false e = inl (at-drop task_id gone t.tasks id ∙ ap (λ b. cond b None (row_at task_id id t.tasks)) e)

pub task-turns : (t : Tables) (cs : List Change) (id : ℕ)
    → TaskTurns t cs id (row_at task_id id (apply_changes t cs).tasks)
task-turns t [] id = inl refl
task-turns t (c ∷ cs) id = go (row_at task_id id (apply_changes (apply_change t c) cs).tasks)
    (task-turns (apply_change t c) cs id)
  where
    go : (o : Option Task) → TaskTurns (apply_change t c) cs id o → TaskTurns t (c ∷ cs) id o
    go o (inl same) = subst (TaskTurns t (c ∷ cs) id) (sym same) (one-turns t c cs id)
    go o (inr (inl put)) = inr (inl (put.0, inr put.1, put.2, put.3))
    go o (inr (inr gone)) = inr (inr (inr gone.0, gone.1))

-- A put of a task leaves the rest.

pub put-services : (t : Tables) (x : Task) → (put_task t x).services ≡ t.services
put-services t x = go (has_row task_id x.id t.tasks)
  where
    go : (b : Bool) → (cond b (record t { tasks = put_row task_id x t.tasks }) (with_task t x)).services ≡ t.services
    go true = refl
    go false = refl

pub put-nodes : (t : Tables) (x : Task) → (put_task t x).nodes ≡ t.nodes
put-nodes t x = go (has_row task_id x.id t.tasks)
  where
    go : (b : Bool) → (cond b (record t { tasks = put_row task_id x t.tasks }) (with_task t x)).nodes ≡ t.nodes
    go true = refl
    go false = refl

pub put-clock : (t : Tables) (x : Task) → (put_task t x).clock ≡ t.clock
put-clock t x = go (has_row task_id x.id t.tasks)
  where
    go : (b : Bool) → (cond b (record t { tasks = put_row task_id x t.tasks }) (with_task t x)).clock ≡ t.clock
    go true = refl
    go false = refl

pub put-settings : (t : Tables) (x : Task) → (put_task t x).settings ≡ t.settings
put-settings t x = go (has_row task_id x.id t.tasks)
  where
    go : (b : Bool) → (cond b (record t { tasks = put_row task_id x t.tasks }) (with_task t x)).settings ≡ t.settings
    go true = refl
    go false = refl

-- of a service: as before, or put
abbrev pub ServiceTurns : Tables → List Change → ℕ → Option Service → Type 0
ServiceTurns t cs id o =
    (o ≡ row_at service_id id t.services)
    ⊎ ((s : Service) × Has cs (change.PutService s) × (s.id ≡ id) × (o ≡ Some s))

one-service : (t : Tables) (c : Change) (cs : List Change) (id : ℕ)
    → ServiceTurns t (c ∷ cs) id (row_at service_id id (apply_change t c).services)
one-service t (change.PutNode n) cs id = inl refl
one-service t (change.PutTask x) cs id = inl (ap (row_at service_id id) (put-services t x))
one-service t (change.DropTask gone) cs id = inl refl
one-service t (change.Keep a) cs id = inl refl
one-service t (change.PutService s) cs id = go (eqb s.id id) refl (row_at service_id id t.services) refl
  where
    go : (b : Bool) → eqb s.id id ≡ b → (o : Option Service) → row_at service_id id t.services ≡ o
        → ServiceTurns t (change.PutService s ∷ cs) id (row_at service_id id (put_row service_id s t.services))
    go false e o k =
        inl (at-put service_id s t.services id
        ∙ ap (λ b. cond b (cond (is_some (row_at service_id id t.services)) (Some s) None)
        (row_at service_id id t.services)) e)
    go true e None k =
        inl (at-put service_id s t.services id
        ∙ ap (λ b. cond b (cond (is_some (row_at service_id id t.services)) (Some s) None)
        (row_at service_id id t.services)) e
        ∙ ap (λ o. cond (is_some o) (Some s) None) k ∙ sym k)
    go true e (Some z) k =
        inr (
          s,
          inl refl,
          grind (arith, nat_tests, e),
          at-put service_id s t.services id
              ∙ ap (λ b. cond b (cond (is_some (row_at service_id id t.services)) (Some s) None)
              (row_at service_id id t.services)) e
              ∙ ap (λ o. cond (is_some o) (Some s) None) k,
        )

pub service-turns : (t : Tables) (cs : List Change) (id : ℕ)
    → ServiceTurns t cs id (row_at service_id id (apply_changes t cs).services)
service-turns t [] id = inl refl
service-turns t (c ∷ cs) id = go (row_at service_id id (apply_changes (apply_change t c) cs).services)
    (service-turns (apply_change t c) cs id)
  where
    go : (o : Option Service) → ServiceTurns (apply_change t c) cs id o → ServiceTurns t (c ∷ cs) id o
    go o (inl same) = subst (ServiceTurns t (c ∷ cs) id) (sym same) (one-service t c cs id)
    go o (inr put) = inr (put.0, inr put.1, put.2, put.3)

-- Whole tables.

pub no-node-put : (t : Tables) (cs : List Change) → list_any puts_node cs ≡ false
    → (apply_changes t cs).nodes ≡ t.nodes
no-node-put t [] e = refl
no-node-put t (change.PutNode n ∷ cs) e = absurd cc
no-node-put t (change.PutService s ∷ cs) e = no-node-put (apply_change t (change.PutService s)) cs e
no-node-put t (change.PutTask x ∷ cs) e = no-node-put (apply_change t (change.PutTask x)) cs e ∙ put-nodes t x
no-node-put t (change.DropTask id ∷ cs) e = no-node-put (apply_change t (change.DropTask id)) cs e
no-node-put t (change.Keep a ∷ cs) e = no-node-put (apply_change t (change.Keep a)) cs e

pub same-clock : (t : Tables) (cs : List Change) → (apply_changes t cs).clock ≡ t.clock
same-clock t [] = refl
same-clock t (change.PutNode n ∷ cs) = same-clock (apply_change t (change.PutNode n)) cs
same-clock t (change.PutService s ∷ cs) = same-clock (apply_change t (change.PutService s)) cs
same-clock t (change.PutTask x ∷ cs) = same-clock (apply_change t (change.PutTask x)) cs ∙ put-clock t x
same-clock t (change.DropTask id ∷ cs) = same-clock (apply_change t (change.DropTask id)) cs
same-clock t (change.Keep a ∷ cs) = same-clock (apply_change t (change.Keep a)) cs

pub same-settings : (t : Tables) (cs : List Change) → (apply_changes t cs).settings ≡ t.settings
same-settings t [] = refl
same-settings t (change.PutNode n ∷ cs) = same-settings (apply_change t (change.PutNode n)) cs
same-settings t (change.PutService s ∷ cs) = same-settings (apply_change t (change.PutService s)) cs
same-settings t (change.PutTask x ∷ cs) = same-settings (apply_change t (change.PutTask x)) cs ∙ put-settings t x
same-settings t (change.DropTask id ∷ cs) = same-settings (apply_change t (change.DropTask id)) cs
same-settings t (change.Keep a ∷ cs) = same-settings (apply_change t (change.Keep a)) cs
