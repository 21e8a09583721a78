-- Rows that stand in order stand so after every change.
use Rattle.std.proofs.Common.{◌≡◌, ℕ, ◌+◌, ◌<◌, ◌≤◌, Bool, true, false, cond, eqb, ◌⊎◌, inl, inr, List, [], ◌∷◌, ◌++◌, length, Option, Some, None, refl, sym, ap, ◌∙◌, subst, arith}
use Rattle.std.specs.Prelude.{is_some, filter}
use Rattle.std.proofs.lemmas.Bool.Decides.{nat_tests}
use Rattle.std.proofs.lemmas.List.{length-append, length-map}
use Rattle.std.proofs.lemmas.List.Sums.{count_by-le-length, length-filter}
use Rattle.swarm_objects.proofs.RowLemmas.{Has-from_row_at, IsBelow-map, IsBelow-more, RisesFrom-filter, RisesFrom-map, RisesFrom-push, number_above}
use Rattle.swarm_objects.specs.Rows.{IsBelow, RisesFrom, drop_row, has_row, network_id, node_id, put_row, row_at, service_id, task_id, with_row}
use Rattle.swarm_objects.specs.Sound.{IsBelowNext, IsOrdered}
use Rattle.swarm_objects.specs.Tasks.New.{with_task}
use Rattle.swarm_objects.specs.World.{Tables, World, empty_tables}
use Rattle.swarm_objects.specs.declared.nodes.Node.{Node}
use Rattle.swarm_objects.specs.declared.rows.Change.{Change}
use Rattle.swarm_objects.specs.declared.rows.Change.TheVariants as change
use Rattle.swarm_objects.specs.declared.services.Service.{Service}
use Rattle.swarm_objects.specs.declared.tasks.Task.{Task}
use Rattle.std.proofs.Common.{OnOk, OnErr, Result, Ok, Err}
use Rattle.swarm_model.specs.Changed.{changes_between}
use Rattle.swarm_objects.specs.declared.watches.Event.{Event}
use Rattle.swarm_objects.specs.ChangeLists.{CanApply, CanApplyAll, apply_change, apply_changes, put_task}
use Rattle.swarm_store.specs.Stored.{AppliesChanges, StandsFor, Stored, without_sessions}
use Rattle.swarm_store.proofs.ByKey.{with-last, with-put}
use Rattle.swarm_store.specs.Inside.State.{Stands}

-- One table.

pub key-put : {X : Type 0} (key : X → ℕ) (new x : X) → key (cond (eqb (key x) (key new)) new x) ≡ key x
key-put key new x = go (eqb (key x) (key new)) refl
  where
    go : (b : Bool) → eqb (key x) (key new) ≡ b → key (cond b new x) ≡ key x
    go true e = grind (arith, nat_tests)
    go false e = refl

pub same-count : {X : Type 0} (key : X → ℕ) (new : X) (rows : List X) → length (put_row key new rows) ≡ length rows
same-count key new rows = length-map rows (λ x. cond (eqb (key x) (key new)) new x)

pub few-left : {X : Type 0} (p : X → Bool) (rows : List X) → length (filter p rows) ≤ length rows
few-left p rows = rw (length-filter p rows) (count_by-le-length p rows)

pub rises-put : {X : Type 0} (key : X → ℕ) (n : ℕ) (new : X) (rows : List X) → RisesFrom key n rows →
    RisesFrom key n (put_row key new rows)
rises-put key n new rows r = RisesFrom-map key n (λ x. cond (eqb (key x) (key new)) new x) rows (key-put key new) r

pub below-put : {X : Type 0} (key : X → ℕ) (n : ℕ) (new : X) (rows : List X) → IsBelow key n rows →
    IsBelow key n (put_row key new rows)
below-put key n new rows b = IsBelow-map key n (λ x. cond (eqb (key x) (key new)) new x) rows (key-put key new) b

pub below-filter : {X : Type 0} (key : X → ℕ) (n : ℕ) (p : X → Bool) (rows : List X) → IsBelow key n rows →
    IsBelow key n (filter p rows)
below-filter key n p [] b = tt
below-filter key n p (x ∷ rows) b = go (p x) (below-filter key n p rows b.1)
  where
    go : (t : Bool) → IsBelow key n (filter p rows) → IsBelow key n (cond t (x ∷ filter p rows) (filter p rows))
    go true k = (b.0, k)
    go false k = k

pub below-push : {X : Type 0} (key : X → ℕ) (n : ℕ) (rows : List X) (x : X) → IsBelow key n rows → key x ≡ n →
    IsBelow key (n + 1) (rows ++ x ∷ [])
below-push key n [] x b e = (omega (arith, e), tt)
below-push key n (y ∷ rows) x b e = (omega (arith, b.0), below-push key n rows x b.1 e)

pub id-there : {X : Type 0} (key : X → ℕ) (id : ℕ) (rows : List X) → RisesFrom key 0 rows → has_row key id rows ≡ true → 0 < id
id-there key id rows r there = go (row_at key id rows) refl there
  where
    go : (row : Option _) → row_at key id rows ≡ row → is_some row ≡ true → 0 < id
    go None e h = absurd cc
    go (Some x) e h =
        let at = Has-from_row_at key id rows x e in
        let above = number_above key 0 rows x r at.0 in
        omega (arith, above, at.1)

-- All of them.

pub more-below : (t : Tables) → IsBelowNext t → IsBelowNext (record t { next_id = t.next_id + 1 })
more-below t is = record {
  nodes = IsBelow-more node_id t.next_id (t.next_id + 1) t.nodes (omega arith) is.nodes;
  services = IsBelow-more service_id t.next_id (t.next_id + 1) t.services (omega arith) is.services;
  tasks = IsBelow-more task_id t.next_id (t.next_id + 1) t.tasks (omega arith) is.tasks;
  networks = IsBelow-more network_id t.next_id (t.next_id + 1) t.networks (omega arith) is.networks;
}

put-nodes : (t : Tables) (n : Node) → Stands t → Stands (record t { nodes = put_row node_id n t.nodes })
put-nodes t n is = record {
  ordered = record {
    nodes = rises-put node_id 0 n t.nodes is.ordered.nodes;
    services = is.ordered.services;
    tasks = is.ordered.tasks;
    networks = is.ordered.networks;
    sessions = is.ordered.sessions;
  };
  below = record {
    nodes = below-put node_id t.next_id n t.nodes is.below.nodes;
    services = is.below.services;
    tasks = is.below.tasks;
    networks = is.below.networks;
  };
  ids = is.ids;
  few = (let was = is.few in omega (arith, was, same-count node_id n t.nodes));
}

put-services : (t : Tables) (s : Service) → Stands t → Stands (record t { services = put_row service_id s t.services })
put-services t s is = record {
  ordered = record {
    nodes = is.ordered.nodes;
    services = rises-put service_id 0 s t.services is.ordered.services;
    tasks = is.ordered.tasks;
    networks = is.ordered.networks;
    sessions = is.ordered.sessions;
  };
  below = record {
    nodes = is.below.nodes;
    services = below-put service_id t.next_id s t.services is.below.services;
    tasks = is.below.tasks;
    networks = is.below.networks;
  };
  ids = is.ids;
  few = (let was = is.few in omega (arith, was, same-count service_id s t.services));
}

pub new-tasks : (t : Tables) (tasks : List Task) → RisesFrom task_id 0 tasks → IsBelow task_id t.next_id tasks →
    length tasks ≤ length t.tasks → Stands t → Stands (record t { tasks = tasks })
new-tasks t tasks r b le is = record {
  ordered = record {
    nodes = is.ordered.nodes;
    services = is.ordered.services;
    tasks = r;
    networks = is.ordered.networks;
    sessions = is.ordered.sessions;
  };
  below = record {
    nodes = is.below.nodes;
    services = is.below.services;
    tasks = b;
    networks = is.below.networks;
  };
  ids = is.ids;
  few = (let was = is.few in omega (arith, was, le));
}

task-comes : (t : Tables) (x : Task) → x.id ≡ t.next_id → Stands t → Stands (with_task t x)
task-comes t x e is =
    let more = more-below t is.below in
    let below : IsBelow task_id x.id t.tasks = subst (λ n. IsBelow task_id n t.tasks) (sym e) is.below.tasks in
    record {
      ordered = record {
        nodes = is.ordered.nodes;
        services = is.ordered.services;
        tasks = RisesFrom-push task_id 0 t.tasks x is.ordered.tasks below (omega (arith, e, is.ids));
        networks = is.ordered.networks;
        sessions = is.ordered.sessions;
      };
      below = record {
        nodes = more.nodes;
        services = more.services;
        tasks = below-push task_id t.next_id t.tasks x is.below.tasks e;
        networks = more.networks;
      };
      ids = omega arith;
      few = (let was = is.few in omega (arith, was, length-append t.tasks (x ∷ [])));
    }

task-put : (t : Tables) (x : Task) → (has_row task_id x.id t.tasks ≡ true) ⊎ (x.id ≡ t.next_id) → Stands t → Stands (put_task t x)
task-put t x can is = go (has_row task_id x.id t.tasks) refl can
  where
    go : (b : Bool) → has_row task_id x.id t.tasks ≡ b → (b ≡ true) ⊎ (x.id ≡ t.next_id) →
        Stands (cond b (record t { tasks = put_row task_id x t.tasks }) (with_task t x))
    go true e c =
        new-tasks t (put_row task_id x t.tasks) (rises-put task_id 0 x t.tasks is.ordered.tasks)
        (below-put task_id t.next_id x t.tasks is.below.tasks) (omega (arith, same-count task_id x t.tasks)) is
    go false e (inl no') = absurd cc
    go false e (inr same) = task-comes t x same is

pub stands-change : (t : Tables) (c : Change) → Stands t → CanApply t c → Stands (apply_change t c)
stands-change t (change.PutNode n) is can = put-nodes t n is
stands-change t (change.PutService s) is can = put-services t s is
stands-change t (change.PutTask x) is can = task-put t x can is
stands-change t (change.DropTask id) is can =
    new-tasks t (drop_row task_id id t.tasks) (RisesFrom-filter task_id 0 _ t.tasks is.ordered.tasks)
    (below-filter task_id t.next_id _ t.tasks is.below.tasks) (few-left _ t.tasks) is
stands-change t (change.Keep a) is can =
    record { ordered = again-ordered t.attempts; below = again-below; ids = is.ids; few = is.few }
  where
    again-ordered : {A : Type 0} → A → IsOrdered (apply_change t (change.Keep a))
    again-ordered _ = record {
      nodes = is.ordered.nodes;
      services = is.ordered.services;
      tasks = is.ordered.tasks;
      networks = is.ordered.networks;
      sessions = is.ordered.sessions;
    }

    again-below : IsBelowNext (apply_change t (change.Keep a))
    again-below = record {
      nodes = is.below.nodes;
      services = is.below.services;
      tasks = is.below.tasks;
      networks = is.below.networks;
    }

-- What the code makes of the rows is what the change makes of them.

pub node-put : (t : Tables) (n : Node) (rows : List Node) → Stands t → has_row node_id n.id t.nodes ≡ true →
    rows ≡ with_row node_id n t.nodes → record t { nodes = rows } ≡ apply_change t (change.PutNode n)
node-put t n rows is there put =
    ap (λ xs. record t { nodes = xs }) (put ∙ with-put node_id 0 n t.nodes is.ordered.nodes there)

pub service-put : (t : Tables) (s : Service) (rows : List Service) → Stands t → has_row service_id s.id t.services ≡ true →
    rows ≡ with_row service_id s t.services → record t { services = rows } ≡ apply_change t (change.PutService s)
service-put t s rows is there put =
    ap (λ xs. record t { services = xs }) (put ∙ with-put service_id 0 s t.services is.ordered.services there)

pub known-task-put : (t : Tables) (x : Task) (rows : List Task) → Stands t → has_row task_id x.id t.tasks ≡ true →
    rows ≡ with_row task_id x t.tasks → record t { tasks = rows } ≡ put_task t x
known-task-put t x rows is there put =
    ap (λ xs. record t { tasks = xs }) (put ∙ with-put task_id 0 x t.tasks is.ordered.tasks there)
    ∙ sym (ap (λ b. cond b (record t { tasks = put_row task_id x t.tasks }) (with_task t x)) there)

pub new-task-put : (t : Tables) (x : Task) (next : ℕ) (rows : List Task) → Stands t → x.id ≡ t.next_id → next ≡ t.next_id + 1 →
    rows ≡ with_row task_id x t.tasks → record t { next_id = next; tasks = rows } ≡ with_task t x
new-task-put t x next rows is e more put =
    ap (λ n. record t { next_id = n; tasks = rows }) more
    ∙ ap (λ xs. record t { next_id = t.next_id + 1; tasks = xs })
    (put ∙ with-last task_id x t.tasks (subst (λ n. IsBelow task_id n t.tasks) (sym e) is.below.tasks))

pub unknown-task-put : (t u : Tables) (x : Task) → has_row task_id x.id t.tasks ≡ false → u ≡ with_task t x → u ≡ put_task t x
unknown-task-put t u x none is =
    is ∙ sym (ap (λ b. cond b (record t { tasks = put_row task_id x t.tasks }) (with_task t x)) none)

pub next-of : (t : Tables) (x : Task) → has_row task_id x.id t.tasks ≡ false → CanApply t (change.PutTask x) → x.id ≡ t.next_id
next-of t x none (inl there) = absurd cc
next-of t x none (inr same) = same

-- Changes one after the other.

pub record Next (t u : Tables) (rest : List Change) (all : Tables) : Type 0 where
  pub stands : Stands u
  pub can : CanApplyAll u rest
  pub left : apply_changes u rest ≡ all

pub next-change : (t u all : Tables) (c : Change) (items rest : List Change) → items ≡ c ∷ rest → Stands t → CanApplyAll t items →
    apply_changes t items ≡ all → u ≡ apply_change t c → Next t u rest all
next-change t u all c items rest same is can left made =
    let cans : CanApplyAll t (c ∷ rest) = subst (CanApplyAll t) same can in
    record {
      stands = subst Stands (sym made) (stands-change t c is cans.0);
      can = subst (λ v. CanApplyAll v rest) (sym made) cans.1;
      left = ap (λ v. apply_changes v rest) made ∙ ap (apply_changes t) (sym same) ∙ left;
    }

-- What a store holds of a world.

task-beside : (t : Tables) (x : Task) → put_task (without_sessions t) x ≡ without_sessions (put_task t x)
task-beside t x = go (has_row task_id x.id t.tasks)
  where
    go : (b : Bool) →
        cond b (record (without_sessions t) { tasks = put_row task_id x t.tasks }) (with_task (without_sessions t) x) ≡
        without_sessions (cond b (record t { tasks = put_row task_id x t.tasks }) (with_task t x))
    go true = refl
    go false = refl

change-beside : (t : Tables) (c : Change) → apply_change (without_sessions t) c ≡ without_sessions (apply_change t c)
change-beside t (change.PutNode n) = refl
change-beside t (change.PutService s) = refl
change-beside t (change.PutTask x) = task-beside t x
change-beside t (change.DropTask id) = refl
change-beside t (change.Keep a) = refl

changes-beside : (cs : List Change) (t : Tables) → apply_changes (without_sessions t) cs ≡ without_sessions (apply_changes t cs)
changes-beside [] t = refl
changes-beside (c ∷ cs) t = ap (λ u. apply_changes u cs) (change-beside t c) ∙ changes-beside cs (apply_change t c)

pub applied-any : {A B : Type 0} (version : ℕ) (cs : List Change) (w : World) (before : Stored) (t u : Tables) (old events : List Event)
    (r : Result A B) → record { tables = t; changes = old } ≡ before → StandsFor before w →
    OnOk r ((u ≡ apply_changes t cs) × (events ≡ changes_between version t u)) → OnErr r ((u ≡ t) × (events ≡ old)) →
    AppliesChanges version cs w before r (record { tables = u; changes = events })
applied-any version cs w before t u old events (Ok x) view stands ok err =
    let same : t ≡ without_sessions w.tables = ap (λ (s : Stored). s.tables) view ∙ stands in
    let made : u ≡ without_sessions (apply_changes w.tables cs) =
    ok.0 ∙ ap (λ v. apply_changes v cs) same ∙ changes-beside cs w.tables in
    (made, ok.1 ∙ ap (λ v. changes_between version v u) same ∙ ap (λ v. changes_between version (without_sessions w.tables) v) made)
applied-any version cs w before t u old events (Err e) view stands ok err =
    ap (λ v. record { tables = v; changes = events }) err.0
    ∙ ap (λ es. record { tables = t; changes = es }) err.1 ∙ view

-- What changes besides rows.

pub stands-next : (t : Tables) → Stands t → Stands (record t { next_id = t.next_id + 1 })
stands-next t is = record {
  ordered = record {
    nodes = is.ordered.nodes;
    services = is.ordered.services;
    tasks = is.ordered.tasks;
    networks = is.ordered.networks;
    sessions = is.ordered.sessions;
  };
  below = more-below t is.below;
  ids = omega arith;
  few = (let was = is.few in omega (arith, was));
}

pub stands-clock : (t : Tables) (clock : ℕ) → Stands t → Stands (record t { clock = clock })
stands-clock t clock is = record {
  ordered = record {
    nodes = is.ordered.nodes;
    services = is.ordered.services;
    tasks = is.ordered.tasks;
    networks = is.ordered.networks;
    sessions = is.ordered.sessions;
  };
  below = record {
    nodes = is.below.nodes;
    services = is.below.services;
    tasks = is.below.tasks;
    networks = is.below.networks;
  };
  ids = is.ids;
  few = is.few;
}

pub stands-empty : Stands empty_tables
stands-empty = record {
  ordered = record { nodes = tt; services = tt; tasks = tt; networks = tt; sessions = tt };
  below = record { nodes = tt; services = tt; tasks = tt; networks = tt };
  ids = omega arith;
  few = omega arith;
}
