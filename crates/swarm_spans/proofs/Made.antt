-- What a list of changes touches is what the lines' laws ask for in the tables that it makes.
use Rattle.std.proofs.Common.{◌≡◌, ℕ, Bool, true, false, ◌⊎◌, inl, inr, List, [], ◌∷◌, Option, Some, None, refl, sym, ap, ◌∙◌, subst, arith}
use Rattle.std.proofs.lemmas.Bool.Decides.{nat_tests}
use Rattle.std.specs.Option.{option_map}
use Rattle.std.specs.Prelude.{◌==◌, if◌then◌else◌, not}
use Rattle.swarm_objects.proofs.RowLemmas.{Has-append_cases, Has-filter_cases, Has-from_row_at, Has-map_cases, number_above, row_at-map, row_at-Some}
use Rattle.swarm_objects.specs.ChangeLists.{apply_change, apply_changes, put_task}
use Rattle.swarm_objects.specs.Nodes.Words.{is_ready}
use Rattle.swarm_objects.specs.Rows.{Has, has_row, node_id, put_row, RisesFrom, row_at, service_id, task_id}
use Rattle.swarm_objects.specs.Tasks.New.{with_task}
use Rattle.swarm_objects.specs.World.{Tables}
use Rattle.swarm_objects.specs.declared.nodes.Node.{Node}
use Rattle.swarm_objects.specs.declared.rows.Change.{Change}
use Rattle.swarm_objects.specs.declared.rows.Change.TheVariants as change
use Rattle.swarm_objects.specs.declared.services.Service.{Service}
use Rattle.swarm_objects.specs.declared.tasks.Task.{Task}
use Rattle.swarm_spans.specs.Kept.{IsAlike, KeepsNodes, KeepsOwnNodes, KeepsServices, KeepsTasks, Stays}
use Rattle.swarm_spans.specs.Spans.{is_in}
use Rattle.swarm_spans.specs.Lines.{AlikeReady}
use Rattle.swarm_spans.specs.Touched.{ReadyLaw, TouchesAll, TouchesAllReady}
use Rattle.swarm_spans.specs.declared.span.Span.{Span}

-- A task that is there after one change was put by it, or was there.

abbrev put-here : Task → Task → Task
put-here x row = if row.id == x.id then x else row

after-put : (t : Tables) (x y : Task) → Has (put_task t x).tasks y → (x ≡ y) ⊎ Has t.tasks y
after-put t x y h = go (has_row task_id x.id t.tasks) h
  where
    one : (row : Task) (b : Bool) → Has t.tasks row → (if b then x else row) ≡ y → (x ≡ y) ⊎ Has t.tasks y
    one row true h e = inl e
    one row false h e = inr (subst (Has t.tasks) e h)

    go : (b : Bool) → Has (if b then record t { tasks = put_row task_id x t.tasks } else with_task t x).tasks y
        → (x ≡ y) ⊎ Has t.tasks y
    go true h =
        let k = Has-map_cases (put-here x) t.tasks y h in
        one k.0 (k.0.id == x.id) k.1 k.2
    go false h =
        elim (Has-append_cases t.tasks (x ∷ []) y h) [
          | inl there ↦ inr there
          | inr last ↦ elim last [ inl e ↦ inl e | inr none ↦ absurd none ]
        ]

after-one : (c : Change) (t : Tables) (y : Task) → Has (apply_change t c).tasks y
    → (c ≡ change.PutTask y) ⊎ Has t.tasks y
after-one (change.PutNode n) t y h = inr h
after-one (change.PutService s) t y h = inr h
after-one (change.PutTask x) t y h =
    elim (after-put t x y h) [ inl e ↦ inl (ap change.PutTask e) | inr there ↦ inr there ]
after-one (change.DropTask id) t y h = inr (Has-filter_cases (λ row. not (task_id row == id)) t.tasks y h).0
after-one (change.Keep a) t y h = inr h

pub put-or-was : (cs : List Change) (t : Tables) (y : Task) → Has (apply_changes t cs).tasks y
    → Has cs (change.PutTask y) ⊎ Has t.tasks y
put-or-was [] t y h = inr h
put-or-was (c ∷ cs) t y h =
    elim (put-or-was cs (apply_change t c) y h) [
      | inl put ↦ inl (inr put)
      | inr there ↦ elim (after-one c t y there) [ inl e ↦ inl (inl e) | inr was ↦ inr was ]
    ]

-- A row of another table is as it was, or was put in the place of one.

row-put : {X : Type 0} (key : X → ℕ) (new : X) (rows : List X) (n : ℕ)
    → (row_at key n (put_row key new rows) ≡ row_at key n rows)
    ⊎ ((a : X) × (row_at key n rows ≡ Some a) × (key new ≡ n) × (row_at key n (put_row key new rows) ≡ Some new))
row-put {X} key new rows n = go (row_at key n rows) refl
  where
    put : X → X
    put row = if key row == key new then new else row

    keeps : (row : X) → key (put row) ≡ key row
    keeps row = by (key row == key new) refl
      where
        by : (b : Bool) → (key row == key new) ≡ b → key (if b then new else row) ≡ key row
        by true e = let same : key row ≡ key new = grind (arith, nat_tests, e) in sym same
        by false e = refl

    found : row_at key n (put_row key new rows) ≡ option_map put (row_at key n rows)
    found = row_at-map key n put rows keeps

    go : (o : Option X) → row_at key n rows ≡ o
        → (row_at key n (put_row key new rows) ≡ row_at key n rows)
        ⊎ ((a : X) × (row_at key n rows ≡ Some a) × (key new ≡ n) × (row_at key n (put_row key new rows) ≡ Some new))
    go None e = inl (found ∙ ap (option_map put) e ∙ sym e)
    go (Some a) e = by (key a == key new) refl
      where
        by : (b : Bool) → (key a == key new) ≡ b
            → (row_at key n (put_row key new rows) ≡ row_at key n rows)
            ⊎ ((a : X) × (row_at key n rows ≡ Some a) × (key new ≡ n)
            × (row_at key n (put_row key new rows) ≡ Some new))
        by true b =
            let same : key a ≡ key new = grind (arith, nat_tests, b) in
            let is : key a ≡ n = (Has-from_row_at key n rows a e).1 in
            inr (a, e, sym same ∙ is, found ∙ ap (option_map put) e ∙ ap (λ b. Some (if b then new else a)) b)
        by false b = inl (found ∙ ap (option_map put) e ∙ ap (λ b. Some (if b then new else a)) b ∙ sym e)

abbrev StepLaw : {X : Type 0} → (X → ℕ) → (Tables → List X) → (X → Change) → Type 0
StepLaw {X} key get put =
    (c : Change) (t : Tables) (n : ℕ)
    → (row_at key n (get (apply_change t c)) ≡ row_at key n (get t))
    ⊎ ((a s : X) × (row_at key n (get t) ≡ Some a) × (key s ≡ n) × (c ≡ put s)
    × (row_at key n (get (apply_change t c)) ≡ Some s))

rows-made : {X : Type 0} (key : X → ℕ) (get : Tables → List X) (put : X → Change) → StepLaw key get put
    → (cs : List Change) (t : Tables) (n : ℕ)
    → (row_at key n (get (apply_changes t cs)) ≡ row_at key n (get t))
    ⊎ ((a s : X) × (row_at key n (get t) ≡ Some a) × (key s ≡ n) × Has cs (put s)
    × (row_at key n (get (apply_changes t cs)) ≡ Some s))
rows-made key get put step [] t n = inl refl
rows-made {X} key get put step (c ∷ cs) t n =
    elim (rows-made key get put step cs (apply_change t c) n) [
      | inl same ↦ first same (step c t n)
      | inr later ↦ behind later (step c t n)
    ]
  where
    first : row_at key n (get (apply_changes (apply_change t c) cs)) ≡ row_at key n (get (apply_change t c))
        → ((row_at key n (get (apply_change t c)) ≡ row_at key n (get t))
        ⊎ ((a s : X) × (row_at key n (get t) ≡ Some a) × (key s ≡ n) × (c ≡ put s)
        × (row_at key n (get (apply_change t c)) ≡ Some s)))
        → (row_at key n (get (apply_changes (apply_change t c) cs)) ≡ row_at key n (get t))
        ⊎ ((a s : X) × (row_at key n (get t) ≡ Some a) × (key s ≡ n) × ((c ≡ put s) ⊎ Has cs (put s))
        × (row_at key n (get (apply_changes (apply_change t c) cs)) ≡ Some s))
    first same (inl e) = inl (same ∙ e)
    first same (inr (a, s, was, id, is, now)) = inr (a, s, was, id, inl is, same ∙ now)

    behind : ((a s : X) × (row_at key n (get (apply_change t c)) ≡ Some a) × (key s ≡ n) × Has cs (put s)
        × (row_at key n (get (apply_changes (apply_change t c) cs)) ≡ Some s))
        → ((row_at key n (get (apply_change t c)) ≡ row_at key n (get t))
        ⊎ ((a s : X) × (row_at key n (get t) ≡ Some a) × (key s ≡ n) × (c ≡ put s)
        × (row_at key n (get (apply_change t c)) ≡ Some s)))
        → (row_at key n (get (apply_changes (apply_change t c) cs)) ≡ row_at key n (get t))
        ⊎ ((a s : X) × (row_at key n (get t) ≡ Some a) × (key s ≡ n) × ((c ≡ put s) ⊎ Has cs (put s))
        × (row_at key n (get (apply_changes (apply_change t c) cs)) ≡ Some s))
    behind (a, s, was, id, has, now) (inl e) = inr (a, s, sym e ∙ was, id, inr has, now)
    behind (a, s, was, id, has, now) (inr (b, z, before, key-is, is, after)) =
        inr (b, s, before, id, inr has, now)

pub put-leaves : {X : Type 0} (get : Tables → X) (t : Tables) (x : Task)
    → get (record t { tasks = put_row task_id x t.tasks }) ≡ get t → get (with_task t x) ≡ get t
    → get (put_task t x) ≡ get t
put-leaves get t x a b = go (has_row task_id x.id t.tasks)
  where
    go : (c : Bool) → get (if c then record t { tasks = put_row task_id x t.tasks } else with_task t x) ≡ get t
    go true = a
    go false = b

services-step : StepLaw service_id (λ t. t.services) change.PutService
services-step (change.PutNode m) t n = inl refl
services-step (change.PutService s) t n =
    elim (row-put service_id s t.services n) [
      | inl e ↦ inl e
      | inr put ↦ inr (put.0, s, put.1, put.2, refl, put.3)
    ]
services-step (change.PutTask x) t n =
    inl (ap (row_at service_id n) (put-leaves (λ t. t.services) t x refl refl))
services-step (change.DropTask id) t n = inl refl
services-step (change.Keep a) t n = inl refl

nodes-step : StepLaw node_id (λ t. t.nodes) change.PutNode
nodes-step (change.PutNode m) t n =
    elim (row-put node_id m t.nodes n) [
      | inl e ↦ inl e
      | inr put ↦ inr (put.0, m, put.1, put.2, refl, put.3)
    ]
nodes-step (change.PutService s) t n = inl refl
nodes-step (change.PutTask x) t n = inl (ap (row_at node_id n) (put-leaves (λ t. t.nodes) t x refl refl))
nodes-step (change.DropTask id) t n = inl refl
nodes-step (change.Keep a) t n = inl refl

pub services-made : (cs : List Change) (t : Tables) (n : ℕ)
    → (row_at service_id n (apply_changes t cs).services ≡ row_at service_id n t.services)
    ⊎ ((a s : Service) × (row_at service_id n t.services ≡ Some a) × (s.id ≡ n) × Has cs (change.PutService s)
    × (row_at service_id n (apply_changes t cs).services ≡ Some s))
services-made = rows-made service_id (λ t. t.services) change.PutService services-step

pub nodes-made : (cs : List Change) (t : Tables) (n : ℕ)
    → (row_at node_id n (apply_changes t cs).nodes ≡ row_at node_id n t.nodes)
    ⊎ ((a m : Node) × (row_at node_id n t.nodes ≡ Some a) × (m.id ≡ n) × Has cs (change.PutNode m)
    × (row_at node_id n (apply_changes t cs).nodes ≡ Some m))
nodes-made = rows-made node_id (λ t. t.nodes) change.PutNode nodes-step

-- What the laws ask for.

pub tasks_kept : (may : Task → Bool) (AlikeTask : Task → Task → Type 0) (AlikeService : Service → Service → Type 0)
    (AlikeNode : Node → Node → Type 0) (t u : Tables) (cs : List Change) (wide : Span) → RisesFrom task_id 0 t.tasks
    → RisesFrom task_id 0 u.tasks → apply_changes t cs ≡ u → TouchesAll may AlikeTask AlikeService AlikeNode t wide cs
    → KeepsTasks may AlikeTask t u wide
tasks_kept may AlikeTask AlikeService AlikeNode t u cs wide before after gives touches = record {
  own = λ y h can.
      elim (put-or-was cs t y (subst (λ v. Has v.tasks y) (sym gives) h)) [
        | inl put ↦
            ((touches.each (change.PutTask y) put).task y refl).own (number_above task_id 0 u.tasks y after h) can
        | inr was ↦ inr (inl (sym (row_at-Some task_id 0 t.tasks y before was)))
      ];
}

pub services_kept : (may : Task → Bool) (AlikeTask : Task → Task → Type 0) (AlikeService : Service → Service → Type 0)
    (AlikeNode : Node → Node → Type 0) (t u : Tables) (cs : List Change) (wide : Span) → apply_changes t cs ≡ u
    → TouchesAll may AlikeTask AlikeService AlikeNode t wide cs → KeepsServices AlikeService t u wide
services_kept may AlikeTask AlikeService AlikeNode t u cs wide gives touches = record {
  of = λ x y stays. go x y stays (services-made cs t y.service);
}
  where
    go : (x y : Task) → Stays t u x y
        → ((row_at service_id y.service (apply_changes t cs).services ≡ row_at service_id y.service t.services)
        ⊎ ((a s : Service) × (row_at service_id y.service t.services ≡ Some a) × (s.id ≡ y.service)
        × Has cs (change.PutService s) × (row_at service_id y.service (apply_changes t cs).services ≡ Some s)))
        → (is_in wide y.id ≡ true)
        ⊎ IsAlike AlikeService (row_at service_id y.service t.services) (row_at service_id y.service u.services)
    go x y stays (inl e) = inr (inl (ap (λ v. row_at service_id y.service v.services) (sym gives) ∙ e))
    go x y stays (inr (a, s, was, id, has, now)) =
        elim (((touches.each (change.PutService s) has).service s refl).of a x
        (ap (λ k. row_at service_id k t.services) id ∙ was) stays.was (sym stays.service ∙ sym id)) [
          | inl i ↦ inl (subst (λ k. is_in wide k ≡ true) stays.id i)
          | inr alike ↦
              inr (inr (a, s, was, ap (λ v. row_at service_id y.service v.services) (sym gives) ∙ now, alike))
        ]

pub nodes_kept : (may : Task → Bool) (AlikeTask : Task → Task → Type 0) (AlikeService : Service → Service → Type 0)
    (AlikeNode : Node → Node → Type 0) (t u : Tables) (cs : List Change) (wide : Span) → apply_changes t cs ≡ u
    → TouchesAll may AlikeTask AlikeService AlikeNode t wide cs → KeepsNodes AlikeNode t u wide
nodes_kept may AlikeTask AlikeService AlikeNode t u cs wide gives touches = record {
  on = λ x y n stays on. go x y n stays on (nodes-made cs t n);
}
  where
    go : (x y : Task) (n : ℕ) → Stays t u x y → y.node ≡ Some n
        → ((row_at node_id n (apply_changes t cs).nodes ≡ row_at node_id n t.nodes)
        ⊎ ((a m : Node) × (row_at node_id n t.nodes ≡ Some a) × (m.id ≡ n) × Has cs (change.PutNode m)
        × (row_at node_id n (apply_changes t cs).nodes ≡ Some m)))
        → (is_in wide y.id ≡ true) ⊎ IsAlike AlikeNode (row_at node_id n t.nodes) (row_at node_id n u.nodes)
    go x y n stays on (inl e) = inr (inl (ap (λ v. row_at node_id n v.nodes) (sym gives) ∙ e))
    go x y n stays on (inr (a, m, was, id, has, now)) =
        elim (((touches.each (change.PutNode m) has).node m refl).on a x
        (ap (λ k. row_at node_id k t.nodes) id ∙ was) stays.was (sym stays.node ∙ on ∙ ap Some (sym id))) [
          | inl i ↦ inl (subst (λ k. is_in wide k ≡ true) stays.id i)
          | inr alike ↦ inr (inr (a, m, was, ap (λ v. row_at node_id n v.nodes) (sym gives) ∙ now, alike))
        ]

pub ready_kept : (t u : Tables) (cs : List Change) (wide : Span) → RisesFrom node_id 0 u.nodes → apply_changes t cs ≡ u
    → TouchesAllReady wide cs → KeepsOwnNodes (λ n. is_ready n.state) AlikeReady t u wide
ready_kept t u cs wide rises gives touches = record {
  own = λ m h ready. go m h ready (nodes-made cs t m.id);
}
  where
    there : (m : Node) → Has u.nodes m → row_at node_id m.id (apply_changes t cs).nodes ≡ Some m
    there m h = ap (λ v. row_at node_id m.id v.nodes) gives ∙ row_at-Some node_id 0 u.nodes m rises h

    go : (m : Node) → Has u.nodes m → is_ready m.state ≡ true
        → ((row_at node_id m.id (apply_changes t cs).nodes ≡ row_at node_id m.id t.nodes)
        ⊎ ((a k : Node) × (row_at node_id m.id t.nodes ≡ Some a) × (k.id ≡ m.id) × Has cs (change.PutNode k)
        × (row_at node_id m.id (apply_changes t cs).nodes ≡ Some k)))
        → (is_in wide m.id ≡ true) ⊎ IsAlike AlikeReady (row_at node_id m.id t.nodes) (Some m)
    go m h ready (inl same) = inr (inl (sym (there m h) ∙ same))
    go m h ready (inr (a, k, was, id, has, now)) =
        let one : Some m ≡ Some k = sym (there m h) ∙ now in
        let same : k ≡ m = cc in
        inl ((touches.each (change.PutNode k) has).node m (ap change.PutNode same)
        (number_above node_id 0 u.nodes m rises h) ready)

pub ready_keeps : ReadyLaw
ready_keeps t u cs wide rises makes = ready_kept t u cs wide rises makes.gives
