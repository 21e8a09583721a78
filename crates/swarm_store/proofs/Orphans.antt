-- Tasks that a node leaves behind, found one after the other.
use Rattle.std.proofs.Common.{◌≡◌, ℕ, ◌<◌, ◌≤◌, Bool, true, false, cond, eqb, ltb, ◌⊎◌, inl, inr, List, [], ◌∷◌, Option, Some, None, refl, sym, ap, ◌∙◌, subst, arith, length}
use Rattle.std.specs.Prelude.{◌&&◌, filter, is_some, map}
use Rattle.std.specs.Option.{option_map}
use Rattle.std.proofs.lemmas.Bool.Decides.{nat_tests}
use Rattle.swarm_model.specs.Calls.Nodes.{is_left_behind}
use Rattle.swarm_objects.proofs.RowLemmas.{Has-filter, Has-filter_cases, Has-from_row_at, RisesFrom-filter, RisesFrom-map, number_above, row_at-Some, row_at-map, rows_above-None}
use Rattle.swarm_objects.specs.Changes.{change_where, in_state}
use Rattle.swarm_objects.specs.Rows.{Has, IsBelow, RisesFrom, has_row, row_above, row_at, task_id, with_row}
use Rattle.swarm_objects.specs.Tasks.Words.{is_not_over, is_on}
use Rattle.swarm_objects.specs.declared.tasks.Task.{Task}
use Rattle.swarm_objects.specs.declared.tasks.TaskState.TheVariants as state
use Rattle.swarm_objects.specs.World.{Tables}
use Rattle.swarm_store.proofs.ByKey.{at-with, rises-with, same-rows, with-put}
use Rattle.swarm_store.proofs.Standing.{below-put, new-tasks, rises-put, same-count}
use Rattle.swarm_store.specs.Inside.State.{Stands, with_changed}

abbrev pub orphaned : ℕ → ℕ → ℕ → Task → Task
orphaned version clock node x = cond (is_left_behind node x) (in_state version clock state.Orphaned x) x

-- no task up to this id is left behind still
abbrev pub Past : ℕ → ℕ → List Task → Type 0
Past node after tasks = (x : Task) → Has tasks x → x.id ≤ after → is_left_behind node x ≡ false

pub past-begins : (node : ℕ) (tasks : List Task) → RisesFrom task_id 0 tasks → Past node 0 tasks
past-begins node tasks r x h le = (let above = number_above task_id 0 tasks x r h in absurd (omega (arith, above, le)))

least-above : {X : Type 0} (key : X → ℕ) (n after : ℕ) (rows : List X) (x y : X) → RisesFrom key n rows →
    row_above key after rows ≡ Some x → Has rows y → after < key y → key x ≤ key y
least-above key n after [] x y r e h lt = absurd h
least-above key n after (z ∷ rows) x y r e h lt =
    go (ltb after (key z)) refl e h (λ k m. least-above key (key z) after rows x y r.1 k m lt)
  where
    go : (b : Bool) → ltb after (key z) ≡ b → cond b (Some z) (row_above key after rows) ≡ Some x → Has (z ∷ rows) y →
        (row_above key after rows ≡ Some x → Has rows y → key x ≤ key y) → key x ≤ key y
    go true t k (inl same) below =
        let is : z ≡ x = cc in
        omega (arith, ap key is, ap key same)
    go true t k (inr m) below =
        let is : z ≡ x = cc in
        let above = number_above key (key z) rows y r.1 m in
        omega (arith, ap key is, above)
    go false t k (inl same) below =
        let le : key z ≤ after = grind (arith, nat_tests) in
        absurd (omega (arith, le, ap key same, lt))
    go false t k (inr m) below = below k m

above-is : {X : Type 0} (key : X → ℕ) (after : ℕ) (rows : List X) (x : X) → row_above key after rows ≡ Some x →
    Has rows x × (after < key x)
above-is key after [] x e = absurd cc
above-is key after (z ∷ rows) x e = go (ltb after (key z)) refl e (above-is key after rows x)
  where
    go : (b : Bool) → ltb after (key z) ≡ b → cond b (Some z) (row_above key after rows) ≡ Some x →
        (row_above key after rows ≡ Some x → Has rows x × (after < key x)) → Has (z ∷ rows) x × (after < key x)
    go true t k below =
        let is : z ≡ x = cc in
        let lt : after < key z = grind (arith, nat_tests) in
        (inl is, omega (arith, lt, ap key is))
    go false t k below = let r = below k in (inr r.0, r.1)

pub found-task : (node after : ℕ) (tasks : List Task) (x : Task) → row_above task_id after (filter (is_on node) tasks) ≡ Some x →
    Has tasks x × (is_on node x ≡ true) × (after < x.id)
found-task node after tasks x e =
    let a = above-is task_id after (filter (is_on node) tasks) x e in
    let h = Has-filter_cases (is_on node) tasks x a.0 in
    (h.0, h.1, a.1)

one-row : {X : Type 0} (key : X → ℕ) (rows : List X) (x y : X) → RisesFrom key 0 rows → Has rows x → Has rows y → key x ≡ key y → x ≡ y
one-row key rows x y r h k e =
    let a = row_at-Some key 0 rows x r h in
    let b = row_at-Some key 0 rows y r k in
    let same : Some x ≡ Some y = sym a ∙ ap (λ i. row_at key i rows) e ∙ b in
    cc

no-more : (node after : ℕ) (tasks : List Task) (x y : Task) → RisesFrom task_id 0 tasks → Past node after tasks →
    row_above task_id after (filter (is_on node) tasks) ≡ Some x → Has tasks y → y.id ≤ x.id →
    (y ≡ x) ⊎ (is_left_behind node y ≡ false)
no-more node after tasks x y r past e h le = go (ltb after y.id) refl (is_on node y) refl
  where
    go : (a : Bool) → ltb after y.id ≡ a → (b : Bool) → is_on node y ≡ b → (y ≡ x) ⊎ ((is_on node y && is_not_over y) ≡ false)
    go false t b u = let below : y.id ≤ after = grind (arith, nat_tests) in inr (past y h below)
    go true t false u = inr (ap (λ c. c && is_not_over y) u)
    go true t true u =
        let lt : after < y.id = grind (arith, nat_tests) in
        let least =
        least-above task_id 0 after (filter (is_on node) tasks) x y (RisesFrom-filter task_id 0 (is_on node) tasks r) e
        (Has-filter (is_on node) tasks y h u) lt in
        inl (one-row task_id tasks y x r h (found-task node after tasks x e).0 (omega (arith, le, least)))

pub past-over : (node after : ℕ) (tasks : List Task) (x : Task) → RisesFrom task_id 0 tasks → Past node after tasks →
    row_above task_id after (filter (is_on node) tasks) ≡ Some x → is_not_over x ≡ false → Past node x.id tasks
past-over node after tasks x r past e over y h le = go (no-more node after tasks x y r past e h le)
  where
    none : (b : Bool) → (b && false) ≡ false
    none true = refl
    none false = refl

    go : (y ≡ x) ⊎ (is_left_behind node y ≡ false) → is_left_behind node y ≡ false
    go (inl same) =
        ap (is_left_behind node) same ∙ ap (λ c. is_on node x && c) over ∙ none (is_on node x)
    go (inr f) = f

and-false : (b : Bool) → (b && false) ≡ false
and-false true = refl
and-false false = refl

-- an orphan isn't left behind once more
orphan-stays : (version clock node : ℕ) (x : Task) → is_left_behind node (in_state version clock state.Orphaned x) ≡ false
orphan-stays version clock node x = and-false (is_on node x)

pub past-put : (version clock node after : ℕ) (tasks new : List Task) (x put : Task) → RisesFrom task_id 0 tasks → Past node after tasks →
    row_above task_id after (filter (is_on node) tasks) ≡ Some x → put ≡ in_state version clock state.Orphaned x →
    new ≡ with_row task_id put tasks → Past node x.id new
past-put version clock node after tasks new x put r past e is next y h le =
    let found = found-task node after tasks x e in
    let above = number_above task_id 0 tasks x r found.0 in
    let id : put.id ≡ x.id = ap task_id is in
    let rises : RisesFrom task_id 0 new =
    subst (RisesFrom task_id 0) (sym next) (rises-with task_id 0 put tasks (omega (arith, above, id)) r) in
    let at = sym (ap (row_at task_id y.id) next) ∙ row_at-Some task_id 0 new y rises h in
    go (eqb put.id y.id) refl (sym (at-with task_id y.id put tasks) ∙ at) id
  where
    go : (b : Bool) → eqb put.id y.id ≡ b → cond b (Some put) (row_at task_id y.id tasks) ≡ Some y → put.id ≡ x.id →
        is_left_behind node y ≡ false
    go true t k id =
        let same : put ≡ y = cc in
        ap (is_left_behind node) (sym same ∙ is) ∙ orphan-stays version clock node x
    go false t k id = last (no-more node after tasks x y r past e (Has-from_row_at task_id y.id tasks y k).0 le)
      where
        last : (y ≡ x) ⊎ (is_left_behind node y ≡ false) → is_left_behind node y ≡ false
        last (inl same) = absurd (let differ : eqb put.id y.id ≡ true = grind (arith, nat_tests, id, ap task_id same) in cc)
        last (inr f) = f

pub orphaned-id : (version clock node : ℕ) (x : Task) → task_id (orphaned version clock node x) ≡ task_id x
orphaned-id version clock node x = go (is_left_behind node x)
  where
    go : (b : Bool) → task_id (cond b (in_state version clock state.Orphaned x) x) ≡ task_id x
    go true = refl
    go false = refl

orphaned-again : (version clock node : ℕ) (x : Task) → is_left_behind node x ≡ true →
    orphaned version clock node (in_state version clock state.Orphaned x) ≡ orphaned version clock node x
orphaned-again version clock node x left =
    ap (λ b. cond b (in_state version clock state.Orphaned (in_state version clock state.Orphaned x)) (in_state version clock state.Orphaned x))
    (orphan-stays version clock node x)
    ∙ sym (ap (λ b. cond b (in_state version clock state.Orphaned x) x) left)

-- the orphan makes no difference to what all are to become
pub left-put : (version clock node after : ℕ) (tasks new : List Task) (x put : Task) → RisesFrom task_id 0 tasks →
    row_above task_id after (filter (is_on node) tasks) ≡ Some x → is_not_over x ≡ true →
    put ≡ in_state version clock state.Orphaned x → new ≡ with_row task_id put tasks →
    map (orphaned version clock node) new ≡ map (orphaned version clock node) tasks
left-put version clock node after tasks new x put r e over is next =
    let found = found-task node after tasks x e in
    let above = number_above task_id 0 tasks x r found.0 in
    let id : put.id ≡ x.id = ap task_id is in
    let rises = rises-with task_id 0 put tasks (omega (arith, above, id)) r in
    let keeps = orphaned-id version clock node in
    let left : is_left_behind node x ≡ true = ap (λ b. b && is_not_over x) found.1 ∙ over in
    ap (map f) next
    ∙ same-rows task_id 0 0 (map f (with_row task_id put tasks)) (map f tasks) (RisesFrom-map task_id 0 f _ keeps rises)
    (RisesFrom-map task_id 0 f tasks keeps r)
    (λ i. row_at-map task_id i f (with_row task_id put tasks) keeps
    ∙ ap (option_map f) (at-with task_id i put tasks)
    ∙ go i (eqb put.id i) refl id found.0 (ap f is ∙ orphaned-again version clock node x left)
    ∙ sym (row_at-map task_id i f tasks keeps))
  where
    f : Task → Task
    f = orphaned version clock node

    go : (i : ℕ) (b : Bool) → eqb put.id i ≡ b → put.id ≡ x.id → Has tasks x → f put ≡ f x →
        option_map f (cond b (Some put) (row_at task_id i tasks)) ≡ option_map f (row_at task_id i tasks)
    go i true t id h same =
        let is' : x.id ≡ i = grind (arith, nat_tests, id) in
        let at : row_at task_id i tasks ≡ Some x = subst (λ k. row_at task_id k tasks ≡ Some x) is' (row_at-Some task_id 0 tasks x r h) in
        ap (λ y. Some y) same ∙ sym (ap (option_map f) at)
    go i false t id h same = refl

map-same : {X : Type 0} (f : X → X) (xs : List X) → ((x : X) → Has xs x → f x ≡ x) → map f xs ≡ xs
map-same f [] same = refl
map-same f (x ∷ xs) same =
    ap (λ y. y ∷ map f xs) (same x (inl refl)) ∙ ap (λ ys. x ∷ ys) (map-same f xs (λ y h. same y (inr h)))

-- at the end nothing is left to do
pub left-ends : (version clock node after : ℕ) (tasks : List Task) → Past node after tasks →
    row_above task_id after (filter (is_on node) tasks) ≡ None → map (orphaned version clock node) tasks ≡ tasks
left-ends version clock node after tasks past e =
    map-same (orphaned version clock node) tasks
    (λ y h. ap (λ b. cond b (in_state version clock state.Orphaned y) y) (not-left y h (ltb after y.id) refl (is_on node y) refl))
  where
    not-left : (y : Task) → Has tasks y → (a : Bool) → ltb after y.id ≡ a → (b : Bool) → is_on node y ≡ b →
        is_left_behind node y ≡ false
    not-left y h false t b u = let below : y.id ≤ after = grind (arith, nat_tests) in past y h below
    not-left y h true t false u = ap (λ c. c && is_not_over y) u
    not-left y h true t true u =
        absurd (subst (λ xs. Has xs y) (rows_above-None task_id after (filter (is_on node) tasks) e)
        (Has-filter (λ row. ltb after (task_id row)) (filter (is_on node) tasks) y (Has-filter (is_on node) tasks y h u) t))

-- All along.

number-below : {X : Type 0} (key : X → ℕ) (bound : ℕ) (rows : List X) (x : X) → IsBelow key bound rows → Has rows x → key x < bound
number-below key bound [] x b h = absurd h
number-below key bound (y ∷ rows) x b (inl e) = omega (arith, b.0, ap key e)
number-below key bound (y ∷ rows) x b (inr h) = number-below key bound rows x b.1 h

-- the tables after some tasks were met, the last of them with this id
pub record Going (version node after : ℕ) (t0 t : Tables) : Type 0 where
  pub past : Past node after t.tasks
  pub left : map (orphaned version t0.clock node) t.tasks ≡ map (orphaned version t0.clock node) t0.tasks
  pub stands : Stands t
  pub rest : t ≡ record t0 { tasks = t.tasks }

pub going-begins : (version node : ℕ) (t : Tables) → Stands t → Going version node 0 t t
going-begins version node t is = record {
  past = past-begins node t.tasks is.ordered.tasks;
  left = refl;
  stands = is;
  rest = refl;
}

pub going-on : (version node after : ℕ) (t0 t : Tables) (x : Task) → Going version node after t0 t →
    Some x ≡ row_above task_id after (filter (is_on node) t.tasks) → (after < x.id) × (x.id < t.next_id)
going-on version node after t0 t x is e =
    let found = found-task node after t.tasks x (sym e) in
    (found.2, number-below task_id t.next_id t.tasks x is.stands.below.tasks found.0)

pub going-next : (version node after : ℕ) (t0 t u : Tables) (x : Task) (row : Option Task) → Going version node after t0 t →
    Some x ≡ row_above task_id after (filter (is_on node) t.tasks) →
    row ≡ cond (is_not_over x) (Some (in_state version t.clock state.Orphaned x)) None →
    u ≡ record t { tasks = with_changed row t.tasks } → Going version node x.id t0 u
going-next version node after t0 t u x row is e changed next =
    subst (Going version node x.id t0) (sym next)
    (subst (λ r. Going version node x.id t0 (record t { tasks = with_changed r t.tasks })) (sym changed)
    (go (is_not_over x) refl))
  where
    clock : t.clock ≡ t0.clock
    clock = ap (λ (v : Tables). v.clock) is.rest

    go : (b : Bool) → is_not_over x ≡ b →
        Going version node x.id t0 (record t { tasks = with_changed (cond b (Some (in_state version t.clock state.Orphaned x)) None) t.tasks })
    go true over =
        let put = in_state version t.clock state.Orphaned x in
        let r = is.stands.ordered.tasks in
        let found = found-task node after t.tasks x (sym e) in
        let there : has_row task_id put.id t.tasks ≡ true = ap is_some (row_at-Some task_id 0 t.tasks x r found.0) in
        let same = with-put task_id 0 put t.tasks r there in
        let new = with_row task_id put t.tasks in
        record {
          past = past-put version t.clock node after t.tasks new x put r is.past (sym e) refl refl;
          left = left-put version t0.clock node after t.tasks new x (in_state version t0.clock state.Orphaned x) r (sym e) over refl
              (ap (λ k. with_row task_id (in_state version k state.Orphaned x) t.tasks) clock) ∙ is.left;
          stands = new-tasks t new (subst (RisesFrom task_id 0) (sym same) (rises-put task_id 0 put t.tasks r))
              (subst (IsBelow task_id t.next_id) (sym same) (below-put task_id t.next_id put t.tasks is.stands.below.tasks))
              (omega (arith, ap length same, same-count task_id put t.tasks)) is.stands;
          rest = ap (λ (v : Tables). record v { tasks = new }) is.rest;
        }
    go false over = record {
      past = past-over node after t.tasks x is.stands.ordered.tasks is.past (sym e) over;
      left = is.left;
      stands = is.stands;
      rest = is.rest;
    }

pub going-ends : (version node after : ℕ) (t0 t : Tables) → Going version node after t0 t →
    None ≡ row_above task_id after (filter (is_on node) t.tasks) →
    t ≡ change_where (is_left_behind node) (in_state version t0.clock state.Orphaned) t0
going-ends version node after t0 t is e =
    is.rest
    ∙ ap (λ xs. record t0 { tasks = xs })
    (sym (left-ends version t0.clock node after t.tasks is.past (sym e)) ∙ is.left)

pub orphan-above : (version clock after : ℕ) (x y : Task) (row : Option Task) →
    row ≡ cond (is_not_over x) (Some (in_state version clock state.Orphaned x)) None → row ≡ Some y → after < x.id → 0 < y.id
orphan-above version clock after x y row is some lt = go (is_not_over x) (sym is ∙ some)
  where
    go : (b : Bool) → cond b (Some (in_state version clock state.Orphaned x)) None ≡ Some y → 0 < y.id
    go true e =
        let same : in_state version clock state.Orphaned x ≡ y = cc in
        omega (arith, ap task_id same, lt)
    go false e = absurd cc
