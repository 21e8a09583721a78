-- A node's session opens: its row, and the tasks that no longer fit in its resources.
use Rattle.std.proofs.Common.{◌≡◌, ℕ, ◌≤◌, ◌-◌, Bool, true, false, cond, eqb, inl, inr, List, [], ◌∷◌, ◌++◌, refl, sym, ap, ◌∙◌, subst, arith}
use Rattle.std.proofs.lemmas.Bool.Decides.{nat_tests}
use Rattle.std.specs.Prelude.{◌&&◌, filter, is_some, nat_le}
use Rattle.swarm_objects.proofs.RowLemmas.{Has-filter_cases, RisesFrom-filter, RisesFrom-lower, change_row_above, row_at-Some}
use Rattle.swarm_objects.proofs.Within.{after_kept, within}
use Rattle.swarm_objects.specs.Changes.{change_node, in_state}
use Rattle.swarm_objects.specs.Nodes.Opening.{tasks_within, with_resources}
use Rattle.swarm_objects.specs.Nodes.Sessions.{ready_node}
use Rattle.swarm_objects.specs.Rows.{Has, RisesFrom, change_row, has_row, node_id, put_row, row_at, task_id}
use Rattle.swarm_objects.specs.Sound.{IsSound}
use Rattle.swarm_objects.specs.Tasks.Words.{is_on, is_placed}
use Rattle.swarm_objects.specs.World.{Tables}
use Rattle.swarm_objects.specs.declared.rows.Change.{Change}
use Rattle.swarm_objects.specs.declared.tasks.Task.{Task}
use Rattle.swarm_objects.specs.declared.tasks.TaskState.TheVariants as state
use Rattle.swarm_objects.proofs.Applied.{applied_puts, can_puts, makes_append, node_found_makes, puts, puts_below}
use Rattle.swarm_objects.specs.ChangeLists.{Makes, put_node_found}
use Rattle.swarm_objects.specs.Openings.{rejections, unfit}

-- What doesn't fit is among the tasks, in their order.

has_unfit : (cpu mem : ℕ) (xs : List Task) (y : Task) → Has (unfit cpu mem xs) y → Has xs y
has_unfit cpu mem [] y h = h
has_unfit cpu mem (x ∷ xs) y h =
    go (is_placed x) (nat_le x.template.cpu cpu && nat_le x.template.mem mem)
    (has_unfit (cpu - x.template.cpu) (mem - x.template.mem) xs y) (has_unfit cpu mem xs y) h
  where
    less : List Task
    less = unfit (cpu - x.template.cpu) (mem - x.template.mem) xs

    go : (placed fits : Bool) → (Has less y → Has xs y) → (Has (unfit cpu mem xs) y → Has xs y)
        → Has (cond placed (cond fits less (x ∷ unfit cpu mem xs)) (unfit cpu mem xs)) y → Has (x ∷ xs) y
    go true true taken kept k = inr (taken k)
    go true false taken kept (inl is) = inl is
    go true false taken kept (inr k) = inr (kept k)
    go false fits taken kept k = inr (kept k)

unfit_rises : (n cpu mem : ℕ) (xs : List Task) → RisesFrom task_id n xs → RisesFrom task_id n (unfit cpu mem xs)
unfit_rises n cpu mem [] r = r
unfit_rises n cpu mem (x ∷ xs) r =
    let le : n ≤ x.id = omega (arith, r.0) in
    go (is_placed x) (nat_le x.template.cpu cpu && nat_le x.template.mem mem)
    (RisesFrom-lower task_id n x.id less le (unfit_rises x.id (cpu - x.template.cpu) (mem - x.template.mem) xs r.1))
    (unfit_rises x.id cpu mem xs r.1)
    (RisesFrom-lower task_id n x.id (unfit cpu mem xs) le (unfit_rises x.id cpu mem xs r.1))
  where
    less : List Task
    less = unfit (cpu - x.template.cpu) (mem - x.template.mem) xs

    go : (placed fits : Bool) → RisesFrom task_id n less → RisesFrom task_id x.id (unfit cpu mem xs)
        → RisesFrom task_id n (unfit cpu mem xs)
        → RisesFrom task_id n (cond placed (cond fits less (x ∷ unfit cpu mem xs)) (unfit cpu mem xs))
    go true true taken above kept = taken
    go true false taken above kept = (r.0, above)
    go false fits taken above kept = kept

-- Putting each of them rejected leaves what fits.

left_puts : (version clock node n cpu mem : ℕ) (rows : List Task) → RisesFrom task_id n rows
    → puts (in_state version clock state.Rejected) (unfit cpu mem (filter (is_on node) rows)) rows
    ≡ within version clock node cpu mem rows
left_puts version clock node n cpu mem [] r = refl
left_puts version clock node n cpu mem (x ∷ rows) r =
    by_node (is_on node x)
    (left_puts version clock node x.id (cpu - x.template.cpu) (mem - x.template.mem) rows r.1)
    (left_puts version clock node x.id cpu mem rows r.1)
  where
    f : Task → Task
    f = in_state version clock state.Rejected

    others : List Task
    others = filter (is_on node) rows

    fits : Bool
    fits = nat_le x.template.cpu cpu && nat_le x.template.mem mem

    less : List Task
    less = unfit (cpu - x.template.cpu) (mem - x.template.mem) others

    same : List Task
    same = unfit cpu mem others

    within_less : List Task
    within_less = within version clock node (cpu - x.template.cpu) (mem - x.template.mem) rows

    within_same : List Task
    within_same = within version clock node cpu mem rows

    others_rise : RisesFrom task_id x.id others
    others_rise = RisesFrom-filter task_id x.id (is_on node) rows r.1

    -- a task that stays, where these are put behind it
    stays : (xs left : List Task) → RisesFrom task_id x.id xs → puts f xs rows ≡ left → puts f xs (x ∷ rows) ≡ x ∷ left
    stays xs left rises e =
        puts_below f x.id xs x rows (λ y. refl) rises (omega arith) ∙ ap (λ zs. x ∷ zs) e

    goes : puts f same rows ≡ within_same → puts f (x ∷ same) (x ∷ rows) ≡ f x ∷ within_same
    goes e =
        let self : eqb x.id x.id ≡ true = grind (arith, nat_tests) in
        let above : put_row task_id (f x) rows ≡ rows =
        change_row_above task_id x.id x.id (λ _. f x) rows r.1 (omega arith) in
        ap (λ b. puts f same (cond b (f x) x ∷ put_row task_id (f x) rows)) self
        ∙ ap (λ zs. puts f same (f x ∷ zs)) above
        ∙ puts_below f x.id same (f x) rows (λ y. refl) (unfit_rises x.id cpu mem others others_rise) (omega arith)
        ∙ ap (λ zs. f x ∷ zs) e

    by_room : (b : Bool) → puts f less rows ≡ within_less → puts f same rows ≡ within_same
        → puts f (cond b less (x ∷ same)) (x ∷ rows) ≡ cond b (x ∷ within_less) (f x ∷ within_same)
    by_room true l s =
        stays less within_less
        (unfit_rises x.id (cpu - x.template.cpu) (mem - x.template.mem) others others_rise) l
    by_room false l s = goes s

    by_state : (b : Bool) → puts f less rows ≡ within_less → puts f same rows ≡ within_same
        → puts f (cond b (cond fits less (x ∷ same)) same) (x ∷ rows)
        ≡ cond (b && true) (cond fits (x ∷ within_less) (f x ∷ within_same)) (x ∷ within_same)
    by_state true l s = by_room fits l s
    by_state false l s = stays same within_same (unfit_rises x.id cpu mem others others_rise) s

    elsewhere : (b : Bool) → puts f same rows ≡ within_same
        → puts f same (x ∷ rows)
        ≡ cond (b && false) (cond fits (x ∷ within_less) (f x ∷ within_same)) (x ∷ within_same)
    elsewhere true s = stays same within_same (unfit_rises x.id cpu mem others others_rise) s
    elsewhere false s = stays same within_same (unfit_rises x.id cpu mem others others_rise) s

    by_node : (b : Bool) → puts f less rows ≡ within_less → puts f same rows ≡ within_same
        → puts f (unfit cpu mem (cond b (x ∷ others) others)) (x ∷ rows)
        ≡ cond (is_placed x && b) (cond fits (x ∷ within_less) (f x ∷ within_same)) (x ∷ within_same)
    by_node true l s = by_state (is_placed x) l s
    by_node false l s = elsewhere (is_placed x) s

rejections_make : (version clock node cpu mem : ℕ) (t : Tables) → RisesFrom task_id 0 t.tasks
    → Makes t (rejections version clock cpu mem (filter (is_on node) t.tasks))
    (record t { tasks = tasks_within version clock node cpu mem t.tasks })
rejections_make version clock node cpu mem t rises = record {
  can = can_puts f (unfit cpu mem (filter (is_on node) t.tasks)) t (λ x. refl) are;
  gives =
      applied_puts f (unfit cpu mem (filter (is_on node) t.tasks)) t (λ x. refl) are
      ∙ ap (λ rows. record t { tasks = rows })
      (left_puts version clock node 0 cpu mem t.tasks rises
      ∙ sym (after_kept version clock node (record { cpu = cpu; mem = mem; tasks = [] }) t.tasks));
}
  where
    f : Task → Task
    f = in_state version clock state.Rejected

    are : (x : Task) → Has (unfit cpu mem (filter (is_on node) t.tasks)) x → has_row task_id x.id t.tasks ≡ true
    are x h =
        ap is_some (row_at-Some task_id 0 t.tasks x rises
        (Has-filter_cases (is_on node) t.tasks x (has_unfit cpu mem (filter (is_on node) t.tasks) x h)).0)

pub resources_make : (version node cpu mem : ℕ) (t : Tables) (cs : List Change) → IsSound t
    → cs
    ≡ put_node_found (with_resources version cpu mem) (row_at node_id node t.nodes)
    ++ rejections version t.clock cpu mem (filter (is_on node) t.tasks)
    → Makes t cs (record t {
      nodes = change_row node_id node (with_resources version cpu mem) t.nodes;
      tasks = tasks_within version t.clock node cpu mem t.tasks;
    })
resources_make version node cpu mem t cs sound list =
    let u = change_node node (with_resources version cpu mem) t in
    let v = record u { tasks = tasks_within version t.clock node cpu mem t.tasks } in
    let row = put_node_found (with_resources version cpu mem) (row_at node_id node t.nodes) in
    let rest = rejections version t.clock cpu mem (filter (is_on node) t.tasks) in
    subst (λ ds. Makes t ds v) (sym list)
    (makes_append t u v row rest
    (node_found_makes (with_resources version cpu mem) node t row sound (λ n. refl) refl)
    (rejections_make version t.clock node cpu mem u sound.ordered.tasks))

pub ready_makes : (version id : ℕ) (t : Tables) (cs : List Change) → IsSound t
    → cs ≡ put_node_found (ready_node version) (row_at node_id id t.nodes)
    → Makes t cs (change_node id (ready_node version) t)
ready_makes version id t cs sound list = node_found_makes (ready_node version) id t cs sound (λ n. refl) list
