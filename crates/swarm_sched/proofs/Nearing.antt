-- What is kept for the scheduler's first duty: how it is noted task by task, and how it is read.
use Rattle.std.proofs.Common.{◌≡◌, ◌∙◌, ◌∷◌, ◌++◌, ℕ, Bool, List, None, Ok, Option, Some, [], ap, arith, cond, eqb, false, inl, inr, map, refl, subst, sym, true}
use Rattle.std.proofs.lemmas.Bool.Decides.{nat_tests}
use Rattle.std.specs.Option.{option_map, option_or}
use Rattle.std.specs.Prelude.{filter, flat_map, is_some, nat_lt, ◌&&◌}
use Rattle.swarm_objects.proofs.Gaps.{IsRising-with_row}
use Rattle.swarm_objects.proofs.RowChanges.{row_at-with_row}
use Rattle.swarm_objects.proofs.RowLemmas.{Has-filter_cases, Has-from_row_at, Has-map_cases, row_at-Some}
use Rattle.swarm_objects.specs.Loops.Scheduler.{is_to_place, place_duty, schedule, scheduler}
use Rattle.swarm_objects.specs.Loops.Words.{when}
use Rattle.swarm_objects.specs.Rows.{Has, IsRising, RisesFrom, first_of, has_row, node_id, on_row, row_at, task_id, with_row}
use Rattle.swarm_objects.specs.Tasks.Words.{is_below_assigned, is_of, is_pending, is_unwanted, is_wanted}
use Rattle.swarm_objects.specs.Usable.{IsUsable}
use Rattle.swarm_objects.specs.Values.Ranks.{rank}
use Rattle.swarm_objects.specs.World.{Tables}
use Rattle.swarm_objects.specs.declared.duties.Duty.TheVariants as duty
use Rattle.swarm_objects.specs.declared.nodes.Node.{Node}
use Rattle.swarm_objects.specs.declared.tasks.Task.{Task}
use Rattle.swarm_objects.specs.declared.tasks.TaskState.TheVariants as state
use Rattle.swarm_objects.specs.declared.tasks.TaskState.{TaskState}
use Rattle.swarm_sched.proofs.Halving.{from_any}
use Rattle.swarm_sched.specs.Inside.Nearing.{IsNoting, IsPlace, schedule_at, totals_node, with_tree}
use Rattle.swarm_sched.specs.Inside.Totals.{AreTotals}
use Rattle.swarm_sched.specs.Near.{IsNear, first_waiting, totals_of, tree_of, tree_service}
use Rattle.swarm_sched.specs.declared.near.Near.{Near}
use Rattle.swarm_spread.specs.Counts.{Counts}

-- A task more is noted.

one-of : {Y : Type 0} (o p q : Option Y) → is_some o ≡ true → option_or o p ≡ option_or o q
one-of None p q e = absurd cc
one-of (Some y) p q e = refl

is-none : {Y : Type 0} (o : Option Y) → is_some o ≡ false → o ≡ None
is-none None e = refl
is-none (Some y) e = absurd cc

-- the tree of a service is by the first of its tasks
first-tree : (t : Tables) (x : Task) (left : List Task) (trees : List (ℕ × Counts)) (s : ℕ) →
    option_or (row_at tree_service s (with_tree t x trees)) (option_map (tree_of t) (first_waiting s left))
    ≡ option_or (row_at tree_service s trees) (option_map (tree_of t) (cond (is_of s x) (Some x) (first_waiting s left)))
first-tree t x left trees s = go (has_row tree_service x.service trees) refl (eqb x.service s) refl
  where
    later : Option (ℕ × Counts)
    later = option_map (tree_of t) (first_waiting s left)

    more : (b : Bool) → eqb x.service s ≡ b →
        option_or (row_at tree_service s (with_row tree_service (tree_of t x) trees)) later
        ≡ option_or (cond b (Some (tree_of t x)) (row_at tree_service s trees)) later
    more b e =
        ap (λ o. option_or o later) (row_at-with_row tree_service s (tree_of t x) trees
        ∙ ap (λ a. cond a (Some (tree_of t x)) (row_at tree_service s trees)) e)

    go : (h : Bool) → has_row tree_service x.service trees ≡ h → (b : Bool) → eqb x.service s ≡ b →
        option_or (row_at tree_service s (cond h trees (with_row tree_service (tree_of t x) trees))) later
        ≡ option_or (row_at tree_service s trees) (option_map (tree_of t) (cond b (Some x) (first_waiting s left)))
    go true h true e =
        let same : x.service ≡ s = grind (arith, nat_tests, e) in
        one-of (row_at tree_service s trees) later (Some (tree_of t x))
        (subst (λ k. is_some (row_at tree_service k trees) ≡ true) same h)
    go true h false e = refl
    go false h true e =
        let same : x.service ≡ s = grind (arith, nat_tests, e) in
        let none = is-none (row_at tree_service s trees)
        (subst (λ k. is_some (row_at tree_service k trees) ≡ false) same h) in
        more true e ∙ sym (ap (λ o. option_or o (Some (tree_of t x))) none)
    go false h false e = more false e

tree-rises : (t : Tables) (x : Task) (trees : List (ℕ × Counts)) → IsRising tree_service trees →
    IsRising tree_service (with_tree t x trees)
tree-rises t x trees rises = go (has_row tree_service x.service trees)
  where
    go : (h : Bool) → IsRising tree_service (cond h trees (with_row tree_service (tree_of t x) trees))
    go true = rises
    go false = IsRising-with_row tree_service (tree_of t x) trees rises

behind : (ids : List ℕ) (id : ℕ) (more : List ℕ) → (ids ++ id ∷ []) ++ more ≡ ids ++ id ∷ more
behind [] id more = refl
behind (k ∷ ids) id more = ap (λ ks. k ∷ ks) (behind ids id more)

pub taken : (t : Tables) (x : Task) (left : List Task) (before after : Near) → is_below_assigned x ≡ true →
    after.totals ≡ before.totals → after.waiting ≡ before.waiting ++ x.id ∷ [] →
    after.trees ≡ with_tree t x before.trees → IsNoting t (x ∷ left) before → IsNoting t left after
taken t x left before after e totals waiting trees k = record {
  totals = totals ∙ k.totals;
  waiting =
      ap (λ ids. ids ++ map task_id (filter is_below_assigned left)) waiting
      ∙ behind before.waiting x.id (map task_id (filter is_below_assigned left))
      ∙ ap (λ b. before.waiting ++ map task_id (cond b (x ∷ filter is_below_assigned left)
      (filter is_below_assigned left))) (sym e) ∙ k.waiting;
  rising = subst (IsRising tree_service) (sym trees) (tree-rises t x before.trees k.rising);
  trees = λ s.
      ap (λ l. option_or (row_at tree_service s l) (option_map (tree_of t) (first_waiting s left))) trees
      ∙ first-tree t x left before.trees s
      ∙ ap (λ b. option_or (row_at tree_service s before.trees)
      (option_map (tree_of t) (cond (b && is_of s x) (Some x) (first_waiting s left)))) (sym e) ∙ k.trees s;
}

-- a tree for the task's service was there, or comes
pub has_tree : (t : Tables) (x : Task) (trees : List (ℕ × Counts)) (at : ℕ) →
    IsPlace tree_service x.service trees (Ok at) → trees ≡ with_tree t x trees
has_tree t x trees at place =
    sym (ap (λ o. cond (is_some o) trees (with_row tree_service (tree_of t x) trees)) (place.1 (tree_of t x)))

-- What is kept is so.

totals-rise : (t : Tables) (low : ℕ) (nodes : List Node) → RisesFrom node_id low nodes →
    RisesFrom totals_node low (map (totals_of t) nodes)
totals-rise t low [] rises = tt
totals-rise t low (n ∷ nodes) rises = (rises.0, totals-rise t n.id nodes rises.1)

pub totals_rise : (t : Tables) (near : Near) → IsUsable t → IsNear t near → IsRising totals_node near.totals
totals_rise t near usable is =
    subst (IsRising totals_node) (sym is.totals)
    (from_any totals_node 0 (map (totals_of t) t.nodes) (totals-rise t 0 t.nodes usable.sound.ordered.nodes))

pub kept_totals : (t : Tables) (near : Near) (node : ℕ) (kept : ℕ × ℕ × ℕ × ℕ) → IsNear t near →
    row_at totals_node node near.totals ≡ Some kept →
    AreTotals t node (record { cpu = kept.1; mem = kept.2; load = kept.3 })
kept_totals t near node kept is found =
    let r = Has-from_row_at totals_node node near.totals kept found in
    let m = Has-map_cases (totals_of t) t.nodes kept (subst (λ l. Has l kept) is.totals r.0) in
    let so = subst (λ k. AreTotals t k.0 (record { cpu = k.1; mem = k.2; load = k.3 })) m.2 (refl, refl, refl) in
    subst (λ n. AreTotals t n (record { cpu = kept.1; mem = kept.2; load = kept.3 })) r.1 so

-- The tasks below ASSIGNED decide.

waits-below : (s : TaskState) → is_pending s ≡ true → nat_lt (rank s) (rank state.Assigned) ≡ true
waits-below state.Pending e = refl
waits-below _ e = absurd cc

-- another task has no duty of the scheduler
idle : (t : Tables) (x : Task) → is_below_assigned x ≡ false → schedule t x ≡ []
idle t x e = go (is_pending x.state) refl
  where
    go : (b : Bool) → is_pending x.state ≡ b → schedule t x ≡ []
    go true p = absurd (let bad : true ≡ false = sym (waits-below x.state p) ∙ e in cc)
    go false p =
        ap (λ b. when (b && is_unwanted x) (duty.Drop x.id) ++ place_duty t x (is_to_place x)) e
        ∙ ap (λ b. place_duty t x (b && is_wanted x)) p

-- what those give that pass is all, where the others give nothing
pub flat_filtered : {X Y : Type 0} (f : X → List Y) (p : X → Bool) (xs : List X) → ((x : X) → p x ≡ false → f x ≡ []) →
    flat_map f (filter p xs) ≡ flat_map f xs
flat_filtered f p [] none = refl
flat_filtered {X} f p (x ∷ xs) none = go (p x) refl (flat_filtered f p xs none)
  where
    go : (b : Bool) → p x ≡ b → flat_map f (filter p xs) ≡ flat_map f xs →
        flat_map f (cond b (x ∷ filter p xs) (filter p xs)) ≡ f x ++ flat_map f xs
    go true e below = ap (λ ys. f x ++ ys) below
    go false e below = below ∙ sym (ap (λ ys. ys ++ flat_map f xs) (none x e))

by-ids : (t : Tables) (xs : List Task) → ((x : Task) → Has xs x → row_at task_id x.id t.tasks ≡ Some x) →
    flat_map (schedule_at t) (map task_id xs) ≡ flat_map (schedule t) xs
by-ids t [] there = refl
by-ids t (x ∷ xs) there =
    ap (λ o. on_row [] (schedule t) o ++ flat_map (schedule_at t) (map task_id xs)) (there x (inl refl))
    ∙ ap (λ ys. schedule t x ++ ys) (by-ids t xs (λ y h. there y (inr h)))

pub waiting_decide : (t : Tables) (near : Near) → IsUsable t → IsNear t near →
    first_of (flat_map (schedule_at t) near.waiting) ≡ first_of (scheduler t)
waiting_decide t near usable is =
    ap (λ ids. first_of (flat_map (schedule_at t) ids)) is.waiting
    ∙ ap first_of (by-ids t (filter is_below_assigned t.tasks) (λ x h.
    row_at-Some task_id 0 t.tasks x usable.sound.ordered.tasks (Has-filter_cases is_below_assigned t.tasks x h).0)
    ∙ flat_filtered (schedule t) is_below_assigned t.tasks (idle t))
