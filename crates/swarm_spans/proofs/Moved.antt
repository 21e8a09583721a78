-- What changes do to where tasks go.
use Rattle.std.proofs.Common.{◌≡◌, ℕ, ◌<◌, Bool, true, false, ◌⊎◌, inl, inr, List, [], ◌∷◌, Some, refl, sym, ap, ◌∙◌, subst, arith, filter}
use Rattle.std.specs.List.{list_any}
use Rattle.swarm_objects.proofs.RowLemmas.{Has-filter, Has-filter_cases, number_above, RisesFrom-filter, row_at-Some}
use Rattle.swarm_objects.proofs.Tests.{has-any, never-both, or_left, or_right, some-and}
use Rattle.swarm_objects.specs.ChangeLists.{apply_change, apply_changes}
use Rattle.swarm_objects.specs.Rows.{Has, is_some_and, RisesFrom, row_at, task_id}
use Rattle.swarm_objects.specs.Tasks.Words.{is_placed}
use Rattle.swarm_objects.specs.World.{Tables}
use Rattle.swarm_objects.specs.declared.nodes.Node.{Node}
use Rattle.swarm_objects.specs.declared.rows.Change.{Change}
use Rattle.swarm_objects.specs.declared.rows.Change.TheVariants as change
use Rattle.swarm_objects.specs.declared.tasks.Task.{Task}
use Rattle.swarm_spans.proofs.Blocked.{left-all}
use Rattle.swarm_spans.proofs.Lines.{has-when}
use Rattle.swarm_spans.proofs.Made.{put-leaves, put-or-was}
use Rattle.swarm_spans.proofs.Scheduling.{scheduled_as_before}
use Rattle.swarm_spans.proofs.Services.Outcomes.{same-clock}
use Rattle.swarm_spans.specs.Kept.{KeepsWhere}
use Rattle.swarm_spans.specs.Lines.{is_to_schedule, ScheduledAsBefore, to_schedule}
use Rattle.swarm_spans.specs.Moved.{MovedLaw, moves}
use Rattle.swarm_spans.specs.Spans.{CoversTasks, IsWider}
use Rattle.swarm_spans.specs.declared.span.Span.{Span}

-- Rising lists with the same members are the same.

no-less : {A : Type 0} (n : ℕ) → n < n → A
no-less n lt = absurd (omega (arith, lt))

lists-same : {X : Type 0} (key : X → ℕ) (n m : ℕ) (xs ys : List X) → RisesFrom key n xs → RisesFrom key m ys
    → ((z : X) → Has xs z → Has ys z) → ((z : X) → Has ys z → Has xs z) → xs ≡ ys
lists-same key n m [] [] r q f g = refl
lists-same key n m [] (y ∷ ys) r q f g = absurd (g y (inl refl))
lists-same key n m (x ∷ xs) [] r q f g = absurd (f x (inl refl))
lists-same {X} key n m (x ∷ xs) (y ∷ ys) r q f g =
    joined (heads (f x (inl refl)) (g y (inl refl)))
    (lists-same key (key x) (key y) xs ys r.1 q.1
    (λ z h. down z h (f z (inr h)) (heads (f x (inl refl)) (g y (inl refl))))
    (λ z h. up z h (g z (inr h)) (heads (f x (inl refl)) (g y (inl refl)))))
  where
    heads : ((y ≡ x) ⊎ Has ys x) → ((x ≡ y) ⊎ Has xs y) → x ≡ y
    heads (inl e) k = sym e
    heads (inr h) (inl e) = e
    heads (inr h) (inr k) =
        no-less (key x) (omega (arith, number_above key (key x) xs y r.1 k, number_above key (key y) ys x q.1 h))

    down : (z : X) → Has xs z → ((y ≡ z) ⊎ Has ys z) → x ≡ y → Has ys z
    down z h (inl e) same =
        no-less (key z) (subst (λ w. key w < key z) (same ∙ e) (number_above key (key x) xs z r.1 h))
    down z h (inr k) same = k

    up : (z : X) → Has ys z → ((x ≡ z) ⊎ Has xs z) → x ≡ y → Has xs z
    up z h (inl e) same =
        no-less (key z) (subst (λ w. key w < key z) (sym same ∙ e) (number_above key (key y) ys z q.1 h))
    up z h (inr k) same = k

    joined : x ≡ y → xs ≡ ys → (x ∷ xs) ≡ (y ∷ ys)
    joined e k = ap (λ z. z ∷ xs) e ∙ ap (λ zs. y ∷ zs) k

-- Changes leave the sessions, and the nodes where none is put.

pub sessions-left : (cs : List Change) (t : Tables) → (apply_changes t cs).sessions ≡ t.sessions
sessions-left [] t = refl
sessions-left (c ∷ cs) t = sessions-left cs (apply_change t c) ∙ one c
  where
    one : (c : Change) → (apply_change t c).sessions ≡ t.sessions
    one (change.PutNode m) = refl
    one (change.PutService s) = refl
    one (change.PutTask x) = put-leaves (λ v. v.sessions) t x refl refl
    one (change.DropTask id) = refl
    one (change.Keep a) = refl

nodes-left : (cs : List Change) (t : Tables) → ((m : Node) → Has cs (change.PutNode m) → ⊥)
    → (apply_changes t cs).nodes ≡ t.nodes
nodes-left [] t none = refl
nodes-left (c ∷ cs) t none =
    nodes-left cs (apply_change t c) (λ m h. none m (inr h)) ∙ one c (λ m e. none m (inl e))
  where
    one : (c : Change) → ((m : Node) → c ≡ change.PutNode m → ⊥) → (apply_change t c).nodes ≡ t.nodes
    one (change.PutNode m) never = absurd (never m refl)
    one (change.PutService s) never = refl
    one (change.PutTask x) never = put-leaves (λ v. v.nodes) t x refl refl
    one (change.DropTask id) never = refl
    one (change.Keep a) never = refl

pub moved_kept : (t u : Tables) (cs : List Change) (waiting wide : Span) → RisesFrom task_id 0 t.tasks
    → RisesFrom task_id 0 u.tasks → apply_changes t cs ≡ u → CoversTasks to_schedule t waiting
    → (list_any (moves t) cs ≡ true → IsWider wide waiting)
    → KeepsWhere is_to_schedule (ScheduledAsBefore t u) t wide
moved_kept t u cs waiting wide before after gives c wider = go (list_any (moves t) cs) refl
  where
    none : {A : Type 0} → list_any (moves t) cs ≡ false → (d : Change) → Has cs d → moves t d ≡ true → A
    none e d h k = never-both (list_any (moves t) cs) e (has-any (moves t) cs d h k)

    placed-there : list_any (moves t) cs ≡ false → (z : Task) → Has (filter is_placed u.tasks) z
        → Has (filter is_placed t.tasks) z
    placed-there e z h =
        let two = Has-filter_cases is_placed u.tasks z h in
        elim (put-or-was cs t z (subst (λ v. Has v.tasks z) (sym gives) two.0)) [
          | inl put ↦
              none e (change.PutTask z) put
              (or_left (is_placed z) (is_some_and is_placed (row_at task_id z.id t.tasks)) two.1)
          | inr was ↦ Has-filter is_placed t.tasks z was two.1
        ]

    placed-still : list_any (moves t) cs ≡ false → (z : Task) → Has (filter is_placed t.tasks) z
        → Has (filter is_placed u.tasks) z
    placed-still e z h = by (Has-filter_cases is_placed t.tasks z h)
      where
        by : (Has t.tasks z × (is_placed z ≡ true)) → Has (filter is_placed u.tasks) z
        by (there, placed) = how (left-all cs t z there)
          where
            was : row_at task_id z.id t.tasks ≡ Some z
            was = row_at-Some task_id 0 t.tasks z before there

            how : (((w : Task) × Has (apply_changes t cs).tasks w × (w.id ≡ z.id)
                × ((w ≡ z) ⊎ Has cs (change.PutTask w))) ⊎ Has cs (change.DropTask z.id))
                → Has (filter is_placed u.tasks) z
            how (inl (w, now, id, inl same)) =
                Has-filter is_placed u.tasks z
                (subst (Has u.tasks) same (subst (λ v. Has v.tasks w) gives now)) placed
            how (inl (w, now, id, inr has)) =
                none e (change.PutTask w) has
                (or_right (is_placed w) (is_some_and is_placed (row_at task_id w.id t.tasks))
                (some-and is_placed (row_at task_id w.id t.tasks) z (ap (λ k. row_at task_id k t.tasks) id ∙ was) placed))
            how (inr dropped) =
                none e (change.DropTask z.id) dropped
                (some-and is_placed (row_at task_id z.id t.tasks) z was placed)

    go : (b : Bool) → list_any (moves t) cs ≡ b → KeepsWhere is_to_schedule (ScheduledAsBefore t u) t wide
    go true e =
        record { each = λ x h w. inl ((wider e).has x.id (c.has x h (has-when (is_to_schedule x) _ ∙ w))) }
    go false e = record {
      each = λ x h w.
          inr (scheduled_as_before t u
          (ap (λ v. v.clock) (sym gives) ∙ same-clock t cs)
          (ap (λ v. v.nodes) (sym gives) ∙ nodes-left cs t (λ m h. none e (change.PutNode m) h refl))
          (ap (λ v. v.sessions) (sym gives) ∙ sessions-left cs t)
          (lists-same task_id 0 0 (filter is_placed u.tasks) (filter is_placed t.tasks)
          (RisesFrom-filter task_id 0 is_placed u.tasks after) (RisesFrom-filter task_id 0 is_placed t.tasks before)
          (placed-there e) (placed-still e)) x);
    }

pub moved_keeps : MovedLaw
moved_keeps t u cs waiting wide before after makes =
    moved_kept t u cs waiting wide before after makes.gives
