-- A note is one note fewer that is due.
use Rattle.std.proofs.Common.{Bool, List, None, Option, Some, [], ap, arith, cond, false, refl, subst, sym, true, ℕ, ◌+◌, ◌∙◌, ◌∷◌, ◌≡◌, ◌≤◌}
use Rattle.std.proofs.lemmas.Bool.Decides.{nat_tests}
use Rattle.std.specs.Cmp.Lexicographic.{pointwise}
use Rattle.std.specs.Prelude.{is_some, not, ◌&&◌, ◌==◌, ◌||◌}
use Rattle.swarm_settle.proofs.Bound.Falls.Rows.{of-any}
use Rattle.swarm_settle.proofs.Bound.Notes.Same.{wants-same, with_note}
use Rattle.swarm_settle.proofs.Bound.Sums.{changed-falls}
use Rattle.swarm_settle.specs.Bound.Measure.{is_unplaced, notes_due, wants_reason}
use Rattle.swarm_model.proofs.Base.IsDuty.{IsDuty, IsUnexplained, OfRow}
use Rattle.swarm_model.proofs.Moves.Duties.{found-is}
use Rattle.swarm_model.proofs.Moves.Rows.{RisesBetween, has_row-Has}
use Rattle.swarm_objects.proofs.Tests.{both, first_so, neither, never-both, or_left, or_right, second_so, some-and-cases}
use Rattle.swarm_objects.specs.Changes.{change_task, noted}
use Rattle.swarm_objects.specs.Loops.Allocator.{after_note, exhausted_for, is_fresh, same_note, wants_note, with_exhausted}
use Rattle.swarm_objects.specs.Loops.Scheduler.{after_explain, is_to_place}
use Rattle.swarm_objects.specs.Nodes.BestNode.{best_node}
use Rattle.swarm_objects.specs.Nodes.Filters.{refusal_counts}
use Rattle.swarm_objects.specs.Rows.{has_row, is_some_and, on_row, row_at, task_id}
use Rattle.swarm_objects.specs.Same.{same_bool, same_number}
use Rattle.swarm_objects.specs.Services.Words.{has_service}
use Rattle.swarm_objects.specs.Tasks.Words.{is_new, is_pending, is_wanted}
use Rattle.swarm_objects.specs.World.{Tables, World}
use Rattle.swarm_objects.specs.declared.duties.Duty.TheVariants as duty
use Rattle.swarm_objects.specs.declared.nodes.Node.{Node}
use Rattle.swarm_objects.specs.declared.tasks.Note.TheVariants as note
use Rattle.swarm_objects.specs.declared.tasks.Note.{Note}
use Rattle.swarm_objects.specs.declared.tasks.Task.{Task}
use Rattle.swarm_objects.specs.declared.tasks.TaskState.TheVariants as state
use Rattle.swarm_objects.specs.declared.tasks.TaskState.{TaskState}

-- the task is to get a note
abbrev wants : Tables → Task → Bool
wants t x = wants_note t x || wants_reason t x

-- the task that gets one wanted it, and then doesn't
fewer-with : (id version : ℕ) (text : Task → Note) (t : Tables) (Fact : Task → Type 0) →
    RisesBetween task_id 1 t.next_id t.tasks → OfRow t.tasks task_id id Fact →
    ((x : Task) → Fact x → (wants t x ≡ true) × (wants t (noted version (text x) x) ≡ false)) →
    notes_due (with_note id version text t) + 1 ≤ notes_due t
fewer-with id version text t Fact rises of is =
    let u = with_note id version text t in
    changed-falls task_id id (λ x. cond {A = ℕ} (wants u x) 1 0) (λ x. cond {A = ℕ} (wants t x) 1 0)
    (λ x. noted version (text x) x) 1 t.tasks of.row of.there of.id_is
    (λ y h e.
    let fact = is y (of-any task_id t.next_id id t.tasks Fact rises of y h e) in
    omega (
      arith,
      ap (λ (b : Bool). cond {A = ℕ} b 1 0) (wants-same id version text t (noted version (text y) y) ∙ fact.1),
      ap (λ (b : Bool). cond {A = ℕ} b 1 0) fact.0,
    ))
    (λ y h. omega (arith, ap (λ (b : Bool). cond {A = ℕ} b 1 0) (wants-same id version text t y)))

-- Notes are the same as themselves.

same-list : (ks : List ℕ) → pointwise same_number ks ks ≡ true
same-list [] = refl
same-list (k ∷ ks) = both (k == k) (pointwise same_number ks ks) (own k) (same-list ks)
  where
    own : (n : ℕ) → (n == n) ≡ true
    own n = grind (arith, nat_tests)

same-itself : (n : Note) → same_note n n ≡ true
same-itself note.Empty = refl
same-itself (note.Filters ks) = same-list ks
same-itself (note.NoPort udp) = go udp
  where
    go : (b : Bool) → same_bool b b ≡ true
    go true = refl
    go false = refl
same-itself (note.NoAddress network) = own network
  where
    own : (n : ℕ) → (n == n) ≡ true
    own n = grind (arith, nat_tests)

never-new : (s : TaskState) → is_pending s ≡ true → is_new s ≡ false
never-new state.Pending e = refl
never-new _ e = absurd cc

never-pending : (s : TaskState) → is_new s ≡ true → is_pending s ≡ false
never-pending state.New e = refl
never-pending _ e = absurd cc

and-false : (b : Bool) → (b && false) ≡ false
and-false true = refl
and-false false = refl

-- The duties.

explains : (version : ℕ) (t : Tables) (x : Task) → IsUnexplained t x →
    (wants t x ≡ true) × (wants t (noted version (note.Filters (refusal_counts t x)) x) ≡ false)
explains version t x is = (
  or_right (wants_note t x) (wants_reason t x)
      (both (is_to_place x) (is_unplaced t x (best_node t x)) is.0
      (ap (λ (o : Option Node). is_unplaced t x o) is.1 ∙ ap not is.2)),
  neither (wants_note t (noted version (note.Filters (refusal_counts t x)) x))
      (wants_reason t (noted version (note.Filters (refusal_counts t x)) x))
      (ap (λ (b : Bool). ((b && is_wanted x) && has_service t x)
      && is_some_and (λ n. not (same_note n (note.Filters (refusal_counts t x)))) (exhausted_for t x))
      (never-new x.state (first_so (is_pending x.state) (is_wanted x) is.0)))
      (ap (λ (o : Option Node). is_to_place x && is_unplaced t (noted version (note.Filters (refusal_counts t x)) x) o) is.1
      ∙ ap (λ (b : Bool). is_to_place x && not b) (same-list (refusal_counts t x))
      ∙ and-false (is_to_place x)),
)

pub fewer-explain : (version : ℕ) (w : World) (id : ℕ) → RisesBetween task_id 1 w.tables.next_id w.tables.tasks →
    IsDuty w (duty.Explain id) → notes_due (after_explain version w.tables id) + 1 ≤ notes_due w.tables
fewer-explain version w id rises of =
    fewer-with id version (λ x. note.Filters (refusal_counts w.tables x)) w.tables (IsUnexplained w.tables) rises of
    (explains version w.tables)

-- the task is NEW, and this is what it lacks
abbrev Lacks : Tables → Note → Task → Type 0
Lacks t n x = (wants_note t x ≡ true) × (exhausted_for t x ≡ Some n)

notes : (version : ℕ) (t : Tables) (n : Note) (x : Task) → Lacks t n x →
    (wants t x ≡ true) × (wants t (noted version n x) ≡ false)
notes version t n x is = (
  or_left (wants_note t x) (wants_reason t x) is.0,
  neither (wants_note t (noted version n x)) (wants_reason t (noted version n x))
      (ap (λ (o : Option Note). is_fresh t x && is_some_and (λ k. not (same_note k n)) o) is.1
      ∙ ap (λ (b : Bool). is_fresh t x && not b) (same-itself n)
      ∙ and-false (is_fresh t x))
      (ap (λ (b : Bool). (b && is_wanted x) && is_unplaced t (noted version n x) (best_node t x))
      (never-pending x.state
      (first_so (is_new x.state) (is_wanted x) (first_so _ (has_service t x) (first_so (is_fresh t x) _ is.0))))),
)

pub fewer-note : (version : ℕ) (w : World) (id : ℕ) → RisesBetween task_id 1 w.tables.next_id w.tables.tasks →
    IsDuty w (duty.Note id) → notes_due (after_note version w.tables id) + 1 ≤ notes_due w.tables
fewer-note version w id rises of = go (row_at task_id id t.tasks) refl
  where
    t : Tables
    t = w.tables

    go : (o : Option Task) → row_at task_id id t.tasks ≡ o →
        notes_due (on_row t (with_exhausted version t) o) + 1 ≤ notes_due t
    go None e =
        let yes = has_row-Has task_id t.tasks of.row id of.there of.id_is in
        let no : has_row task_id id t.tasks ≡ false = ap is_some e in
        never-both (has_row task_id id t.tasks) no yes
    go (Some x) e =
        let is = found-is t id (λ y. wants_note t y ≡ true) rises of x e in
        let lack = some-and-cases (λ n. not (same_note n x.note)) (exhausted_for t x) (second_so (is_fresh t x) _ is.2) in
        let its : OfRow t.tasks task_id x.id (Lacks t lack.0) =
        record { row = x; there = is.0; id_is = refl; fact = (is.2, lack.1) } in
        subst (λ (o : Option Note). notes_due (on_row t (λ n. change_task x.id (noted version n) t) o) + 1 ≤ notes_due t)
        (sym lack.1)
        (fewer-with x.id version (λ y. lack.0) t (Lacks t lack.0) rises its (notes version t lack.0))
