-- A task that is to get a note has much before it, so that the measure bounds the notes.
use Rattle.std.proofs.Common.{Bool, List, [], arith, cond, false, inl, inr, refl, true, ℕ, ◌+◌, ◌*◌, ◌∷◌, ◌≡◌, ◌≤◌, ◌⊎◌}
use Rattle.std.proofs.lemmas.List.Sums.{sum_by-cons}
use Rattle.std.specs.Prelude.{count_by, sum_by, nat_lt, ◌||◌}
use Rattle.swarm_settle.specs.Bound.Left.{states_left, task_left, wishes_left}
use Rattle.swarm_settle.specs.Bound.Measure.{measure, notes_due, wants_reason}
use Rattle.swarm_objects.proofs.Tests.{first_so, or_cases, or_left, or_right, second_so}
use Rattle.swarm_objects.specs.Kinds.{bit}
use Rattle.swarm_objects.specs.Loops.Allocator.{is_fresh, wants_note}
use Rattle.swarm_objects.specs.Loops.Scheduler.{is_to_place}
use Rattle.swarm_objects.specs.Rows.{Has}
use Rattle.swarm_objects.specs.Services.Words.{has_service}
use Rattle.swarm_objects.specs.Tasks.Words.{is_new, is_pending, is_wanted}
use Rattle.swarm_objects.specs.Values.Ranks.{desired_rank, rank}
use Rattle.swarm_objects.specs.World.{World}
use Rattle.swarm_objects.specs.declared.tasks.Desired.TheVariants as desired
use Rattle.swarm_objects.specs.declared.tasks.Desired.{Desired}
use Rattle.swarm_objects.specs.declared.tasks.Task.{Task}
use Rattle.swarm_objects.specs.declared.tasks.TaskState.TheVariants as state
use Rattle.swarm_objects.specs.declared.tasks.TaskState.{TaskState}

early-left : (s : TaskState) → (is_new s || is_pending s) ≡ true →
    14 ≤ states_left s + 2 * bit (nat_lt (rank s) (rank state.Assigned))
early-left state.New e = omega arith
early-left state.Pending e = omega arith
early-left _ e = absurd cc

wished-left : (d : Desired) → nat_lt (desired_rank d) (desired_rank desired.Shutdown) ≡ true → 2 ≤ wishes_left d
wished-left desired.Ready e = omega arith
wished-left desired.Running e = omega arith
wished-left desired.Complete e = omega arith
wished-left _ e = absurd cc

waits-left : (w : World) (x : Task) → (is_new x.state || is_pending x.state) ≡ true → is_wanted x ≡ true →
    23 ≤ task_left w x
waits-left w x early wanted = omega (arith, early-left x.state early, wished-left x.desired wanted)

pub noted-left : (w : World) (x : Task) → (wants_note w.tables x || wants_reason w.tables x) ≡ true → 23 ≤ task_left w x
noted-left w x e = go (or_cases (wants_note w.tables x) (wants_reason w.tables x) e)
  where
    go : (wants_note w.tables x ≡ true) ⊎ (wants_reason w.tables x ≡ true) → 23 ≤ task_left w x
    go (inl note) =
        let fresh = first_so (is_fresh w.tables x) _ note in
        let both = first_so _ (has_service w.tables x) fresh in
        waits-left w x (or_left (is_new x.state) (is_pending x.state) (first_so (is_new x.state) (is_wanted x) both))
        (second_so (is_new x.state) (is_wanted x) both)
    go (inr reason) =
        let place = first_so (is_to_place x) _ reason in
        waits-left w x (or_right (is_new x.state) (is_pending x.state) (first_so (is_pending x.state) (is_wanted x) place))
        (second_so (is_pending x.state) (is_wanted x) place)

count-most : {X : Type 0} (p : X → Bool) (f : X → ℕ) (xs : List X) → ((x : X) → Has xs x → p x ≡ true → 23 ≤ f x) →
    23 * count_by p xs ≤ sum_by f xs
count-most p f [] each = omega arith
count-most p f (x ∷ xs) each =
    omega (
      arith,
      sum_by-cons (λ y. cond {A = ℕ} (p y) 1 0) x xs,
      sum_by-cons f x xs,
      count-most p f xs (λ y h k. each y (inr h) k),
      go (p x) (each x (inl refl)),
    )
  where
    go : (b : Bool) → (b ≡ true → 23 ≤ f x) → 23 * cond {A = ℕ} b 1 0 ≤ f x
    go true most = omega (arith, most refl)
    go false most = omega arith

pub few-notes : (m : ℕ) (w : World) → 23 * notes_due w.tables ≤ measure m w
few-notes m w =
    omega (
      arith,
      count-most (λ x. wants_note w.tables x || wants_reason w.tables x) (task_left w) w.tables.tasks
          (λ x h e. noted-left w x e),
    )
