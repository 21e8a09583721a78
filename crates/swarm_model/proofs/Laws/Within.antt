-- The tasks that a remote node keeps when its session opens, and those that it can't.
use Rattle.std.proofs.Common.{Bool, List, [], ap, append-nil, arith, cond, false, inr, refl, subst, sym, true, ℕ, ◌++◌, ◌+◌, ◌∙◌, ◌∷◌, ◌≡◌, ◌≤◌}
use Rattle.std.proofs.lemmas.Bool.Decides.{nat_tests}
use Rattle.std.proofs.lemmas.List.Sums.{sum_by-cons}
use Rattle.std.specs.Prelude.{fold, nat_le}
use Rattle.swarm_model.proofs.Laws.Kept.{Lightens, lighten-in_state, lighten-same}
use Rattle.swarm_model.proofs.Laws.Weights.{cpu_of, held, mem_of, weight, weight-all, weight-none}
use Rattle.swarm_model.proofs.Moves.Duties.{placed-most}
use Rattle.swarm_model.proofs.Moves.Rows.{Becomes}
use Rattle.swarm_model.proofs.Moves.Opening.{regroup}
use Rattle.swarm_objects.specs.Nodes.Opening.{TakenSoFar, fits_in, keep_or_reject, keep_other, keep_task, tasks_within}
use Rattle.swarm_objects.proofs.Tests.{first_so, second_so}
use Rattle.swarm_objects.specs.Changes.{in_state}
use Rattle.swarm_objects.specs.Nodes.Holdings.{is_placed_on}
use Rattle.swarm_objects.specs.Tasks.Words.{is_on, is_placed}
use Rattle.swarm_objects.specs.declared.tasks.Task.{Task}
use Rattle.swarm_objects.specs.declared.tasks.TaskState.TheVariants as state

-- what one task adds
record Adds (clock node : ℕ) (old new : TakenSoFar) (x : Task) : Type 0 where
  task : Task
  tasks : new.tasks ≡ old.tasks ++ task ∷ []
  lightens : Lightens clock x task
  cpu : weight cpu_of node task + new.cpu ≤ old.cpu
  mem : weight mem_of node task + new.mem ≤ old.mem

one-added : (version clock node : ℕ) (kept : TakenSoFar) (x : Task) → Adds clock node kept
    (keep_other version clock node kept x) x
one-added version clock node kept x = by_place (is_placed_on node x) refl
  where
    by_room : (b : Bool) → fits_in kept x ≡ b → is_placed_on node x ≡ true →
        Adds clock node kept (cond b (keep_task kept x) (record kept {
          tasks =
              kept.tasks ++ in_state version clock state.Rejected x ∷ [];
        })) x
    by_room true fits e =
        let cpu : x.template.cpu ≤ kept.cpu =
        grind (arith, nat_tests, first_so (nat_le x.template.cpu kept.cpu) (nat_le x.template.mem kept.mem) fits) in
        let mem : x.template.mem ≤ kept.mem =
        grind (arith, nat_tests, second_so (nat_le x.template.cpu kept.cpu) (nat_le x.template.mem kept.mem) fits) in
        record {
          task = x;
          tasks = refl;
          lightens = lighten-same clock x;
          cpu = omega (arith, cpu, weight-all cpu_of node x e);
          mem = omega (arith, mem, weight-all mem_of node x e);
        }
    by_room false fits e =
        let most = placed-most x (first_so (is_placed x) (is_on node x) e) in
        record {
          task = in_state version clock state.Rejected x;
          tasks = refl;
          lightens = lighten-in_state version clock state.Rejected x (omega (arith, most)) (λ p. absurd cc);
          cpu = omega (arith, weight-none cpu_of node (in_state version clock state.Rejected x) refl);
          mem = omega (arith, weight-none mem_of node (in_state version clock state.Rejected x) refl);
        }

    by_place : (b : Bool) → is_placed_on node x ≡ b →
        Adds clock node kept (cond b (keep_or_reject version clock kept x)
        (record kept { tasks = kept.tasks ++ x ∷ [] })) x
    by_place true e = by_room (fits_in kept x) refl e
    by_place false e = record {
      task = x;
      tasks = refl;
      lightens = lighten-same clock x;
      cpu = omega (arith, weight-none cpu_of node x e);
      mem = omega (arith, weight-none mem_of node x e);
    }

-- what all of them add
record AddsAll (clock node : ℕ) (old new : TakenSoFar) (xs : List Task) : Type 0 where
  more : List Task
  tasks : new.tasks ≡ old.tasks ++ more
  rows : Becomes (Lightens clock) [] xs more
  cpu : held cpu_of node more + new.cpu ≤ old.cpu
  mem : held mem_of node more + new.mem ≤ old.mem

all-added : (version clock node : ℕ) (xs : List Task) (kept : TakenSoFar) →
    AddsAll clock node kept (fold (keep_other version clock node) kept xs) xs
all-added version clock node [] kept = record {
  more = [];
  tasks = sym (append-nil kept.tasks);
  rows = refl;
  cpu = omega arith;
  mem = omega arith;
}
all-added version clock node (x ∷ xs) kept =
    let next = keep_other version clock node kept x in
    let one = one-added version clock node kept x in
    let rest = all-added version clock node xs next in
    record {
      more = one.task ∷ rest.more;
      tasks = rest.tasks ∙ ap (λ z. z ++ rest.more) one.tasks ∙ regroup kept.tasks one.task rest.more;
      rows = inr (one.lightens, rest.rows);
      cpu = omega (arith, one.cpu, rest.cpu, sum_by-cons (weight cpu_of node) one.task rest.more);
      mem = omega (arith, one.mem, rest.mem, sum_by-cons (weight mem_of node) one.task rest.more);
    }

pub within-lightens : (version clock node cpu mem : ℕ) (xs : List Task) →
    Becomes (Lightens clock) [] xs (tasks_within version clock node cpu mem xs)
within-lightens version clock node cpu mem xs =
    let all = all-added version clock node xs (record { cpu = cpu; mem = mem; tasks = [] }) in
    subst (λ z. Becomes (Lightens clock) [] xs z) (sym all.tasks) all.rows

-- they reserve no more than there is
pub within-cpu : (version clock node cpu mem : ℕ) (xs : List Task) →
    held cpu_of node (tasks_within version clock node cpu mem xs) ≤ cpu
within-cpu version clock node cpu mem xs =
    let all = all-added version clock node xs (record { cpu = cpu; mem = mem; tasks = [] }) in
    omega (arith, all.cpu, ap (held cpu_of node) all.tasks)

pub within-mem : (version clock node cpu mem : ℕ) (xs : List Task) →
    held mem_of node (tasks_within version clock node cpu mem xs) ≤ mem
within-mem version clock node cpu mem xs =
    let all = all-added version clock node xs (record { cpu = cpu; mem = mem; tasks = [] }) in
    omega (arith, all.mem, ap (held mem_of node) all.tasks)
