-- A new task in a place that isn't held makes the measure smaller.
use Rattle.std.proofs.Common.{Bool, List, None, Option, Some, [], ap, arith, cond, false, map, refl, subst, sym, true, ℕ, ◌++◌, ◌+◌, ◌<◌, ◌∙◌, ◌∷◌, ◌≡◌, ◌≤◌}
use Rattle.std.proofs.lemmas.Bool.Decides.{nat_tests}
use Rattle.std.proofs.lemmas.List.Elements.{filter-append}
use Rattle.std.proofs.lemmas.List.Sums.{sum_by_push}
use Rattle.std.specs.Prelude.{filter, is_some, length, nat_le, not, ◌&&◌}
use Rattle.swarm_settle.proofs.Bound.AgentParts.{agents-stay}
use Rattle.swarm_settle.proofs.Bound.ComingFills.{job-fills, node-fills, replica-fills}
use Rattle.swarm_settle.proofs.Bound.Falls.Services.{found}
use Rattle.swarm_settle.proofs.Bound.PlaceSpans.{held-number}
use Rattle.swarm_settle.proofs.Bound.Positions.{bit-most, states-most, wishes-most}
use Rattle.swarm_settle.proofs.Bound.Pushes.{StandsNew, coming-filled, fills-pushed}
use Rattle.swarm_settle.specs.Bound.Coming.{coming}
use Rattle.swarm_settle.specs.Bound.Left.{has_executor, is_cut_off, task_left}
use Rattle.swarm_settle.specs.Bound.Measure.{measure}
use Rattle.swarm_model.proofs.Base.IsDuty.{IsDuty, WantsReplica, WantsTask}
use Rattle.swarm_model.proofs.Laws.Alone.{held-rise}
use Rattle.swarm_model.proofs.Moves.Rows.{RisesBetween, has_row-Has}
use Rattle.swarm_objects.proofs.Gaps.{first_gap-free}
use Rattle.swarm_objects.proofs.RowLemmas.{Has-filter, row_at-append}
use Rattle.swarm_objects.proofs.Tests.{second_so}
use Rattle.swarm_objects.specs.Agents.Messages.{assigned, due_set, is_assigned_on}
use Rattle.swarm_objects.specs.Changes.{with_new, with_tables}
use Rattle.swarm_objects.specs.Loops.Global.{after_global_create, is_missing, wants_here}
use Rattle.swarm_objects.specs.Loops.Jobs.{after_job_create}
use Rattle.swarm_objects.specs.Loops.Replicated.{after_replicated_create}
use Rattle.swarm_objects.specs.Rows.{Has, first_gap, has_row, node_id, row_at, service_id, task_id}
use Rattle.swarm_objects.specs.Tasks.New.{goal_of, new_task, with_task}
use Rattle.swarm_objects.specs.Tasks.Places.{held_places, is_held_place, place_at, place_numbers}
use Rattle.swarm_objects.specs.Tasks.Words.{is_below_assigned, is_on}
use Rattle.swarm_objects.specs.Values.Ranks.{desired_rank, rank}
use Rattle.swarm_objects.specs.World.{Tables, World}
use Rattle.swarm_objects.specs.declared.duties.Duty.TheVariants as duty
use Rattle.swarm_objects.specs.declared.nodes.Node.{Node}
use Rattle.swarm_objects.specs.declared.services.Mode.{Mode}
use Rattle.swarm_objects.specs.declared.services.Service.{Service}
use Rattle.swarm_objects.specs.declared.tasks.Desired.TheVariants as desired
use Rattle.swarm_objects.specs.declared.tasks.Desired.{Desired}
use Rattle.swarm_objects.specs.declared.tasks.Task.{Task}
use Rattle.swarm_objects.specs.declared.tasks.TaskState.TheVariants as state

-- no task has more before it
pub task-most : (w : World) (x : Task) → task_left w x ≤ 46
task-most w x =
    omega (
      arith,
      states-most x.state,
      wishes-most x.desired,
      bit-most (is_below_assigned x),
      bit-most (is_cut_off w.tables x),
      bit-most (not (has_executor w x)),
    )

due-pushed : (t : Tables) (x : Task) (node : ℕ) → x.state ≡ state.New →
    map assigned (filter (is_assigned_on node) (t.tasks ++ x ∷ [])) ≡ due_set t node
due-pushed t x node new =
    ap (map assigned) (filter-append (is_assigned_on node) t.tasks (x ∷ [])
    ∙ ap (λ (b : Bool). filter (is_assigned_on node) t.tasks ++ cond b (x ∷ []) []) out
    ∙ append-none (filter (is_assigned_on node) t.tasks))
  where
    out : is_assigned_on node x ≡ false
    out = ap (λ s. nat_le (rank state.Assigned) (rank s) && is_on node x) new

    append-none : (xs : List Task) → xs ++ [] ≡ xs
    append-none [] = refl
    append-none (y ∷ ys) = ap (λ zs. y ∷ zs) (append-none ys)

pub has-pushed : (id : ℕ) (xs : List Task) (x : Task) → has_row task_id id xs ≡ true → has_row task_id id (xs ++ x ∷ []) ≡ true
has-pushed id xs x e = go (row_at task_id id xs) refl e
  where
    go : (o : Option Task) → row_at task_id id xs ≡ o → is_some o ≡ true → has_row task_id id (xs ++ x ∷ []) ≡ true
    go None at some = absurd cc
    go (Some y) at some = ap is_some (row_at-append task_id id xs (x ∷ []) y at)

-- a new task comes that could
pub falls-push : (m : ℕ) (w : World) (x : Task) → x.state ≡ state.New →
    coming m (with_task w.tables x) + 1 ≤ coming m w.tables →
    measure m (with_tables w (with_task w.tables x)) + 1 ≤ measure m w
falls-push m w x new come =
    let t = w.tables in
    let v = with_tables w (with_task t x) in
    let agents = agents-stay w v refl (record { sent = refl; due = λ node. due-pushed t x node new })
    (λ id e. has-pushed id t.tasks x e) in
    omega (arith, sum_by_push (task_left w) t.tasks x, task-most w x, agents, come)

-- The duties.

stands : (m version : ℕ) (t : Tables) (s : Service) (k : ℕ) (d : Desired) → m ≤ t.next_id →
    desired_rank d ≡ desired_rank (goal_of s.spec.mode) →
    StandsNew m s k (new_task version t s (place_at s.spec.mode k) d)
stands m version t s k d later goal = record {
  service = refl;
  iteration = refl;
  template = refl;
  place = refl;
  live = grind (arith, nat_tests, goal);
  new = later;
}

-- a number that is none of the held ones is of no held place
gap-unheld : (t : Tables) (s : Service) (from k : ℕ) → k ≡ first_gap from (held_places t s) → is_held_place t s k ≡ false
gap-unheld t s from k is = go (is_held_place t s k) refl
  where
    go : (b : Bool) → is_held_place t s k ≡ b → b ≡ false
    go true e =
        absurd (first_gap-free from (held_places t s) (held-rise t s)
        (subst (Has (held_places t s)) is
        (Has-filter (is_held_place t s) (place_numbers t s) k (held-number t s k e) e)))
    go false e = refl

pub falls-replica : (m version : ℕ) (w : World) (id k : ℕ) → m ≤ w.tables.next_id →
    RisesBetween service_id 1 w.tables.next_id w.tables.services → IsDuty w (duty.ReplicatedCreate id k) →
    measure m (with_tables w (after_replicated_create version w.tables id k)) + 1 ≤ measure m w
falls-replica m version w id k later rises of =
    let t = w.tables in
    let r = found t id (WantsReplica t k) (λ v. with_new version desired.Running t v k) rises of in
    let s = r.row in
    let at = r.fact.1 in
    let few : length (held_places t s) < r.fact.0 = grind (arith, nat_tests, r.fact.2) in
    let x = new_task version t s (place_at s.spec.mode k) desired.Running in
    let new = stands m version t s k desired.Running later (sym (ap (λ (z : Mode). desired_rank (goal_of z)) at)) in
    let unheld = gap-unheld t s 1 k r.fact.3 in
    let one = replica-fills m t (with_task t x) s k r.fact.0 at few (fills-pushed m t s k x new unheld) in
    subst (λ u. measure m (with_tables w u) + 1 ≤ measure m w) (sym r.is)
    (falls-push m w x refl (coming-filled m t s k x rises r.there new one))

pub falls-job : (m version : ℕ) (w : World) (id k : ℕ) → m ≤ w.tables.next_id →
    RisesBetween service_id 1 w.tables.next_id w.tables.services → IsDuty w (duty.JobCreate id k) →
    measure m (with_tables w (after_job_create version w.tables id k)) + 1 ≤ measure m w
falls-job m version w id k later rises of =
    let t = w.tables in
    let r = found t id (WantsTask t k) (λ v. with_new version desired.Complete t v k) rises of in
    let s = r.row in
    let at = r.fact.2 in
    let few : length (held_places t s) < r.fact.1 = grind (arith, nat_tests, r.fact.4) in
    let x = new_task version t s (place_at s.spec.mode k) desired.Complete in
    let new = stands m version t s k desired.Complete later (sym (ap (λ (z : Mode). desired_rank (goal_of z)) at)) in
    let unheld = gap-unheld t s 0 k r.fact.6 in
    let one = job-fills m t (with_task t x) s k r.fact.0 r.fact.1 at few (fills-pushed m t s k x new unheld) in
    subst (λ u. measure m (with_tables w u) + 1 ≤ measure m w) (sym r.is)
    (falls-push m w x refl (coming-filled m t s k x rises r.there new one))

missing-unheld : (t : Tables) (s : Service) (n : Node) → is_missing t s n ≡ true → is_held_place t s n.id ≡ false
missing-unheld t s n e = go (is_held_place t s n.id) (second_so (wants_here s n) _ e)
  where
    go : (b : Bool) → not b ≡ true → b ≡ false
    go true k = absurd cc
    go false k = refl

pub falls-global : (m version : ℕ) (w : World) (id node : ℕ) → m ≤ w.tables.next_id →
    RisesBetween service_id 1 w.tables.next_id w.tables.services → IsDuty w (duty.GlobalCreate id node) →
    measure m (with_tables w (after_global_create version w.tables id node)) + 1 ≤ measure m w
falls-global m version w id node later rises of =
    let t = w.tables in
    let r = found t id _ (λ v. with_new version desired.Running t v node) rises of in
    let s = r.row in
    let at = r.fact.0 in
    let n = r.fact.1.row in
    let is : n.id ≡ node = r.fact.1.id_is in
    let x = new_task version t s (place_at s.spec.mode n.id) desired.Running in
    let new = stands m version t s n.id desired.Running later (sym (ap (λ (z : Mode). desired_rank (goal_of z)) at)) in
    let unheld = missing-unheld t s n r.fact.1.fact in
    let row = has_row-Has node_id t.nodes n n.id r.fact.1.there refl in
    let one = node-fills m t (with_task t x) s n (record { nodes = refl; live = λ k. refl }) at r.fact.1.there row
    r.fact.1.fact (fills-pushed m t s n.id x new unheld) in
    let done = falls-push m w x refl (coming-filled m t s n.id x rises r.there new one) in
    subst (λ u. measure m (with_tables w u) + 1 ≤ measure m w) (sym r.is)
    (subst (λ (j : ℕ). measure m (with_tables w (with_new version desired.Running t s j)) + 1 ≤ measure m w) is done)
