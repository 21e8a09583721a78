-- A task that gets a node makes the measure smaller.
use Rattle.std.proofs.Common.{None, Option, Some, ap, arith, false, inl, refl, sym, true, ℕ, ◌+◌, ◌∙◌, ◌≡◌, ◌≤◌}
use Rattle.std.proofs.lemmas.Bool.Decides.{nat_tests}
use Rattle.std.specs.Prelude.{nat_lt, not, ◌==◌}
use Rattle.swarm_settle.proofs.Bound.Falls.Rows.{of-any}
use Rattle.swarm_settle.proofs.Bound.Falls.Touched.{touch}
use Rattle.swarm_settle.proofs.Bound.Falls.Wanted.{falls-where, seen-touch}
use Rattle.swarm_settle.proofs.Bound.Looks.{SameLook}
use Rattle.swarm_settle.proofs.Bound.Positions.{bit-most}
use Rattle.swarm_settle.proofs.Bound.Seen.{coming-unseen}
use Rattle.swarm_settle.specs.Bound.Left.{executes, is_cut_off, states_left, task_left}
use Rattle.swarm_settle.specs.Bound.Measure.{measure}
use Rattle.swarm_model.proofs.Base.IsDuty.{GoesTo, IsDuty}
use Rattle.swarm_model.proofs.Laws.GivesOut.{GivesOut}
use Rattle.swarm_model.proofs.Laws.Room.{admits-all}
use Rattle.swarm_model.proofs.Moves.Placing.{best-is, placed-moves}
use Rattle.swarm_model.proofs.Moves.Worlds.{IsGood, IsOrderly}
use Rattle.swarm_model.specs.Laws.Rises.{KeepsNode}
use Rattle.swarm_objects.proofs.Tests.{first_so, second_so}
use Rattle.swarm_objects.specs.Changes.{placed, with_tables}
use Rattle.swarm_objects.specs.Kinds.{bit}
use Rattle.swarm_objects.specs.Loops.Scheduler.{after_place}
use Rattle.swarm_objects.specs.Nodes.Filters.{takes_tasks}
use Rattle.swarm_objects.specs.Nodes.Sessions.{is_session_live}
use Rattle.swarm_objects.specs.Rows.{Has, agent_node, is_row_and, is_some_and, task_id}
use Rattle.swarm_objects.specs.Tasks.Places.{place_at}
use Rattle.swarm_objects.specs.Tasks.Words.{is_below_assigned, is_pending, is_wanted}
use Rattle.swarm_objects.specs.Values.Ranks.{rank}
use Rattle.swarm_objects.specs.World.{Tables, World}
use Rattle.swarm_objects.specs.declared.duties.Duty.TheVariants as duty
use Rattle.swarm_objects.specs.declared.tasks.Task.{Task}
use Rattle.swarm_objects.specs.declared.tasks.TaskState.TheVariants as state
use Rattle.swarm_objects.specs.declared.tasks.TaskState.{TaskState}

pending-is : (s : TaskState) → is_pending s ≡ true → s ≡ state.Pending
pending-is state.Pending e = refl
pending-is _ e = absurd cc

-- the session of the best node is live
goes-live : (t : Tables) (n : ℕ) (x : Task) → GoesTo t n x → is_session_live t n ≡ true
goes-live t n x goes =
    let best = best-is t x goes.1 goes.2 in
    let takes : takes_tasks t goes.1 ≡ true = admits-all t x goes.1 best.2 0 (inl refl) in
    ap (is_session_live t) (sym goes.3) ∙ second_so _ (is_session_live t goes.1.id) takes

-- a node once set is kept
node-kept : (w : World) (id n : ℕ) (o : Option ℕ) → KeepsNode o (Some n) →
    bit (not (is_row_and agent_node (executes id) w.agents n))
    ≤ bit (not (is_some_and (is_row_and agent_node (executes id) w.agents) o))
node-kept w id n None keeps = bit-most (not (is_row_and agent_node (executes id) w.agents n))
node-kept w id n (Some k) keeps =
    omega (arith, ap (λ (o : Option ℕ). bit (not (is_some_and (is_row_and agent_node (executes id) w.agents) o))) keeps)

placed-left : (version : ℕ) (w : World) (n : ℕ) (x : Task) → IsGood x → GoesTo w.tables n x →
    task_left w (placed version w.tables.clock n x) + 3 ≤ task_left w x
placed-left version w n x good goes =
    let pending = pending-is x.state (first_so (is_pending x.state) (is_wanted x) goes.0) in
    let keeps = (placed-moves version w.tables n x good goes).rises.node in
    let heard : is_cut_off w.tables (placed version w.tables.clock n x) ≡ false = ap not (goes-live w.tables n x goes) in
    let below : is_below_assigned (placed version w.tables.clock n x) ≡ false = refl in
    omega (
      arith,
      ap states_left pending,
      ap (λ (s : TaskState). bit (nat_lt (rank s) (rank state.Assigned))) pending,
      ap bit below,
      ap bit heard,
      node-kept w x.id n x.node keeps,
    )

placed-look : (version clock n : ℕ) (x : Task) → SameLook x (placed version clock n x)
placed-look version clock n x = record {
  id = refl;
  service = refl;
  place = refl;
  iteration = refl;
  template = refl;
  live = refl;
  closes = refl;
}

pub falls-place : (m version : ℕ) (w : World) (id n : ℕ) → IsOrderly w → GivesOut w → IsDuty w (duty.Place id n) →
    measure m (with_tables w (after_place version w.tables id n)) + 1 ≤ measure m w
falls-place m version w id n orderly gives of =
    let t = w.tables in
    let test = λ (x : Task). x.id == id in
    let f = placed version t.clock n in
    let fact : (x : Task) → Has t.tasks x → test x ≡ true → GoesTo t n x =
    λ x h e. of-any task_id t.next_id id t.tasks (GoesTo t n) orderly.tasks of x h (grind (arith, nat_tests, e)) in
    falls-where m w test f orderly gives (λ x. refl)
    (λ x h e. (placed-moves version t n x (orderly.good x h) (fact x h e), placed-left version w n x (orderly.good x h) (fact x h e)))
    of.row of.there (grind (arith, nat_tests, of.id_is))
    (coming-unseen m t (touch test f)
    (λ s there k. seen-touch s (place_at s.spec.mode k) test f t.tasks
    (λ x h e. inl (placed-look version t.clock n x))))
