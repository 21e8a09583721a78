-- A task whose state rises, and nothing else, makes the measure smaller.
use Rattle.std.proofs.Common.{Bool, None, Option, Some, ap, arith, cond, eqb, false, map, refl, sym, true, ℕ, ◌+◌, ◌∙◌, ◌≡◌, ◌≤◌}
use Rattle.std.proofs.lemmas.Bool.Decides.{nat_tests}
use Rattle.std.specs.Prelude.{nat_le, nat_lt, ◌&&◌}
use Rattle.swarm_settle.proofs.Bound.AgentParts.{agents-stay}
use Rattle.swarm_settle.proofs.Bound.Falls.Rows.{due-mapped, has-changed, of-any}
use Rattle.swarm_settle.proofs.Bound.Looks.{SameLook, coming-looks, look-same}
use Rattle.swarm_settle.proofs.Bound.Positions.{left-at}
use Rattle.swarm_settle.proofs.Bound.Sums.{changed-falls, changed-le}
use Rattle.swarm_settle.specs.Bound.Coming.{coming}
use Rattle.swarm_settle.specs.Bound.Left.{states_left, task_left}
use Rattle.swarm_settle.specs.Bound.Measure.{measure}
use Rattle.swarm_model.proofs.Base.IsDuty.{IsDuty, OfRow}
use Rattle.swarm_model.proofs.Moves.Rows.{RisesBetween}
use Rattle.swarm_objects.proofs.Tests.{first_so, second_so}
use Rattle.swarm_objects.specs.Agents.Messages.{assigned, due_set, is_assigned_on}
use Rattle.swarm_objects.specs.Changes.{change_task, in_state, noted, with_tables}
use Rattle.swarm_objects.specs.Kinds.{bit}
use Rattle.swarm_objects.specs.Loops.Allocator.{after_address, after_note, exhausted_for, gets_address, with_addresses, with_exhausted}
use Rattle.swarm_objects.specs.Loops.Scheduler.{after_explain, explained}
use Rattle.swarm_objects.specs.Nodes.Filters.{refusal_counts}
use Rattle.swarm_objects.specs.declared.tasks.Note.TheVariants as note
use Rattle.swarm_objects.specs.declared.tasks.Note.{Note}
use Rattle.swarm_objects.specs.Loops.Dispatcher.{after_orphan, is_orphaned}
use Rattle.swarm_objects.specs.Loops.Enforcer.{after_reject, is_misplaced}
use Rattle.swarm_objects.specs.Rows.{Has, on_row, row_at, task_id}
use Rattle.swarm_objects.specs.Tasks.Words.{is_below_assigned, is_live, is_new, is_on, is_placed}
use Rattle.swarm_objects.specs.Values.Ranks.{rank}
use Rattle.swarm_objects.specs.World.{World}
use Rattle.swarm_objects.specs.declared.duties.Duty.TheVariants as duty
use Rattle.swarm_objects.specs.declared.tasks.Task.{Task}
use Rattle.swarm_objects.specs.declared.tasks.TaskState.TheVariants as state
use Rattle.swarm_objects.specs.declared.tasks.TaskState.{TaskState}

-- places see no change, nothing else is due, and the task has less before it
pub record Climbs (w : World) (x y : Task) : Type 0 where
  pub look : SameLook x y
  pub due : (node : ℕ) → is_assigned_on node y ≡ is_assigned_on node x
  pub sent : assigned y ≡ assigned x
  pub less : task_left w y + 1 ≤ task_left w x

pub falls-climb : (m : ℕ) (w : World) (id : ℕ) (f : Task → Task) (Fact : Task → Type 0) → ((x : Task) → (f x).id ≡ x.id) →
    RisesBetween task_id 1 w.tables.next_id w.tables.tasks → OfRow w.tables.tasks task_id id Fact →
    ((x : Task) → Fact x → Climbs w x (f x)) →
    measure m (with_tables w (change_task id f w.tables)) + 1 ≤ measure m w
falls-climb m w id f Fact keeps rises of climbs =
    let t = w.tables in
    let v = with_tables w (change_task id f t) in
    let g = λ (x : Task). cond (eqb (task_id x) id) (f x) x in
    let fact : (x : Task) → Has t.tasks x → x.id ≡ id → Climbs w x (f x) =
    λ x h e. climbs x (of-any task_id t.next_id id t.tasks Fact rises of x h e) in
    let tasks = changed-falls task_id id (task_left v) (task_left w) f 1 t.tasks of.row of.there of.id_is
    (λ x h e. (fact x h e).less) (λ x h. omega arith) in
    let come : coming m (record t { tasks = map g t.tasks }) ≤ coming m t =
    coming-looks m t g (λ x h. on-each (λ y. SameLook x y) x h (look-same x) (λ e. (fact x h e).look)) in
    let due : (node : ℕ) → due_set v.tables node ≡ due_set t node =
    λ node. due-mapped t g node
    (λ x h. on-each (λ y. is_assigned_on node y ≡ is_assigned_on node x) x h refl (λ e. (fact x h e).due node))
    (λ x h on. on-each (λ y. assigned y ≡ assigned x) x h refl (λ e. (fact x h e).sent)) in
    let agents = agents-stay w v refl (record { sent = refl; due = due })
    (λ k e. has-changed task_id k id f t.tasks keeps ∙ e) in
    omega (arith, tasks, come, agents)
  where
    on-each : (P : Task → Type 0) (x : Task) → Has w.tables.tasks x → P x → (x.id ≡ id → P (f x)) →
        P (cond (eqb (task_id x) id) (f x) x)
    on-each P x h same changed = go (eqb (task_id x) id) refl
      where
        go : (b : Bool) → eqb (task_id x) id ≡ b → P (cond b (f x) x)
        go true e = changed (grind (arith, nat_tests, e))
        go false e = same

-- places see no change, nothing else is due, and the task has no more before it
pub record Holds (w : World) (x y : Task) : Type 0 where
  pub look : SameLook x y
  pub due : (node : ℕ) → is_assigned_on node y ≡ is_assigned_on node x
  pub sent : assigned y ≡ assigned x
  pub most : task_left w y ≤ task_left w x

pub holds-same : (w : World) (x : Task) → Holds w x x
holds-same w x = record { look = look-same x; due = λ node. refl; sent = refl; most = omega arith }

pub stays-hold : (m : ℕ) (w : World) (id : ℕ) (f : Task → Task) → ((x : Task) → (f x).id ≡ x.id) →
    ((x : Task) → Has w.tables.tasks x → x.id ≡ id → Holds w x (f x)) →
    measure m (with_tables w (change_task id f w.tables)) ≤ measure m w
stays-hold m w id f keeps each =
    let t = w.tables in
    let v = with_tables w (change_task id f t) in
    let g = λ (x : Task). cond (eqb (task_id x) id) (f x) x in
    let tasks = changed-le task_id id (task_left v) (task_left w) f t.tasks
    (λ x h e. (each x h e).most) (λ x h. omega arith) in
    let come : coming m (record t { tasks = map g t.tasks }) ≤ coming m t =
    coming-looks m t g (λ x h. (all x h).look) in
    let due : (node : ℕ) → due_set v.tables node ≡ due_set t node =
    λ node. due-mapped t g node (λ x h. (all x h).due node) (λ x h on. (all x h).sent) in
    let agents = agents-stay w v refl (record { sent = refl; due = due })
    (λ k e. has-changed task_id k id f t.tasks keeps ∙ e) in
    omega (arith, tasks, come, agents)
  where
    all : (x : Task) → Has w.tables.tasks x → Holds w x (cond (eqb (task_id x) id) (f x) x)
    all x h = go (eqb (task_id x) id) refl
      where
        go : (b : Bool) → eqb (task_id x) id ≡ b → Holds w x (cond b (f x) x)
        go true e = each x h (grind (arith, nat_tests, e))
        go false e = holds-same w x

-- A placed task that is given up: what is due stays.

at-least : (s : TaskState) → rank state.Assigned ≤ rank s → nat_le (rank state.Assigned) (rank s) ≡ true
at-least s low = grind (arith, nat_tests, low)

placed-least : (x : Task) → is_placed x ≡ true → rank state.Assigned ≤ rank x.state
placed-least x is =
    grind (
      arith,
      nat_tests,
      first_so (nat_le (rank state.Assigned) (rank x.state)) (nat_le (rank x.state) (rank state.Running)) is,
    )

pub assigned-same : (version clock : ℕ) (s : TaskState) (x : Task) (node : ℕ) → rank state.Assigned ≤ rank x.state →
    rank state.Assigned ≤ rank s → is_assigned_on node (in_state version clock s x) ≡ is_assigned_on node x
assigned-same version clock s x node low high =
    ap (λ (b : Bool). b && is_on node x) (at-least s high)
    ∙ ap (λ (b : Bool). b && is_on node x) (sym (at-least x.state low))

looks-in : (version clock : ℕ) (s : TaskState) (x : Task) → SameLook x (in_state version clock s x)
looks-in version clock s x = record {
  id = refl;
  service = refl;
  place = refl;
  iteration = refl;
  template = refl;
  live = refl;
  closes = refl;
}

below-none : (x : Task) → rank state.Assigned ≤ rank x.state → is_below_assigned x ≡ false
below-none x low = grind (arith, nat_tests, low)

-- from ASSIGNED to RUNNING, to a state with no more than three above it
pub given-up : (version clock : ℕ) (w : World) (s : TaskState) (x : Task) → is_placed x ≡ true →
    rank state.Assigned ≤ rank s → states_left s ≤ 3 → Climbs w x (in_state version clock s x)
given-up version clock w s x placed high few =
    let low = placed-least x placed in
    let most : rank x.state ≤ rank state.Running =
    grind (arith, nat_tests, second_so (nat_le (rank state.Assigned) (rank x.state)) _ placed) in
    let none = below-none (in_state version clock s x) high in
    record {
      look = looks-in version clock s x;
      due = λ node. assigned-same version clock s x node low high;
      sent = refl;
      less = omega (arith, few, most, left-at x.state, ap bit none);
    }

pub falls-orphan : (m version : ℕ) (w : World) (id : ℕ) → RisesBetween task_id 1 w.tables.next_id w.tables.tasks →
    IsDuty w (duty.Orphan id) → measure m (with_tables w (after_orphan version w.tables id)) + 1 ≤ measure m w
falls-orphan m version w id rises of =
    falls-climb m w id (in_state version w.tables.clock state.Orphaned) (λ x. is_orphaned w.tables x ≡ true)
    (λ x. refl) rises of
    (λ x e. given-up version w.tables.clock w state.Orphaned x (first_so (is_placed x) _ e) (omega arith) (omega arith))

pub falls-reject : (m version : ℕ) (w : World) (id : ℕ) → RisesBetween task_id 1 w.tables.next_id w.tables.tasks →
    IsDuty w (duty.Reject id) → measure m (with_tables w (after_reject version w.tables id)) + 1 ≤ measure m w
falls-reject m version w id rises of =
    falls-climb m w id (in_state version w.tables.clock state.Rejected) (λ x. is_misplaced w.tables x ≡ true)
    (λ x. refl) rises of
    (λ x e. given-up version w.tables.clock w state.Rejected x
    (second_so (is_live x) (is_placed x) (first_so _ _ e)) (omega arith) (omega arith))

-- A new task gets its addresses.

new-is : (s : TaskState) → is_new s ≡ true → s ≡ state.New
new-is state.New e = refl
new-is _ e = absurd cc

addressed-climbs : (version : ℕ) (w : World) (x : Task) → gets_address w.tables x ≡ true →
    Climbs w x (with_addresses version w.tables x)
addressed-climbs version w x e =
    let is : x.state ≡ state.New = new-is x.state (first_so (is_new x.state) _ (first_so _ _ (first_so _ _ (first_so _ _ e)))) in
    record {
      look = record {
        id = refl;
        service = refl;
        place = refl;
        iteration = refl;
        template = refl;
        live = refl;
        closes = refl;
      };
      due = λ node. sym (ap (λ (s : TaskState). nat_le (rank state.Assigned) (rank s) && is_on node x) is);
      sent = refl;
      less = omega (
        arith,
        ap states_left is,
        ap (λ (s : TaskState). bit (nat_lt (rank s) (rank state.Assigned))) is,
      );
    }

pub falls-address : (m version : ℕ) (w : World) (id : ℕ) → RisesBetween task_id 1 w.tables.next_id w.tables.tasks →
    IsDuty w (duty.Address id) → measure m (with_tables w (after_address version w.tables id)) + 1 ≤ measure m w
falls-address m version w id rises of =
    falls-climb m w id (with_addresses version w.tables) (λ x. gets_address w.tables x ≡ true) (λ x. refl) rises of
    (λ x e. addressed-climbs version w x e)

-- A note.

pub noted-holds : (version : ℕ) (w : World) (n : Note) (x : Task) → Holds w x (noted version n x)
noted-holds version w n x = record {
  look = record {
    id = refl;
    service = refl;
    place = refl;
    iteration = refl;
    template = refl;
    live = refl;
    closes = refl;
  };
  due = λ node. refl;
  sent = refl;
  most = omega arith;
}

pub stays-explain : (m version : ℕ) (w : World) (id : ℕ) →
    measure m (with_tables w (after_explain version w.tables id)) ≤ measure m w
stays-explain m version w id =
    stays-hold m w id (explained version w.tables) (λ x. refl)
    (λ x h e. noted-holds version w (note.Filters (refusal_counts w.tables x)) x)

pub stays-note : (m version : ℕ) (w : World) (id : ℕ) →
    measure m (with_tables w (after_note version w.tables id)) ≤ measure m w
stays-note m version w id = go (row_at task_id id w.tables.tasks)
  where
    with_it : (x : Task) (o : Option Note) →
        measure m (with_tables w (on_row w.tables (λ n. change_task x.id (noted version n) w.tables) o)) ≤ measure m w
    with_it x None = omega arith
    with_it x (Some n) = stays-hold m w x.id (noted version n) (λ y. refl) (λ y h e. noted-holds version w n y)

    go : (o : Option Task) → measure m (with_tables w (on_row w.tables (with_exhausted version w.tables) o)) ≤ measure m w
    go None = omega arith
    go (Some x) = with_it x (exhausted_for w.tables x)
