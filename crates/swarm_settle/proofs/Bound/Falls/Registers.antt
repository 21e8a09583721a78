-- A session that begins makes the measure smaller: what is due on its node pays for being sent, and the node for the rest.
use Rattle.std.proofs.Common.{Bool, List, None, Option, Some, [], ap, arith, cond, count_by, eqb, false, not, refl, subst, true, ℕ, ◌*◌, ◌+◌, ◌∙◌, ◌∷◌, ◌≡◌, ◌≤◌}
use Rattle.std.proofs.lemmas.Bool.Decides.{nat_tests}
use Rattle.std.proofs.lemmas.List.Sums.{sum_by-cons}
use Rattle.std.specs.List.{sum_by}
use Rattle.std.specs.Prelude.{nat_le, ◌&&◌}
use Rattle.swarm_settle.proofs.Bound.Falls.Rows.{and-changed, has-changed}
use Rattle.swarm_settle.proofs.Bound.Messages.World.{Known, its-node}
use Rattle.swarm_settle.proofs.Bound.Positions.{bit-most}
use Rattle.swarm_settle.proofs.Bound.Sending.Numbers.{sum-one}
use Rattle.swarm_settle.proofs.Bound.Sending.Pulls.{begun-other, begun-own}
use Rattle.swarm_settle.proofs.Bound.Sending.Worlds.{rises-from}
use Rattle.swarm_settle.proofs.Bound.Sums.{changed-le, mapped-le, row-falls, sum-fall, sum-join, sum-le, sum-same}
use Rattle.swarm_settle.specs.Bound.Coming.{coming, coming_by_mode, coming_of, coming_on, goes_back, places_lost}
use Rattle.swarm_settle.specs.Bound.Left.{agent_left, executes, has_executor, is_cut_off, message_left, node_left, task_left}
use Rattle.swarm_settle.specs.Bound.Measure.{measure}
use Rattle.swarm_model.proofs.Base.IsDuty.{IsDuty}
use Rattle.swarm_model.proofs.Laws.GivesOut.{on-is}
use Rattle.swarm_objects.proofs.RowChanges.{row_at-with_row}
use Rattle.swarm_objects.proofs.Tests.{second_so}
use Rattle.swarm_objects.specs.Agents.Messages.{is_assigned_on}
use Rattle.swarm_objects.specs.Kinds.{bit}
use Rattle.swarm_objects.specs.Loops.Agents.{after_register, begun, is_beat_due}
use Rattle.swarm_objects.specs.Loops.Global.{is_missing}
use Rattle.swarm_objects.specs.Nodes.Sessions.{is_before_deadline, is_session_live, new_session, ready_node, registered, session_of}
use Rattle.swarm_objects.specs.Nodes.Words.{is_ready}
use Rattle.swarm_objects.specs.Rows.{agent_node, has_row, is_row_and, is_some_and, node_id, session_node}
use Rattle.swarm_objects.specs.Tasks.Places.{held_places}
use Rattle.swarm_objects.specs.Tasks.Words.{is_on}
use Rattle.swarm_objects.specs.Values.Ranks.{rank}
use Rattle.swarm_objects.specs.World.{Tables, World}
use Rattle.swarm_objects.specs.declared.agents.NodeAgent.{NodeAgent}
use Rattle.swarm_objects.specs.declared.duties.Duty.TheVariants as duty
use Rattle.swarm_objects.specs.declared.nodes.Node.{Node}
use Rattle.swarm_objects.specs.declared.services.Mode.TheVariants as mode
use Rattle.swarm_objects.specs.declared.services.Mode.{Mode}
use Rattle.swarm_objects.specs.declared.services.Service.{Service}
use Rattle.swarm_objects.specs.declared.sessions.NodeSession.{NodeSession}
use Rattle.swarm_objects.specs.declared.tasks.Task.{Task}
use Rattle.swarm_objects.specs.declared.tasks.TaskState.TheVariants as state

-- Sessions.

session-there : (version : ℕ) (t : Tables) (n k : ℕ) →
    session_of (registered version t n) k ≡ cond (eqb n k) (Some (new_session t n)) (session_of t k)
session-there version t n k = row_at-with_row session_node k (new_session t n) t.sessions

session-own : (version : ℕ) (t : Tables) (n : ℕ) → session_of (registered version t n) n ≡ Some (new_session t n)
session-own version t n =
    let same : eqb n n ≡ true = grind (arith, nat_tests) in
    session-there version t n n
    ∙ ap (λ (b : Bool). cond b (Some (new_session t n)) (session_of t n)) same

session-other : (version : ℕ) (t : Tables) (n k : ℕ) → eqb n k ≡ false →
    session_of (registered version t n) k ≡ session_of t k
session-other version t n k away =
    session-there version t n k
    ∙ ap (λ (b : Bool). cond b (Some (new_session t n)) (session_of t k)) away

live-own : (version : ℕ) (t : Tables) (n : ℕ) → 1 ≤ t.settings.heartbeat → is_session_live (registered version t n) n ≡ true
live-own version t n beats =
    ap (is_before_deadline t.clock) (session-own version t n) ∙ grind (arith, nat_tests, beats)

live-other : (version : ℕ) (t : Tables) (n k : ℕ) → eqb n k ≡ false →
    is_session_live (registered version t n) k ≡ is_session_live t k
live-other version t n k away = ap (is_before_deadline t.clock) (session-other version t n k away)

beaten-own : (version : ℕ) (t : Tables) (n : ℕ) → 1 ≤ t.settings.heartbeat →
    is_some_and (is_beat_due (registered version t n)) (session_of (registered version t n) n) ≡ false
beaten-own version t n beats =
    ap (is_some_and (is_beat_due (registered version t n))) (session-own version t n) ∙ grind (arith, nat_tests, beats)

-- The node itself has nothing more before it.

node-own : (version : ℕ) (t : Tables) (n : ℕ) (r : Node) → 1 ≤ t.settings.heartbeat → r.id ≡ n →
    node_left (registered version t n) r ≡ 0
node-own version t n r beats at =
    let live : is_session_live u r.id ≡ true = ap (is_session_live u) at ∙ live-own version t n beats in
    let beat : is_some_and (is_beat_due u) (session_of u r.id) ≡ false =
    ap (λ (k : ℕ). is_some_and (is_beat_due u) (session_of u k)) at ∙ beaten-own version t n beats in
    omega (
      arith,
      ap (λ (b : Bool). bit (is_ready r.state && not b)) live,
      none (is_ready r.state),
      ap (λ (b : Bool). bit (not b)) live,
      ap (λ (b : Bool). bit (is_session_live u r.id && b)) beat,
      none (is_session_live u r.id),
    )
  where
    u : Tables
    u = registered version t n

    none : (b : Bool) → bit (b && false) ≡ 0
    none true = refl
    none false = refl

node-before : (t : Tables) (n : ℕ) (r : Node) → is_session_live t n ≡ false → r.id ≡ n → 3 ≤ node_left t r
node-before t n r ended at =
    let dead : is_session_live t r.id ≡ false = ap (is_session_live t) at ∙ ended in
    omega (arith, ap (λ (b : Bool). bit (not b)) dead)

node-other : (version : ℕ) (t : Tables) (n : ℕ) (r : Node) → eqb n r.id ≡ false →
    node_left (registered version t n) r ≡ node_left t r
node-other version t n r away =
    let live = live-other version t n r.id away in
    omega (
      arith,
      ap (λ (b : Bool). bit (is_ready r.state && not b)) live,
      ap (λ (b : Bool). bit (not b)) live,
      ap (λ (b : Bool). bit (b && is_some_and (is_beat_due t) (session_of (registered version t n) r.id))) live,
      ap (λ (o : Option NodeSession). bit (is_session_live t r.id && is_some_and (is_beat_due t) o))
          (session-other version t n r.id away),
    )

-- What may still come is no more.

lost-there : (version : ℕ) (t : Tables) (n : ℕ) (s : Service) → places_lost (registered version t n) s ≡ places_lost t s
lost-there version t n s =
    sum-same (λ k. cond {A = ℕ} (not (has_row node_id k (registered version t n).nodes)) 1 0)
    (λ k. cond {A = ℕ} (not (has_row node_id k t.nodes)) 1 0) (held_places t s)
    (λ k h. ap (λ (b : Bool). cond {A = ℕ} (not b) 1 0) (has-changed node_id k n (ready_node version) t.nodes (λ r. refl)))

mode-there : (version : ℕ) (t : Tables) (n : ℕ) (s : Service) (x : Mode) → 1 ≤ t.settings.heartbeat →
    is_session_live t n ≡ false → coming_by_mode (registered version t n) s x ≤ coming_by_mode t s x
mode-there version t n s (mode.Replicated replicas) beats ended = omega arith
mode-there version t n s (mode.Job concurrent total) beats ended = omega arith
mode-there version t n s mode.Global beats ended =
    let nodes = changed-le node_id n (coming_on u s) (coming_on t s) (ready_node version) t.nodes
    (λ r h at.
    let now = ap (λ (b : Bool). bit (not b)) (live r at) in
    let then = ap (λ (b : Bool). bit (not b)) (dead r at) in
    let most = bit-most (is_missing u s (ready_node version r)) in
    omega (arith, now, then, most))
    (λ r h. stays r (eqb n r.id) refl) in
    omega (arith, nodes, ap (λ (k : ℕ). goes_back s * k) (lost-there version t n s))
  where
    u : Tables
    u = registered version t n

    live : (r : Node) → r.id ≡ n → is_session_live u r.id ≡ true
    live r at = ap (is_session_live u) at ∙ live-own version t n beats

    dead : (r : Node) → r.id ≡ n → is_session_live t r.id ≡ false
    dead r at = ap (is_session_live t) at ∙ ended

    stays : (r : Node) (b : Bool) → eqb n r.id ≡ b → coming_on u s r ≤ coming_on t s r
    stays r true q =
        let at : r.id ≡ n = grind (arith, nat_tests, q) in
        omega (arith, ap (λ (b : Bool). bit (not b)) (live r at))
    stays r false q = omega (arith, ap (λ (b : Bool). bit (not b)) (live-other version t n r.id q))

-- Tasks: those on the node aren't cut off any more.

twice : {X : Type 0} (test : X → Bool) (xs : List X) →
    sum_by (λ x. 2 * cond {A = ℕ} (test x) 1 0) xs ≡ 2 * count_by test xs
twice test [] = refl
twice test (x ∷ xs) =
    omega (
      arith,
      twice test xs,
      sum_by-cons (λ y. 2 * cond {A = ℕ} (test y) 1 0) x xs,
      sum_by-cons (λ y. cond {A = ℕ} (test y) 1 0) x xs,
    )

begun-executes : (version : ℕ) (w : World) (n : ℕ) (x : Task) →
    has_executor (after_register version w n) x ≡ has_executor w x
begun-executes version w n x = go x.node
  where
    go : (o : Option ℕ) →
        is_some_and (is_row_and agent_node (executes x.id) (after_register version w n).agents) o
        ≡ is_some_and (is_row_and agent_node (executes x.id) w.agents) o
    go None = refl
    go (Some k) = and-changed agent_node (executes x.id) begun w.agents n k (λ a. refl) (λ a. refl)

task-there : (version : ℕ) (w : World) (n : ℕ) (x : Task) → 1 ≤ w.tables.settings.heartbeat →
    is_session_live w.tables n ≡ false →
    task_left (after_register version w n) x + 2 * cond {A = ℕ} (is_assigned_on n x) 1 0 ≤ task_left w x
task-there version w n x beats ended =
    let executed = ap (λ (b : Bool). bit (not b)) (begun-executes version w n x) in
    let cut = go (is_assigned_on n x) refl in
    omega (arith, executed, cut)
  where
    t : Tables
    t = w.tables

    u : Tables
    u = registered version w.tables n

    all : (o : Option ℕ) → bit (is_some_and (λ k. not (is_session_live u k)) o)
        ≤ bit (is_some_and (λ k. not (is_session_live t k)) o)
    all None = omega arith
    all (Some k) = one (eqb n k) refl
      where
        one : (b : Bool) → eqb n k ≡ b → bit (not (is_session_live u k)) ≤ bit (not (is_session_live t k))
        one true q =
            let at : k ≡ n = grind (arith, nat_tests, q) in
            omega (arith, ap (λ (b : Bool). bit (not b)) (ap (is_session_live u) at ∙ live-own version t n beats))
        one false q = omega (arith, ap (λ (b : Bool). bit (not b)) (live-other version t n k q))

    go : (b : Bool) → is_assigned_on n x ≡ b → bit (is_cut_off u x) + cond {A = ℕ} b 1 0 ≤ bit (is_cut_off t x)
    go true on =
        let at : x.node ≡ Some n = on-is x.node n (second_so (nat_le (rank state.Assigned) (rank x.state)) (is_on n x) on) in
        omega (
          arith,
          ap (λ (o : Option ℕ). bit (is_some_and (λ k. not (is_session_live u k)) o)) at,
          ap (λ (b : Bool). bit (not b)) (live-own version t n beats),
          ap (λ (o : Option ℕ). bit (is_some_and (λ k. not (is_session_live t k)) o)) at,
          ap (λ (b : Bool). bit (not b)) ended,
        )
    go false on = omega (arith, all x.node)

pub falls-register : (m version : ℕ) (w : World) (n : ℕ) → Known w → IsDuty w (duty.Register n) →
    measure m (after_register version w n) + 1 ≤ measure m w
falls-register m version w n known of =
    let node = its-node w of.row known of.there in
    let r = node.0 in
    let is : r.id ≡ n = node.2 ∙ of.id_is in
    let tasks = sum-fall (task_left v) (task_left w) (λ x. 2 * cond {A = ℕ} (is_assigned_on n x) 1 0) t.tasks
    (λ x h. task-there version w n x beats ended) in
    let counted = twice (is_assigned_on n) t.tasks in
    let nodes = row-falls node_id n (node_left u) (node_left t) (ready_node version) 3 t.nodes r node.1 is
    (at-node r is) (λ y h at. let fall = at-node y at in omega (arith, fall)) (λ y h. other-node y (eqb n y.id) refl) in
    let rises = sum-le (λ (a : NodeAgent). agent_left v (cond (eqb (agent_node a) n) (begun a) a))
    (λ a. agent_left w a + cond (eqb (agent_node a) n) more 0) w.agents
    (λ a h. agent a (eqb (agent_node a) n) refl) in
    let agents = mapped-le (agent_left v) (λ (a : NodeAgent). agent_left v (cond (eqb (agent_node a) n) (begun a) a))
    (λ a. cond (eqb (agent_node a) n) (begun a) a) w.agents (λ a h. omega arith) in
    let parts = sum-join (agent_left w) (λ a. cond (eqb (agent_node a) n) more 0) w.agents in
    let one = sum-one agent_node more n 0 w.agents
    (rises-from agent_node 1 t.next_id 0 w.agents (omega arith) known.orderly.agents) in
    let come : coming m u ≤ coming m t =
    sum-le (coming_of m u) (coming_of m t) t.services
    (λ s h. let by = mode-there version t n s s.spec.mode beats ended in omega (arith, by)) in
    omega (arith, tasks, counted, nodes, rises, agents, parts, one, come)
  where
    t : Tables
    t = w.tables

    u : Tables
    u = registered version w.tables n

    v : World
    v = after_register version w n

    more : ℕ
    more = 2 * count_by (is_assigned_on n) t.tasks + 2

    beats : 1 ≤ t.settings.heartbeat
    beats = known.proper.heartbeat

    ended : is_session_live t n ≡ false
    ended = subst (λ (k : ℕ). is_session_live t k ≡ false) of.id_is of.fact.1

    at-node : (y : Node) → y.id ≡ n → node_left u (ready_node version y) + 3 ≤ node_left t y
    at-node y at = omega (arith, node-own version t n (ready_node version y) beats at, node-before t n y ended at)

    other-node : (y : Node) (b : Bool) → eqb n y.id ≡ b → node_left u y ≤ node_left t y
    other-node y true q =
        let at : y.id ≡ n = grind (arith, nat_tests, q) in omega (arith, node-own version t n y beats at)
    other-node y false q = omega (arith, node-other version t n y q)

    agent : (a : NodeAgent) (b : Bool) → eqb (agent_node a) n ≡ b →
        agent_left v (cond b (begun a) a) ≤ agent_left w a + cond b more 0
    agent a true q =
        let at : n ≡ a.node = grind (arith, nat_tests, q) in
        let left = subst (λ (k : ℕ). message_left v k ≡ more) at (begun-own version w n) in
        omega (arith, left)
    agent a false q = omega (arith, begun-other version w n a.node q)
