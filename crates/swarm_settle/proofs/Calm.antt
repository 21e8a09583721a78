-- In a quiet world of a legal history tasks that are to stop hold nothing up, and live ones that are placed run.
use Rattle.std.proofs.Common.{Bool, List, None, Option, Some, [], ap, arith, cond, false, inl, inr, not, refl, subst, sym, true, ℕ, ◌∙◌, ◌≡◌, ◌≤◌, ◌⊎◌}
use Rattle.std.proofs.lemmas.Bool.Decides.{nat_tests}
use Rattle.std.specs.Prelude.{filter, nat_le, nat_lt, ⊤, ◌&&◌, ◌==◌, ◌||◌}
use Rattle.swarm_settle.proofs.Ahead.{ahead-replay}
use Rattle.swarm_settle.proofs.Ended.{never-ended}
use Rattle.swarm_settle.proofs.GlobalPlaces.{known-valid}
use Rattle.swarm_settle.proofs.Goals.{HasGoal, IsAim}
use Rattle.swarm_settle.proofs.Known.{Known, known-replay}
use Rattle.swarm_settle.proofs.KnownCalls.{known-nodes-replay}
use Rattle.swarm_settle.proofs.KnownNodes.{KnownNodes, is_known}
use Rattle.swarm_settle.proofs.Lawful.{lawful-replay}
use Rattle.swarm_settle.proofs.NothingElse.{LivesIn, live-in}
use Rattle.swarm_settle.proofs.QuietAgents.{deadline-there, quiet-agents, ready-live}
use Rattle.swarm_settle.proofs.Rest.{no-duty, no-waits}
use Rattle.swarm_settle.proofs.Served.{always-served}
use Rattle.swarm_settle.proofs.ShapeDuties.{found}
use Rattle.swarm_settle.proofs.Shapes.{blank}
use Rattle.swarm_settle.proofs.TogetherCalls.{together-replay}
use Rattle.swarm_settle.proofs.Unmet.{live-wanted}
use Rattle.swarm_settle.proofs.WellPlaced.{node-found, valid-node}
use Rattle.swarm_settle.specs.Agents.{AreAhead, AreQuietAgents, RunsOrWaits}
use Rattle.swarm_settle.specs.Aimed.{AimsLaw}
use Rattle.swarm_settle.specs.Rest.{IsQuiet}
use Rattle.swarm_settle.specs.Sent.{HasOwners, inside_numbers, is_inside}
use Rattle.swarm_settle.specs.Served.{AreServed, IsExecutorOf, IsOnNode}
use Rattle.swarm_model.specs.History.{IsLegal, replay}
use Rattle.swarm_model.specs.Laws.Matches.{is_in_hand}
use Rattle.swarm_model.specs.Settle.{deadline_of, has_live_session, is_awaited_there, is_behind, is_remote, node_deadline, wait_till, wait_where}
use Rattle.swarm_objects.proofs.RowLemmas.{Has-filter, Has-from_row_at, Has-map, Has-map_cases}
use Rattle.swarm_objects.proofs.Tests.{any-has, both, false_from_ne_true, first_so, neither_left, neither_right, never-both, not-true, not_from_false, second_so, some-and}
use Rattle.swarm_objects.specs.Agents.Executors.{is_early, is_late}
use Rattle.swarm_objects.specs.Loops.Restart.{is_current, is_held_up, is_in_the_way}
use Rattle.swarm_objects.specs.Nodes.Sessions.{is_session_live}
use Rattle.swarm_objects.specs.Nodes.Words.{is_astray, is_down, is_drain, is_invalid, is_node_and, is_ready, is_valid, is_valid_node}
use Rattle.swarm_objects.specs.Rows.{Has, agent_node, executor_task, is_row_and, is_some_and, node_id, on_row, row_at, service_id}
use Rattle.swarm_objects.specs.Tasks.Places.{counts_for}
use Rattle.swarm_objects.specs.Tasks.Words.{has_ended, is_below_assigned, is_beside, is_live, is_placed, is_running, is_to_wait, is_unwanted, is_wanted}
use Rattle.swarm_objects.specs.Values.Ranks.{desired_rank, rank}
use Rattle.swarm_objects.specs.World.{World}
use Rattle.swarm_objects.specs.declared.agents.Executor.{Executor}
use Rattle.swarm_objects.specs.declared.agents.NodeAgent.{NodeAgent}
use Rattle.swarm_objects.specs.declared.calls.Entry.{Entry}
use Rattle.swarm_objects.specs.declared.duties.Cause.TheVariants as cause
use Rattle.swarm_objects.specs.declared.duties.Duty.TheVariants as duty
use Rattle.swarm_objects.specs.declared.nodes.Node.{Node}
use Rattle.swarm_objects.specs.declared.services.Service.{Service}
use Rattle.swarm_objects.specs.declared.tasks.Desired.TheVariants as desired
use Rattle.swarm_objects.specs.declared.tasks.Desired.{Desired}
use Rattle.swarm_objects.specs.declared.tasks.Task.{Task}
use Rattle.swarm_objects.specs.declared.tasks.TaskState.TheVariants as state
use Rattle.swarm_objects.specs.declared.tasks.TaskState.{TaskState}

pub record Calm (w : World) : Type 0 where
  pub known : Known w
  pub nodes : KnownNodes w.tables
  pub goals : (x : Task) → Has w.tables.tasks x → HasGoal x
  pub quiet : IsQuiet w
  pub owners : HasOwners w
  pub agents : AreQuietAgents w
  pub served : AreServed w
  pub ahead : AreAhead w

pub calm : (h : List Entry) → IsLegal h → IsQuiet (replay h) → Calm (replay h)
calm h legal quiet = record {
  known = known-replay h legal;
  nodes = known-nodes-replay h legal;
  goals = λ x k.
      let g = (lawful-replay h legal).goals (blank x) (Has-map blank (replay h).tables.tasks x k) in
      record { goal = g.goal; aim = g.aim };
  quiet = quiet;
  owners = (together-replay h legal).0;
  agents = quiet-agents h legal quiet;
  served = always-served h legal quiet;
  ahead = ahead-replay h legal;
}

-- A modelled node has its agent.

pub agent-of : (w : World) → Calm w → (n : Node) → Has w.tables.nodes n → n.remote ≡ false →
    (a : NodeAgent) × (row_at agent_node n.id w.agents ≡ Some a)
agent-of w is n h inside =
    let number : Has (inside_numbers w.tables.nodes) n.id =
    Has-map node_id (filter is_inside w.tables.nodes) n
    (Has-filter is_inside w.tables.nodes n h (not_from_false n.remote inside)) in
    let from = Has-map_cases agent_node w.agents n.id (subst (λ (ks : List ℕ). Has ks n.id) (sym is.owners) number) in (
      from.0,
      found agent_node w.tables.next_id n.id w.agents (λ b. ⊤) is.known.orderly.agents
          (record { row = from.0; there = from.1; id_is = from.2; fact = tt }),
    )

pub in-hand : (e : Executor) → rank state.Accepted ≤ rank e.state → rank e.state ≤ rank state.Running →
    is_in_hand e ≡ true
in-hand e low high = go e.state low high
  where
    go : (s : TaskState) → rank state.Accepted ≤ rank s → rank s ≤ rank state.Running → (is_early s || is_late s) ≡ true
    go state.New low high = absurd (omega (arith, low))
    go state.Pending low high = absurd (omega (arith, low))
    go state.Assigned low high = absurd (omega (arith, low))
    go state.Accepted low high = refl
    go state.Preparing low high = refl
    go state.Ready low high = refl
    go state.Starting low high = refl
    go state.Running low high = refl
    go state.Complete low high = absurd (omega (arith, high))
    go state.Shutdown low high = absurd (omega (arith, high))
    go state.Failed low high = absurd (omega (arith, high))
    go state.Rejected low high = absurd (omega (arith, high))
    go state.Remove low high = absurd (omega (arith, high))
    go state.Orphaned low high = absurd (omega (arith, high))

-- A task on a READY modelled node, up to RUNNING, has an executor that runs or waits.

pub record IsHosted (w : World) (a : NodeAgent) (x : Task) : Type 0 where
  pub executor : Executor
  pub at : row_at executor_task x.id a.executors ≡ Some executor
  pub of : IsExecutorOf executor x
  pub hand : is_in_hand executor ≡ true
  pub runs : RunsOrWaits executor

pub hosted : (w : World) → Calm w → (n : Node) (a : NodeAgent) (x : Task) → Has w.tables.nodes n →
    is_ready n.state ≡ true → n.remote ≡ false → row_at agent_node n.id w.agents ≡ Some a → Has w.tables.tasks x →
    IsOnNode n x → rank x.state ≤ rank state.Running → IsHosted w a x
hosted w is n a x h ready inside at there on high =
    let e = (is.served n a h ready inside at).tasks x there on in
    let row = Has-from_row_at executor_task x.id a.executors e.0 e.1 in
    let home = Has-from_row_at agent_node n.id w.agents a at in
    let hand = in-hand e.0 (is.ahead a home.0 e.0 row.0).accepted (omega (arith, e.2.state, high)) in
    record {
      executor = e.0;
      at = e.1;
      of = e.2;
      hand = hand;
      runs = (is.agents n a h ready inside at).executors e.0 row.0 hand;
    }

-- Placed tasks.

pub record IsPlacedAt (w : World) (x : Task) : Type 0 where
  pub node : Node
  pub there : Has w.tables.nodes node
  pub on : IsOnNode node x
  pub high : rank x.state ≤ rank state.Running

pub placed-at : (w : World) → Calm w → (x : Task) → Has w.tables.tasks x → is_placed x ≡ true → IsPlacedAt w x
placed-at w is x h placed =
    let at = (is.known.home x h).placed placed in
    let low =
    first_so (nat_le (rank state.Assigned) (rank x.state)) (nat_le (rank x.state) (rank state.Running)) placed in
    let high =
    second_so (nat_le (rank state.Assigned) (rank x.state)) (nat_le (rank x.state) (rank state.Running)) placed in
    record {
      node = at.0;
      there = at.1;
      on = record { node = at.2; assigned = grind (arith, nat_tests, low) };
      high = grind (arith, nat_tests, high);
    }

-- of a READY remote node nothing is awaited
not-behind : (w : World) → Calm w → (n : Node) (x : Task) → Has w.tables.nodes n → is_ready n.state ≡ true →
    n.remote ≡ true → Has w.tables.tasks x → is_placed x ≡ true → x.node ≡ Some n.id →
    is_behind x.state x.desired ≡ false
not-behind w is n x h ready outside there placed on =
    false_from_ne_true (is_behind x.state x.desired)
    (λ behind.
    let live = ready-live w is.quiet.0 n h ready in
    let awaited : is_awaited_there w.tables x ≡ true =
    both (is_placed x && is_node_and w.tables is_remote x && has_live_session w.tables x) (is_behind x.state x.desired)
    (both (is_placed x && is_node_and w.tables is_remote x) (has_live_session w.tables x)
    (both (is_placed x) (is_node_and w.tables is_remote x) placed
    (some-and (is_row_and node_id is_remote w.tables.nodes) x.node n.id on
    (some-and is_remote (row_at node_id n.id w.tables.nodes) n (node-found w is.known n h) outside)))
    (some-and (is_session_live w.tables) x.node n.id on live)) behind in
    let none : wait_till cause.Remote x.id (node_deadline w.tables x) ≡ [] =
    ap (λ (b : Bool). cond b (wait_till cause.Remote x.id (node_deadline w.tables x)) []) (sym awaited)
    ∙ (no-waits w is.quiet.1).remote x there in
    let time : deadline_of w.tables n.id ≡ None =
    ap (λ (o : Option ℕ). on_row None (deadline_of w.tables) o) (sym on)
    ∙ no-time (node_deadline w.tables x) none in
    deadline-there w n.id live time)
  where
    no-time : (o : Option ℕ) → wait_till cause.Remote x.id o ≡ [] → o ≡ None
    no-time None e = refl
    no-time (Some t) e = absurd cc

-- Tasks that are to stop.

unwanted-behind : (s : TaskState) (d : Desired) → nat_le (desired_rank desired.Shutdown) (desired_rank d) ≡ true →
    is_behind s d ≡ true
unwanted-behind s desired.Ready e = absurd cc
unwanted-behind s desired.Running e = absurd cc
unwanted-behind s desired.Complete e = absurd cc
unwanted-behind s desired.Shutdown e = refl
unwanted-behind s desired.Remove e = refl

pub stops-down : (w : World) → Calm w → (x : Task) → Has w.tables.tasks x → is_unwanted x ≡ true →
    (p : IsPlacedAt w x) → is_placed x ≡ true → is_down p.node.state ≡ true
stops-down w is x h unwanted p placed =
    down (is_ready p.node.state) refl (is_down p.node.state) refl
  where
    not-ready : ¬ (is_ready p.node.state ≡ true)
    not-ready ready = go p.node.remote refl
      where
        go : (b : Bool) → p.node.remote ≡ b → ⊥
        go true outside =
            never-both (is_behind x.state x.desired)
            (not-behind w is p.node x p.there ready outside h placed p.on.node)
            (unwanted-behind x.state x.desired unwanted)
        go false inside =
            let a = agent-of w is p.node p.there inside in
            let e = hosted w is p.node a.0 x p.there ready inside a.1 h p.on p.high in
            let going : nat_le (desired_rank desired.Shutdown) (desired_rank e.executor.desired) ≡ false =
            neither_right e.executor.gone _ e.runs.0 in
            never-both (is_unwanted x)
            (subst (λ (d : Desired). nat_le (desired_rank desired.Shutdown) (desired_rank d) ≡ false) e.of.desired
            going) unwanted

    down : (a : Bool) → is_ready p.node.state ≡ a → (b : Bool) → is_down p.node.state ≡ b →
        is_down p.node.state ≡ true
    down true ready b e = absurd (not-ready ready)
    down false ready true e = e
    down false ready false e =
        let known : is_known p.node ≡ true = (is.nodes x p.node.id h p.on.node).known p.node p.there refl in
        never-both (is_known p.node)
        (ap (λ (b : Bool). b || is_down p.node.state) ready ∙ e) known

-- what is in the way is to stop, placed, and on a valid node
way-parts : (w : World) (y : Task) → is_in_the_way w.tables y ≡ true →
    (is_unwanted y ≡ true) × (is_placed y ≡ true) × (is_astray w.tables y ≡ false)
way-parts w y way =
    (first_so (is_unwanted y) (not (has_ended y || is_below_assigned y || is_astray w.tables y)) way, here, straight)
  where
    none : (has_ended y || is_below_assigned y || is_astray w.tables y) ≡ false
    none =
        not-true (has_ended y || is_below_assigned y || is_astray w.tables y)
        (second_so (is_unwanted y) (not (has_ended y || is_below_assigned y || is_astray w.tables y)) way)

    two : (has_ended y || is_below_assigned y) ≡ false
    two = neither_left (has_ended y || is_below_assigned y) (is_astray w.tables y) none

    straight : is_astray w.tables y ≡ false
    straight = neither_right (has_ended y || is_below_assigned y) (is_astray w.tables y) none

    here : is_placed y ≡ true
    here =
        let over : has_ended y ≡ false = neither_left (has_ended y) (is_below_assigned y) two in
        let early : is_below_assigned y ≡ false = neither_right (has_ended y) (is_below_assigned y) two in
        both (nat_le (rank state.Assigned) (rank y.state)) (nat_le (rank y.state) (rank state.Running))
        (grind (arith, nat_tests, early)) (grind (arith, nat_tests, over))

down-invalid : (n : Node) → is_down n.state ≡ true → is_valid_node n ≡ false
down-invalid n down = ap (λ (b : Bool). not b && not (is_drain n.availability)) down

-- so nothing is in the way
not-in-the-way : (w : World) → Calm w → (y : Task) → Has w.tables.tasks y → ¬ (is_in_the_way w.tables y ≡ true)
not-in-the-way w is y h way = go (way-parts w y way)
  where
    go : (is_unwanted y ≡ true) × (is_placed y ≡ true) × (is_astray w.tables y ≡ false) → ⊥
    go parts = by (placed-at w is y h parts.1)
      where
        by : IsPlacedAt w y → ⊥
        by p =
            let down = stops-down w is y h parts.0 p parts.1 in
            let off : is_valid w.tables p.node.id ≡ false =
            ap (λ (o : Option Node). is_some_and is_valid_node o) (node-found w is.known p.node p.there)
            ∙ down-invalid p.node down in
            never-both (is_astray w.tables y) parts.2
            (some-and (is_invalid w.tables) y.node p.node.id p.on.node
            (not_from_false (is_valid w.tables p.node.id) off))

-- Live tasks.

not-waiting : (w : World) → Calm w → (x : Task) → Has w.tables.tasks x → is_live x ≡ true → ¬ (is_to_wait x ≡ true)
not-waiting w is x h live waits =
    no-duty w is.quiet.0 (duty.Raise x.id)
    (record {
      row = x;
      there = h;
      id_is = refl;
      fact = both (is_to_wait x && not (has_ended x) && nat_le x.raise_at w.tables.clock && is_current w.tables x)
          (not (is_held_up w.tables x))
          (both (is_to_wait x && not (has_ended x) && nat_le x.raise_at w.tables.clock) (is_current w.tables x)
          (both (is_to_wait x && not (has_ended x)) (nat_le x.raise_at w.tables.clock)
          (both (is_to_wait x) (not (has_ended x)) waits
          (not_from_false (has_ended x) (never-ended w is.known is.quiet.0 x h live))) reached) current)
          (not_from_false (is_held_up w.tables x) free);
    })
  where
    lives : (s : Service) × LivesIn w x s
    lives = live-in w x is.known is.quiet.0 h live

    current : is_current w.tables x ≡ true
    current =
        some-and (λ s. counts_for s x) (row_at service_id x.service w.tables.services) lives.0 lives.1.found
        lives.1.counts

    no-wait : (b : Bool) → wait_where b cause.Start x.id x.raise_at ≡ [] → b ≡ false
    no-wait true e = absurd cc
    no-wait false e = refl

    reached : nat_le x.raise_at w.tables.clock ≡ true
    reached =
        let none : nat_lt w.tables.clock x.raise_at ≡ false =
        last (is_live x) (is_to_wait x) (nat_lt w.tables.clock x.raise_at) live waits
        (no-wait (is_live x && is_to_wait x && nat_lt w.tables.clock x.raise_at) ((no-waits w is.quiet.1).start x h)) in
        grind (arith, nat_tests, none)
      where
        last : (a b c : Bool) → a ≡ true → b ≡ true → (a && b && c) ≡ false → c ≡ false
        last true true c e f g = g
        last true false c e f g = absurd cc
        last false b c e f g = absurd cc

    free : is_held_up w.tables x ≡ false
    free =
        false_from_ne_true (is_held_up w.tables x)
        (λ held.
        let y = any-has (λ y. is_beside x y && not (y.id == x.id) && is_in_the_way w.tables y) w.tables.tasks held in
        not-in-the-way w is y.0 y.1
        (second_so (is_beside x y.0 && not (y.0.id == x.id)) (is_in_the_way w.tables y.0) y.2))

pub aimed-well : (w : World) → Calm w → (x : Task) → Has w.tables.tasks x → is_live x ≡ true → x.desired ≡ x.goal
aimed-well w is x h live = go (is.goals x h).aim
  where
    go : IsAim x.desired x.goal → x.desired ≡ x.goal
    go (inl e) =
        absurd (not-waiting w is x h live
        (subst (λ (d : Desired). (desired_rank d == desired_rank desired.Ready) ≡ true) (sym e) refl))
    go (inr (inl e)) = e
    go (inr (inr (inl e))) =
        never-both (is_wanted x)
        (subst (λ (d : Desired). nat_lt (desired_rank d) (desired_rank desired.Shutdown) ≡ false) (sym e) refl)
        (live-wanted w x is.known h live)
    go (inr (inr (inr e))) =
        never-both (is_wanted x)
        (subst (λ (d : Desired). nat_lt (desired_rank d) (desired_rank desired.Shutdown) ≡ false) (sym e) refl)
        (live-wanted w x is.known h live)

-- what is aimed at its goal isn't to be READY
pub not-ready-goal : (x : Task) → HasGoal x → x.desired ≡ x.goal → ¬ (x.desired ≡ desired.Ready)
not-ready-goal x goal aimed ready = go goal.goal
  where
    go : ((x.goal ≡ desired.Running) ⊎ (x.goal ≡ desired.Complete)) → ⊥
    go (inl e) = let wrong : desired.Ready ≡ desired.Running = sym ready ∙ aimed ∙ e in absurd cc
    go (inr e) = let wrong : desired.Ready ≡ desired.Complete = sym ready ∙ aimed ∙ e in absurd cc

pub live-ready : (w : World) → Calm w → (x : Task) → Has w.tables.tasks x → is_live x ≡ true →
    (p : IsPlacedAt w x) → is_ready p.node.state ≡ true
live-ready w is x h live p =
    let lives = live-in w x is.known is.quiet.0 h live in
    known-valid p.node ((is.nodes x p.node.id h p.on.node).known p.node p.there refl)
    (valid-node w is.known is.quiet.0 x lives.0 p.node h live lives.1 p.there p.on.node)

-- the executor of a task whose desired state is its goal runs
pub runs-on : (w : World) → Calm w → (x : Task) → Has w.tables.tasks x → x.desired ≡ x.goal → (e : Executor) →
    e.desired ≡ x.desired → RunsOrWaits e → e.state ≡ state.Running
runs-on w is x h aimed e same runs = go runs.1
  where
    go : ((e.state ≡ state.Running) ⊎ ((e.state ≡ state.Ready) × (e.desired ≡ desired.Ready))) → e.state ≡ state.Running
    go (inl r) = r
    go (inr r) = absurd (not-ready-goal x (is.goals x h) aimed (sym same ∙ r.1))

pub runs-well : (w : World) → Calm w → (x : Task) → Has w.tables.tasks x → is_live x ≡ true → is_placed x ≡ true →
    is_running x ≡ true
runs-well w is x h live placed = go p.node.remote refl
  where
    p : IsPlacedAt w x
    p = placed-at w is x h placed

    ready : is_ready p.node.state ≡ true
    ready = live-ready w is x h live p

    aimed : x.desired ≡ x.goal
    aimed = aimed-well w is x h live

    at_goal : (d : Desired) → (d ≡ desired.Running) ⊎ (d ≡ desired.Complete) → is_behind x.state d ≡ false →
        rank state.Running ≤ rank x.state
    at_goal d (inl e) k =
        let up : nat_lt (rank x.state) (rank state.Running) ≡ false =
        subst (λ (z : Desired). is_behind x.state z ≡ false) e k in
        grind (arith, nat_tests, up)
    at_goal d (inr e) k =
        let up : nat_lt (rank x.state) (rank state.Running) ≡ false =
        subst (λ (z : Desired). is_behind x.state z ≡ false) e k in
        grind (arith, nat_tests, up)

    level : rank state.Running ≤ rank x.state → is_running x ≡ true
    level up = (let high = p.high in grind (arith, nat_tests, up, high))

    go : (b : Bool) → p.node.remote ≡ b → is_running x ≡ true
    go true outside =
        level (at_goal x.goal (is.goals x h).goal
        (subst (λ (d : Desired). is_behind x.state d ≡ false) aimed
        (not-behind w is p.node x p.there ready outside h placed p.on.node)))
    go false inside =
        let a = agent-of w is p.node p.there inside in
        let e = hosted w is p.node a.0 x p.there ready inside a.1 h p.on p.high in
        let running = runs-on w is x h aimed e.executor e.of.desired e.runs in
        level (subst (λ (s : TaskState). rank s ≤ rank x.state) running e.of.state)

pub always-aimed : AimsLaw
always-aimed h legal quiet x there =
    let is = calm h legal quiet in
    record {
      stops = λ unwanted placed.
          let p = placed-at (replay h) is x there placed in
          some-and (is_row_and node_id (λ (n : Node). is_down n.state) (replay h).tables.nodes) x.node p.node.id
          p.on.node
          (some-and (λ (n : Node). is_down n.state) (row_at node_id p.node.id (replay h).tables.nodes) p.node
          (node-found (replay h) is.known p.node p.there) (stops-down (replay h) is x there unwanted p placed));
      goal = λ live. aimed-well (replay h) is x there live;
      runs = λ live placed. runs-well (replay h) is x there live placed;
    }
