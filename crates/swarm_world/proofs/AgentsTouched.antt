-- Changes of rows give an agent a duty or a message only where its node is told something else.
use Rattle.std.proofs.Common.{◌≡◌, ◌∙◌, ◌∷◌, ◌<◌, ◌≤◌, ◌⊎◌, ℕ, Bool, true, false, cond, List, [], Option, Some, None, ap, arith, filter, inl, inr, refl, subst, sym}
use Rattle.std.specs.Option.{option_map}
use Rattle.std.specs.Prelude.{is_some}
use Rattle.swarm_model.proofs.Laws.GivesOut.{GivesOut}
use Rattle.swarm_objects.proofs.RowLemmas.{RisesFrom-filter, number_above}
use Rattle.swarm_objects.specs.Agents.Messages.{assigned, due_set, is_assigned_on, next_message, sent_of}
use Rattle.swarm_objects.specs.ChangeLists.{CanApply, CanApplyAll, Makes, apply_change, apply_changes}
use Rattle.swarm_objects.specs.Nodes.Sessions.{is_before_deadline, is_session_live}
use Rattle.swarm_objects.specs.Rows.{Has, RisesFrom, agent_node, has_row, put_row, row_at, sent_node, session_node, task_id}
use Rattle.swarm_objects.specs.Tasks.New.{with_task}
use Rattle.swarm_objects.specs.World.{Tables, World}
use Rattle.swarm_objects.specs.declared.agents.Executor.{Executor}
use Rattle.swarm_objects.specs.declared.agents.NodeAgent.{NodeAgent}
use Rattle.swarm_objects.specs.declared.messages.Assigned.{Assigned}
use Rattle.swarm_objects.specs.declared.messages.NodeSent.{NodeSent}
use Rattle.swarm_objects.specs.declared.rows.Change.TheVariants as change
use Rattle.swarm_objects.specs.declared.rows.Change.{Change}
use Rattle.swarm_objects.specs.declared.tasks.Task.{Task}
use Rattle.swarm_spans.proofs.Services.Alike.{keep, row_at-filter, shown-rows}
use Rattle.swarm_spans.proofs.Services.Outcomes.{TaskTurns, task-turns}
use Rattle.swarm_spans.specs.Spans.{Covers, is_in}
use Rattle.swarm_spans.specs.declared.span.Span.{Span}
use Rattle.swarm_world.proofs.AgentsShown.{IsShown, ShowsNoMore, had-duty, had-message, is_busy}
use Rattle.swarm_world.proofs.Restless.{shown-restless}
use Rattle.swarm_world.proofs.Unsaid.{unsaid-more}
use Rattle.swarm_world.specs.Inside.Looks.{AreSpanned, HasNoStep, is_restless, is_unsaid, wants_message}
use Rattle.swarm_world.specs.Inside.Touches.{AreTouched, TellsSame, TouchesAllTold, WidensTold, told_on}
use Rattle.swarm_world.specs.declared.agent_spans.AgentSpans.{AgentSpans}
use Rattle.swarm_world.specs.declared.agent_spans.Steps.{Steps}

-- What a node is told of each task.

kept-told : (node : ℕ) (o : Option Task) → option_map assigned (keep (is_assigned_on node) o) ≡ told_on node o
kept-told node None = refl
kept-told node (Some x) = go (is_assigned_on node x)
  where
    go : (b : Bool) → option_map assigned (cond b (Some x) None) ≡ cond b (Some (assigned x)) None
    go true = refl
    go false = refl

due-of : (node id : ℕ) (rows : List Task) → RisesFrom task_id 0 rows →
    option_map assigned (row_at task_id id (filter (is_assigned_on node) rows)) ≡ told_on node (row_at task_id id rows)
due-of node id rows rises =
    ap (option_map assigned) (row_at-filter task_id 0 id (is_assigned_on node) rows rises)
    ∙ kept-told node (row_at task_id id rows)

-- a node that isn't in the span is told the same of each task
told-same : (t : Tables) (cs : List Change) (wide : Span) (node id : ℕ) → 0 < node → is_in wide node ≡ false →
    TouchesAllTold t wide cs → told_on node (row_at task_id id (apply_changes t cs).tasks) ≡ told_on node (row_at task_id id t.tasks)
told-same t cs wide node id above out touches =
    go (row_at task_id id (apply_changes t cs).tasks) (task-turns t cs id)
  where
    here : (after : Option Task) (k : ℕ) → TellsSame t wide k after → k ≡ id →
        told_on node after ≡ told_on node (row_at task_id id t.tasks)
    here after k same at = either (same node above)
      where
        either : (is_in wide node ≡ true) ⊎ (told_on node after ≡ told_on node (row_at task_id k t.tasks)) →
            told_on node after ≡ told_on node (row_at task_id id t.tasks)
        either (inl within) = absurd (let e : false ≡ true = sym out ∙ within in cc)
        either (inr e) = e ∙ ap (λ n. told_on node (row_at task_id n t.tasks)) at

    go : (o : Option Task) → TaskTurns t cs id o → told_on node o ≡ told_on node (row_at task_id id t.tasks)
    go o (inl same) = ap (told_on node) same
    go o (inr (inl put)) =
        ap (told_on node) put.3
        ∙ here (Some put.0) put.0.id ((touches.each (change.PutTask put.0) put.1).put put.0 refl) put.2
    go o (inr (inr gone)) =
        ap (told_on node) gone.1 ∙ here None id ((touches.each (change.DropTask id) gone.0).drop id refl) refl

due-same : (t : Tables) (cs : List Change) (wide : Span) (node : ℕ) → 0 < node → is_in wide node ≡ false →
    RisesFrom task_id 0 t.tasks → RisesFrom task_id 0 (apply_changes t cs).tasks → TouchesAllTold t wide cs →
    due_set (apply_changes t cs) node ≡ due_set t node
due-same t cs wide node above out before after touches =
    let u = apply_changes t cs in
    shown-rows task_id assigned 0 0 (filter (is_assigned_on node) u.tasks) (filter (is_assigned_on node) t.tasks)
    (RisesFrom-filter task_id 0 (is_assigned_on node) u.tasks after)
    (RisesFrom-filter task_id 0 (is_assigned_on node) t.tasks before)
    (λ id. due-of node id u.tasks after ∙ told-same t cs wide node id above out touches ∙ sym (due-of node id t.tasks before))

-- No task comes that an executor has.

next-grows : (t : Tables) (c : Change) → t.next_id ≤ (apply_change t c).next_id
next-grows t (change.PutNode n) = omega arith
next-grows t (change.PutService s) = omega arith
next-grows t (change.PutTask x) = go (has_row task_id x.id t.tasks)
  where
    go : (b : Bool) →
        t.next_id ≤ (cond b (record t { tasks = put_row task_id x t.tasks }) (with_task t x)).next_id
    go true = omega arith
    go false = omega arith
next-grows t (change.DropTask id) = omega arith
next-grows t (change.Keep a) = omega arith

not-new : (t : Tables) (c : Change) (id : ℕ) → id < t.next_id → CanApply t c →
    has_row task_id id (apply_change t c).tasks ≡ true → has_row task_id id t.tasks ≡ true
not-new t c id below can there =
    go (row_at task_id id (apply_change t c).tasks) (task-turns t (c ∷ []) id) there
  where
    put-there : (x : Task) → x.id ≡ id → c ≡ change.PutTask x → has_row task_id id t.tasks ≡ true
    put-there x same is = either (subst (CanApply t) is can)
      where
        either : (has_row task_id x.id t.tasks ≡ true) ⊎ (x.id ≡ t.next_id) → has_row task_id id t.tasks ≡ true
        either (inl was) = subst (λ k. has_row task_id k t.tasks ≡ true) same was
        either (inr next) = absurd (omega (arith, below, same, next))

    go : (o : Option Task) → TaskTurns t (c ∷ []) id o → is_some o ≡ true → has_row task_id id t.tasks ≡ true
    go o (inl same) some = ap is_some (sym same) ∙ some
    go o (inr (inl put)) some =
        elim put.1 [ inl is ↦ put-there put.0 put.2 is | inr none ↦ absurd none ]
    go o (inr (inr gone)) some = absurd (let e : false ≡ true = sym (ap is_some gone.1) ∙ some in cc)

none-new : (t : Tables) (cs : List Change) (id : ℕ) → id < t.next_id → CanApplyAll t cs →
    has_row task_id id (apply_changes t cs).tasks ≡ true → has_row task_id id t.tasks ≡ true
none-new t [] id below can there = there
none-new t (c ∷ cs) id below can there =
    not-new t c id below can.0
    (none-new (apply_change t c) cs id (omega (arith, below, next-grows t c)) can.1 there)

-- The rest of the tables.

-- what an agent reads beside tasks
pub record SameBeside (u t : Tables) : Type 0 where
  pub clock : u.clock ≡ t.clock
  pub settings : u.settings ≡ t.settings
  pub sessions : u.sessions ≡ t.sessions

beside-put : (t : Tables) (x : Task) (b : Bool) →
    SameBeside (cond b (record t { tasks = put_row task_id x t.tasks }) (with_task t x)) t
beside-put t x true = record { clock = refl; settings = refl; sessions = refl }
beside-put t x false = record { clock = refl; settings = refl; sessions = refl }

beside-one : (t : Tables) (c : Change) → SameBeside (apply_change t c) t
beside-one t (change.PutNode n) = record { clock = refl; settings = refl; sessions = refl }
beside-one t (change.PutService s) = record { clock = refl; settings = refl; sessions = refl }
beside-one t (change.PutTask x) = beside-put t x (has_row task_id x.id t.tasks)
beside-one t (change.DropTask id) = record { clock = refl; settings = refl; sessions = refl }
beside-one t (change.Keep a) = record { clock = refl; settings = refl; sessions = refl }

beside-all : (t : Tables) (cs : List Change) → SameBeside (apply_changes t cs) t
beside-all t [] = record { clock = refl; settings = refl; sessions = refl }
beside-all t (c ∷ cs) =
    let rest = beside-all (apply_change t c) cs in
    let one = beside-one t c in
    record {
      clock = rest.clock ∙ one.clock;
      settings = rest.settings ∙ one.settings;
      sessions = rest.sessions ∙ one.sessions;
    }

-- The agents.

-- an agent whose node isn't in the span is shown no more
untouched : (w v : World) (cs : List Change) (wide : Span) (a : NodeAgent) → GivesOut w → RisesFrom task_id 0 w.tables.tasks →
    RisesFrom task_id 0 v.tables.tasks → Makes w.tables cs v.tables → v.sent ≡ w.sent → TouchesAllTold w.tables wide cs →
    Has w.agents a → 0 < a.node → is_in wide a.node ≡ false → ShowsNoMore v w a
untouched w v cs wide a gives before after makes sent touches there above out =
    let u = apply_changes w.tables cs in
    let beside = beside-all w.tables cs in
    let due : due_set v.tables a.node ≡ due_set w.tables a.node =
    ap (λ (t : Tables). due_set t a.node) (sym makes.gives)
    ∙ due-same w.tables cs wide a.node above out before
    (subst (λ (t : Tables). RisesFrom task_id 0 t.tasks) (sym makes.gives) after) touches in
    record {
      clock = ap (λ (t : Tables). t.clock) (sym makes.gives) ∙ beside.clock;
      heartbeat =
          ap (λ (t : Tables). t.settings.heartbeat) (sym makes.gives) ∙ ap (λ s. s.heartbeat) beside.settings;
      session =
          ap (λ (t : Tables). row_at session_node a.node t.sessions) (sym makes.gives)
          ∙ ap (λ rows. row_at session_node a.node rows) beside.sessions;
      message = λ some.
          subst (λ (ds : List Assigned). is_some (next_message (sent_of w a.node) ds) ≡ true) due
          (subst (λ (s : List NodeSent). is_some (next_message (row_at sent_node a.node s) (due_set v.tables a.node)) ≡ true)
          sent some);
      tasks = λ e is has.
          none-new w.tables cs e.task ((gives.agents a there).executors.given e is).below makes.can
          (subst (λ (t : Tables). has_row task_id e.task t.tasks ≡ true) (sym makes.gives) has);
    }

-- the wider span covers after the changes
covers-touched : (test : World → NodeAgent → Bool) (w v : World) (cs : List Change) (span wide : Span) → IsShown test →
    GivesOut w → RisesFrom agent_node 0 w.agents → RisesFrom task_id 0 w.tables.tasks →
    RisesFrom task_id 0 v.tables.tasks → Makes w.tables cs v.tables → v.sent ≡ w.sent → v.agents ≡ w.agents →
    WidensTold w.tables span wide cs → Covers agent_node (test w) span w.agents → Covers agent_node (test v) wide v.agents
covers-touched test w v cs span wide shown gives order before after makes sent agents widens covers = record {
  has = λ a there has. go a (subst (λ rows. Has rows a) agents there) has (is_in wide a.node) refl;
}
  where
    go : (a : NodeAgent) → Has w.agents a → test v a ≡ true → (b : Bool) → is_in wide a.node ≡ b →
        is_in wide a.node ≡ true
    go a there has true is = is
    go a there has false out =
        widens.wider.has a.node (covers.has a there (shown v w a
        (untouched w v cs wide a gives before after makes sent widens.touches there
        (number_above agent_node 0 w.agents a order there) out) has))

-- no change of rows gives an agent news
unsaid-touched : (w v : World) (cs : List Change) (span wide : Span) → GivesOut w → Makes w.tables cs v.tables →
    v.agents ≡ w.agents → wide ≡ span → Covers agent_node (is_unsaid w) span w.agents →
    Covers agent_node (is_unsaid v) wide v.agents
unsaid-touched w v cs span wide gives makes agents same covers = record {
  has = λ a there unsaid.
      let at : Has w.agents a = subst (λ rows. Has rows a) agents there in
      subst (λ (s : Span). is_in s a.node ≡ true) (sym same)
      (covers.has a at (unsaid-more v w a (still-live a) (more a at) unsaid));
}
  where
    beside : SameBeside (apply_changes w.tables cs) w.tables
    beside = beside-all w.tables cs

    still-live : (a : NodeAgent) → is_session_live v.tables a.node ≡ true → is_session_live w.tables a.node ≡ true
    still-live a live =
        let clock : v.tables.clock ≡ w.tables.clock = ap (λ (t : Tables). t.clock) (sym makes.gives) ∙ beside.clock in
        let session : row_at session_node a.node v.tables.sessions ≡ row_at session_node a.node w.tables.sessions =
        ap (λ (t : Tables). row_at session_node a.node t.sessions) (sym makes.gives)
        ∙ ap (λ rows. row_at session_node a.node rows) beside.sessions in
        sym (ap (λ k. is_before_deadline k (row_at session_node a.node v.tables.sessions)) clock
        ∙ ap (is_before_deadline w.tables.clock) session) ∙ live

    more : (a : NodeAgent) → Has w.agents a → (e : Executor) → Has a.executors e →
        has_row task_id e.task v.tables.tasks ≡ true → has_row task_id e.task w.tables.tasks ≡ true
    more a there e is has =
        none-new w.tables cs e.task ((gives.agents a there).executors.given e is).below makes.can
        (subst (λ (t : Tables). has_row task_id e.task t.tasks ≡ true) (sym makes.gives) has)

-- nor an executor a step
steps-touched : (w v : World) (cs : List Change) (s wide : Steps) → Makes w.tables cs v.tables → v.agents ≡ w.agents →
    wide ≡ s → ((a : NodeAgent) → Has w.agents a → HasNoStep w.tables.clock s a) → (a : NodeAgent) → Has v.agents a →
    HasNoStep v.tables.clock wide a
steps-touched w v cs s wide makes agents same known a there =
    let clock : v.tables.clock ≡ w.tables.clock =
    ap (λ (t : Tables). t.clock) (sym makes.gives) ∙ (beside-all w.tables cs).clock in
    subst (λ k. HasNoStep k wide a) (sym clock)
    (subst (λ (t : Steps). HasNoStep w.tables.clock t a) (sym same)
    (known a (subst (λ rows. Has rows a) agents there)))

pub spans-touched : (w v : World) (cs : List Change) (spans wide : AgentSpans) → GivesOut w → RisesFrom agent_node 0 w.agents →
    RisesFrom task_id 0 w.tables.tasks → RisesFrom task_id 0 v.tables.tasks → Makes w.tables cs v.tables →
    v.sent ≡ w.sent → v.agents ≡ w.agents → AreTouched w.tables spans wide cs → AreSpanned w spans w.agents →
    AreSpanned v wide v.agents
spans-touched w v cs spans wide gives order before after makes sent agents are covers = record {
  duties =
      covers-touched is_busy w v cs spans.duties wide.duties had-duty gives order before after makes sent agents are.duties
      covers.duties;
  sleeps =
      subst (λ k. Covers agent_node (is_restless k v) wide.duties v.agents) (sym are.wakes)
      (covers-touched (is_restless spans.wakes) w v cs spans.duties wide.duties (shown-restless spans.wakes) gives order
      before after makes sent agents are.duties covers.sleeps);
  tells =
      covers-touched wants_message w v cs spans.tells wide.tells had-message gives order before after makes sent agents
      are.tells covers.tells;
  news = unsaid-touched w v cs spans.news wide.news gives makes agents are.news covers.news;
  waits = record {
    has = λ a there waits.
        subst (λ (s : Span). is_in s a.node ≡ true) (sym are.waits)
        (covers.waits.has a (subst (λ rows. Has rows a) agents there) waits);
  };
  steps = steps-touched w v cs spans.steps wide.steps makes agents are.steps covers.steps;
}
