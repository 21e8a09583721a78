-- A report makes the measure smaller, and so does an executor that is forgotten.
use Rattle.std.proofs.Common.{Bool, None, Option, Some, ap, arith, cond, count_by, eqb, false, ltb, not, refl, subst, sym, true, ℕ, ◌*◌, ◌+◌, ◌<◌, ◌∙◌, ◌≡◌, ◌≤◌}
use Rattle.std.proofs.lemmas.Bool.Decides.{nat_tests}
use Rattle.std.specs.Option.{option_map}
use Rattle.std.specs.Prelude.{is_some, nat_le, nat_lt, ◌&&◌}
use Rattle.swarm_settle.proofs.Bound.AgentParts.{inbox-stays, message-same}
use Rattle.swarm_settle.proofs.Bound.Falls.Rows.{and-changed, due-mapped, has-changed}
use Rattle.swarm_settle.proofs.Bound.Looks.{SameLook, coming-looks, look-same}
use Rattle.swarm_settle.proofs.Bound.Messages.Updates.{no-update}
use Rattle.swarm_settle.proofs.Bound.Messages.World.{Known}
use Rattle.swarm_settle.proofs.Bound.Positions.{states-above}
use Rattle.swarm_settle.proofs.Bound.Sending.Left.{row_at-left_other}
use Rattle.swarm_settle.proofs.Bound.Sums.{changed-le, count-le, filtered-falls, row-falls, sum-le}
use Rattle.swarm_settle.specs.Bound.Left.{agent_left, brings, executes, executor_left, has_executor, inbox_left, message_left, task_left}
use Rattle.swarm_settle.specs.Bound.Measure.{measure}
use Rattle.swarm_model.proofs.Base.IsDuty.{IsDuty}
use Rattle.swarm_model.proofs.Laws.GivesOut.{AreExecutors}
use Rattle.swarm_model.proofs.Moves.Rows.{between-one}
use Rattle.swarm_objects.proofs.Aims.{aim}
use Rattle.swarm_objects.proofs.Tests.{false_from_ne_true, first_so, second_so}
use Rattle.swarm_objects.specs.Agents.Messages.{assigned, change_executor, due_set, is_assigned_on}
use Rattle.swarm_objects.specs.Changes.{change_task, in_state, raised_to}
use Rattle.swarm_objects.specs.Kinds.{bit}
use Rattle.swarm_objects.specs.Loops.Agents.{after_forget, after_report, executor_at, is_forgotten, is_news, reported_by, told, wants_report}
use Rattle.swarm_objects.specs.Rows.{Has, agent_node, change_row, drop_row, executor_task, has_row, is_row_and, is_some_and, on_row, row_at, sent_node, task_id}
use Rattle.swarm_objects.specs.Tasks.Words.{is_below_assigned, is_on}
use Rattle.swarm_objects.specs.Values.Ranks.{rank}
use Rattle.swarm_objects.specs.World.{World}
use Rattle.swarm_objects.specs.declared.agents.Executor.{Executor}
use Rattle.swarm_objects.specs.declared.agents.NodeAgent.{NodeAgent}
use Rattle.swarm_objects.specs.declared.duties.Duty.TheVariants as duty
use Rattle.swarm_objects.specs.declared.messages.AssignChange.TheVariants as assign
use Rattle.swarm_objects.specs.declared.messages.AssignChange.{AssignChange}
use Rattle.swarm_objects.specs.declared.messages.Assigned.{Assigned}
use Rattle.swarm_objects.specs.declared.messages.Message.{Message}
use Rattle.swarm_objects.specs.declared.tasks.Task.{Task}
use Rattle.swarm_objects.specs.declared.tasks.TaskState.TheVariants as state
use Rattle.swarm_objects.specs.declared.tasks.TaskState.{TaskState}
use Rattle.swarm_settle.proofs.Aims.{aim_at, is_gone, stays-gone, updated-some, will}
use Rattle.swarm_settle.proofs.InStep.{IsLost}
use Rattle.swarm_settle.proofs.ShapeDuties.{found}

-- A task that is raised: it is due as it was, and looks the same.

raised-look : (version clock : ℕ) (s : TaskState) (x : Task) → SameLook x (raised_to version clock s x)
raised-look version clock s x = go (ltb (rank x.state) (rank s))
  where
    go : (b : Bool) → SameLook x (cond b (in_state version clock s x) x)
    go true = record {
      id = refl;
      service = refl;
      place = refl;
      iteration = refl;
      template = refl;
      live = refl;
      closes = refl;
    }
    go false = look-same x

raised-sent : (version clock : ℕ) (s : TaskState) (x : Task) → assigned (raised_to version clock s x) ≡ assigned x
raised-sent version clock s x = go (ltb (rank x.state) (rank s))
  where
    go : (b : Bool) → assigned (cond b (in_state version clock s x) x) ≡ assigned x
    go true = refl
    go false = refl

up-assigned : (s : TaskState) → rank state.Assigned ≤ rank s → nat_le (rank state.Assigned) (rank s) ≡ true
up-assigned s up = grind (arith, nat_tests, up)

raised-due : (version clock : ℕ) (s : TaskState) (x : Task) (node : ℕ) → rank state.Assigned ≤ rank x.state →
    is_assigned_on node (raised_to version clock s x) ≡ is_assigned_on node x
raised-due version clock s x node up = go (ltb (rank x.state) (rank s)) refl
  where
    go : (b : Bool) → ltb (rank x.state) (rank s) ≡ b →
        is_assigned_on node (cond b (in_state version clock s x) x) ≡ is_assigned_on node x
    go true e =
        let higher : rank state.Assigned ≤ rank s = grind (arith, nat_tests, e, up) in
        ap (λ (b : Bool). b && is_on node x) (up-assigned s higher ∙ sym (up-assigned x.state up))
    go false e = refl

-- and has no more before it
raised-left : (version : ℕ) (w : World) (s : TaskState) (x : Task) → rank state.Assigned ≤ rank x.state →
    task_left w (raised_to version w.tables.clock s x) ≤ task_left w x
raised-left version w s x up = go (ltb (rank x.state) (rank s)) refl
  where
    go : (b : Bool) → ltb (rank x.state) (rank s) ≡ b →
        task_left w (cond b (in_state version w.tables.clock s x) x) ≤ task_left w x
    go true e =
        let higher : rank x.state < rank s = grind (arith, nat_tests, e) in
        let below : is_below_assigned (in_state version w.tables.clock s x) ≡ false =
        grind (arith, nat_tests, up, higher) in
        omega (arith, states-above x.state s higher, ap bit below)
    go false e = omega arith

-- A report.

told-left : (e : Executor) → executor_left (told e) ≤ executor_left e
told-left e =
    let none : is_news e.state (Some e.state) ≡ false = grind (arith, nat_tests) in omega (arith, ap bit none)

told-falls : (e : Executor) → is_news e.state e.reported ≡ true → executor_left (told e) + 1 ≤ executor_left e
told-falls e news =
    let none : is_news e.state (Some e.state) ≡ false = grind (arith, nat_tests) in
    omega (arith, ap bit none, ap bit news)

abbrev with_told : ℕ → NodeAgent → NodeAgent
with_told task a = record a { executors = change_executor task told a.executors }

told-executes : (task other : ℕ) (a : NodeAgent) → executes other (with_told task a) ≡ executes other a
told-executes task other a = has-changed executor_task other task told a.executors (λ e. refl)

-- the world after the report of this executor
abbrev reported : ℕ → World → ℕ → ℕ → Executor → World
reported version w node task e = record w {
  tables = change_task e.task (raised_to version w.tables.clock e.state) w.tables;
  agents = change_row agent_node node (with_told task) w.agents;
}

reported-executes : (version : ℕ) (w : World) (node task : ℕ) (e : Executor) (x : Task) →
    has_executor (reported version w node task e) x ≡ has_executor w x
reported-executes version w node task e x = go x.node
  where
    go : (o : Option ℕ) →
        is_some_and (is_row_and agent_node (executes x.id) (change_row agent_node node (with_told task) w.agents)) o
        ≡ is_some_and (is_row_and agent_node (executes x.id) w.agents) o
    go None = refl
    go (Some k) =
        and-changed agent_node (executes x.id) (with_told task) w.agents node k (λ a. refl)
        (λ a. told-executes task x.id a)

falls-reported : (m version : ℕ) (w : World) (node task : ℕ) (e : Executor) → Known w →
    IsDuty w (duty.Report node task) → ((x : Task) → Has w.tables.tasks x → x.id ≡ e.task → rank state.Assigned ≤ rank x.state) →
    measure m (reported version w node task e) + 1 ≤ measure m w
falls-reported m version w node task e known of up =
    let tasks = changed-le task_id e.task (task_left v) (task_left w) raise w.tables.tasks
    (λ x h same.
    let first = still (raise x) in let next = raised-left version w e.state x (up x h same) in omega (arith, first, next))
    (λ x h. still x) in
    let agents = row-falls agent_node node (agent_left v) (agent_left w) (with_told task) 1 w.agents of.row of.there
    of.id_is one (λ a h same. told_stays a) (λ a h. stays a) in
    let come = coming-looks m w.tables (λ x. cond (eqb (task_id x) e.task) (raise x) x)
    (λ x h. look x (eqb (task_id x) e.task)) in
    omega (arith, tasks, agents, come)
  where
    v : World
    v = reported version w node task e

    raise : Task → Task
    raise = raised_to version w.tables.clock e.state

    look : (x : Task) (b : Bool) → SameLook x (cond b (raise x) x)
    look x true = raised-look version w.tables.clock e.state x
    look x false = look-same x

    still : (x : Task) → task_left v x ≤ task_left w x
    still x = omega (arith, ap (λ (b : Bool). bit (not b)) (reported-executes version w node task e x))

    due : (k : ℕ) → due_set v.tables k ≡ due_set w.tables k
    due k =
        due-mapped w.tables (λ x. cond (eqb (task_id x) e.task) (raise x) x) k
        (λ x h. on x h (eqb (task_id x) e.task) refl) (λ x h is. sent x (eqb (task_id x) e.task))
      where
        on : (x : Task) → Has w.tables.tasks x → (b : Bool) → eqb (task_id x) e.task ≡ b →
            is_assigned_on k (cond b (raise x) x) ≡ is_assigned_on k x
        on x h true q =
            raised-due version w.tables.clock e.state x k (up x h (grind (arith, nat_tests, q)))
        on x h false q = refl

        sent : (x : Task) (b : Bool) → assigned (cond b (raise x) x) ≡ assigned x
        sent x true = raised-sent version w.tables.clock e.state x
        sent x false = refl

    messages : (k : ℕ) → message_left v k ≡ message_left w k
    messages k = message-same w v (record { sent = refl; due = due }) k

    rows : (id : ℕ) → has_row task_id id w.tables.tasks ≡ true → has_row task_id id v.tables.tasks ≡ true
    rows id there =
        has-changed task_id id e.task raise w.tables.tasks
        (λ x. (raised-look version w.tables.clock e.state x).id) ∙ there

    inbox : (a : NodeAgent) → inbox_left v (with_told task a) ≤ inbox_left w a
    inbox a = inbox-stays w v a (with_told task a) rows refl (λ other is. told-executes task other a ∙ is)

    told_stays : (a : NodeAgent) → agent_left v (with_told task a) ≤ agent_left w a
    told_stays a =
        omega (
          arith,
          inbox a,
          messages a.node,
          changed-le executor_task task executor_left executor_left told a.executors
              (λ f h is. told-left f) (λ f h. omega arith),
        )

    stays : (a : NodeAgent) → agent_left v a ≤ agent_left w a
    stays a = omega (arith, messages a.node, inbox-stays w v a a rows refl (λ other is. is))

    one : agent_left v (with_told task of.row) + 1 ≤ agent_left w of.row
    one =
        let f = of.fact.1.1 in
        omega (
          arith,
          inbox of.row,
          messages of.row.node,
          row-falls executor_task task executor_left executor_left told 1 of.row.executors f.row f.there f.id_is
              (told-falls f.row (second_so (not f.row.gone && has_row task_id f.row.task w.tables.tasks)
              (is_news f.row.state f.row.reported) f.fact)) (λ g h is. told-left g) (λ g h. omega arith),
        )

pub falls-report : (m version : ℕ) (w : World) (node task : ℕ) → Known w → IsDuty w (duty.Report node task) →
    measure m (after_report version w node task) + 1 ≤ measure m w
falls-report m version w node task known of =
    subst (λ (o : Option Executor). measure m (after o) + 1 ≤ measure m w) (sym here)
    (falls-reported m version w node task of.fact.1.1.row known of up)
  where
    after : Option Executor → World
    after o = record w {
      tables = reported_by version w o;
      agents = change_row agent_node node (with_told task) w.agents;
    }

    there : row_at agent_node node w.agents ≡ Some of.row
    there = found agent_node w.tables.next_id node w.agents _ known.orderly.agents of

    given : AreExecutors w.tables of.row.node of.row.executors
    given = (known.gives.agents of.row of.there).executors

    here : executor_at w node task ≡ Some of.fact.1.1.row
    here =
        ap (on_row None (λ (a : NodeAgent). row_at executor_task task a.executors)) there
        ∙ found executor_task w.tables.next_id task of.row.executors (λ f. wants_report w.tables f ≡ true) given.rises
        of.fact.1.1

    up : (x : Task) → Has w.tables.tasks x → x.id ≡ of.fact.1.1.row.task → rank state.Assigned ≤ rank x.state
    up x h same = ((given.given of.fact.1.1.row of.fact.1.1.there).there x h same).1

-- An executor that is forgotten.

abbrev without : ℕ → NodeAgent → NodeAgent
without task a = record a { executors = drop_row executor_task task a.executors }

pub falls-forget : (m : ℕ) (w : World) (node task : ℕ) → Known w → IsDuty w (duty.Forget node task) →
    measure m (after_forget w node task) + 1 ≤ measure m w
falls-forget m w node task known of =
    let tasks = sum-le (task_left v) (task_left w) w.tables.tasks
    (λ x h. omega (arith, ap (λ (b : Bool). bit (not b)) (kept x h))) in
    let agents = row-falls agent_node node (agent_left v) (agent_left w) (without task) 1 w.agents of.row of.there
    of.id_is one
    (λ a h same.
    let is = between-one agent_node 1 w.tables.next_id w.agents of.row a known.orderly.agents of.there h
    (of.id_is ∙ sym same) in
    subst (λ (b : NodeAgent). agent_left v (without task b) ≤ agent_left w b) is (omega (arith, one)))
    (λ a h. omega arith) in
    omega (arith, tasks, agents)
  where
    v : World
    v = after_forget w node task

    f : Executor
    f = of.fact.1.row

    row : row_at executor_task task of.row.executors ≡ Some f
    row =
        found executor_task w.tables.next_id task of.row.executors (λ g. is_forgotten g ≡ true)
        (known.gives.agents of.row of.there).executors.rises of.fact.1

    dead : is_gone (aim_at of.row.executors task) ≡ true
    dead =
        ap (λ (o : Option Executor). is_gone (option_map aim o)) row
        ∙ first_so f.gone (nat_lt (rank state.Running) (rank f.state)) of.fact.1.fact

    lost : IsLost w.tables task
    lost =
        (known.steps of.row of.there).gone task
        (stays-gone task of.row.inbox (aim_at of.row.executors task) dead)

    apart : (x : Task) → Has w.tables.tasks x → eqb x.id task ≡ false
    apart x h =
        false_from_ne_true (eqb x.id task) (λ e. absurd (lost.away x h (grind (arith, nat_tests, e))))

    executes_still : (other : ℕ) (a : NodeAgent) → eqb other task ≡ false →
        executes other (without task a) ≡ executes other a
    executes_still other a away = ap is_some (row_at-left_other executor_task task other a.executors away)

    kept : (x : Task) → Has w.tables.tasks x → has_executor v x ≡ has_executor w x
    kept x h = go x.node
      where
        go : (o : Option ℕ) →
            is_some_and (is_row_and agent_node (executes x.id) (change_row agent_node node (without task) w.agents)) o
            ≡ is_some_and (is_row_and agent_node (executes x.id) w.agents) o
        go None = refl
        go (Some k) =
            and-changed agent_node (executes x.id) (without task) w.agents node k (λ a. refl)
            (λ a. executes_still x.id a (apart x h))

    none : (i : Assigned) (message : Message) → of.row.inbox ≡ Some message →
        Has message.changes (assign.Update i) → eqb i.task task ≡ false
    none i message at h =
        false_from_ne_true (eqb i.task task)
        (λ e.
        let same : i.task ≡ task = grind (arith, nat_tests, e) in
        let some = updated-some message i None h in
        let nothing = no-update w.tables (row_at sent_node of.row.node w.sent) of.row.inbox (aim_at of.row.executors)
        task (known.steps of.row of.there) dead in
        absurd (let wrong : false ≡ true =
        sym (ap is_some (subst (λ (o : Option Message). will task o None ≡ None) at nothing))
        ∙ subst (λ (k : ℕ). is_some (will k (Some message) None) ≡ true) same some in cc))

    fewer : (message : Message) → of.row.inbox ≡ Some message → (c : AssignChange) → Has message.changes c →
        brings v (without task of.row) c ≡ true → brings w of.row c ≡ true
    fewer message at (assign.Remove gone) h is = is
    fewer message at (assign.Update i) h is =
        sym (ap (λ (b : Bool). not (has_row task_id i.task w.tables.tasks) && not b)
        (executes_still i.task of.row (none i message at h))) ∙ is

    inbox : (o : Option Message) → of.row.inbox ≡ o →
        on_row 0 (λ (z : Message). 1 + 14 * count_by (brings v (without task of.row)) z.changes) o
        ≤ on_row 0 (λ (z : Message). 1 + 14 * count_by (brings w of.row) z.changes) o
    inbox None at = omega arith
    inbox (Some message) at =
        let few = count-le (brings v (without task of.row)) (brings w of.row) message.changes (fewer message at) in
        omega (arith, few)

    one : agent_left v (without task of.row) + 1 ≤ agent_left w of.row
    one =
        let out : not (eqb (executor_task f) task) ≡ false = ap not (same f of.fact.1.id_is) in
        omega (
          arith,
          inbox of.row.inbox refl,
          filtered-falls executor_left (λ g. not (eqb (executor_task g) task)) of.row.executors f of.fact.1.there out,
        )
      where
        same : (g : Executor) → g.task ≡ task → eqb g.task task ≡ true
        same g e = grind (arith, nat_tests, e)
