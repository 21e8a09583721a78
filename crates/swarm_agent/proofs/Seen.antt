-- Times that no step looks at.
use Rattle.std.proofs.Common.{Bool, List, None, Option, Some, [], ap, cond, eqb, false, ltb, not, refl, sym, true, ℕ, ◌∙◌, ◌∷◌, ◌≡◌}
use Rattle.std.specs.List.{list_any}
use Rattle.std.specs.Option.{option_map}
use Rattle.std.specs.Prelude.{filter, fold, is_some, map, ◌&&◌, ◌++◌}
use Rattle.swarm_agent.specs.Agent.{has_news}
use Rattle.swarm_agent.specs.Times.{TimesLaw, is_timed, seen, seen_agent}
use Rattle.swarm_objects.specs.Agents.NodeAgents.{failed_agent, lost}
use Rattle.swarm_objects.specs.Agents.Executors.{executor_step, is_late, moved, phase_time}
use Rattle.swarm_objects.specs.Agents.Messages.{applied, apply_change, change_executor, gone_executor, left_out, names, new_executor, updated}
use Rattle.swarm_objects.specs.Loops.Agents.{agent_duties, duties_on, has_step, inbox_duties, is_forgotten, is_mode_on, report_duties, session_duties, stepped, take_in, told, wants_report}
use Rattle.swarm_objects.specs.Loops.Words.{duty_where}
use Rattle.swarm_objects.specs.Nodes.Sessions.{is_session_live}
use Rattle.swarm_objects.proofs.RowLemmas.{row_at-map}
use Rattle.swarm_objects.specs.Rows.{drop_row, executor_task, has_row, on_row, row_at, with_row}
use Rattle.swarm_objects.specs.World.{World}
use Rattle.swarm_objects.specs.declared.duties.Duty.TheVariants as duty
use Rattle.swarm_objects.specs.declared.duties.Duty.{Duty}
use Rattle.swarm_objects.specs.declared.agents.Executor.{Executor}
use Rattle.swarm_objects.specs.declared.agents.NodeAgent.{NodeAgent}
use Rattle.swarm_objects.specs.declared.messages.AssignChange.{AssignChange}
use Rattle.swarm_objects.specs.declared.messages.AssignChange.TheVariants as assign
use Rattle.swarm_objects.specs.declared.messages.Assigned.{Assigned}
use Rattle.swarm_objects.specs.declared.messages.Message.{Message}
use Rattle.swarm_objects.specs.declared.tasks.Desired.{Desired}
use Rattle.swarm_objects.specs.declared.tasks.TaskState.{TaskState}
use Rattle.swarm_objects.specs.declared.tasks.TaskState.TheVariants as state
use Rattle.swarm_objects.specs.declared.templates.Workload.{Workload}

-- Either the executor is as it is seen, or it is so but for its time.

abbrev at_zero : Executor → Executor
at_zero e = record e { since = 0 }

-- a fact of the executor as it is seen, from it as it is, and from it at 0 where its state isn't timed
by-seen : (P : Executor → Type 0) (e : Executor) → P e → (is_timed e.state ≡ false → P (at_zero e)) → P (seen e)
by-seen P e same zero = go (is_timed e.state) refl
  where
    go : (b : Bool) → is_timed e.state ≡ b → P (cond b e (at_zero e))
    go true q = same
    go false q = zero q

seen-zero : (e : Executor) → is_timed e.state ≡ false → seen (at_zero e) ≡ seen e
seen-zero e q =
    ap (λ (b : Bool). cond b (at_zero e) (at_zero e)) q ∙ sym (ap (λ (b : Bool). cond b e (at_zero e)) q)

-- a step, or none
stepped-either : (e : Executor) (o : Option Executor) → is_timed e.state ≡ false →
    seen (on_row (at_zero e) (λ after. after) o) ≡ seen (on_row e (λ after. after) o)
stepped-either e None q = seen-zero e q
stepped-either e (Some after) q = refl

-- its parts, with the state in front
abbrev made : TaskState → ℕ → Desired → Workload → ℕ → Option ℕ → Option TaskState → Bool → Executor
made s task desired workload since stopping reported gone =
    record { task = task; desired = desired; workload = workload; state = s; since = since; stopping = stopping; reported = reported; gone = gone }

abbrev IsSameAt : Executor → Type 0
IsSameAt e =
    ((clock : ℕ) → has_step clock (at_zero e) ≡ has_step clock e)
    × (phase_time (at_zero e) ≡ phase_time e)
    × ((clock : ℕ) → seen (stepped clock (at_zero e)) ≡ seen (stepped clock e))

same-at : (s : TaskState) (task : ℕ) (d : Desired) (w : Workload) (since : ℕ) (stopping : Option ℕ)
    (reported : Option TaskState) (gone : Bool) → is_timed s ≡ false →
    IsSameAt (made s task d w since stopping reported gone)
same-at state.New task d w since stopping reported gone e = (λ clock. refl, refl, λ clock. refl)
same-at state.Pending task d w since stopping reported gone e = (λ clock. refl, refl, λ clock. refl)
same-at state.Assigned task d w since stopping reported gone e = (λ clock. refl, refl, λ clock. refl)
same-at state.Accepted task d w since stopping reported gone e =
    let x = made state.Accepted task d w since stopping reported gone in
    (λ clock. refl, refl, λ clock. stepped-either x (executor_step clock x) refl)
same-at state.Preparing task d w since stopping reported gone e = absurd cc
same-at state.Ready task d w since stopping reported gone e =
    let x = made state.Ready task d w since stopping reported gone in
    (λ clock. refl, refl, λ clock. stepped-either x (executor_step clock x) refl)
same-at state.Starting task d w since stopping reported gone e = absurd cc
same-at state.Running task d w since stopping reported gone e = absurd cc
same-at state.Complete task d w since stopping reported gone e = (λ clock. refl, refl, λ clock. refl)
same-at state.Shutdown task d w since stopping reported gone e = (λ clock. refl, refl, λ clock. refl)
same-at state.Failed task d w since stopping reported gone e = (λ clock. refl, refl, λ clock. refl)
same-at state.Rejected task d w since stopping reported gone e = (λ clock. refl, refl, λ clock. refl)
same-at state.Remove task d w since stopping reported gone e = (λ clock. refl, refl, λ clock. refl)
same-at state.Orphaned task d w since stopping reported gone e = (λ clock. refl, refl, λ clock. refl)

zero-same : (e : Executor) → is_timed e.state ≡ false → IsSameAt e
zero-same e q = same-at e.state e.task e.desired e.workload e.since e.stopping e.reported e.gone q

-- One executor.

seen-task : (e : Executor) → (seen e).task ≡ e.task
seen-task e = by-seen (λ f. f.task ≡ e.task) e refl (λ q. refl)

seen-aimed : (d : Desired) (e : Executor) → seen (record e { desired = d }) ≡ record (seen e) { desired = d }
seen-aimed d e = go (is_timed e.state)
  where
    go : (b : Bool) → cond b (record e { desired = d }) (at_zero (record e { desired = d }))
        ≡ record (cond b e (at_zero e)) { desired = d }
    go true = refl
    go false = refl

seen-gone : (e : Executor) → seen (gone_executor e) ≡ gone_executor (seen e)
seen-gone e = go (is_timed e.state)
  where
    go : (b : Bool) → cond b (gone_executor e) (at_zero (gone_executor e)) ≡ gone_executor (cond b e (at_zero e))
    go true = refl
    go false = refl

seen-left : (m : Message) (e : Executor) → seen (left_out m e) ≡ left_out m (seen e)
seen-left m e =
    go (m.complete && not (list_any (names e.task) m.changes))
    ∙ ap (λ (x : ℕ). cond (m.complete && not (list_any (names x) m.changes)) (gone_executor (seen e)) (seen e))
    (sym (seen-task e))
  where
    go : (b : Bool) → seen (cond b (gone_executor e) e) ≡ cond b (gone_executor (seen e)) (seen e)
    go true = seen-gone e
    go false = refl

seen-lost : (clock : ℕ) (e : Executor) → seen (lost clock e) ≡ lost 0 (seen e)
seen-lost clock e = go (is_late e.state) ∙ sym (under (is_timed e.state))
  where
    go : (b : Bool) → seen (cond b (moved clock state.Failed e) e) ≡ cond b (moved 0 state.Failed e) (seen e)
    go true = refl
    go false = refl

    under : (t : Bool) → lost 0 (cond t e (at_zero e)) ≡ cond (is_late e.state) (moved 0 state.Failed e) (cond t e (at_zero e))
    under true = refl
    under false = refl

-- Lists.

seen-each : (g h : Executor → Executor) (es : List Executor) → ((e : Executor) → seen (g e) ≡ h (seen e)) →
    map seen (map g es) ≡ map h (map seen es)
seen-each g h [] same = refl
seen-each g h (e ∷ es) same =
    ap (λ (z : Executor). z ∷ map seen (map g es)) (same e)
    ∙ ap (λ (zs : List Executor). h (seen e) ∷ zs) (seen-each g h es same)

seen-change : (k : ℕ) (g : Executor → Executor) (es : List Executor) → ((e : Executor) → seen (g e) ≡ g (seen e)) →
    map seen (change_executor k g es) ≡ change_executor k g (map seen es)
seen-change k g es same =
    seen-each (λ e. cond (eqb e.task k) (g e) e) (λ e. cond (eqb e.task k) (g e) e) es one
  where
    go : (e : Executor) (b : Bool) → seen (cond b (g e) e) ≡ cond b (g (seen e)) (seen e)
    go e true = same e
    go e false = refl

    one : (e : Executor) → seen (cond (eqb e.task k) (g e) e) ≡ cond (eqb (seen e).task k) (g (seen e)) (seen e)
    one e =
        go e (eqb e.task k) ∙ ap (λ (x : ℕ). cond (eqb x k) (g (seen e)) (seen e)) (sym (seen-task e))

pub seen-found : (k : ℕ) (es : List Executor) →
    row_at executor_task k (map seen es) ≡ option_map seen (row_at executor_task k es)
seen-found k es = row_at-map executor_task k seen es seen-task

seen-row : (k : ℕ) (es : List Executor) → has_row executor_task k (map seen es) ≡ has_row executor_task k es
seen-row k es = ap is_some (seen-found k es) ∙ go (row_at executor_task k es)
  where
    go : (o : Option Executor) → is_some (option_map seen o) ≡ is_some o
    go None = refl
    go (Some e) = refl

seen-drop : (k : ℕ) (es : List Executor) →
    map seen (drop_row executor_task k es) ≡ drop_row executor_task k (map seen es)
seen-drop k [] = refl
seen-drop k (e ∷ es) =
    go (eqb e.task k) (seen-drop k es)
    ∙ ap (λ (j : ℕ). cond (not (eqb j k)) (seen e ∷ drop_row executor_task k (map seen es))
    (drop_row executor_task k (map seen es))) (sym (seen-task e))
  where
    go : (b : Bool) → map seen (drop_row executor_task k es) ≡ drop_row executor_task k (map seen es) →
        map seen (cond (not b) (e ∷ drop_row executor_task k es) (drop_row executor_task k es))
        ≡ cond (not b) (seen e ∷ drop_row executor_task k (map seen es)) (drop_row executor_task k (map seen es))
    go true rest = rest
    go false rest = ap (λ (zs : List Executor). seen e ∷ zs) rest

-- a change that makes the same of an executor as it is seen
seen-same : (k : ℕ) (g : Executor → Executor) (es : List Executor) → ((e : Executor) → seen (g (seen e)) ≡ seen (g e)) →
    map seen (change_executor k g (map seen es)) ≡ map seen (change_executor k g es)
seen-same k g [] same = refl
seen-same k g (e ∷ es) same =
    ap (λ (j : ℕ). seen (cond (eqb j k) (g (seen e)) (seen e)) ∷ map seen (change_executor k g (map seen es)))
    (seen-task e)
    ∙ ap (λ (z : Executor). z ∷ map seen (change_executor k g (map seen es))) (go (eqb e.task k))
    ∙ ap (λ (zs : List Executor). seen (cond (eqb e.task k) (g e) e) ∷ zs) (seen-same k g es same)
  where
    go : (b : Bool) → seen (cond b (g (seen e)) (seen e)) ≡ seen (cond b (g e) e)
    go true = same e
    go false = by-seen (λ f. seen f ≡ seen e) e refl (λ q. seen-zero e q)

seen-put : (new : Executor) (es : List Executor) → map seen (with_row executor_task new es)
    ≡ with_row executor_task (seen new) (map seen es)
seen-put new [] = refl
seen-put new (e ∷ es) =
    go (ltb new.task e.task) (eqb new.task e.task) (seen-put new es)
    ∙ ap (λ (x : ℕ). cond (ltb x e.task) (seen new ∷ seen e ∷ map seen es) (cond (eqb x e.task) (seen new ∷ map seen es)
    (seen e ∷ with_row executor_task (seen new) (map seen es)))) (sym (seen-task new))
    ∙ ap (λ (x : ℕ). cond (ltb (seen new).task x) (seen new ∷ seen e ∷ map seen es) (cond (eqb (seen new).task x)
    (seen new ∷ map seen es) (seen e ∷ with_row executor_task (seen new) (map seen es)))) (sym (seen-task e))
  where
    go : (a b : Bool) → map seen (with_row executor_task new es) ≡ with_row executor_task (seen new) (map seen es) →
        map seen (cond a (new ∷ e ∷ es) (cond b (new ∷ es) (e ∷ with_row executor_task new es)))
        ≡ cond a (seen new ∷ seen e ∷ map seen es) (cond b (seen new ∷ map seen es)
        (seen e ∷ with_row executor_task (seen new) (map seen es)))
    go true b rest = refl
    go false true rest = refl
    go false false rest = ap (λ (zs : List Executor). seen e ∷ zs) rest

-- Messages.

seen-updated : (clock : ℕ) (es : List Executor) (a : Assigned) →
    map seen (updated clock es a) ≡ updated 0 (map seen es) a
seen-updated clock es a =
    go (has_row executor_task a.task es)
    ∙ ap (λ (b : Bool). cond b (change_executor a.task (λ e. record e { desired = a.desired }) (map seen es))
    (with_row executor_task (new_executor 0 a) (map seen es))) (sym (seen-row a.task es))
  where
    go : (b : Bool) →
        map seen (cond b (change_executor a.task (λ e. record e { desired = a.desired }) es)
        (with_row executor_task (new_executor clock a) es))
        ≡ cond b (change_executor a.task (λ e. record e { desired = a.desired }) (map seen es))
        (with_row executor_task (new_executor 0 a) (map seen es))
    go true = seen-change a.task (λ e. record e { desired = a.desired }) es (seen-aimed a.desired)
    go false = seen-put (new_executor clock a) es

seen-changed : (clock : ℕ) (es : List Executor) (c : AssignChange) →
    map seen (apply_change clock es c) ≡ apply_change 0 (map seen es) c
seen-changed clock es (assign.Update a) = seen-updated clock es a
seen-changed clock es (assign.Remove task) = seen-change task gone_executor es seen-gone

seen-all : (clock : ℕ) (cs : List AssignChange) (es : List Executor) →
    map seen (fold (apply_change clock) es cs) ≡ fold (apply_change 0) (map seen es) cs
seen-all clock [] es = refl
seen-all clock (c ∷ cs) es =
    seen-all clock cs (apply_change clock es c)
    ∙ ap (λ (rows : List Executor). fold (apply_change 0) rows cs) (seen-changed clock es c)

seen-applied : (clock : ℕ) (m : Message) (es : List Executor) →
    map seen (applied clock m es) ≡ applied 0 m (map seen es)
seen-applied clock m es =
    seen-each (left_out m) (left_out m) (fold (apply_change clock) es m.changes) (seen-left m)
    ∙ ap (map (left_out m)) (seen-all clock m.changes es)

seen-take : (clock : ℕ) (o : Option Message) (a : NodeAgent) →
    seen_agent (take_in clock o a) ≡ take_in 0 o (seen_agent a)
seen-take clock None a = refl
seen-take clock (Some m) a =
    ap (λ (es : List Executor). record a { inbox = None; applied = m.results_in; executors = es })
    (seen-applied clock m a.executors)

-- Duties.

seen-duty : (test : Executor → Bool) (duty_of : ℕ → Duty) (es : List Executor) →
    ((e : Executor) → test (seen e) ≡ test e) →
    duty_where test (λ (e : Executor). duty_of e.task) (map seen es) ≡ duty_where test (λ (e : Executor). duty_of e.task) es
seen-duty test duty_of [] same = refl
seen-duty test duty_of (e ∷ es) same =
    ap (λ (b : Bool). map (λ (f : Executor). duty_of f.task) (cond b (seen e ∷ filter test (map seen es))
    (filter test (map seen es)))) (same e)
    ∙ go (test e) (seen-duty test duty_of es same)
  where
    go : (b : Bool) →
        duty_where test (λ (f : Executor). duty_of f.task) (map seen es)
        ≡ duty_where test (λ (f : Executor). duty_of f.task) es →
        map (λ (f : Executor). duty_of f.task) (cond b (seen e ∷ filter test (map seen es)) (filter test (map seen es)))
        ≡ map (λ (f : Executor). duty_of f.task) (cond b (e ∷ filter test es) (filter test es))
    go true rest =
        ap (λ (d : Duty). d ∷ duty_where test (λ (f : Executor). duty_of f.task) (map seen es)) (ap duty_of (seen-task e))
        ∙ ap (λ (ds : List Duty). duty_of e.task ∷ ds) rest
    go false rest = rest

seen-session : (w : World) (a : NodeAgent) (live : Bool) →
    session_duties w (seen_agent a) live ≡ session_duties w a live
seen-session w a true = refl
seen-session w a false = refl

seen-inbox : (w : World) (a : NodeAgent) (live : Bool) (o : Option Message) →
    inbox_duties w (seen_agent a) live o ≡ inbox_duties w a live o
seen-inbox w a live None = refl
seen-inbox w a live (Some m) = refl

seen-reports : (w : World) (a : NodeAgent) (live : Bool) → report_duties w (seen_agent a) live ≡ report_duties w a live
seen-reports w a true =
    seen-duty (wants_report w.tables) (duty.Report a.node) a.executors
    (λ e. by-seen (λ f. wants_report w.tables f ≡ wants_report w.tables e) e refl (λ q. refl))
seen-reports w a false = refl

seen-due : (clock : ℕ) (e : Executor) → has_step clock (seen e) ≡ has_step clock e
seen-due clock e = by-seen (λ f. has_step clock f ≡ has_step clock e) e refl (λ q. (zero-same e q).0 clock)

seen-forgotten : (e : Executor) → is_forgotten (seen e) ≡ is_forgotten e
seen-forgotten e = by-seen (λ f. is_forgotten f ≡ is_forgotten e) e refl (λ q. refl)

seen-on : (w : World) (a : NodeAgent) (live : Bool) → duties_on w (seen_agent a) live ≡ duties_on w a live
seen-on w a live =
    let steps = duty_where (has_step w.tables.clock) (λ (e : Executor). duty.Exec a.node e.task) in
    let forgets = duty_where is_forgotten (λ (e : Executor). duty.Forget a.node e.task) in
    let b = seen_agent a in
    ap (λ (ds : List Duty). ds ++ inbox_duties w b live a.inbox ++ steps b.executors ++ report_duties w b live
    ++ forgets b.executors) (seen-session w a live)
    ∙ ap (λ (ds : List Duty). session_duties w a live ++ ds ++ steps b.executors ++ report_duties w b live
    ++ forgets b.executors) (seen-inbox w a live a.inbox)
    ∙ ap (λ (ds : List Duty). session_duties w a live ++ inbox_duties w a live a.inbox ++ ds ++ report_duties w b live
    ++ forgets b.executors) (seen-duty (has_step w.tables.clock) (duty.Exec a.node) a.executors (seen-due w.tables.clock))
    ∙ ap (λ (ds : List Duty). session_duties w a live ++ inbox_duties w a live a.inbox ++ steps a.executors ++ ds
    ++ forgets b.executors) (seen-reports w a live)
    ∙ ap (λ (ds : List Duty). session_duties w a live ++ inbox_duties w a live a.inbox ++ steps a.executors
    ++ report_duties w a live ++ ds) (seen-duty is_forgotten (duty.Forget a.node) a.executors seen-forgotten)

seen-duties : (w : World) (a : NodeAgent) → agent_duties w (seen_agent a) ≡ agent_duties w a
seen-duties w a = go (is_mode_on a.mode) (seen-on w a (is_session_live w.tables a.node))
  where
    go : (b : Bool) →
        duties_on w (seen_agent a) (is_session_live w.tables a.node) ≡ duties_on w a (is_session_live w.tables a.node) →
        cond b (duties_on w (seen_agent a) (is_session_live w.tables a.node)) []
        ≡ cond b (duties_on w a (is_session_live w.tables a.node)) []
    go true same = same
    go false same = refl

seen-step : (clock : ℕ) (e : Executor) → seen (stepped clock (seen e)) ≡ seen (stepped clock e)
seen-step clock e =
    by-seen (λ f. seen (stepped clock f) ≡ seen (stepped clock e)) e refl (λ q. (zero-same e q).2 clock)

seen-told : (e : Executor) → seen (told (seen e)) ≡ seen (told e)
seen-told e = by-seen (λ f. seen (told f) ≡ seen (told e)) e refl (λ q. seen-zero (told e) q)

-- with these executors
abbrev on : NodeAgent → List Executor → NodeAgent
on a es = record a { executors = es }

pub times : TimesLaw
times = record {
  task = seen-task;
  state = λ e. by-seen (λ f. f.state ≡ e.state) e refl (λ q. refl);
  due = seen-due;
  news = λ e. by-seen (λ f. has_news f ≡ has_news e) e refl (λ q. refl);
  forgotten = seen-forgotten;
  phase = λ e. by-seen (λ f. phase_time f ≡ phase_time e) e refl (λ q. (zero-same e q).1);
  step = seen-step;
  report = seen-told;
  found = seen-found;
  there = seen-row;
  exec = λ clock task a. ap (on a) (seen-same task (stepped clock) a.executors (seen-step clock));
  tell = λ task a. ap (on a) (seen-same task told a.executors seen-told);
  forget = λ task a. ap (on a) (seen-drop task a.executors);
  duties = seen-duties;
  begin = λ a. refl;
  receive = λ m a. refl;
  apply = λ clock a. seen-take clock a.inbox a;
  fail = λ clock a.
      ap (λ (es : List Executor). record (failed_agent 0 a) { executors = es })
      (seen-each (lost clock) (lost 0) a.executors (seen-lost clock));
  power = λ a. refl;
  mode = λ change a. refl;
}
