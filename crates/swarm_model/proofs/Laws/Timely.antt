-- The times in the tables of every world of a legal history are at most a day after its clock.
use Rattle.std.proofs.Common.{Bool, List, None, Option, Some, [], arith, cond, eqb, false, inl, inr, nat_lt, refl, rules, subst, sym, true, ℕ, ◌++◌, ◌+◌, ◌∷◌, ◌≡◌, ◌≤◌, ◌⊎◌}
use Rattle.std.proofs.lemmas.Bool.Decides.{nat_tests}
use Rattle.std.specs.Prelude.{find, map, not, ⊤, ◌==◌, ◌||◌, ◌≡◌}
use Rattle.swarm_model.proofs.Laws.GivesOut.{changed}
use Rattle.swarm_model.proofs.Laws.Kept.{IsNewOf, IsOldOr, Keeps, Lightens, Runs, SameRoom, lighten-in_state, lighten-same}
use Rattle.swarm_model.proofs.Laws.KeptCalls.{kept-replay}
use Rattle.swarm_model.proofs.Laws.Within.{within-lightens}
use Rattle.swarm_model.proofs.Moves.Rows.{Becomes, becomes-cases, becomes-where}
use Rattle.swarm_model.proofs.Moves.Sessions.{with_row-cases}
use Rattle.swarm_model.proofs.Moves.Tables.{rank-most}
use Rattle.swarm_model.specs.Calls.Nodes.{is_left_behind, tables_without_node}
use Rattle.swarm_model.specs.Calls.Refusals.{bad_spec}
use Rattle.swarm_model.specs.Calls.Remote.{begun_tables}
use Rattle.swarm_objects.specs.Nodes.Opening.{tasks_within, with_resources}
use Rattle.swarm_model.specs.Calls.Services.{broken_draft, filled, new_service, with_service}
use Rattle.swarm_objects.specs.NewRows.{respecified}
use Rattle.swarm_model.specs.History.{IsLegal, replay}
use Rattle.swarm_objects.proofs.RowLemmas.{Has-append_cases, Has-filter_cases, Has-map_cases}
use Rattle.swarm_objects.specs.Changes.{change_service, change_task, in_state, placed}
use Rattle.swarm_objects.specs.Limits.{is_outside, longest_beat, longest_time, most_kept, shortest_beat}
use Rattle.swarm_objects.specs.Loops.Agents.{beaten}
use Rattle.swarm_objects.specs.Loops.Allocator.{port_number, with_addresses, with_port}
use Rattle.swarm_objects.specs.Loops.Update.{back_at, new_run, with_run}
use Rattle.swarm_objects.specs.Nodes.Sessions.{new_session, ready_node}
use Rattle.swarm_objects.specs.Rows.{Has, change_row, drop_row, node_id, service_id, session_node, task_id, with_row}
use Rattle.swarm_objects.specs.Rules.Services.{has_wrong_exit, has_wrong_time, has_wrong_work, is_too_long, is_wrong_work_time, service_breaks, service_rules}
use Rattle.swarm_objects.specs.Rules.Settings.{settings_break, settings_rules}
use Rattle.swarm_objects.specs.Tasks.New.{with_task}
use Rattle.swarm_objects.specs.World.{Tables, empty_tables}
use Rattle.swarm_objects.specs.declared.calls.Entry.{Entry}
use Rattle.swarm_objects.specs.declared.nodes.Node.{Node}
use Rattle.swarm_objects.specs.declared.rules.SpecRule.TheVariants as rule
use Rattle.swarm_objects.specs.declared.rules.SpecRule.{SpecRule}
use Rattle.swarm_objects.specs.declared.services.Draft.{Draft}
use Rattle.swarm_objects.specs.declared.services.Replaced.{Replaced}
use Rattle.swarm_objects.specs.declared.services.RunStatus.TheVariants as status
use Rattle.swarm_objects.specs.declared.services.Service.{Service}
use Rattle.swarm_objects.specs.declared.services.ServiceSpec.{ServiceSpec}
use Rattle.swarm_objects.specs.declared.services.UpdateRun.{UpdateRun}
use Rattle.swarm_objects.specs.declared.sessions.NodeSession.{NodeSession}
use Rattle.swarm_objects.specs.declared.settings.Settings.{Settings}
use Rattle.swarm_objects.specs.declared.tasks.Attempt.{Attempt}
use Rattle.swarm_objects.specs.declared.tasks.Task.{Task}
use Rattle.swarm_objects.specs.declared.tasks.TaskState.TheVariants as state
use Rattle.swarm_objects.specs.declared.templates.End.TheVariants as end
use Rattle.swarm_objects.specs.declared.templates.End.{End}
use Rattle.swarm_objects.specs.declared.templates.Template.{Template}
use Rattle.swarm_objects.specs.declared.templates.Workload.{Workload}

abbrev pub day : ℕ
day = 86400000

-- Times that last.

abbrev pub IsShortEnd : End → Type 0
IsShortEnd end.Never = ⊤
IsShortEnd (end.Exit time code) = time ≤ day
IsShortEnd end.Reject = ⊤

pub record IsShortWork (w : Workload) : Type 0 where
  pub prepare : w.prepare ≤ day
  pub start : w.start ≤ day
  pub stop : w.stop ≤ day
  pub end : IsShortEnd w.end

pub record IsShortTemplate (x : Template) : Type 0 where
  pub workload : IsShortWork x.workload
  pub delay : x.restart.delay ≤ day
  pub window : x.restart.window ≤ day

pub record IsShortSpec (s : ServiceSpec) : Type 0 where
  pub template : IsShortTemplate s.template
  pub delay : s.update.delay ≤ day
  pub monitor : s.update.monitor ≤ day

-- of what there is
abbrev pub Where : {X : Type 0} → (X → Type 0) → Option X → Type 0
Where P None = ⊤
Where P (Some x) = P x

-- Rows.

pub record IsTimelyService (clock : ℕ) (s : Service) : Type 0 where
  pub spec : IsShortSpec s.spec
  pub previous : Where IsShortSpec s.previous
  pub run : (r : UpdateRun) → s.run ≡ Some r → (i : Replaced) → Has r.replaced i → i.created ≤ clock

pub record IsTimelyTask (clock : ℕ) (x : Task) : Type 0 where
  pub template : IsShortTemplate x.template
  pub since : x.since ≤ clock
  pub created : x.created ≤ clock
  pub raise_at : x.raise_at ≤ clock + day

pub record IsTimelySession (clock : ℕ) (s : NodeSession) : Type 0 where
  pub deadline : s.session.deadline ≤ clock + day
  pub beat : s.session.beat ≤ clock

pub record Timely (t : Tables) : Type 0 where
  pub nodes : (n : Node) → Has t.nodes n → n.down_since ≤ t.clock
  pub services : (s : Service) → Has t.services s → IsTimelyService t.clock s
  pub tasks : (x : Task) → Has t.tasks x → IsTimelyTask t.clock x
  pub attempts : (a : Attempt) → Has t.attempts a → a.at ≤ t.clock
  pub sessions : (s : NodeSession) → Has t.sessions s → IsTimelySession t.clock s
  pub orphan : t.settings.orphan ≤ day
  pub heartbeat : t.settings.heartbeat ≤ 60000

-- Rows that change.

-- a row of the changed table was there, changed or not
pub changed-cases : {X : Type 0} (key : X → ℕ) (id : ℕ) (f : X → X) (rows : List X) (y : X) → Has
    (change_row key id f rows) y →
    (x : X) × Has rows x × ((x ≡ y) ⊎ ((key x ≡ id) × (f x ≡ y)))
changed-cases key id f rows y h =
    let from = Has-map_cases (λ x. cond (eqb (key x) id) (f x) x) rows y h in
    (from.0, from.1, go from.0 (eqb (key from.0) id) refl from.2)
  where
    go : (x : _) (b : Bool) → eqb (key x) id ≡ b → cond b (f x) x ≡ y → (x ≡ y) ⊎ ((key x ≡ id) × (f x ≡ y))
    go x true e same = inr (grind (arith, nat_tests, e), same)
    go x false e same = inl same

-- what every row has that was there, and every changed one
pub each-changed : {X : Type 0} (P : X → Type 0) (key : X → ℕ) (id : ℕ) (f : X → X) (rows : List X) →
    ((x : X) → Has rows x → P x) → ((x : X) → Has rows x → key x ≡ id → P (f x)) → (y : X) → Has
    (change_row key id f rows) y → P y
each-changed P key id f rows all changed y h = go (changed-cases key id f rows y h)
  where
    go : ((x : _) × Has rows x × ((x ≡ y) ⊎ ((key x ≡ id) × (f x ≡ y)))) → P y
    go r = elim r.2 [ inl e ↦ subst P e (all r.0 r.1) | inr k ↦ subst P k.1 (changed r.0 r.1 k.0) ]

pub each-pushed : {X : Type 0} (P : X → Type 0) (rows : List X) (new : X) → ((x : X) → Has rows x → P x) → P new →
    (y : X) →
    Has (rows ++ new ∷ []) y → P y
each-pushed P rows new all one y h = go (Has-append_cases rows (new ∷ []) y h)
  where
    go : Has rows y ⊎ Has (new ∷ []) y → P y
    go (inl k) = all y k
    go (inr (inl e)) = subst P e one
    go (inr (inr k)) = absurd k

-- no row comes
pub each-becomes : {X : Type 0} (P : X → Type 0) (R : X → X → Type 0) (old new : List X) → Becomes R [] old new →
    ((x y : X) → Has old x → R x y → P y) → (y : X) → Has new y → P y
each-becomes P R old new rows each y h =
    elim (becomes-cases R [] old new rows y h) [ inl r ↦ each r.0 y r.1 r.2 | inr none ↦ absurd none ]

pub each-with_row : {X : Type 0} (P : X → Type 0) (key : X → ℕ) (new : X) (rows : List X) →
    ((x : X) → Has rows x → P x) → P new →
    (y : X) → Has (with_row key new rows) y → P y
each-with_row P key new rows all one y h =
    elim (with_row-cases key new rows y h) [ inl e ↦ subst P e one | inr k ↦ all y k ]

old-or : (clock old new : ℕ) → old ≤ clock → IsOldOr clock old new → new ≤ clock
old-or clock old new le (inl e) = omega (arith, e, le)
old-or clock old new le (inr e) = omega (arith, e)

-- Specifications of drafts.

pub first-none : {X : Type 0} (test : X → Bool) (xs : List X) (x : X) → find test xs ≡ None → Has xs x → test x ≡ false
first-none test [] x e h = absurd h
first-none test (y ∷ ys) x e h = go (test y) refl e h (first-none test ys x)
  where
    go : (b : Bool) → test y ≡ b → cond b (Some y) (find test ys) ≡ None → Has (y ∷ ys) x →
        (find test ys ≡ None → Has ys x → test x ≡ false) → test x ≡ false
    go true is k there rest = absurd cc
    go false is k (inl e) rest = subst (λ z. test z ≡ false) e is
    go false is k (inr j) rest = rest k j

neither : (a b : Bool) → (a || b) ≡ false → (a ≡ false) × (b ≡ false)
neither true b e = absurd cc
neither false b e = (refl, e)

short-time : (n : ℕ) → is_too_long n ≡ false → n ≤ day
short-time n e = grind (arith, nat_tests, e)

short-work-time : (n : ℕ) → is_wrong_work_time n ≡ false → n ≤ day
short-work-time n e = short-time n (neither (n == 0) (is_too_long n) e).1

short-end : (x : End) → has_wrong_exit x ≡ false → IsShortEnd x
short-end end.Never e = tt
short-end (end.Exit time code) e = short-work-time time e
short-end end.Reject e = tt

short-work : (w : Workload) → has_wrong_work w ≡ false → IsShortWork w
short-work w e =
    let abc = neither (is_wrong_work_time w.prepare || is_wrong_work_time w.start || is_wrong_work_time w.stop)
    (has_wrong_exit w.end) e in
    let ab = neither (is_wrong_work_time w.prepare || is_wrong_work_time w.start) (is_wrong_work_time w.stop) abc.0 in
    let one = neither (is_wrong_work_time w.prepare) (is_wrong_work_time w.start) ab.0 in
    record {
      prepare = short-work-time w.prepare one.0;
      start = short-work-time w.start one.1;
      stop = short-work-time w.stop ab.1;
      end = short-end w.end abc.1;
    }

short-spec : (s : ServiceSpec) → has_wrong_time s ≡ false → IsShortSpec s
short-spec s e =
    let r = s.template.restart in
    let work = has_wrong_work s.template.workload in
    let five = neither (work || is_too_long r.delay || is_too_long r.window || is_too_long s.update.delay)
    (is_too_long s.update.monitor) e in
    let four = neither (work || is_too_long r.delay || is_too_long r.window) (is_too_long s.update.delay) five.0 in
    let three = neither (work || is_too_long r.delay) (is_too_long r.window) four.0 in
    let two = neither work (is_too_long r.delay) three.0 in
    record {
      template = record {
        workload = short-work s.template.workload two.0;
        delay = short-time r.delay two.1;
        window = short-time r.window three.1;
      };
      delay = short-time s.update.delay four.1;
      monitor = short-time s.update.monitor five.1;
    }

unbroken-draft : (d : Draft) → broken_draft d ≡ None → find (service_breaks d) service_rules ≡ None
unbroken-draft d e = go (find (service_breaks d) service_rules) e
  where
    go : (o : Option SpecRule) → bad_spec o ≡ None → o ≡ None
    go None k = refl
    go (Some r) k = absurd cc

-- a draft that breaks no rule has short times, whatever networks it is given
short-draft : (t : Tables) (d : Draft) → broken_draft d ≡ None → IsShortSpec (filled t d)
short-draft t d e =
    let wrong : service_breaks d rule.Time ≡ false =
    first-none (service_breaks d) service_rules rule.Time (unbroken-draft d e) (inr (inr (inl refl))) in
    let is = short-spec d.spec wrong in
    record {
      template = record { workload = is.template.workload; delay = is.template.delay; window = is.template.window };
      delay = is.delay;
      monitor = is.monitor;
    }

-- Each change.

task-later : (clock : ℕ) (x y : Task) → IsTimelyTask clock x → Lightens clock x y → IsTimelyTask clock y
task-later clock x y is l = record {
  template = subst IsShortTemplate (sym l.moves.rises.making.template) is.template;
  since = old-or clock x.since y.since is.since l.since;
  created = subst (λ (k : ℕ). k ≤ clock) (sym l.moves.rises.making.created) is.created;
  raise_at = subst (λ (k : ℕ). k ≤ clock + day) (sym l.raise_at) is.raise_at;
}

-- with other tasks
with-tasks : (t : Tables) (tasks : List Task) → Timely t → ((x : Task) → Has tasks x → IsTimelyTask t.clock x) →
    Timely (record t { tasks = tasks })
with-tasks t tasks is each = record {
  nodes = is.nodes;
  services = is.services;
  tasks = each;
  attempts = is.attempts;
  sessions = is.sessions;
  orphan = is.orphan;
  heartbeat = is.heartbeat;
}

with-services : (t : Tables) (services : List Service) → Timely t → ((s : Service) → Has services s →
    IsTimelyService t.clock s) →
    Timely (record t { services = services })
with-services t services is each = record {
  nodes = is.nodes;
  services = each;
  tasks = is.tasks;
  attempts = is.attempts;
  sessions = is.sessions;
  orphan = is.orphan;
  heartbeat = is.heartbeat;
}

change-tasks : (t : Tables) (id : ℕ) (f : Task → Task) → Timely t →
    ((x : Task) → IsTimelyTask t.clock x → IsTimelyTask t.clock (f x)) → Timely (change_task id f t)
change-tasks t id f is each =
    with-tasks t (change_row task_id id f t.tasks) is
    (each-changed (IsTimelyTask t.clock) task_id id f t.tasks is.tasks (λ x h e. each x (is.tasks x h)))

change-services : (t : Tables) (id : ℕ) (f : Service → Service) → Timely t →
    ((s : Service) → IsTimelyService t.clock s → IsTimelyService t.clock (f s)) → Timely (change_service id f t)
change-services t id f is each =
    with-services t (change_row service_id id f t.services) is
    (each-changed (IsTimelyService t.clock) service_id id f t.services is.services (λ s h e. each s (is.services s h)))

set-now : (clock : ℕ) (x y : Task) → y.template ≡ x.template → y.since ≡ clock → y.created ≡ x.created →
    y.raise_at ≡ x.raise_at →
    IsTimelyTask clock x → IsTimelyTask clock y
set-now clock x y template since created raise_at is = record {
  template = subst IsShortTemplate (sym template) is.template;
  since = omega (arith, since);
  created = omega (arith, created, is.created);
  raise_at = omega (arith, raise_at, is.raise_at);
}

task-comes : (t : Tables) (s : Service) (x : Task) → Timely t → Has t.services s → IsNewOf t s x → Timely
    (with_task t x)
task-comes t s x is there new = record {
  nodes = is.nodes;
  services = is.services;
  tasks =
      each-pushed (IsTimelyTask t.clock) t.tasks x is.tasks
      (record {
        template = subst IsShortTemplate (sym new.template) (is.services s there).spec.template;
        since = omega (arith, new.since);
        created = omega (arith, new.created);
        raise_at = omega (arith, new.raise_at, (is.services s there).spec.template.delay);
      });
  attempts = is.attempts;
  sessions = is.sessions;
  orphan = is.orphan;
  heartbeat = is.heartbeat;
}

runs-on : (clock : ℕ) (x y : Service) → IsTimelyService clock x → Runs clock x y → IsTimelyService clock y
runs-on clock x y is r = record {
  spec = subst IsShortSpec (sym r.spec) is.spec;
  previous = subst (Where IsShortSpec) (sym r.previous) is.previous;
  run = λ q e i h. elim (r.run q e i h) [ inl k ↦ is.run k.0 k.1 i k.2 | inr now ↦ omega (arith, now) ];
}

previous-short : (clock : ℕ) (s : Service) (spec : ServiceSpec) → IsTimelyService clock s → s.previous ≡ Some spec →
    IsShortSpec spec
previous-short clock s spec is e = subst (Where IsShortSpec) e is.previous

back-timely : (version : ℕ) (t : Tables) (s : Service) (spec : ServiceSpec) → IsTimelyService t.clock s →
    s.previous ≡ Some spec →
    IsTimelyService t.clock (with_run version (new_run t (back_at version spec s) status.RollbackStarted)
    (back_at version spec s))
back-timely version t s spec is e = record {
  spec = previous-short t.clock s spec is e;
  previous = tt;
  run = λ r same i h. none (new_run t (back_at version spec s) status.RollbackStarted) refl r same i h;
}
  where
    none : (q : UpdateRun) → q.replaced ≡ [] → (r : UpdateRun) → ◌≡◌ {A = Option UpdateRun} (Some q) (Some r) →
        (i : Replaced) → Has r.replaced i → i.created ≤ t.clock
    none q empty r same i h =
        let one : q ≡ r = cc in
        absurd (subst (λ xs. Has xs i) empty (subst (λ (z : UpdateRun). Has z.replaced i) (sym one) h))

respecified-timely : (clock version : ℕ) (back : Bool) (spec : ServiceSpec) (s : Service) → IsShortSpec spec →
    IsTimelyService clock s →
    IsTimelyService clock (respecified version back spec s)
respecified-timely clock version back spec s short is = record { spec = short; previous = is.spec; run = is.run }

service-comes : (version : ℕ) (t : Tables) (name : List ℕ) (d : Draft) → Timely t → broken_draft d ≡ None →
    Timely (with_service t (new_service version t name d))
service-comes version t name d is rules = record {
  nodes = is.nodes;
  services =
      each-pushed (IsTimelyService t.clock) t.services (new_service version t name d) is.services
      (record { spec = short-draft t d rules; previous = tt; run = λ r e i h. absurd cc });
  tasks = is.tasks;
  attempts = is.attempts;
  sessions = is.sessions;
  orphan = is.orphan;
  heartbeat = is.heartbeat;
}

with-attempts : (t : Tables) (new : List Attempt) → Timely t → ((a : Attempt) → Has new a → Has t.attempts a ⊎
    (a.at ≡ t.clock)) →
    Timely (record t { attempts = new })
with-attempts t new is each = record {
  nodes = is.nodes;
  services = is.services;
  tasks = is.tasks;
  attempts = λ a h. elim (each a h) [ inl k ↦ is.attempts a k | inr now ↦ omega (arith, now) ];
  sessions = is.sessions;
  orphan = is.orphan;
  heartbeat = is.heartbeat;
}

with-nodes : (t : Tables) (next : ℕ) (nodes : List Node) (sessions : List NodeSession) → Timely t →
    ((n : Node) → Has nodes n → n.down_since ≤ t.clock) → ((s : NodeSession) → Has sessions s →
    IsTimelySession t.clock s) →
    Timely (record t { next_id = next; nodes = nodes; sessions = sessions })
with-nodes t next nodes sessions is each opened = record {
  nodes = each;
  services = is.services;
  tasks = is.tasks;
  attempts = is.attempts;
  sessions = opened;
  orphan = is.orphan;
  heartbeat = is.heartbeat;
}

new-timely : (t : Tables) (node : ℕ) → Timely t → IsTimelySession t.clock (new_session t node)
new-timely t node is = record { deadline = omega (arith, is.heartbeat); beat = omega arith }

node-changed : (t : Tables) (f : Node → Node) → Timely t → ((n : Node) → Has t.nodes n → SameRoom t.clock n (f n)) →
    (n : Node) →
    Has (map f t.nodes) n → n.down_since ≤ t.clock
node-changed t f is each n h =
    let from = Has-map_cases f t.nodes n h in
    subst (λ (z : Node). z.down_since ≤ t.clock) from.2
    (old-or t.clock from.0.down_since (f from.0).down_since (is.nodes from.0 from.1) (each from.0 from.1).down_since)

node-goes : (version : ℕ) (t : Tables) (id : ℕ) → Timely t → Timely (tables_without_node version t id)
node-goes version t id is =
    let left = record t { nodes = drop_row node_id id t.nodes; sessions = drop_row session_node id t.sessions } in
    with-tasks left _
    (with-nodes t t.next_id (drop_row node_id id t.nodes) (drop_row session_node id t.sessions) is
    (λ n h. is.nodes n (Has-filter_cases (λ m. not (node_id m == id)) t.nodes n h).0)
    (λ s h. is.sessions s (Has-filter_cases (λ r. not (session_node r == id)) t.sessions s h).0))
    (each-becomes (IsTimelyTask t.clock) (Lightens t.clock) t.tasks _
    (becomes-where (Lightens t.clock) (is_left_behind id) (in_state version t.clock state.Orphaned) t.tasks
    (lighten-same t.clock)
    (λ x h e. lighten-in_state version t.clock state.Orphaned x (rank-most x.state) (λ p. absurd cc)))
    (λ x y h l. task-later t.clock x y (is.tasks x h) l))

kept-tasks : (version clock node cpu mem : ℕ) (xs : List Task) → ((x : Task) → Has xs x → IsTimelyTask clock x) →
    (y : Task) → Has (tasks_within version clock node cpu mem xs) y → IsTimelyTask clock y
kept-tasks version clock node cpu mem xs is =
    each-becomes (IsTimelyTask clock) (Lightens clock) xs (tasks_within version clock node cpu mem xs)
    (within-lightens version clock node cpu mem xs) (λ x y h l. task-later clock x y (is x h) l)

begins : (version : ℕ) (t : Tables) (node cpu mem : ℕ) → Timely t → Timely (begun_tables version t node cpu mem)
begins version t node cpu mem is =
    let opened =
    with-nodes t (t.next_id + 1) (change_row node_id node (with_resources version cpu mem) t.nodes)
    (with_row session_node (new_session t node) t.sessions) is
    (each-changed (λ (n : Node). n.down_since ≤ t.clock) node_id node (with_resources version cpu mem) t.nodes is.nodes
    (λ n h e. is.nodes n h))
    (each-with_row (IsTimelySession t.clock) session_node (new_session t node) t.sessions is.sessions
    (new-timely t node is)) in
    with-tasks _ (tasks_within version t.clock node cpu mem t.tasks) opened
    (kept-tasks version t.clock node cpu mem t.tasks is.tasks)

service-later : (clock ms : ℕ) (s : Service) → IsTimelyService clock s → IsTimelyService (clock + ms) s
service-later clock ms s is =
    record { spec = is.spec; previous = is.previous; run = λ r e i h. omega (arith, is.run r e i h) }

task-ticks : (clock ms : ℕ) (x : Task) → IsTimelyTask clock x → IsTimelyTask (clock + ms) x
task-ticks clock ms x is = record {
  template = is.template;
  since = omega (arith, is.since);
  created = omega (arith, is.created);
  raise_at = omega (arith, is.raise_at);
}

ticks : (t : Tables) (ms : ℕ) → Timely t → Timely (record t { clock = t.clock + ms })
ticks t ms is = record {
  nodes = λ n h. omega (arith, is.nodes n h);
  services = λ s h. service-later t.clock ms s (is.services s h);
  tasks = λ x h. task-ticks t.clock ms x (is.tasks x h);
  attempts = λ a h. omega (arith, is.attempts a h);
  sessions = λ s h. record {
    deadline = omega (arith, (is.sessions s h).deadline);
    beat = omega
        (arith, (is.sessions s h).beat);
  };
  orphan = is.orphan;
  heartbeat = is.heartbeat;
}

settings-set : (t : Tables) (s : Settings) → find (settings_break s) settings_rules ≡ None → Timely t →
    Timely (record t { settings = s })
settings-set t s e is =
    let wrong : settings_break s rule.Settings ≡ false = first-none (settings_break s) settings_rules rule.Settings e
    (inl refl) in
    let front = neither (is_outside shortest_beat longest_beat s.heartbeat || is_outside 1 longest_time s.orphan)
    (nat_lt most_kept s.history) wrong in
    let both = neither (is_outside shortest_beat longest_beat s.heartbeat)
    (is_outside 1 longest_time s.orphan) front.0 in
    let beat = neither (nat_lt s.heartbeat shortest_beat) (nat_lt longest_beat s.heartbeat) both.0 in
    let orphan = neither (nat_lt s.orphan 1) (nat_lt longest_time s.orphan) both.1 in
    record {
      nodes = is.nodes;
      services = is.services;
      tasks = is.tasks;
      attempts = is.attempts;
      sessions = is.sessions;
      orphan = grind (arith, nat_tests, orphan.1);
      heartbeat = grind (arith, nat_tests, beat.1);
    }

pub timely-keeps : Keeps Timely
timely-keeps = record {
  tasks = λ t new order is rows.
      with-tasks t new is
      (each-becomes (IsTimelyTask t.clock) (Lightens t.clock) t.tasks new rows
      (λ x y h l. task-later t.clock x y (is.tasks x h) l));
  address = λ version t x order is there e.
      change-tasks t x.id (with_addresses version t) is (λ y k. set-now t.clock y
      (with_addresses version t y) refl refl refl refl k);
  place = λ version t x m order is there e best.
      change-tasks t x.id (placed version t.clock m.id) is (λ y k. set-now t.clock y
      (placed version t.clock m.id y) refl refl refl refl k);
  comes = λ t s x order is there new. task-comes t s x is there new;
  runs = λ t new order is rows.
      with-services t new is
      (each-becomes (IsTimelyService t.clock) (Runs t.clock) t.services new rows
      (λ x y h r. runs-on t.clock x y (is.services x h) r));
  port = λ version t s target udp number order is e.
      change-services t s (with_port version (port_number target udp number)) is
      (λ v k. record { spec = k.spec; previous = k.previous; run = k.run });
  fails = λ version t s spec order is there e.
      change-services t s.id _ is (λ v k. back-timely version t s spec (is.services s there) e);
  updates = λ version t s d order is there same taken.
      change-services t s.id _ is
      (λ v k. respecified-timely t.clock version false (filled t d) s (short-draft t d taken.rules)
      (is.services s there));
  rolls_back = λ version t s spec order is there e.
      change-services t s.id _ is
      (λ v k. respecified-timely t.clock version true spec s (previous-short t.clock s spec (is.services s there) e)
      (is.services s there));
  service_comes = λ version t name d order is taken. service-comes version t name d is taken.rules;
  attempts = λ t new is each. with-attempts t new is each;
  nodes = λ t f order is each. with-nodes t t.next_id (map f t.nodes) t.sessions is
      (node-changed t f is each) is.sessions;
  node_comes = λ t n order is id since.
      with-nodes t (t.next_id + 1) (t.nodes ++ n ∷ []) t.sessions is
      (each-pushed (λ (m : Node). m.down_since ≤ t.clock) t.nodes n is.nodes (omega (arith, since))) is.sessions;
  node_goes = λ version t id order is. node-goes version t id is;
  begins = λ version t n cpu mem order is there. begins version t n.id cpu mem is;
  registers = λ version t node order is.
      with-nodes t (t.next_id + 1) (change_row node_id node (ready_node version) t.nodes)
      (with_row session_node (new_session t node) t.sessions) is
      (each-changed (λ (n : Node). n.down_since ≤ t.clock) node_id node (ready_node version) t.nodes is.nodes
      (λ n h e. is.nodes n h))
      (each-with_row (IsTimelySession t.clock) session_node (new_session t node) t.sessions is.sessions
      (new-timely t node is));
  beats = λ t node is.
      with-nodes t t.next_id t.nodes (change_row session_node node (beaten t) t.sessions) is is.nodes
      (each-changed (IsTimelySession t.clock) session_node node (beaten t) t.sessions is.sessions
      (λ s h e. record { deadline = omega (arith, is.heartbeat); beat = omega arith }));
  networks = λ t new is. record {
    nodes = is.nodes;
    services = is.services;
    tasks = is.tasks;
    attempts = is.attempts;
    sessions = is.sessions;
    orphan = is.orphan;
    heartbeat = is.heartbeat;
  };
  ids = λ t order is. with-nodes t (t.next_id + 1) t.nodes t.sessions is is.nodes is.sessions;
  ticks = λ t ms is. ticks t ms is;
  settings = λ t s e is. settings-set t s e is;
}

pub timely-empty : Timely empty_tables
timely-empty = record {
  nodes = λ n h. absurd h;
  services = λ s h. absurd h;
  tasks = λ x h. absurd h;
  attempts = λ a h. absurd h;
  sessions = λ s h. absurd h;
  orphan = omega arith;
  heartbeat = omega arith;
}

pub timely-replay : (h : List Entry) → IsLegal h → Timely (replay h).tables
timely-replay h legal = kept-replay Timely timely-keeps timely-empty h legal
