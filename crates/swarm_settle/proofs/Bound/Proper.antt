-- In every world of a legal history each workload takes some time to prepare, a specification has at most 32 ports, and a
-- heartbeat takes some time.
use Rattle.std.proofs.Common.{Bool, List, None, Option, Some, arith, find, inl, inr, length, refl, subst, sym, ℕ, ◌≡◌, ◌≤◌}
use Rattle.std.proofs.lemmas.Bool.Decides.{nat_tests}
use Rattle.std.specs.Prelude.{false, nat_lt, true, ◌==◌, ◌||◌}
use Rattle.swarm_model.proofs.Laws.Kept.{IsNewOf, Keeps, Lightens, Runs, lighten-in_state, lighten-same}
use Rattle.swarm_model.proofs.Laws.KeptCalls.{kept-replay}
use Rattle.swarm_model.proofs.Laws.Timely.{Where, each-becomes, each-changed, each-pushed, first-none}
use Rattle.swarm_model.proofs.Laws.Within.{within-lightens}
use Rattle.swarm_model.proofs.Moves.Rows.{becomes-where}
use Rattle.swarm_model.proofs.Moves.Tables.{rank-most}
use Rattle.swarm_model.specs.Calls.Refusals.{bad_spec}
use Rattle.swarm_model.specs.Calls.Nodes.{is_left_behind, tables_without_node}
use Rattle.swarm_model.specs.Calls.Remote.{begun_tables}
use Rattle.swarm_model.specs.Calls.Services.{broken_draft, filled, new_service, with_service}
use Rattle.swarm_model.specs.History.{IsLegal, replay}
use Rattle.swarm_objects.proofs.Tests.{neither_left, neither_right}
use Rattle.swarm_objects.specs.Changes.{change_service, change_task, in_state, placed}
use Rattle.swarm_objects.specs.Limits.{is_outside, longest_beat, longest_time, shortest_beat}
use Rattle.swarm_objects.specs.Loops.Allocator.{port_number, with_addresses, with_port}
use Rattle.swarm_objects.specs.NewRows.{respecified}
use Rattle.swarm_objects.specs.Nodes.Opening.{tasks_within}
use Rattle.swarm_objects.specs.Rows.{Has, change_row, service_id, task_id}
use Rattle.swarm_objects.specs.Rules.Services.{has_wrong_time, has_wrong_work, is_too_long, is_too_many, is_wrong_work_time, service_breaks, service_rules}
use Rattle.swarm_objects.specs.Rules.Settings.{settings_break, settings_rules}
use Rattle.swarm_objects.specs.Tasks.New.{with_task}
use Rattle.swarm_objects.specs.World.{Tables, empty_tables}
use Rattle.swarm_objects.specs.declared.calls.Entry.{Entry}
use Rattle.swarm_objects.specs.declared.rules.SpecRule.TheVariants as rule
use Rattle.swarm_objects.specs.declared.rules.SpecRule.{SpecRule}
use Rattle.swarm_objects.specs.declared.services.Draft.{Draft}
use Rattle.swarm_objects.specs.declared.services.Service.{Service}
use Rattle.swarm_objects.specs.declared.services.ServiceSpec.{ServiceSpec}
use Rattle.swarm_objects.specs.declared.settings.Settings.{Settings}
use Rattle.swarm_objects.specs.declared.tasks.Task.{Task}
use Rattle.swarm_objects.specs.declared.tasks.TaskState.TheVariants as state
use Rattle.swarm_objects.specs.declared.templates.Template.{Template}

-- its preparation takes some time
abbrev pub TakesTime : Template → Type 0
TakesTime x = 1 ≤ x.workload.prepare

pub record IsProperSpec (s : ServiceSpec) : Type 0 where
  pub time : TakesTime s.template
  pub ports : length s.ports ≤ 32

pub record IsProperService (s : Service) : Type 0 where
  pub spec : IsProperSpec s.spec
  pub previous : Where IsProperSpec s.previous

pub record Proper (t : Tables) : Type 0 where
  pub services : (s : Service) → Has t.services s → IsProperService s
  pub tasks : (x : Task) → Has t.tasks x → TakesTime x.template
  pub heartbeat : 1 ≤ t.settings.heartbeat

-- Drafts.

takes-time : (d : Draft) → has_wrong_time d.spec ≡ false → TakesTime d.spec.template
takes-time d e =
    let w = d.spec.template.workload in
    let r = d.spec.template.restart in
    let u = d.spec.update in
    let work = has_wrong_work w in
    let four = neither_left (work || is_too_long r.delay || is_too_long r.window || is_too_long u.delay) _ e in
    let three = neither_left (work || is_too_long r.delay || is_too_long r.window) _ four in
    let two = neither_left (work || is_too_long r.delay) _ three in
    let one = neither_left work _ two in
    let p = is_wrong_work_time w.prepare in
    let front = neither_left (p || is_wrong_work_time w.start || is_wrong_work_time w.stop) _ one in
    let pair = neither_left (p || is_wrong_work_time w.start) _ front in
    let prepare = neither_left p _ pair in
    let some = neither_left (w.prepare == 0) _ prepare in
    grind (arith, nat_tests, some)

few-ports : (d : Draft) → service_breaks d rule.Count ≡ false → length d.spec.ports ≤ 32
few-ports d e =
    let x = d.spec.template in
    let front = is_too_many (length x.constraints) || is_too_many (length x.spread) || is_too_many (length x.platforms)
    || is_too_many (length d.networks) in
    let ports = is_too_many (length d.spec.ports) in
    let items = neither_left (front || ports || is_too_many (length x.host_ports)) _ e in
    let most = neither_left (front || ports) _ items in
    let few = neither_right front ports most in
    grind (arith, nat_tests, few)

unbroken : (o : Option SpecRule) → bad_spec o ≡ None → o ≡ None
unbroken None e = refl
unbroken (Some r) e = absurd cc

proper-draft : (t : Tables) (d : Draft) → broken_draft d ≡ None → IsProperSpec (filled t d)
proper-draft t d e =
    let none : find (service_breaks d) service_rules ≡ None = unbroken (find (service_breaks d) service_rules) e in
    let time : service_breaks d rule.Time ≡ false =
    first-none (service_breaks d) service_rules rule.Time none (inr (inr (inl refl))) in
    let count : service_breaks d rule.Count ≡ false =
    first-none (service_breaks d) service_rules rule.Count none (inr (inr (inr (inr (inl refl))))) in
    record { time = takes-time d time; ports = few-ports d count }

-- Each change.

with-tasks : (t : Tables) (tasks : List Task) → Proper t → ((x : Task) → Has tasks x → TakesTime x.template) →
    Proper (record t { tasks = tasks })
with-tasks t tasks is each = record { services = is.services; tasks = each; heartbeat = is.heartbeat }

with-services : (t : Tables) (services : List Service) → Proper t → ((s : Service) → Has services s → IsProperService s) →
    Proper (record t { services = services })
with-services t services is each = record { services = each; tasks = is.tasks; heartbeat = is.heartbeat }

change-tasks : (t : Tables) (id : ℕ) (f : Task → Task) → Proper t → ((x : Task) → (f x).template ≡ x.template) →
    Proper (change_task id f t)
change-tasks t id f is same =
    with-tasks t (change_row task_id id f t.tasks) is
    (each-changed (λ (x : Task). TakesTime x.template) task_id id f t.tasks is.tasks
    (λ x h e. subst TakesTime (sym (same x)) (is.tasks x h)))

change-services : (t : Tables) (id : ℕ) (f : Service → Service) → Proper t →
    ((s : Service) → IsProperService s → IsProperService (f s)) → Proper (change_service id f t)
change-services t id f is each =
    with-services t (change_row service_id id f t.services) is
    (each-changed IsProperService service_id id f t.services is.services (λ s h e. each s (is.services s h)))

task-lightens : (clock : ℕ) (x y : Task) → TakesTime x.template → Lightens clock x y → TakesTime y.template
task-lightens clock x y is l = subst TakesTime (sym l.moves.rises.making.template) is

runs-on : (clock : ℕ) (x y : Service) → IsProperService x → Runs clock x y → IsProperService y
runs-on clock x y is r = record {
  spec = subst IsProperSpec (sym r.spec) is.spec;
  previous = subst (Where IsProperSpec) (sym r.previous) is.previous;
}

previous-proper : (s : Service) (spec : ServiceSpec) → IsProperService s → s.previous ≡ Some spec → IsProperSpec spec
previous-proper s spec is e = subst (Where IsProperSpec) e is.previous

respecified-proper : (version : ℕ) (back : Bool) (spec : ServiceSpec) (s : Service) → IsProperSpec spec →
    IsProperService s → IsProperService (respecified version back spec s)
respecified-proper version back spec s proper is = record { spec = proper; previous = is.spec }

task-comes : (t : Tables) (s : Service) (x : Task) → Proper t → Has t.services s → IsNewOf t s x → Proper (with_task t x)
task-comes t s x is there new = record {
  services = is.services;
  tasks =
      each-pushed (λ (y : Task). TakesTime y.template) t.tasks x is.tasks
      (subst TakesTime (sym new.template) (is.services s there).spec.time);
  heartbeat = is.heartbeat;
}

service-comes : (version : ℕ) (t : Tables) (name : List ℕ) (d : Draft) → Proper t → broken_draft d ≡ None →
    Proper (with_service t (new_service version t name d))
service-comes version t name d is rules = record {
  services =
      each-pushed IsProperService t.services (new_service version t name d) is.services
      (record { spec = proper-draft t d rules; previous = tt });
  tasks = is.tasks;
  heartbeat = is.heartbeat;
}

node-goes : (version : ℕ) (t : Tables) (id : ℕ) → Proper t → Proper (tables_without_node version t id)
node-goes version t id is = record {
  services = is.services;
  tasks =
      each-becomes (λ (x : Task). TakesTime x.template) (Lightens t.clock) t.tasks _
      (becomes-where (Lightens t.clock) (is_left_behind id) (in_state version t.clock state.Orphaned) t.tasks
      (lighten-same t.clock)
      (λ x h e. lighten-in_state version t.clock state.Orphaned x (rank-most x.state) (λ p. absurd cc)))
      (λ x y h l. task-lightens t.clock x y (is.tasks x h) l);
  heartbeat = is.heartbeat;
}

begins : (version : ℕ) (t : Tables) (node cpu mem : ℕ) → Proper t → Proper (begun_tables version t node cpu mem)
begins version t node cpu mem is = record {
  services = is.services;
  tasks =
      each-becomes (λ (x : Task). TakesTime x.template) (Lightens t.clock) t.tasks
      (tasks_within version t.clock node cpu mem t.tasks) (within-lightens version t.clock node cpu mem t.tasks)
      (λ x y h l. task-lightens t.clock x y (is.tasks x h) l);
  heartbeat = is.heartbeat;
}

settings-set : (t : Tables) (s : Settings) → find (settings_break s) settings_rules ≡ None → Proper t →
    Proper (record t { settings = s })
settings-set t s e is =
    let wrong : settings_break s rule.Settings ≡ false =
    first-none (settings_break s) settings_rules rule.Settings e (inl refl) in
    let front = neither_left
    (is_outside shortest_beat longest_beat s.heartbeat || is_outside 1 longest_time s.orphan) _ wrong in
    let beat = neither_left (is_outside shortest_beat longest_beat s.heartbeat) _ front in
    let low = neither_left (nat_lt s.heartbeat shortest_beat) _ beat in
    record { services = is.services; tasks = is.tasks; heartbeat = grind (arith, nat_tests, low) }

-- The law.

pub proper-keeps : Keeps Proper
proper-keeps = record {
  tasks = λ t new order is rows.
      with-tasks t new is
      (each-becomes (λ (x : Task). TakesTime x.template) (Lightens t.clock) t.tasks new rows
      (λ x y h l. task-lightens t.clock x y (is.tasks x h) l));
  address = λ version t x order is there e. change-tasks t x.id (with_addresses version t) is (λ y. refl);
  place = λ version t x m order is there e best. change-tasks t x.id (placed version t.clock m.id) is (λ y. refl);
  comes = λ t s x order is there new. task-comes t s x is there new;
  runs = λ t new order is rows.
      with-services t new is
      (each-becomes IsProperService (Runs t.clock) t.services new rows (λ x y h r. runs-on t.clock x y (is.services x h) r));
  port = λ version t s target udp number order is e.
      change-services t s (with_port version (port_number target udp number)) is
      (λ v k. record { spec = k.spec; previous = k.previous });
  fails = λ version t s spec order is there e.
      change-services t s.id _ is
      (λ v k. record { spec = previous-proper s spec (is.services s there) e; previous = tt });
  updates = λ version t s d order is there same taken.
      change-services t s.id _ is
      (λ v k. respecified-proper version false (filled t d) s (proper-draft t d taken.rules) (is.services s there));
  rolls_back = λ version t s spec order is there e.
      change-services t s.id _ is
      (λ v k. respecified-proper version true spec s (previous-proper s spec (is.services s there) e)
      (is.services s there));
  service_comes = λ version t name d order is taken. service-comes version t name d is taken.rules;
  attempts = λ t new is each. record { services = is.services; tasks = is.tasks; heartbeat = is.heartbeat };
  nodes = λ t f order is each. record { services = is.services; tasks = is.tasks; heartbeat = is.heartbeat };
  node_comes = λ t n order is id since. record { services = is.services; tasks = is.tasks; heartbeat = is.heartbeat };
  node_goes = λ version t id order is. node-goes version t id is;
  begins = λ version t n cpu mem order is there. begins version t n.id cpu mem is;
  registers = λ version t node order is. record { services = is.services; tasks = is.tasks; heartbeat = is.heartbeat };
  beats = λ t node is. record { services = is.services; tasks = is.tasks; heartbeat = is.heartbeat };
  networks = λ t new is. record { services = is.services; tasks = is.tasks; heartbeat = is.heartbeat };
  ids = λ t order is. record { services = is.services; tasks = is.tasks; heartbeat = is.heartbeat };
  ticks = λ t ms is. record { services = is.services; tasks = is.tasks; heartbeat = is.heartbeat };
  settings = λ t s e is. settings-set t s e is;
}

pub proper-empty : Proper empty_tables
proper-empty = record { services = λ s h. absurd h; tasks = λ x h. absurd h; heartbeat = omega arith }

pub proper-replay : (h : List Entry) → IsLegal h → Proper (replay h).tables
proper-replay h legal = kept-replay Proper proper-keeps proper-empty h legal
