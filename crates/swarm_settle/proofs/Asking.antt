-- The rows that give the settle test something are among those that are asked.
use Rattle.std.proofs.Common.{Bool, List, None, Option, Some, [], ap, cond, false, refl, subst, sym, true, ℕ, ◌++◌, ◌<◌, ◌∷◌, ◌≡◌}
use Rattle.std.specs.Option.{option_map}
use Rattle.std.specs.Prelude.{filter, find, flat_map, is_some, nat_lt, not, option_to_list, ◌&&◌, ◌||◌}
use Rattle.swarm_model.specs.Settle.{Wait, flight_wait, held_answer, held_by, is_holding, is_paused, is_paused_status, is_remote, paused_by, phase_wait, remote_wait, run_wait, start_wait, update_wait, wait_where, watch_wait}
use Rattle.swarm_objects.proofs.RowLemmas.{number_above}
use Rattle.swarm_objects.proofs.Tests.{find_has, first_so, of-all, or_left, or_right, second_so, some-and, some-and-cases}
use Rattle.swarm_objects.specs.Bounds.{far_end, is_near_service}
use Rattle.swarm_objects.specs.Loops.Agents.{is_mode_on}
use Rattle.swarm_objects.specs.Loops.Words.{when}
use Rattle.swarm_objects.specs.Rows.{IsBelow, RisesFrom, first_of, is_some_and, node_id, on_row, row_at, service_id}
use Rattle.swarm_objects.specs.Services.Runs.{has_open_run, is_of_version, is_under_way}
use Rattle.swarm_objects.specs.Tasks.Words.{is_live, is_on, is_to_wait}
use Rattle.swarm_objects.specs.Usable.{IsUsable}
use Rattle.swarm_objects.specs.World.{Tables, World}
use Rattle.swarm_objects.specs.declared.agents.NodeAgent.{NodeAgent}
use Rattle.swarm_objects.specs.declared.duties.Cause.TheVariants as cause
use Rattle.swarm_objects.specs.declared.duties.Duty.TheVariants as duty
use Rattle.swarm_objects.specs.declared.duties.Settle.TheVariants as settle
use Rattle.swarm_objects.specs.declared.nodes.Node.{Node}
use Rattle.swarm_objects.specs.declared.services.Service.{Service}
use Rattle.swarm_objects.specs.declared.services.UpdateRun.{UpdateRun}
use Rattle.swarm_objects.specs.declared.tasks.Task.{Task}
use Rattle.swarm_settle.specs.Asked.{AreAsked, may_wait}
use Rattle.swarm_spans.specs.Timed.{is_unfinished}
use Rattle.swarm_settle.specs.ByAgent.{wait_of_row, waits_at}
use Rattle.swarm_settle.specs.ByNode.{remote_waits_on}
use Rattle.swarm_settle.specs.Waiting.{gives}
use Rattle.swarm_spans.proofs.Grown.{in-full}
use Rattle.swarm_spans.proofs.Services.Spans.{is-below, near, tasks-full}
use Rattle.swarm_spans.specs.Lines.{to_wait}
use Rattle.swarm_spans.specs.Spans.{Covers, CoversTasks, full, has_duty, is_in}
use Rattle.swarm_spans.specs.declared.span.Span.{Span}

-- What gives something passes the test.

where_gives : {Y : Type 0} (b : Bool) (list : List Y) → is_some (first_of (cond b list [])) ≡ true → b ≡ true
where_gives true list e = refl
where_gives false list e = e

pub start_asked : (t : Tables) (x : Task) → gives (start_wait t) x ≡ true → has_duty (to_wait t) x ≡ true
start_asked t x e = ap (λ b. is_some (first_of (when b (duty.Raise x.id)))) waits
  where
    go : (b : Bool) → is_some (first_of (wait_where b cause.Start x.id x.raise_at)) ≡ true → b ≡ true
    go true k = refl
    go false k = k

    waits : is_to_wait x ≡ true
    waits =
        second_so (is_live x) (is_to_wait x)
        (first_so (is_live x && is_to_wait x) (nat_lt t.clock x.raise_at)
        (go (is_live x && is_to_wait x && nat_lt t.clock x.raise_at) e))

pub update_asked : (t : Tables) (s : Service) → gives (update_wait t) s ≡ true → is_unfinished s ≡ true
update_asked t s e =
    or_left (has_open_run s) (is_some_and (λ (run : UpdateRun). is_paused_status run.status) s.run) (go s.run e)
  where
    go : (o : Option UpdateRun) → is_some (first_of (on_row [] (run_wait t s) o)) ≡ true →
        is_some_and is_under_way o ≡ true
    go None k = k
    go (Some run) k = where_gives (is_under_way run) (flight_wait t s run ++ watch_wait t s run) k

pub held_asked : (t : Tables) (s : Service) → gives (held_by t) s ≡ true → is_unfinished s ≡ true
held_asked t s e =
    or_left (has_open_run s) (is_some_and (λ (run : UpdateRun). is_paused_status run.status) s.run)
    (where_gives (has_open_run s)
    (option_to_list (option_map (held_answer s.id) (find (is_holding s) t.tasks))) e)

pub paused_asked : (s : Service) → gives paused_by s ≡ true → is_unfinished s ≡ true
paused_asked s e =
    let run =
    some-and-cases (λ (run : UpdateRun). is_paused_status run.status && is_of_version s run) s.run
    (where_gives (is_paused s) (settle.Paused s.id ∷ []) e) in
    or_right (has_open_run s) (is_some_and (λ (run : UpdateRun). is_paused_status run.status) s.run)
    (some-and (λ (run : UpdateRun). is_paused_status run.status) s.run run.0 run.1
    (first_so (is_paused_status run.0.status) (is_of_version s run.0) run.2))

pub remote_asked : (t : Tables) (n : Node) → gives (remote_waits_on t) n ≡ true → is_remote n ≡ true
remote_asked t n e = where_gives n.remote (flat_map (remote_wait t) (filter (is_on n.id) t.tasks)) e

pub agent_asked : (w : World) (a : NodeAgent) → gives (waits_at w) a ≡ true → may_wait a ≡ true
agent_asked w a e = go (is_mode_on a.mode) (flat_map phase_wait a.executors) e
  where
    go : (b : Bool) (phases : List Wait) →
        is_some (first_of (cond b phases [] ++ cond b [] (wait_of_row w (row_at node_id a.node w.tables.nodes)))) ≡ true →
        (not b || is_some (first_of (cond b phases []))) ≡ true
    go true [] k = k
    go true (x ∷ phases) k = refl
    go false phases k = refl

-- a service in the span is near
pub near_there : (t : Tables) (span : Span) (s : Service) → IsUsable t → Some s ≡ find (λ y. is_in span y.id) t.services →
    is_near_service s ≡ true
near_there t span s usable found =
    of-all is_near_service t.services s usable.times.services
    (find_has (λ (y : Service). is_in span y.id) t.services s (sym found)).0

-- All are asked.

full_covers : {X : Type 0} (key : X → ℕ) (test : X → Bool) (bound : ℕ) (rows : List X) → RisesFrom key 0 rows →
    IsBelow key bound rows → bound < far_end → Covers key test full rows
full_covers key test bound rows rises below far = record {
  has = λ x h e.
      in-full (key x) (number_above key 0 rows x rises h) (near (key x) bound (is-below key bound rows x below h) far);
}

all_rows : (t : Tables) (agents : List NodeAgent) → IsUsable t →
    AreAsked t agents (record { tasks = full; updates = full; remotes = full; agents = None })
all_rows t agents usable = record {
  tasks = tasks-full to_wait t usable;
  updates =
      full_covers service_id is_unfinished t.next_id t.services usable.sound.ordered.services
      usable.sound.below.services usable.next_id;
  remotes =
      full_covers node_id is_remote t.next_id t.nodes usable.sound.ordered.nodes usable.sound.below.nodes usable.next_id;
  agents = tt;
}

pub all_asked : (a b c : Span) → a ≡ full → b ≡ full → c ≡ full → (t : Tables) (agents : List NodeAgent) → IsUsable t →
    AreAsked t agents (record { tasks = a; updates = b; remotes = c; agents = None })
all_asked a b c p q r t agents usable = record {
  tasks = subst (λ s. CoversTasks to_wait t s) (sym p) (all_rows t agents usable).tasks;
  updates = subst (λ s. Covers service_id is_unfinished s t.services) (sym q) (all_rows t agents usable).updates;
  remotes = subst (λ s. Covers node_id is_remote s t.nodes) (sym r) (all_rows t agents usable).remotes;
  agents = tt;
}
