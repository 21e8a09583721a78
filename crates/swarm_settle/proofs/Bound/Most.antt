-- How much a row can have before it at most.
use Rattle.std.proofs.Common.{Bool, List, None, Option, Some, ap, arith, false, length, refl, true, ℕ, ◌+◌, ◌*◌, ◌≡◌, ◌≤◌}
use Rattle.std.proofs.lemmas.List.Sums.{count_by-le-length, length-filter}
use Rattle.std.specs.Prelude.{filter, is_some, not, ◌&&◌}
use Rattle.swarm_settle.proofs.Bound.Positions.{bit-most}
use Rattle.swarm_settle.proofs.Bound.Proper.{IsProperService, IsProperSpec}
use Rattle.swarm_settle.specs.Bound.Left.{executor_left, node_left, runs_left, service_left, steps_left}
use Rattle.swarm_model.proofs.Laws.Timely.{Where}
use Rattle.swarm_objects.specs.Kinds.{bit}
use Rattle.swarm_objects.specs.Loops.Agents.{is_beat_due, is_news}
use Rattle.swarm_objects.specs.Nodes.Sessions.{is_session_live, session_of}
use Rattle.swarm_objects.specs.Nodes.Words.{is_ready}
use Rattle.swarm_objects.specs.Rows.{is_some_and}
use Rattle.swarm_objects.specs.Services.Ports.{is_unnumbered, ports_of}
use Rattle.swarm_objects.specs.Services.Runs.{has_open_run, is_of_version}
use Rattle.swarm_objects.specs.Services.Words.{is_job}
use Rattle.swarm_objects.specs.World.{Tables}
use Rattle.swarm_objects.specs.declared.agents.Executor.{Executor}
use Rattle.swarm_objects.specs.declared.nodes.Node.{Node}
use Rattle.swarm_objects.specs.declared.services.Service.{Service}
use Rattle.swarm_objects.specs.declared.services.ServiceSpec.{ServiceSpec}
use Rattle.swarm_objects.specs.declared.tasks.TaskState.TheVariants as state
use Rattle.swarm_objects.specs.declared.tasks.TaskState.{TaskState}

steps-most : (k : Option ℕ) (s : TaskState) → steps_left k s ≤ 6
steps-most k state.Accepted = omega arith
steps-most k state.Preparing = omega arith
steps-most k state.Ready = omega arith
steps-most None state.Starting = omega arith
steps-most (Some time) state.Starting = omega arith
steps-most None state.Running = omega arith
steps-most (Some time) state.Running = omega arith
steps-most None _ = omega arith
steps-most (Some time) _ = omega arith

pub executor-most : (e : Executor) → executor_left e ≤ 14
executor-most e = omega (arith, steps-most e.stopping e.state, bit-most (is_news e.state e.reported))

pub node-most : (t : Tables) (n : Node) → node_left t n ≤ 4
node-most t n = go (is_session_live t n.id) (is_ready n.state) (is_some_and (is_beat_due t) (session_of t n.id))
  where
    go : (live ready due : Bool) → bit (ready && not live) + 3 * bit (not live) + bit (live && due) ≤ 4
    go true ready due = omega (arith, ap bit (none ready), bit-most due)
      where
        none : (b : Bool) → (b && not true) ≡ false
        none true = refl
        none false = refl
    go false ready due = omega (arith, bit-most (ready && true))

pub filter-most : {X : Type 0} (p : X → Bool) (xs : List X) → length (filter p xs) ≤ length xs
filter-most p xs = omega (arith, length-filter p xs, count_by-le-length p xs)

before-most : (s : Service) (o : Option ServiceSpec) → Where IsProperSpec o →
    length (filter (is_unnumbered s) (ports_of o)) ≤ 32
before-most s None is = omega arith
before-most s (Some spec) is = omega (arith, filter-most (is_unnumbered s) spec.ports, is.ports)

runs-most : (s : Service) (b : Bool) → runs_left s b ≤ 4
runs-most s true = omega arith
runs-most s false =
    omega (
      arith,
      bit-most (has_open_run s),
      bit-most (not (is_some_and (is_of_version s) s.run)),
      bit-most (is_some s.previous),
    )

pub service-most : (s : Service) → IsProperService s → service_left s ≤ 68
service-most s is =
    omega (
      arith,
      runs-most s (is_job s.spec.mode),
      filter-most (is_unnumbered s) s.spec.ports,
      is.spec.ports,
      before-most s s.previous is.previous,
    )
