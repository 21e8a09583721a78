-- The numbers of every world that a call may be handed.
use Rattle.std.specs.Prelude.{Bool, true, ◌≡◌, ℕ, ◌^◌, nat_lt, ◌&&◌, ◌<◌}
use Rattle.std.specs.List.{list_all}
use Rattle.swarm_objects.specs.Rows.{on_row}
use Rattle.swarm_objects.specs.World.{Tables, World}
use Rattle.swarm_objects.specs.declared.agents.Executor.{Executor}
use Rattle.swarm_objects.specs.declared.agents.NodeAgent.{NodeAgent}
use Rattle.swarm_objects.specs.declared.messages.AssignChange.{AssignChange}
use Rattle.swarm_objects.specs.declared.messages.AssignChange.TheVariants as assign
use Rattle.swarm_objects.specs.declared.messages.Assigned.{Assigned}
use Rattle.swarm_objects.specs.declared.messages.Message.{Message}
use Rattle.swarm_objects.specs.declared.messages.NodeSent.{NodeSent}
use Rattle.swarm_objects.specs.declared.nodes.Node.{Node}
use Rattle.swarm_objects.specs.declared.services.Replaced.{Replaced}
use Rattle.swarm_objects.specs.declared.services.Service.{Service}
use Rattle.swarm_objects.specs.declared.services.ServiceSpec.{ServiceSpec}
use Rattle.swarm_objects.specs.declared.services.UpdateRun.{UpdateRun}
use Rattle.swarm_objects.specs.declared.sessions.NodeSession.{NodeSession}
use Rattle.swarm_objects.specs.declared.tasks.Attempt.{Attempt}
use Rattle.swarm_objects.specs.declared.tasks.Task.{Task}
use Rattle.swarm_objects.specs.declared.templates.End.{End}
use Rattle.swarm_objects.specs.declared.templates.End.TheVariants as end
use Rattle.swarm_objects.specs.declared.templates.Template.{Template}
use Rattle.swarm_objects.specs.declared.templates.Workload.{Workload}

abbrev pub far_end : ℕ
far_end = 2 ^ 60

abbrev pub is_near : ℕ → Bool
is_near n = nat_lt n far_end

abbrev pub is_near_end : End → Bool
is_near_end end.Never = true
is_near_end (end.Exit time code) = is_near time
is_near_end end.Reject = true

abbrev pub is_near_workload : Workload → Bool
is_near_workload w = is_near w.prepare && is_near w.start && is_near w.stop && is_near_end w.end

abbrev pub is_near_template : Template → Bool
is_near_template x = is_near_workload x.workload && is_near x.restart.delay && is_near x.restart.window

abbrev pub is_near_spec : ServiceSpec → Bool
is_near_spec s = is_near_template s.template && is_near s.update.delay && is_near s.update.monitor

abbrev pub is_near_run : UpdateRun → Bool
is_near_run run = list_all (λ (i : Replaced). is_near i.created) run.replaced

abbrev pub is_near_node : Node → Bool
is_near_node n = is_near n.down_since

abbrev pub is_near_service : Service → Bool
is_near_service s =
    is_near_spec s.spec && on_row true is_near_spec s.previous && on_row true is_near_run s.run

abbrev pub is_near_task : Task → Bool
is_near_task x = is_near_template x.template && is_near x.since && is_near x.created && is_near x.raise_at

abbrev pub is_near_session : NodeSession → Bool
is_near_session s = is_near s.session.deadline && is_near s.session.beat

-- each time in the rows
pub record HasNearTimes (t : Tables) : Type 0 where
  pub nodes : list_all is_near_node t.nodes ≡ true
  pub services : list_all is_near_service t.services ≡ true
  pub tasks : list_all is_near_task t.tasks ≡ true
  pub attempts : list_all (λ (a : Attempt). is_near a.at) t.attempts ≡ true
  pub sessions : list_all is_near_session t.sessions ≡ true
  pub orphan : is_near t.settings.orphan ≡ true

abbrev pub is_near_assigned : Assigned → Bool
is_near_assigned a = is_near_workload a.workload

abbrev pub is_near_change : AssignChange → Bool
is_near_change (assign.Update a) = is_near_assigned a
is_near_change (assign.Remove task) = true

-- each time in it, and its number
abbrev pub is_near_message : Message → Bool
is_near_message m = is_near m.results_in && list_all is_near_change m.changes

-- no sum of the times that its phases are reckoned with reaches the end of its type
abbrev pub has_near_times : Executor → Bool
has_near_times e = is_near_workload e.workload && is_near e.since

abbrev pub is_near_executor : Executor → Bool
is_near_executor e = has_near_times e && on_row true is_near e.stopping

abbrev pub is_near_agent : NodeAgent → Bool
is_near_agent a = is_near a.applied && list_all is_near_executor a.executors && on_row true is_near_message a.inbox

abbrev pub is_near_sent : NodeSent → Bool
is_near_sent s = is_near s.count && list_all is_near_assigned s.tasks

-- the world's numbers are far from the ends of their types
pub record IsSmall (w : World) : Type 0 where
  pub entries : w.entries < far_end
  pub clock : w.tables.clock < far_end
  pub next_id : w.tables.next_id < far_end
  pub heartbeat : w.tables.settings.heartbeat < far_end
  -- each time in the rows, and in what stands beside them
  pub times : HasNearTimes w.tables
  pub agents : list_all is_near_agent w.agents ≡ true
  pub sent : list_all is_near_sent w.sent ≡ true
