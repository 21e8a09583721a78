-- The laws, and further facts, as tests on closed histories.
use Rattle.std.specs.Prelude.{Bool, List, None, Option, Some, [], codes, false, map, nat_le, nat_lt, not, refl, true, ℕ, ◌&&◌, ◌||◌, ◌∷◌, ◌≡◌}
use Rattle.std.specs.List.{list_all}
use Rattle.std.specs.Option.{option_eq}
use Rattle.swarm_model.proofs.Examples.Facts.{are_new_ones_right, is_sane}
use Rattle.swarm_model.specs.Calls.{call_outcome}
use Rattle.swarm_model.specs.Content.{same_task_making}
use Rattle.swarm_model.specs.History.{step_world}
use Rattle.swarm_model.specs.Laws.DeadSessions.{is_dead, is_dead_answer, session_in, session_node_of}
use Rattle.swarm_model.specs.Laws.Fits.{has_room_for, share_address, share_host_port, share_port}
use Rattle.swarm_model.specs.Laws.OneTemplate.{are_alike}
use Rattle.swarm_model.specs.Laws.Rises.{session_id}
use Rattle.swarm_objects.proofs.Examples.Rows.{node, placed_task, replicas, tables, template, with_template}
use Rattle.swarm_objects.specs.Nodes.Sessions.{is_session_live}
use Rattle.swarm_objects.specs.Rows.{has_row, network_id, node_id, on_row, row_at, service_id, task_id, watcher_id}
use Rattle.swarm_objects.specs.Rules.Services.{has_alike}
use Rattle.swarm_objects.specs.Same.{same_number}
use Rattle.swarm_objects.specs.Values.Ranks.{desired_rank, rank}
use Rattle.swarm_objects.specs.World.{Tables, World}
use Rattle.swarm_objects.specs.declared.calls.Call.TheVariants as call
use Rattle.swarm_objects.specs.declared.calls.Entry.{Entry}
use Rattle.swarm_objects.specs.declared.calls.What.{What}
use Rattle.swarm_objects.specs.declared.calls.What.TheVariants as what
use Rattle.swarm_objects.specs.declared.duties.Duty.TheVariants as duty
use Rattle.swarm_objects.specs.declared.services.Service.{Service}
use Rattle.swarm_objects.specs.declared.tasks.Task.{Task}
use Rattle.swarm_objects.specs.declared.tasks.TaskState.TheVariants as state

abbrev pub fits : Tables → Bool
fits t =
    list_all (has_room_for t) t.nodes && not (has_alike share_port t.services) && not (has_alike share_address t.tasks)
    && not (has_alike share_host_port t.tasks) && not (has_alike (are_alike t) t.tasks)

-- a node once set is kept
abbrev pub keeps_node : Option ℕ → Option ℕ → Bool
keeps_node None new = true
keeps_node (Some node) new = option_eq same_number new (Some node)

abbrev pub rises_to : Task → Task → Bool
rises_to new old =
    same_task_making old (record new { raise_at = old.raise_at }) && keeps_node old.node new.node
    && nat_le (rank old.state) (rank new.state)
    && nat_le (desired_rank old.desired) (desired_rank new.desired)

abbrev pub task_rises : List Task → Task → Bool
task_rises old new = on_row true (rises_to new) (row_at task_id new.id old)

abbrev pub comes_above : {X : Type 0} → (X → ℕ) → ℕ → ℕ → List X → List X → Bool
comes_above key next end old new = list_all (λ row. has_row key (key row) old || nat_le next (key row) && nat_lt (key row) end) new

abbrev pub rises : Tables → Tables → Bool
rises old new =
    list_all (task_rises old.tasks) new.tasks && nat_le old.next_id new.next_id
    && comes_above node_id old.next_id new.next_id old.nodes new.nodes
    && comes_above service_id old.next_id new.next_id old.services new.services
    && comes_above task_id old.next_id new.next_id old.tasks new.tasks
    && comes_above network_id old.next_id new.next_id old.networks new.networks
    && comes_above session_id old.next_id new.next_id old.sessions new.sessions

-- a call under a dead session is answered so, and a duty that needs a session has one
abbrev pub minds : World → What → Bool
minds w (what.Call c) =
    on_row true (λ asked. not (is_dead w.tables asked) || is_dead_answer (call_outcome w c).reply) (session_in c)
minds w (what.Duty d) = on_row true (is_session_live w.tables) (session_node_of d)

abbrev pub law_tests_at : World → What → World → Bool
law_tests_at old e new =
    minds old e && rises old.tables new.tables
    && comes_above watcher_id old.tables.next_id new.tables.next_id old.watchers new.watchers && fits new.tables && is_sane new
    && are_new_ones_right old.tables new.tables

-- each step passes them
abbrev pub laws_hold : World → List Entry → Bool
laws_hold w [] = true
laws_hold w (e ∷ es) =
    elim (law_tests_at w e.what (step_world w e)) [ true ↦ laws_hold (step_world w e) es | false ↦ false ]

-- Worlds that don't fit.

abbrev with_memory : ℕ → Tables
with_memory bytes =
    tables (record (node 1) { mem = bytes } ∷ []) []
    (map (with_template (record template { mem = 100 }))
    (placed_task 3 1 1 state.Running ∷ placed_task 4 2 1 state.Running ∷ []))

too_much_memory : fits (with_memory 199) ≡ false
too_much_memory = refl

as_much_memory : fits (with_memory 200) ≡ true
as_much_memory = refl

abbrev numbered : Bool → ℕ → Service
numbered udp id = record (replicas 0) {
  id = id;
  numbers = record { target = 80; udp = udp; number = 30000 } ∷ [];
}

one_number_of_udp_twice : fits (tables [] (numbered true 2 ∷ numbered true 5 ∷ []) []) ≡ false
one_number_of_udp_twice = refl

one_number_of_tcp_twice : fits (tables [] (numbered false 2 ∷ numbered false 5 ∷ []) []) ≡ false
one_number_of_tcp_twice = refl

one_number_of_each : fits (tables [] (numbered false 2 ∷ numbered true 5 ∷ []) []) ≡ true
one_number_of_each = refl

-- What asks for a session.

abbrev in_session : List ℕ × ℕ
in_session = (codes "r", 2)

beats_in : session_in (call.RemoteBeat (codes "r") 2) ≡ Some in_session
beats_in = refl

pulls_in : session_in (call.RemotePull (codes "r") 2) ≡ Some in_session
pulls_in = refl

reports_in : session_in (call.RemoteStatus (codes "r") 2 9 state.Running) ≡ Some in_session
reports_in = refl

beat_needs_one : session_node_of (duty.Beat 1) ≡ Some 1
beat_needs_one = refl

pull_needs_one : session_node_of (duty.Pull 1) ≡ Some 1
pull_needs_one = refl

report_needs_one : session_node_of (duty.Report 1 9) ≡ Some 1
report_needs_one = refl
