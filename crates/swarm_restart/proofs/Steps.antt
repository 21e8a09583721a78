-- First duties, and what is there.
use Rattle.std.proofs.Common.{◌≡◌, ℕ, ◌+◌, ◌<◌, ◌^◌, true, List, Some, refl, sym, arith}
use Rattle.std.proofs.lemmas.Bool.Decides.{nat_tests}
use Rattle.std.specs.Prelude.{◌&&◌}
use Rattle.swarm_objects.proofs.RowLemmas.{Has-from_row_at}
use Rattle.swarm_objects.proofs.Tests.{of-all, second_so}
use Rattle.swarm_objects.specs.Bounds.{is_near, is_near_run, is_near_service, is_near_spec, is_near_template, is_near_workload}
use Rattle.swarm_objects.specs.Changes.{change_task}
use Rattle.swarm_objects.specs.Loops.Restart.{raised}
use Rattle.swarm_objects.specs.Rows.{on_row, row_at, service_id, task_id}
use Rattle.swarm_objects.specs.World.{Tables}
use Rattle.swarm_objects.specs.declared.rows.Change.{Change}
use Rattle.swarm_objects.specs.declared.services.Service.{Service}
use Rattle.swarm_objects.proofs.Applied.{found_makes, makes_none, there_by_id}
use Rattle.swarm_objects.proofs.PlaceLemmas.{and_left}
use Rattle.swarm_objects.proofs.WalkLemmas.{first_left, first_right}
use Rattle.swarm_objects.specs.ChangeLists.{Makes, put_found}
use Rattle.swarm_objects.specs.Usable.{IsUsable}
use Rattle.swarm_objects.specs.Sound.{IsSound}

pub ruleset first_steps = (first_left, first_right)

pub ruleset nothing_steps = (makes_none)

pub ruleset id_steps = (there_by_id, makes_none)

pub raising_makes : (version id : ℕ) (t : Tables) (cs : List Change) → IsSound t
    → cs ≡ put_found (raised version) (row_at task_id id t.tasks) → Makes t cs (change_task id (raised version) t)
raising_makes version id t cs sound list = found_makes (raised version) id t cs sound (λ x. refl) list

-- Times.

near-delay : (s : Service) → is_near_service s ≡ true → is_near s.spec.template.restart.delay ≡ true
near-delay s near =
    let template = s.spec.template in
    second_so (is_near_workload template.workload) (is_near template.restart.delay)
    (and_left (is_near_workload template.workload && is_near template.restart.delay) (is_near template.restart.window)
    (and_left (is_near_template template) (is_near s.spec.update.delay)
    (and_left (is_near_template template && is_near s.spec.update.delay) (is_near s.spec.update.monitor)
    (and_left (is_near_spec s.spec) (on_row true is_near_spec s.previous)
    (and_left (is_near_spec s.spec && on_row true is_near_spec s.previous) (on_row true is_near_run s.run) near)))))

-- the time at which the next task starts fits
pub delay_fits : (t : Tables) (id : ℕ) (s : Service) → IsUsable t → Some s ≡ row_at service_id id t.services
    → t.clock + s.spec.template.restart.delay < 2 ^ 64
delay_fits t id s usable service =
    let near : is_near s.spec.template.restart.delay ≡ true =
    near-delay s
    (of-all is_near_service t.services s usable.times.services
    (Has-from_row_at service_id id t.services s (sym service)).0) in
    let lt : s.spec.template.restart.delay < 2 ^ 60 = grind (arith, nat_tests) in
    omega (arith, lt, usable.clock)
