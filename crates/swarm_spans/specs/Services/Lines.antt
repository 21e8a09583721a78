-- The lines over services and the line over old ended tasks, and that spans go on covering them over a step.
use Rattle.std.specs.Prelude.{List, ◌&&◌, ◌≡◌}
use Rattle.swarm_objects.specs.Loops.Allocator.{port_duties}
use Rattle.swarm_objects.specs.Loops.Global.{come_duties, leave_duties}
use Rattle.swarm_objects.specs.Loops.Jobs.{next_duty}
use Rattle.swarm_objects.specs.Loops.Reaper.{is_past, is_trimmed}
use Rattle.swarm_objects.specs.Loops.Replicated.{create_duty, down_duty}
use Rattle.swarm_objects.specs.Loops.Update.{update_duties}
use Rattle.swarm_objects.specs.Loops.Words.{when}
use Rattle.swarm_objects.specs.Rows.{RisesFrom, service_id, task_id}
use Rattle.swarm_objects.specs.World.{Tables}
use Rattle.swarm_objects.specs.declared.duties.Duty.{Duty}
use Rattle.swarm_objects.specs.declared.duties.Duty.TheVariants as duty
use Rattle.swarm_objects.specs.declared.services.Service.{Service}
use Rattle.swarm_objects.specs.declared.tasks.Task.{Task}
use Rattle.swarm_spans.specs.Services.Standings.{comes_quietly, progress, standing}
use Rattle.swarm_spans.specs.Services.Steps.{HasForNodes, HasForPorts, HasRemains, HasShifted, HasShiftedBut}
use Rattle.swarm_spans.specs.Spans.{CoversServices, CoversTasks}
use Rattle.swarm_spans.specs.declared.span.Span.{Span}

abbrev pub downs : Tables → Service → List Duty
downs t s = down_duty t s s.spec.mode

abbrev pub creates : Tables → Service → List Duty
creates t s = create_duty t s s.spec.mode

abbrev pub leaves : Tables → Service → List Duty
leaves t s = leave_duties t s s.spec.mode

abbrev pub comes : Tables → Service → List Duty
comes t s = come_duties t s s.spec.mode

abbrev pub job_creates : Tables → Service → List Duty
job_creates t s = next_duty t s s.spec.mode

abbrev pub updates : Tables → Service → List Duty
updates t s = update_duties t s s.spec.mode

-- the test of the task itself says no more, and is asked first
abbrev pub trims : Tables → Task → List Duty
trims t x = when (is_past x && is_trimmed t x) (duty.Trim x.id)

-- the rows of both rise
pub record AreRising (t u : Tables) : Type 0 where
  pub before : RisesFrom task_id 0 t.tasks
  pub after : RisesFrom task_id 0 u.tasks
  pub services : RisesFrom service_id 0 u.services

-- A line goes on: a span that covers it before, and has what the step touches, covers it after.

abbrev pub MovedLaw : (Tables → Service → List Duty) → Type 0
MovedLaw line =
    (t u : Tables) (span : Span) → AreRising t u → HasShifted standing span t u → CoversServices line t span
    → CoversServices line u span

abbrev pub PlacedLaw : (Tables → Service → List Duty) → Type 0
PlacedLaw line =
    (t u : Tables) (span : Span) → AreRising t u → HasShifted standing span t u → HasForNodes span t u
    → CoversServices line t span → CoversServices line u span

abbrev pub PortLaw : Type 0
PortLaw =
    (t u : Tables) (span : Span) → HasForPorts span t u → CoversServices port_duties t span
    → CoversServices port_duties u span

-- at one time
abbrev pub UpdateLaw : Type 0
UpdateLaw =
    (t u : Tables) (span : Span) → AreRising t u → u.clock ≡ t.clock
    → HasShiftedBut (comes_quietly t) (progress t) span t u → CoversServices updates t span
    → CoversServices updates u span

-- under one limit of how many are kept
abbrev pub TrimLaw : Type 0
TrimLaw =
    (t u : Tables) (span : Span) → AreRising t u → u.settings ≡ t.settings → HasRemains span t u
    → CoversTasks trims t span → CoversTasks trims u span
