-- The spans where services come.
use Rattle.std.proofs.Common.{◌≡◌, ◌∙◌, ℕ, Bool, List, ap, arith, inl, inr, refl, subst, sym}
use Rattle.std.specs.Option.{option_map}
use Rattle.swarm_objects.proofs.RowLemmas.{row_at-Some}
use Rattle.swarm_objects.specs.Loops.Allocator.{port_duties}
use Rattle.swarm_objects.specs.Rows.{task_id}
use Rattle.swarm_objects.specs.Usable.{IsUsable}
use Rattle.swarm_objects.specs.World.{Tables}
use Rattle.swarm_objects.specs.declared.duties.Duty.{Duty}
use Rattle.swarm_objects.specs.declared.nodes.Node.{Node}
use Rattle.swarm_objects.specs.declared.services.Service.{Service}
use Rattle.swarm_objects.specs.declared.tasks.Task.{Task}
use Rattle.swarm_spans.proofs.Grown.{in-onwards, wider_itself}
use Rattle.swarm_spans.proofs.Lines.{gone_goes_on, has-when, old_goes_on, restart_goes_on}
use Rattle.swarm_spans.proofs.Scheduling.{scheduled_as_before}
use Rattle.swarm_spans.proofs.Services.GoesOn.{come_goes_on, create_goes_on, down_goes_on, leave_goes_on, next_goes_on}
use Rattle.swarm_spans.proofs.Services.Spans.{rising, services-full, wider-covers}
use Rattle.swarm_spans.proofs.Services.Trimmed.{trim_goes_on}
use Rattle.swarm_spans.proofs.Services.Updated.{update_goes_on}
use Rattle.swarm_spans.proofs.Waiting.{address_goes_on, note_goes_on, raise_goes_on, schedule_goes_on, waiting_keeps}
use Rattle.swarm_spans.specs.Kept.{KeepsNodes, KeepsServices, KeepsTasks}
use Rattle.swarm_spans.specs.Lines.{FreeAsBefore, is_to_allocate, to_allocate}
use Rattle.swarm_spans.specs.Services.Lines.{MovedLaw, PlacedLaw, comes, creates, downs, job_creates, leaves, updates}
use Rattle.swarm_spans.specs.Services.Standings.{bounds, progress, standing}
use Rattle.swarm_spans.specs.Services.Steps.{HasRemains, HasShifted}
use Rattle.swarm_spans.specs.Services.Touches.{AreCovered, Joins}
use Rattle.swarm_spans.specs.Spans.{CoversServices, IsWider, full, onwards}
use Rattle.swarm_spans.specs.TasksCovered.{AreTasksCovered, HasNewServices, with_services}
use Rattle.swarm_spans.specs.declared.service_spans.ServiceSpans.{ServiceSpans}
use Rattle.swarm_spans.specs.declared.span.Span.{Span}
use Rattle.swarm_spans.specs.declared.task_spans.TaskSpans.{TaskSpans}

-- What such a step keeps.

-- no task is of a new service
keeps-services : {Alike : Service → Service → Type 0} (first : ℕ) (t : Tables) (next_id : ℕ) (services : List Service)
    (span : Span) → HasNewServices first next_id t services
    → KeepsServices Alike t (with_services next_id services t) span
keeps-services first t next_id services span new = record {
  of = λ x y stays.
      elim (new.others y.service) [
        | inl same ↦ inr (inl same)
        | inr two ↦
            absurd (let below = new.tasks x stays.was in let own = stays.service in omega (arith, two.0, below, own))
      ];
}

keeps-nodes : {Alike : Node → Node → Type 0} (t : Tables) (next_id : ℕ) (services : List Service) (span : Span)
    → KeepsNodes Alike t (with_services next_id services t) span
keeps-nodes t next_id services span = record { on = λ x y n stays e. inr (inl refl) }

keeps-tasks : {may : Task → Bool} {Alike : Task → Task → Type 0} (t : Tables) (next_id : ℕ) (services : List Service) (span : Span)
    → IsUsable t → KeepsTasks may Alike t (with_services next_id services t) span
keeps-tasks t next_id services span usable = record {
  own = λ y h can. inr (inl (sym (row_at-Some task_id 0 t.tasks y usable.sound.ordered.tasks h)));
}

-- The lines over tasks.

pub services_come : (spans : TaskSpans) (noted : Span) → IsWider noted spans.notes → IsWider noted spans.to_allocate
    → (first : ℕ) (t : Tables) (next_id : ℕ) (services : List Service) → IsUsable t
    → HasNewServices first next_id t services → AreTasksCovered t spans
    → AreTasksCovered (with_services next_id services t) (record spans { notes = noted })
services_come spans noted notes all_note first t next_id services usable new are =
    let u = with_services next_id services t in
    record {
      expires = record { has = λ x h due. are.expires.has x h due };
      orphans = record { has = λ x h due. are.orphans.has x h due };
      rejects = record { has = λ x h due. are.rejects.has x h due };
      restarts =
          restart_goes_on t u spans.restarts spans.restarts are.restarts (wider_itself spans.restarts)
          (keeps-tasks t next_id services spans.restarts usable)
          (keeps-services first t next_id services spans.restarts new) (keeps-nodes t next_id services spans.restarts);
      raises =
          raise_goes_on t u spans.raises spans.raises refl are.raises (wider_itself spans.raises)
          (keeps-tasks t next_id services spans.raises usable)
          (keeps-services first t next_id services spans.raises new)
          (record {
            beside = λ x z h wants there is blocks.
                inr (z, record { is = there; id = refl; service = refl; place = refl; node = refl; blocks = blocks });
          })
          (record { beside = λ x z n h wants there is blocks on. inr (inl refl) });
      goes =
          gone_goes_on t u spans.goes spans.goes are.goes (wider_itself spans.goes)
          (keeps-tasks t next_id services spans.goes usable) (keeps-services first t next_id services spans.goes new);
      olds =
          old_goes_on t u spans.olds spans.olds are.olds (wider_itself spans.olds)
          (keeps-tasks t next_id services spans.olds usable) (keeps-services first t next_id services spans.olds new);
      deletes = record { has = λ x h due. are.deletes.has x h due };
      addresses =
          address_goes_on t u spans.addresses spans.addresses are.addresses (wider_itself spans.addresses)
          (keeps-tasks t next_id services spans.addresses usable)
          (keeps-services first t next_id services spans.addresses new)
          (record { each = λ x h waits. inr (record { networks = λ n among free. free }) });
      notes =
          note_goes_on t u spans.notes noted are.notes notes (keeps-tasks t next_id services noted usable)
          (keeps-services first t next_id services noted new)
          (waiting_keeps to_allocate is_to_allocate (FreeAsBefore t u) t spans.to_allocate noted
          (λ x e. has-when (is_to_allocate x) _ ∙ e) are.to_allocate all_note);
      schedules =
          schedule_goes_on t u spans.schedules spans.schedules are.schedules (wider_itself spans.schedules)
          (keeps-tasks t next_id services spans.schedules usable)
          (record { each = λ x h wants. inr (scheduled_as_before t u refl refl refl refl x) });
      to_wait = record { has = λ x h due. are.to_wait.has x h due };
      to_schedule = record { has = λ x h due. are.to_schedule.has x h due };
      to_allocate = record { has = λ x h due. are.to_allocate.has x h due };
    }

-- The lines over services.

shifts : {S : Type 0} (show : Task → S) (first : ℕ) (t : Tables) (next_id : ℕ) (services : List Service) (span : Span)
    → IsUsable (with_services next_id services t) → HasNewServices first next_id t services
    → IsWider span (onwards first) → HasShifted show span t (with_services next_id services t)
shifts show first t next_id services span after new wide = record {
  services = record {
    rows = λ id.
        elim (new.others id) [
          | inl same ↦ inl same
          | inr two ↦
              inr (λ positive. wide.has id (in-onwards first id next_id two.0 two.1 after.next_id positive))
        ];
  };
  tasks = λ id. inl refl;
}

pub services_come_to : (spans : ServiceSpans) (first : ℕ) (new d c l m j p u : Span) → new ≡ onwards first
    → Joins d spans.downs new → Joins c spans.creates new → Joins l spans.leaves new → Joins m spans.comes new
    → Joins j spans.job_creates new → p ≡ full → Joins u spans.updates new → (t : Tables) (next_id : ℕ)
    (services : List Service) → IsUsable t → IsUsable (with_services next_id services t)
    → HasNewServices first next_id t services → AreCovered t spans
    → AreCovered (with_services next_id services t) (record {
      downs = d;
      creates = c;
      leaves = l;
      comes = m;
      job_creates = j;
      ports = p;
      updates = u;
      trims = spans.trims;
    })
services_come_to spans first new d c l m j p u is ds cs ls ms js ps us t next_id services before after come are = record {
  downs = moved downs down_goes_on spans.downs d ds are.downs;
  creates = moved creates create_goes_on spans.creates c cs are.creates;
  leaves = placed leaves leave_goes_on spans.leaves l ls are.leaves;
  comes = placed comes come_goes_on spans.comes m ms are.comes;
  job_creates = moved job_creates next_goes_on spans.job_creates j js are.job_creates;
  ports = subst (CoversServices port_duties with) (sym ps) (services-full port_duties with after);
  updates =
      update_goes_on t with u (rising t with before after) refl (shown (progress t) u us)
      (wider-covers updates t spans.updates u us.span are.updates);
  trims = trim_goes_on t with spans.trims (rising t with before after) refl remain are.trims;
}
  where
    with : Tables
    with = with_services next_id services t

    shown : {S : Type 0} (show : Task → S) (one : Span) {span : Span} → Joins one span new → HasShifted show one t with
    shown show one joins = shifts show first t next_id services one after come (subst (IsWider one) is joins.more)

    moved : (line : Tables → Service → List Duty) → MovedLaw line → (span one : Span) → Joins one span new
        → CoversServices line t span → CoversServices line with one
    moved line law span one joins covers =
        law t with one (rising t with before after) (shown standing one joins)
        (wider-covers line t span one joins.span covers)

    placed : (line : Tables → Service → List Duty) → PlacedLaw line → (span one : Span) → Joins one span new
        → CoversServices line t span → CoversServices line with one
    placed line law span one joins covers =
        law t with one (rising t with before after) (shown standing one joins) (record { nodes = inl refl })
        (wider-covers line t span one joins.span covers)

    remain : HasRemains spans.trims t with
    remain = record {
      services = λ id.
          elim (come.others id) [
            | inl same ↦ inl (ap (option_map bounds) same)
            | inr two ↦ inr (record {
              tasks = λ z h own past. absurd (let below = come.tasks z h in omega (arith, two.0, below, own));
            })
          ];
      tasks = λ id. inl refl;
    }
