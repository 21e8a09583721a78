-- The spans where a service's row is put anew.
use Rattle.std.proofs.Common.{false, ◌≡◌, ◌∙◌, ◌∷◌, ℕ, Bool, List, [], ap, inl, inr, refl, subst, sym}
use Rattle.swarm_objects.specs.ChangeLists.{apply_change}
use Rattle.swarm_objects.specs.Loops.Allocator.{port_duties}
use Rattle.swarm_objects.specs.declared.duties.Duty.{Duty}
use Rattle.swarm_objects.specs.Rows.{Has}
use Rattle.swarm_objects.specs.Usable.{IsUsable}
use Rattle.swarm_objects.specs.World.{Tables}
use Rattle.swarm_objects.specs.declared.nodes.Node.{Node}
use Rattle.swarm_objects.specs.declared.rows.Change.TheVariants as change
use Rattle.swarm_objects.specs.declared.rows.Change.{Change}
use Rattle.swarm_objects.specs.declared.services.Service.{Service}
use Rattle.swarm_objects.specs.declared.tasks.Task.{Task}
use Rattle.swarm_spans.proofs.Blocked.{by_service as blocked_by}
use Rattle.swarm_spans.proofs.Grown.{wider_itself, wider_yet}
use Rattle.swarm_spans.proofs.Services.GoesOn.{come_goes_on, create_goes_on, down_goes_on, leave_goes_on, next_goes_on, port_goes_on}
use Rattle.swarm_spans.proofs.Services.Numbers.{touching_ends as numbers_end}
use Rattle.swarm_spans.proofs.Services.Spans.{rising, services-full, wider-covers}
use Rattle.swarm_spans.proofs.Services.Touching.{by_service, shifted-all, touching_ends, wider_not, wider_one}
use Rattle.swarm_spans.proofs.Services.Trimmed.{trim_goes_on}
use Rattle.swarm_spans.proofs.Services.Trimming.{bounds_other, by_service as trimmed_by, touching_ends as trimmed_ends}
use Rattle.swarm_spans.proofs.Services.Updated.{update_goes_on}
use Rattle.swarm_spans.proofs.TasksCovered.{addresses_on, deletes_on, expires_on, goes_on, notes_on, olds_on, orphans_on, raises_on, rejects_on, restarts_on, schedules_on, tasks_wider, to_allocate_on, to_schedule_on, to_wait_on}
use Rattle.swarm_spans.proofs.Touches.{by_service_put, ready_service}
use Rattle.swarm_spans.specs.Blocked.{TouchesAllBlocked, TouchesBlocked}
use Rattle.swarm_spans.specs.Holding.{FreesNone}
use Rattle.swarm_spans.specs.Lines.{addresses, AlikeThere, notes, olds, raises, restarts}
use Rattle.swarm_spans.specs.Services.Lines.{MovedLaw, PlacedLaw, comes, creates, downs, job_creates, leaves, trims, updates}
use Rattle.swarm_spans.specs.Services.Standings.{progress, standing}
use Rattle.swarm_spans.specs.Services.Steps.{HasRemains, HasShifted, HasTasksOf as HasPastOf}
use Rattle.swarm_spans.specs.Services.Touches.{AreCovered, HasNumbered, HasPorts, HasRenumbered, HasTouched, HasTrimmed, ServicePutLaw}
use Rattle.swarm_spans.specs.Spans.{CoversServices, IsWider, full, with_id}
use Rattle.swarm_spans.specs.TasksCovered.{AreTasksCovered, PutLaw}
use Rattle.swarm_spans.specs.Touched.{HasTasksOf, Touches, TouchesAll, TouchesAllReady, TouchesReady, TouchesService}
use Rattle.swarm_spans.specs.declared.service_spans.ServiceSpans.{ServiceSpans}
use Rattle.swarm_spans.specs.declared.span.Span.{Span}
use Rattle.swarm_spans.specs.declared.task_spans.TaskSpans.{TaskSpans}

-- The lines over tasks.

touches-put : {may : Task → Bool} {AlikeTask : Task → Task → Type 0} {AlikeService : Service → Service → Type 0}
    {AlikeNode : Node → Node → Type 0} (t : Tables) (s : Service) (wide : Span) → TouchesService AlikeService t wide s
    → TouchesAll may AlikeTask AlikeService AlikeNode t wide (change.PutService s ∷ [])
touches-put {may} {AlikeTask} {AlikeService} {AlikeNode} t s wide has = record { each = λ c h. one c h }
  where
    one : (c : Change) → Has (change.PutService s ∷ []) c → Touches may AlikeTask AlikeService AlikeNode t wide c
    one c (inl is) = by_service_put may AlikeTask AlikeService AlikeNode t wide c s (sym is) has
    one c (inr none) = absurd none

-- the line reads only whether the service is there
there : (t : Tables) (s : Service) (span : Span) → TouchesService AlikeThere t span s
there t s span = record { of = λ a x was h of. inr (record {}) }

-- the span has all tasks of the service
all-of : (Alike : Service → Service → Type 0) (t : Tables) (s : Service) (id : ℕ) (tasks wide : Span)
    → HasTasksOf id t tasks → s.id ≡ id → IsWider wide tasks → TouchesService Alike t wide s
all-of Alike t s id tasks wide has is all =
    record { of = λ a x was h of. inl (all.has x.id (has.tasks x h (of ∙ is))) }

none-ready : (s : Service) (span : Span) → TouchesAllReady span (change.PutService s ∷ [])
none-ready s span = record { each = λ c h. one c h }
  where
    one : (c : Change) → Has (change.PutService s ∷ []) c → TouchesReady span c
    one c (inl is) = ready_service span c s (sym is)
    one c (inr none) = absurd none

none-blocked : (t : Tables) (s : Service) (waiting span : Span)
    → TouchesAllBlocked t waiting span (change.PutService s ∷ [])
none-blocked t s waiting span = inr (record { each = λ c h. one c h })
  where
    one : (c : Change) → Has (change.PutService s ∷ []) c → TouchesBlocked t waiting span c
    one c (inl is) = blocked_by t waiting span c s (sym is)
    one c (inr none) = absurd none

pub tasks_stay : (t : Tables) (spans : TaskSpans) (r a o d m n : Span) → IsWider r spans.restarts
    → IsWider a spans.raises → IsWider o spans.olds → IsWider d spans.addresses → IsWider m spans.notes → IsWider n m
    → AreTasksCovered t spans
    → AreTasksCovered t (record spans { restarts = r; raises = a; olds = o; addresses = d; notes = n })
tasks_stay t spans r a o d m n rs ws os ds ms ns are = record {
  expires = are.expires;
  orphans = are.orphans;
  rejects = are.rejects;
  restarts = tasks_wider restarts t spans.restarts r rs are.restarts;
  raises = tasks_wider raises t spans.raises a ws are.raises;
  goes = are.goes;
  olds = tasks_wider olds t spans.olds o os are.olds;
  deletes = are.deletes;
  addresses = tasks_wider addresses t spans.addresses d ds are.addresses;
  notes = tasks_wider notes t spans.notes n (wider_yet spans.notes m n ms ns) are.notes;
  schedules = are.schedules;
  to_wait = are.to_wait;
  to_schedule = are.to_schedule;
  to_allocate = are.to_allocate;
}

pub tasks_put : (t : Tables) (spans : TaskSpans) (id : ℕ) (tasks r a o d m n : Span) → IsUsable t
    → HasTasksOf id t tasks → IsWider r spans.restarts → IsWider r tasks
    → IsWider a spans.raises → IsWider a tasks → IsWider o spans.olds → IsWider o tasks → IsWider d spans.addresses
    → IsWider d tasks → IsWider m spans.notes → IsWider m tasks → IsWider n m → IsWider n spans.to_allocate
    → PutLaw id t spans (record spans { restarts = r; raises = a; olds = o; addresses = d; notes = n })
tasks_put t spans id tasks r a o d m n usable has rs rt ws wt os ot ds dt ms mt ns nt s is after are =
    let cs = change.PutService s ∷ [] in
    record {
      expires =
          expires_on t cs spans.expires spans.expires after are.expires (same spans.expires)
          (none-ready s spans.expires);
      orphans =
          orphans_on t cs spans.orphans spans.orphans usable after are.orphans (same spans.orphans)
          (touches-put t s spans.orphans (there t s spans.orphans));
      rejects =
          rejects_on t cs spans.rejects spans.rejects usable after are.rejects (same spans.rejects)
          (touches-put t s spans.rejects (there t s spans.rejects));
      restarts =
          restarts_on t cs spans.restarts r usable after are.restarts rs
          (touches-put t s r (all-of _ t s id tasks r has is rt));
      raises =
          raises_on spans.to_wait t cs spans.raises a usable after are.to_wait (none-blocked t s spans.to_wait a) are.raises ws
          (touches-put t s a (all-of _ t s id tasks a has is wt));
      goes =
          goes_on t cs spans.goes spans.goes usable after are.goes (same spans.goes)
          (touches-put t s spans.goes (there t s spans.goes));
      olds = olds_on t cs spans.olds o usable after are.olds os (touches-put t s o (all-of _ t s id tasks o has is ot));
      deletes =
          deletes_on t cs spans.deletes spans.deletes usable after are.deletes (same spans.deletes)
          (touches-put t s spans.deletes (there t s spans.deletes));
      addresses =
          addresses_on spans.to_allocate t cs spans.addresses d usable after are.to_allocate
          (inr (record { each = λ c h. frees-none c h })) are.addresses ds
          (touches-put t s d (all-of _ t s id tasks d has is dt));
      notes =
          notes_on spans.to_allocate t cs spans.notes n usable after are.to_allocate (inl nt) are.notes
          (wider_yet spans.notes m n ms ns)
          (touches-put t s n (all-of _ t s id tasks n has is (wider_yet tasks m n mt ns)));
      schedules =
          schedules_on spans.to_schedule t cs spans.schedules spans.schedules usable after are.to_schedule
          (λ e. absurd cc) are.schedules (same spans.schedules)
          (touches-put t s spans.schedules (there t s spans.schedules));
      to_wait =
          to_wait_on t cs spans.to_wait spans.to_wait usable after are.to_wait (same spans.to_wait)
          (touches-put t s spans.to_wait (there t s spans.to_wait));
      to_schedule =
          to_schedule_on t cs spans.to_schedule spans.to_schedule usable after are.to_schedule (same spans.to_schedule)
          (touches-put t s spans.to_schedule (there t s spans.to_schedule));
      to_allocate =
          to_allocate_on t cs spans.to_allocate spans.to_allocate usable after are.to_allocate (same spans.to_allocate)
          (touches-put t s spans.to_allocate (there t s spans.to_allocate));
    }
  where
    same : (span : Span) → IsWider span span
    same span = wider_itself span

    frees-none : (c : Change) → Has (change.PutService s ∷ []) c → FreesNone t c
    frees-none c (inl is) = subst (FreesNone t) is tt
    frees-none c (inr none) = absurd none

-- The lines over services.

shifts-put : {S : Type 0} (show : Task → S) (t : Tables) (s : Service) (id : ℕ) (span wide : Span) → s.id ≡ id
    → wide ≡ with_id span id → HasShifted show wide t (apply_change t (change.PutService s))
shifts-put show t s id span wide same is =
    shifted-all show wide t (apply_change t (change.PutService s))
    (touching_ends (λ x. false) show t (change.PutService s ∷ []) [] wide wide
    (record { wider = wider_not wide; each = λ c h. inl (one c h) }) refl)
  where
    one : (c : Change) → Has (change.PutService s ∷ []) c → HasTouched (λ x. false) show t c wide
    one c (inl at) = by_service (λ x. false) show t c s span wide (sym at) (is ∙ ap (with_id span) (sym same))
    one c (inr none) = absurd none

remains-put : (t : Tables) (s : Service) (id : ℕ) (span : Span) → s.id ≡ id → HasPastOf span t id
    → HasRemains span t (apply_change t (change.PutService s))
remains-put t s id span same has =
    trimmed_ends t (change.PutService s ∷ []) [] span span
    (record { wider = wider_not span; each = λ c h. inl (one c h) }) refl
  where
    one : (c : Change) → Has (change.PutService s ∷ []) c → HasTrimmed t c span
    one c (inl at) =
        trimmed_by t c s span (sym at) (bounds_other t s span (subst (HasPastOf span t) (sym same) has))
    one c (inr none) = absurd none

ports-put : (t : Tables) (s : Service) (id : ℕ) (span wide : Span) → IsUsable t
    → IsUsable (apply_change t (change.PutService s)) → s.id ≡ id → IsWider wide span → HasRenumbered t id wide
    → CoversServices port_duties t span → CoversServices port_duties (apply_change t (change.PutService s)) wide
ports-put t s id span wide before after same wider has covers =
    elim has.has [
      | inl all ↦
          wider-covers port_duties (apply_change t (change.PutService s)) full wide all
          (services-full port_duties (apply_change t (change.PutService s)) after)
      | inr numbered ↦
          port_goes_on t (apply_change t (change.PutService s)) wide
          (numbers_end t (change.PutService s ∷ []) [] wide wide before
          (record { wider = wider_not wide; each = λ c h. inl (one (numbered s same) c h) }) refl after)
          (wider-covers port_duties t span wide wider covers)
    ]
  where
    one : HasNumbered t s wide → (c : Change) → Has (change.PutService s ∷ []) c → HasPorts t c wide
    one own c (inl at) =
        subst (λ (d : Change). HasPorts t d wide) at
        (record { service = λ z e. let is : s ≡ z = cc in subst (λ (y : Service). HasNumbered t y wide) is own })
    one own c (inr none) = absurd none

pub services_stay : (t : Tables) (spans : ServiceSpans) (id : ℕ) (d c l m j p u r : Span)
    → d ≡ with_id spans.downs id → c ≡ with_id spans.creates id → l ≡ with_id spans.leaves id
    → m ≡ with_id spans.comes id → j ≡ with_id spans.job_creates id → IsWider p spans.ports
    → u ≡ with_id spans.updates id → IsWider r spans.trims → AreCovered t spans
    → AreCovered t (record {
      downs = d;
      creates = c;
      leaves = l;
      comes = m;
      job_creates = j;
      ports = p;
      updates = u;
      trims = r;
    })
services_stay t spans id d c l m j p u r ds cs ls ms js ps us rs are = record {
  downs = wider-covers downs t spans.downs d (wider_one id spans.downs d ds) are.downs;
  creates = wider-covers creates t spans.creates c (wider_one id spans.creates c cs) are.creates;
  leaves = wider-covers leaves t spans.leaves l (wider_one id spans.leaves l ls) are.leaves;
  comes = wider-covers comes t spans.comes m (wider_one id spans.comes m ms) are.comes;
  job_creates = wider-covers job_creates t spans.job_creates j (wider_one id spans.job_creates j js) are.job_creates;
  ports = wider-covers port_duties t spans.ports p ps are.ports;
  updates = wider-covers updates t spans.updates u (wider_one id spans.updates u us) are.updates;
  trims = tasks_wider trims t spans.trims r rs are.trims;
}

pub services_put : (t : Tables) (spans : ServiceSpans) (id : ℕ) (d c l m j p u r : Span) → IsUsable t
    → d ≡ with_id spans.downs id → c ≡ with_id spans.creates id → l ≡ with_id spans.leaves id
    → m ≡ with_id spans.comes id → j ≡ with_id spans.job_creates id → IsWider p spans.ports → HasRenumbered t id p
    → u ≡ with_id spans.updates id → IsWider r spans.trims → HasPastOf r t id
    → ServicePutLaw id t spans (record {
      downs = d;
      creates = c;
      leaves = l;
      comes = m;
      job_creates = j;
      ports = p;
      updates = u;
      trims = r;
    })
services_put t spans id d c l m j p u r before ds cs ls ms js ps numbered us rs has s same after are = record {
  downs = moved downs down_goes_on spans.downs d ds are.downs;
  creates = moved creates create_goes_on spans.creates c cs are.creates;
  leaves = placed leaves leave_goes_on spans.leaves l ls are.leaves;
  comes = placed comes come_goes_on spans.comes m ms are.comes;
  job_creates = moved job_creates next_goes_on spans.job_creates j js are.job_creates;
  ports = ports-put t s id spans.ports p before after same ps numbered are.ports;
  updates =
      update_goes_on t with u (rising t with before after) refl (shifts-put (progress t) t s id spans.updates u same us)
      (wider-covers updates t spans.updates u (wider_one id spans.updates u us) are.updates);
  trims =
      trim_goes_on t with r (rising t with before after) refl (remains-put t s id r same has)
      (tasks_wider trims t spans.trims r rs are.trims);
}
  where
    with : Tables
    with = apply_change t (change.PutService s)

    moved : (line : Tables → Service → List Duty) → MovedLaw line → (span one : Span) → one ≡ with_id span id
        → CoversServices line t span → CoversServices line with one
    moved line law span one is covers =
        law t with one (rising t with before after) (shifts-put standing t s id span one same is)
        (wider-covers line t span one (wider_one id span one is) covers)

    placed : (line : Tables → Service → List Duty) → PlacedLaw line → (span one : Span) → one ≡ with_id span id
        → CoversServices line t span → CoversServices line with one
    placed line law span one is covers =
        law t with one (rising t with before after) (shifts-put standing t s id span one same is)
        (record { nodes = inl refl }) (wider-covers line t span one (wider_one id span one is) covers)
