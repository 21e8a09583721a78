-- The spans where nodes come.
use Rattle.std.proofs.Common.{◌≡◌, ◌∙◌, ◌<◌, ℕ, Bool, List, arith, inl, inr, refl, subst, sym}
use Rattle.swarm_objects.proofs.RowLemmas.{row_at-Some}
use Rattle.swarm_objects.specs.Rows.{node_id, row_at, task_id}
use Rattle.swarm_objects.specs.Usable.{IsUsable}
use Rattle.swarm_objects.specs.World.{Tables}
use Rattle.swarm_objects.specs.declared.nodes.Node.{Node}
use Rattle.swarm_objects.specs.declared.services.Service.{Service}
use Rattle.swarm_objects.specs.declared.tasks.Task.{Task}
use Rattle.swarm_spans.proofs.Grown.{wider_itself}
use Rattle.swarm_spans.proofs.Lines.{orphan_goes_on, reject_goes_on, restart_goes_on}
use Rattle.swarm_spans.proofs.Services.GoesOn.{create_goes_on, down_goes_on, next_goes_on}
use Rattle.swarm_spans.proofs.Services.Spans.{each-full}
use Rattle.swarm_spans.proofs.Services.Trimmed.{trim_goes_on}
use Rattle.swarm_spans.proofs.Services.Updated.{update_goes_on}
use Rattle.swarm_spans.proofs.TasksCovered.{schedules_all}
use Rattle.swarm_spans.proofs.Waiting.{expire_goes_on, raise_goes_on}
use Rattle.swarm_spans.specs.Kept.{IsAlike, KeepsNodes, KeepsServices, KeepsTasks}
use Rattle.swarm_spans.specs.Services.Lines.{AreRising, comes, leaves}
use Rattle.swarm_spans.specs.Services.Standings.{progress, standing}
use Rattle.swarm_spans.specs.Services.Steps.{HasShifted}
use Rattle.swarm_spans.specs.Services.Touches.{ServiceNodesLaw}
use Rattle.swarm_spans.specs.Spans.{CoversServices, IsWider, full}
use Rattle.swarm_spans.specs.TasksCovered.{AreTasksCovered, HasNewNodes, with_nodes}
use Rattle.swarm_spans.specs.declared.service_spans.ServiceSpans.{ServiceSpans}
use Rattle.swarm_spans.specs.declared.span.Span.{Span}
use Rattle.swarm_spans.specs.declared.task_spans.TaskSpans.{TaskSpans}

-- What such a step keeps.

-- no task is on a new node
same-node : {Alike : Node → Node → Type 0} (first : ℕ) (t : Tables) (nodes : List Node) → HasNewNodes first t nodes
    → (n : ℕ) → n < first → IsAlike Alike (row_at node_id n t.nodes) (row_at node_id n nodes)
same-node first t nodes new n below =
    elim (new.others n) [ inl same ↦ inl same | inr high ↦ absurd (omega (arith, high, below)) ]

keeps-nodes : {Alike : Node → Node → Type 0} (first : ℕ) (t : Tables) (next_id : ℕ) (nodes : List Node) (span : Span)
    → HasNewNodes first t nodes → KeepsNodes Alike t (with_nodes next_id nodes t) span
keeps-nodes first t next_id nodes span new = record {
  on = λ x y n stays e. inr (same-node first t nodes new n (new.tasks x n stays.was (sym stays.node ∙ e)));
}

keeps-services : {Alike : Service → Service → Type 0} (t : Tables) (next_id : ℕ) (nodes : List Node) (span : Span)
    → KeepsServices Alike t (with_nodes next_id nodes t) span
keeps-services t next_id nodes span = record { of = λ x y stays. inr (inl refl) }

keeps-tasks : {may : Task → Bool} {Alike : Task → Task → Type 0} (t : Tables) (next_id : ℕ) (nodes : List Node)
    (span : Span) → IsUsable t → KeepsTasks may Alike t (with_nodes next_id nodes t) span
keeps-tasks t next_id nodes span usable = record {
  own = λ y h can. inr (inl (sym (row_at-Some task_id 0 t.tasks y usable.sound.ordered.tasks h)));
}

-- The lines over tasks.

pub nodes_come : (spans : TaskSpans) (waiting : Span) → IsWider waiting spans.schedules
    → IsWider waiting spans.to_schedule → (first : ℕ) (t : Tables) (next_id : ℕ) (nodes : List Node) → IsUsable t
    → HasNewNodes first t nodes → AreTasksCovered t spans
    → AreTasksCovered (with_nodes next_id nodes t) (record spans { schedules = waiting })
nodes_come spans waiting wider all first t next_id nodes usable new are =
    let u = with_nodes next_id nodes t in
    record {
      expires =
          expire_goes_on t u spans.expires spans.expires are.expires (wider_itself spans.expires)
          (record {
            own = λ m h ready.
                inr (inl (sym (row_at-Some node_id 0 t.nodes m usable.sound.ordered.nodes (new.ready m h ready))));
          })
          (λ n. inr refl);
      orphans =
          orphan_goes_on t u spans.orphans spans.orphans refl refl are.orphans (wider_itself spans.orphans)
          (keeps-tasks t next_id nodes spans.orphans usable) (keeps-nodes first t next_id nodes spans.orphans new);
      rejects =
          reject_goes_on t u spans.rejects spans.rejects are.rejects (wider_itself spans.rejects)
          (keeps-tasks t next_id nodes spans.rejects usable) (keeps-nodes first t next_id nodes spans.rejects new);
      restarts =
          restart_goes_on t u spans.restarts spans.restarts are.restarts (wider_itself spans.restarts)
          (keeps-tasks t next_id nodes spans.restarts usable) (keeps-services t next_id nodes spans.restarts)
          (keeps-nodes first t next_id nodes spans.restarts new);
      raises =
          raise_goes_on t u spans.raises spans.raises refl are.raises (wider_itself spans.raises)
          (keeps-tasks t next_id nodes spans.raises usable) (keeps-services t next_id nodes spans.raises)
          (record {
            beside = λ x z h wants there is blocks.
                inr (z, record { is = there; id = refl; service = refl; place = refl; node = refl; blocks = blocks });
          })
          (record {
            beside = λ x z n h wants there is blocks on.
                inr (same-node first t nodes new n (new.tasks z n there on));
          });
      goes = record { has = λ x h due. are.goes.has x h due };
      olds = record { has = λ x h due. are.olds.has x h due };
      deletes = record { has = λ x h due. are.deletes.has x h due };
      addresses = record { has = λ x h due. are.addresses.has x h due };
      notes = record { has = λ x h due. are.notes.has x h due };
      schedules =
          schedules_all t u spans.to_schedule spans.schedules waiting refl usable are.to_schedule all are.schedules
          wider;
      to_wait = record { has = λ x h due. are.to_wait.has x h due };
      to_schedule = record { has = λ x h due. are.to_schedule.has x h due };
      to_allocate = record { has = λ x h due. are.to_allocate.has x h due };
    }

-- The lines over services.

pub nodes_come_to : (spans : ServiceSpans) (every : Span) → every ≡ full
    → ServiceNodesLaw spans (record spans { leaves = every; comes = every })
nodes_come_to spans every is t next_id nodes usable are =
    let u = with_nodes next_id nodes t in
    let rising : AreRising t u =
    record {
      before = usable.sound.ordered.tasks;
      after = usable.sound.ordered.tasks;
      services = usable.sound.ordered.services;
    } in
    record {
      downs = down_goes_on t u spans.downs rising (same standing spans.downs) are.downs;
      creates = create_goes_on t u spans.creates rising (same standing spans.creates) are.creates;
      leaves = subst (CoversServices leaves u) (sym is) (record { has = λ s h passes. each-full t usable s h });
      comes = subst (CoversServices comes u) (sym is) (record { has = λ s h passes. each-full t usable s h });
      job_creates = next_goes_on t u spans.job_creates rising (same standing spans.job_creates) are.job_creates;
      ports = record { has = λ s h due. are.ports.has s h due };
      updates = update_goes_on t u spans.updates rising refl (same (progress t) spans.updates) are.updates;
      trims =
          trim_goes_on t u spans.trims rising refl (record { services = λ id. inl refl; tasks = λ id. inl refl })
          are.trims;
    }
  where
    same : {S : Type 0} (show : Task → S) (span : Span) → HasShifted show span t (with_nodes next_id nodes t)
    same show span = record { services = record { rows = λ id. inl refl }; tasks = λ id. inl refl }
