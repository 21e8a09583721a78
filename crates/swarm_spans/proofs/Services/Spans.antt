-- All spans of the lines over services, over one list of changes.
use Rattle.std.proofs.Common.{Bool, List, None, Option, Some, [], ap, cond, false, inl, inr, refl, subst, sym, true, ℕ, arith, ◌<◌, ◌∙◌, ◌∷◌, ◌≡◌}
use Rattle.std.specs.List.{list_any}
use Rattle.std.specs.Prelude.{is_some, nat_le, ◌++◌, ◌^◌, ◌||◌}
use Rattle.swarm_objects.proofs.RowLemmas.{number_above}
use Rattle.swarm_objects.specs.Bounds.{far_end}
use Rattle.swarm_objects.specs.ChangeLists.{apply_changes}
use Rattle.swarm_objects.specs.Loops.Allocator.{port_duties}
use Rattle.swarm_objects.specs.Loops.Update.{is_to_start, open_duties, run_duties, update_duties}
use Rattle.swarm_objects.specs.Loops.Words.{when}
use Rattle.swarm_objects.specs.Rows.{Has, IsBelow, first_of, is_some_and, row_at, service_id, task_id}
use Rattle.swarm_objects.specs.Services.Runs.{has_open_run, is_under_way}
use Rattle.swarm_objects.specs.Usable.{IsUsable}
use Rattle.swarm_objects.specs.World.{Tables}
use Rattle.swarm_objects.specs.declared.duties.Duty.TheVariants as duty
use Rattle.swarm_objects.specs.declared.duties.Duty.{Duty}
use Rattle.swarm_objects.specs.declared.rows.Change.{Change}
use Rattle.swarm_objects.specs.declared.services.Mode.TheVariants as mode
use Rattle.swarm_objects.specs.declared.services.Mode.{Mode}
use Rattle.swarm_objects.specs.declared.services.Service.{Service}
use Rattle.swarm_objects.specs.declared.services.UpdateRun.{UpdateRun}
use Rattle.swarm_objects.specs.declared.tasks.Task.{Task}
use Rattle.swarm_spans.proofs.Grown.{in-full, wider_itself, wider_over}
use Rattle.swarm_spans.proofs.Services.GoesOn.{come_goes_on, create_goes_on, down_goes_on, leave_goes_on, next_goes_on, port_goes_on}
use Rattle.swarm_spans.proofs.Services.Outcomes.{no-node-put, same-clock, same-settings}
use Rattle.swarm_spans.proofs.Services.Touching.{number-wider, service_of-wider, shifted-all}
use Rattle.swarm_spans.proofs.Services.Trimmed.{trim_goes_on}
use Rattle.swarm_spans.proofs.Services.Quiet.{updates_go_on}
use Rattle.swarm_spans.specs.Services.Lines.{AreRising, MovedLaw, PlacedLaw, comes, creates, downs, job_creates, leaves, trims, updates}
use Rattle.swarm_spans.specs.Services.Standings.{comes_quietly, progress, standing}
use Rattle.swarm_spans.specs.Services.Steps.{HasEach, HasForPorts, HasRemains, HasShifted, HasShiftedBut}
use Rattle.swarm_spans.specs.Services.Touches.{AreCovered, Joins, JoinsForNodes, ServiceTimeLaw, puts_node}
use Rattle.swarm_spans.specs.Spans.{Covers, CoversServices, CoversTasks, IsWider, full, has_duty, is_in}
use Rattle.swarm_spans.specs.TasksCovered.{at_time}
use Rattle.swarm_spans.specs.Timed.{has_paused_run, is_unfinished}
use Rattle.swarm_spans.specs.declared.service_spans.ServiceSpans.{ServiceSpans}
use Rattle.swarm_spans.specs.declared.span.Span.{Span}

-- Two spans as one.

pub joined : (both span more : Span) → IsWider both span → IsWider both more → Joins both span more
joined both span more wider all = record { span = wider; more = all }

pub over_joined : (span more : Span) → true ≡ nat_le more.high more.after → Joins span span more
over_joined span more over = record { span = wider_itself span; more = wider_over span more over }

pub ruleset widen_steps = (joined, over_joined)

pub nodes_full : (cs : List Change) (one span more : Span) → true ≡ list_any puts_node cs → one ≡ full
    → JoinsForNodes cs one span more
nodes_full cs one span more puts is = record { either = inl (sym puts, is) }

pub nodes_joined : (cs : List Change) (one span more : Span) → false ≡ list_any puts_node cs → Joins one span more
    → JoinsForNodes cs one span more
nodes_joined cs one span more puts joins = record { either = inr (sym puts, joins) }

pub ruleset node_steps = (nodes_full, nodes_joined)

-- Every row is in the full span.

pub is-below : {X : Type 0} (key : X → ℕ) (n : ℕ) (rows : List X) (x : X) → IsBelow key n rows → Has rows x → key x < n
is-below key n [] x b h = absurd h
is-below key n (y ∷ rows) x b (inl e) = subst (λ z. key z < n) e b.0
is-below key n (y ∷ rows) x b (inr h) = is-below key n rows x b.1 h

pub near : (id bound : ℕ) → id < bound → bound < far_end → id < 2 ^ 60
near id bound a b = omega (arith, a, b)

pub each-full : (t : Tables) → IsUsable t → HasEach full t
each-full t usable s h =
    in-full s.id (number_above service_id 0 t.services s usable.sound.ordered.services h)
    (near s.id t.next_id (is-below service_id t.next_id t.services s usable.sound.below.services h) usable.next_id)

pub services-full : (line : Tables → Service → List Duty) (t : Tables) → IsUsable t → CoversServices line t full
services-full line t usable = record { has = λ s h passes. each-full t usable s h }

pub tasks-full : (line : Tables → Task → List Duty) (t : Tables) → IsUsable t → CoversTasks line t full
tasks-full line t usable = record {
  has = λ x h passes.
      in-full x.id (number_above task_id 0 t.tasks x usable.sound.ordered.tasks h)
      (near x.id t.next_id (is-below task_id t.next_id t.tasks x usable.sound.below.tasks h) usable.next_id);
}

pub all_full : (d c l m j p u r : Span) → d ≡ full → c ≡ full → l ≡ full → m ≡ full → j ≡ full → p ≡ full → u ≡ full
    → r ≡ full → (t : Tables) → IsUsable t
    → AreCovered t (record {
      downs = d;
      creates = c;
      leaves = l;
      comes = m;
      job_creates = j;
      ports = p;
      updates = u;
      trims = r;
    })
all_full d c l m j p u r ds cs ls ms js ps us rs t usable = record {
  downs = subst (CoversServices downs t) (sym ds) (services-full downs t usable);
  creates = subst (CoversServices creates t) (sym cs) (services-full creates t usable);
  leaves = subst (CoversServices leaves t) (sym ls) (services-full leaves t usable);
  comes = subst (CoversServices comes t) (sym ms) (services-full comes t usable);
  job_creates = subst (CoversServices job_creates t) (sym js) (services-full job_creates t usable);
  ports = subst (CoversServices port_duties t) (sym ps) (services-full port_duties t usable);
  updates = subst (CoversServices updates t) (sym us) (services-full updates t usable);
  trims = subst (CoversTasks trims t) (sym rs) (tasks-full trims t usable);
}

-- As time goes by.

-- at any time a service without an update under way owes the same
runs-same : (t : Tables) (clock : ℕ) (s : Service) (o : Option UpdateRun) → is_some_and is_under_way o ≡ false
    → run_duties (at_time clock t) s o ≡ run_duties t s o
runs-same t clock s None none = refl
runs-same t clock s (Some run) none = go (is_under_way run) none
  where
    go : (b : Bool) → b ≡ false
        → cond b (open_duties (at_time clock t) s run) [] ≡ cond b (open_duties t s run) []
    go false e = refl
    go true e = absurd cc

closed-same : (t : Tables) (clock : ℕ) (s : Service) → has_open_run s ≡ false → updates (at_time clock t) s ≡ updates t s
closed-same t clock s none = go s.spec.mode
  where
    go : (m : Mode) → update_duties (at_time clock t) s m ≡ update_duties t s m
    go (mode.Replicated n) = ap (λ ds. when (is_to_start t s) (duty.Start s.id) ++ ds) (runs-same t clock s s.run none)
    go mode.Global = ap (λ ds. when (is_to_start t s) (duty.Start s.id) ++ ds) (runs-same t clock s s.run none)
    go (mode.Job concurrent total) = refl

pub time_goes_on : (t : Tables) (spans : ServiceSpans) (updating started : Span) → IsUsable t
    → Covers service_id is_unfinished started t.services → Joins updating spans.updates started → ServiceTimeLaw t spans (record spans { updates = updating })
time_goes_on t spans updating started usable updated joins clock are =
    let u = at_time clock t in
    let rising : AreRising t u =
    record {
      before = usable.sound.ordered.tasks;
      after = usable.sound.ordered.tasks;
      services = usable.sound.ordered.services;
    } in
    record {
      downs = down_goes_on t u spans.downs rising (same standing spans.downs) are.downs;
      creates = create_goes_on t u spans.creates rising (same standing spans.creates) are.creates;
      leaves =
          leave_goes_on t u spans.leaves rising (same standing spans.leaves) (record { nodes = inl refl }) are.leaves;
      comes = come_goes_on t u spans.comes rising (same standing spans.comes) (record { nodes = inl refl }) are.comes;
      job_creates = next_goes_on t u spans.job_creates rising (same standing spans.job_creates) are.job_creates;
      ports = record { has = λ s h due. are.ports.has s h due };
      updates = record { has = λ s h passes. at s h passes (has_open_run s) refl };
      trims =
          trim_goes_on t u spans.trims rising refl (record { services = λ id. inl refl; tasks = λ id. inl refl })
          are.trims;
    }
  where
    at : (s : Service) → Has t.services s → has_duty (updates (at_time clock t)) s ≡ true → (b : Bool)
        → has_open_run s ≡ b → is_in updating s.id ≡ true
    at s h passes true under = joins.more.has s.id (updated.has s h (ap (λ b. b || has_paused_run s) under))
    at s h passes false none =
        joins.span.has s.id
        (are.updates.has s h (ap (λ ds. is_some (first_of ds)) (sym (closed-same t clock s none)) ∙ passes))

    same : {S : Type 0} (show : Task → S) (span : Span) → HasShifted show span t (at_time clock t)
    same show span = record { services = record { rows = λ id. inl refl }; tasks = λ id. inl refl }

-- A wider span covers too.

pub wider-covers : (line : Tables → Service → List Duty) (t : Tables) (span wide : Span) → IsWider wide span
    → CoversServices line t span → CoversServices line t wide
wider-covers line t span wide w c = record { has = λ x h e. w.has x.id (c.has x h e) }

pub shifted-wider : {S : Type 0} (show : Task → S) (t u : Tables) (span wide : Span) → IsWider wide span
    → HasShifted show span t u → HasShifted show wide t u
shifted-wider show t u span wide w has = record {
  services = record {
    rows = λ id.
        elim (has.services.rows id) [
          | inl same ↦ inl same
          | inr in-span ↦ inr (number-wider id span wide w in-span)
        ];
  };
  tasks = λ id.
      elim (has.tasks id) [
        | inl same ↦ inl same
        | inr two ↦ inr (
          service_of-wider (row_at task_id id t.tasks) span wide w two.0,
          service_of-wider (row_at task_id id u.tasks) span wide w two.1,
        )
      ];
}

nodes-cover : (line : Tables → Service → List Duty) (t : Tables) (cs : List Change) (one span moved : Span)
    → IsUsable t → JoinsForNodes cs one span moved → CoversServices line t span → CoversServices line t one
nodes-cover line t cs one span moved usable joins c =
    elim joins.either [
      | inl two ↦ subst (CoversServices line t) (sym two.1) (services-full line t usable)
      | inr two ↦ wider-covers line t span one two.1.span c
    ]

-- After the changes.

pub rising : (t u : Tables) → IsUsable t → IsUsable u → AreRising t u
rising t u before after = record {
  before = before.sound.ordered.tasks;
  after = after.sound.ordered.tasks;
  services = after.sound.ordered.services;
}

moved-on : (line : Tables → Service → List Duty) (t u : Tables) (one span moved : Span) → MovedLaw line → IsUsable t
    → IsUsable u → HasShifted standing moved t u → Joins one span moved → CoversServices line t span
    → CoversServices line u one
moved-on line t u one span moved law before after has joins c =
    law t u one (rising t u before after) (shifted-wider standing t u moved one joins.more has)
    (wider-covers line t span one joins.span c)

placed-on : (line : Tables → Service → List Duty) (t : Tables) (cs : List Change) (one span moved : Span)
    → PlacedLaw line → IsUsable t → IsUsable (apply_changes t cs) → HasShifted standing moved t (apply_changes t cs)
    → JoinsForNodes cs one span moved → CoversServices line t span → CoversServices line (apply_changes t cs) one
placed-on line t cs one span moved law before after has joins c =
    elim joins.either [
      | inl two ↦
          subst (CoversServices line (apply_changes t cs)) (sym two.1) (services-full line (apply_changes t cs) after)
      | inr two ↦
          law t (apply_changes t cs) one (rising t (apply_changes t cs) before after)
          (shifted-wider standing t (apply_changes t cs) moved one two.1.more has)
          (record { nodes = inl (no-node-put t cs two.0) }) (wider-covers line t span one two.1.span c)
    ]

pub covered_stays : (t : Tables) (cs : List Change) (b : ServiceSpans) (moved d c l m j p u r : Span) → IsUsable t
    → AreCovered t b → Joins d b.downs moved → Joins c b.creates moved → JoinsForNodes cs l b.leaves moved
    → JoinsForNodes cs m b.comes moved → Joins j b.job_creates moved → IsWider p b.ports → IsWider u b.updates
    → IsWider r b.trims
    → AreCovered t (record {
      downs = d;
      creates = c;
      leaves = l;
      comes = m;
      job_creates = j;
      ports = p;
      updates = u;
      trims = r;
    })
covered_stays t cs b moved d c l m j p u r usable are ds crs ls ms js ps us rs = record {
  downs = wider-covers downs t b.downs d ds.span are.downs;
  creates = wider-covers creates t b.creates c crs.span are.creates;
  leaves = nodes-cover leaves t cs l b.leaves moved usable ls are.leaves;
  comes = nodes-cover comes t cs m b.comes moved usable ms are.comes;
  job_creates = wider-covers job_creates t b.job_creates j js.span are.job_creates;
  ports = wider-covers port_duties t b.ports p ps are.ports;
  updates = wider-covers updates t b.updates u us are.updates;
  trims = record { has = λ x h e. rs.has x.id (are.trims.has x h e) };
}

pub covered_on : (t : Tables) (cs : List Change) (b : ServiceSpans) (moved d c l m j p u r : Span) → IsUsable t
    → AreCovered t b → HasShiftedBut (λ x. false) standing moved t (apply_changes t cs) → Joins d b.downs moved
    → Joins c b.creates moved → JoinsForNodes cs l b.leaves moved → JoinsForNodes cs m b.comes moved
    → Joins j b.job_creates moved → IsWider p b.ports
    → (IsUsable (apply_changes t cs) → HasForPorts p t (apply_changes t cs)) → IsWider u b.updates
    → HasShiftedBut (comes_quietly t) (progress t) u t (apply_changes t cs) → IsWider r b.trims
    → HasRemains r t (apply_changes t cs)
    → IsUsable (apply_changes t cs)
    → AreCovered (apply_changes t cs) (record {
      downs = d;
      creates = c;
      leaves = l;
      comes = m;
      job_creates = j;
      ports = p;
      updates = u;
      trims = r;
    })
covered_on t cs b moved d c l m j p u r usable are has ds crs ls ms js ps numbered us progressed rs remain after = record {
  downs = moved-on downs t (apply_changes t cs) d b.downs moved down_goes_on usable after stood ds are.downs;
  creates =
      moved-on creates t (apply_changes t cs) c b.creates moved create_goes_on usable after stood crs are.creates;
  leaves = placed-on leaves t cs l b.leaves moved leave_goes_on usable after stood ls are.leaves;
  comes = placed-on comes t cs m b.comes moved come_goes_on usable after stood ms are.comes;
  job_creates =
      moved-on job_creates t (apply_changes t cs) j b.job_creates moved next_goes_on usable after stood js
      are.job_creates;
  ports =
      port_goes_on t (apply_changes t cs) p (numbered after) (wider-covers port_duties t b.ports p ps are.ports);
  updates =
      updates_go_on t (apply_changes t cs) u (rising t (apply_changes t cs) usable after) (same-clock t cs) progressed
      (wider-covers updates t b.updates u us are.updates);
  trims =
      trim_goes_on t (apply_changes t cs) r (rising t (apply_changes t cs) usable after) (same-settings t cs) remain
      (record { has = λ x h e. rs.has x.id (are.trims.has x h e) });
}
  where
    stood : HasShifted standing moved t (apply_changes t cs)
    stood = shifted-all standing moved t (apply_changes t cs) has

pub ruleset touch_steps = (covered_stays, covered_on)
