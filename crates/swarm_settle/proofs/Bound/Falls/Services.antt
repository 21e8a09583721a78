-- Runs that begin and end make the measure smaller.
use Rattle.std.proofs.Common.{Bool, None, Option, Some, ap, arith, false, refl, subst, sym, true, ℕ, ◌+◌, ◌∙◌, ◌≡◌, ◌≤◌}
use Rattle.std.proofs.lemmas.Bool.Decides.{nat_tests}
use Rattle.std.specs.Option.{option_map}
use Rattle.std.specs.Prelude.{is_some, not, ◌==◌}
use Rattle.swarm_settle.proofs.Bound.Falls.Rows.{of-any}
use Rattle.swarm_settle.proofs.Bound.Positions.{bit-most}
use Rattle.swarm_settle.proofs.Bound.Sums.{changed-falls, changed-le}
use Rattle.swarm_settle.specs.Bound.Coming.{coming, coming_of}
use Rattle.swarm_settle.specs.Bound.Left.{runs_left, service_left}
use Rattle.swarm_settle.specs.Bound.Measure.{measure}
use Rattle.swarm_model.proofs.Base.IsDuty.{IsDuty, OfRow}
use Rattle.swarm_model.proofs.Moves.Rows.{RisesBetween, has_row-Has}
use Rattle.swarm_objects.proofs.RowLemmas.{Has-from_row_at}
use Rattle.swarm_objects.proofs.Tests.{second_so}
use Rattle.swarm_objects.specs.Changes.{change_service, on_service, with_tables}
use Rattle.swarm_objects.specs.Kinds.{bit}
use Rattle.swarm_objects.specs.Loops.Update.{after_finish, after_start, change_run, finish_run, finished_status, in_status, is_to_start, new_run, paused, paused_status, start_run, start_status, with_run}
use Rattle.swarm_objects.specs.Rows.{Has, has_row, is_some_and, on_row, row_at, service_id}
use Rattle.swarm_objects.specs.Services.Runs.{has_open_run, is_of_version, is_open, is_under_way}
use Rattle.swarm_objects.specs.Services.Words.{is_job}
use Rattle.swarm_objects.specs.Tasks.Places.{has_dirty_place}
use Rattle.swarm_objects.specs.World.{Tables, World}
use Rattle.swarm_objects.specs.declared.duties.Duty.TheVariants as duty
use Rattle.swarm_objects.specs.declared.services.RunStatus.TheVariants as status
use Rattle.swarm_objects.specs.declared.services.RunStatus.{RunStatus}
use Rattle.swarm_objects.specs.declared.services.Service.{Service}
use Rattle.swarm_objects.specs.declared.services.UpdateRun.{UpdateRun}

-- the service of a duty
pub record Found (t : Tables) (id : ℕ) (Fact : Service → Type 0) (use_service : Service → Tables) : Type 0 where
  pub row : Service
  pub there : Has t.services row
  pub id_is : row.id ≡ id
  pub fact : Fact row
  pub is : on_service t id use_service ≡ use_service row

pub found : (t : Tables) (id : ℕ) (Fact : Service → Type 0) (use_service : Service → Tables) →
    RisesBetween service_id 1 t.next_id t.services → OfRow t.services service_id id Fact →
    Found t id Fact use_service
found t id Fact use_service rises of = go (row_at service_id id t.services) refl
  where
    go : (o : Option Service) → row_at service_id id t.services ≡ o → Found t id Fact use_service
    go None e =
        absurd (let yes = has_row-Has service_id t.services of.row id of.there of.id_is in
        let no : has_row service_id id t.services ≡ false = ap is_some e in
        let wrong : false ≡ true = sym no ∙ yes in cc)
    go (Some v) e =
        let at = Has-from_row_at service_id id t.services v e in
        record {
          row = v;
          there = at.0;
          id_is = at.1;
          fact = of-any service_id t.next_id id t.services Fact rises of v at.0 at.1;
          is = ap (on_row t use_service) e;
        }

-- no more can come of it, and it has less before it
pub record Settles (m : ℕ) (s v : Service) : Type 0 where
  pub coming : (t : Tables) → coming_of m t v ≤ coming_of m t s
  pub less : service_left v + 1 ≤ service_left s

pub falls-settle : (m : ℕ) (w : World) (s : Service) (f : Service → Service) →
    RisesBetween service_id 1 w.tables.next_id w.tables.services → Has w.tables.services s → Settles m s (f s) →
    measure m (with_tables w (change_service s.id f w.tables)) + 1 ≤ measure m w
falls-settle m w s f rises there settles =
    let t = w.tables in
    let u = change_service s.id f t in
    let of : OfRow t.services service_id s.id (λ v. Settles m v (f v)) =
    record { row = s; there = there; id_is = refl; fact = settles } in
    let each : (v : Service) → Has t.services v → v.id ≡ s.id → Settles m v (f v) =
    λ v h e. of-any service_id t.next_id s.id t.services (λ v. Settles m v (f v)) rises of v h e in
    let services = changed-falls service_id s.id service_left service_left f 1 t.services s there refl
    (λ v h e. (each v h e).less) (λ v h. omega arith) in
    let come : coming m u ≤ coming m t =
    changed-le service_id s.id (coming_of m u) (coming_of m t) f t.services
    (λ v h e. omega (arith, (each v h e).coming u)) (λ v h. omega arith) in
    omega (arith, services, come)

-- A run begins.

pub same-version : (n : ℕ) → (n == n) ≡ true
same-version n = grind (arith, nat_tests)

starts : (m version : ℕ) (t : Tables) (s : Service) → is_job s.spec.mode ≡ false → is_to_start t s ≡ true →
    Settles m s (with_run version (new_run t s (start_status s.rolling_back)) s)
starts m version t s no_job due =
    let run = new_run t s (start_status s.rolling_back) in
    let v = with_run version run s in
    let none : not (is_some_and (is_of_version s) s.run) ≡ true = second_so (has_dirty_place t s) _ due in
    record {
      coming = λ u. omega arith;
      less = omega (
        arith,
        ap (runs_left s) no_job,
        ap (runs_left v) no_job,
        ap bit none,
        ap (λ (b : Bool). bit (not b)) (same-version s.template_version),
        bit-most (has_open_run v),
      );
    }

pub falls-start : (m version : ℕ) (w : World) (id : ℕ) → RisesBetween service_id 1 w.tables.next_id w.tables.services →
    IsDuty w (duty.Start id) → measure m (with_tables w (after_start version w.tables id)) + 1 ≤ measure m w
falls-start m version w id rises of =
    let t = w.tables in
    let r = found t id (λ v. (is_job v.spec.mode ≡ false) × (is_to_start t v ≡ true)) (start_run version t) rises of in
    subst (λ u. measure m (with_tables w u) + 1 ≤ measure m w) (sym r.is)
    (falls-settle m w r.row (with_run version (new_run t r.row (start_status r.row.rolling_back))) rises r.there
    (starts m version t r.row r.fact.0 r.fact.1))

-- A run ends.

ended-run : (s : Service) (run : UpdateRun) (to : UpdateRun → RunStatus) → s.run ≡ Some run →
    is_open (to run) ≡ false →
    is_some_and is_under_way (option_map (λ r. in_status (to r) r) s.run) ≡ false
ended-run s run to at over = ap (λ o. is_some_and is_under_way (option_map (λ r. in_status (to r) r) o)) at ∙ over

ends : (m version : ℕ) (s : Service) (run : UpdateRun) (to : UpdateRun → RunStatus) → is_job s.spec.mode ≡ false →
    s.run ≡ Some run → is_under_way run ≡ true → is_open (to run) ≡ false →
    Settles m s (change_run (λ r. in_status (to r) r) version s)
ends m version s run to no_job at going over =
    let v = change_run (λ r. in_status (to r) r) version s in
    record {
      coming = λ u. omega arith;
      less = omega (
        arith,
        ap (runs_left s) no_job,
        ap (runs_left v) no_job,
        ap bit (ap (is_some_and is_under_way) at ∙ going),
        ap bit (ended-run s run to at over),
        ap (λ o. bit (not (is_some_and (is_of_version s) o))) at,
        ap (λ o. bit (not (is_some_and (is_of_version v) (option_map (λ r. in_status (to r) r) o)))) at,
      );
    }

pub falls-end : (m version : ℕ) (w : World) (s : Service) (run : UpdateRun) (to : UpdateRun → RunStatus) →
    RisesBetween service_id 1 w.tables.next_id w.tables.services → Has w.tables.services s →
    is_job s.spec.mode ≡ false → s.run ≡ Some run → is_under_way run ≡ true → is_open (to run) ≡ false →
    measure m (with_tables w (change_service s.id (change_run (λ r. in_status (to r) r) version) w.tables)) + 1
    ≤ measure m w
falls-end m version w s run to rises there no_job at going over =
    falls-settle m w s (change_run (λ r. in_status (to r) r) version) rises there
    (ends m version s run to no_job at going over)

finished-over : (s : RunStatus) → is_open (finished_status s) ≡ false
finished-over status.Updating = refl
finished-over _ = refl

pub paused-over : (s : RunStatus) → is_open (paused_status s) ≡ false
paused-over status.Updating = refl
paused-over _ = refl

pub falls-finish : (m version : ℕ) (w : World) (id : ℕ) →
    RisesBetween service_id 1 w.tables.next_id w.tables.services → IsDuty w (duty.Finish id) →
    measure m (with_tables w (after_finish version w.tables id)) + 1 ≤ measure m w
falls-finish m version w id rises of =
    let t = w.tables in
    let r = found t id _ (finish_run version t) rises of in
    let run = r.fact.1.0 in
    subst (λ u. measure m (with_tables w u) + 1 ≤ measure m w) (sym r.is)
    (falls-end m version w r.row run (λ q. finished_status q.status) rises r.there r.fact.0 r.fact.1.1 r.fact.1.2
    (finished-over run.status))

-- a run that fails, without going back
pub falls-paused : (m version : ℕ) (w : World) (s : Service) (run : UpdateRun) →
    RisesBetween service_id 1 w.tables.next_id w.tables.services → Has w.tables.services s →
    is_job s.spec.mode ≡ false → s.run ≡ Some run → is_under_way run ≡ true →
    measure m (with_tables w (paused version w.tables s)) + 1 ≤ measure m w
falls-paused m version w s run rises there no_job at going =
    falls-end m version w s run (λ q. paused_status q.status) rises there no_job at going (paused-over run.status)
