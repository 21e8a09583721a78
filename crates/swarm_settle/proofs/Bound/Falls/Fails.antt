-- A run that fails makes the measure smaller, where it pauses and where the service goes back.
use Rattle.std.proofs.Common.{Bool, None, Option, Some, ap, arith, false, refl, subst, sym, true, ℕ, ◌+◌, ◌∙◌, ◌≡◌, ◌≤◌}
use Rattle.std.specs.Prelude.{filter, is_some, length, not}
use Rattle.swarm_settle.proofs.Bound.Backs.{coming-back, ports-back}
use Rattle.swarm_settle.proofs.Bound.Falls.Services.{Settles, falls-paused, falls-settle, found, same-version}
use Rattle.swarm_settle.proofs.Bound.Positions.{bit-most}
use Rattle.swarm_settle.specs.Bound.Left.{runs_left, unnumbered_before}
use Rattle.swarm_settle.specs.Bound.Measure.{measure}
use Rattle.swarm_model.proofs.Base.IsDuty.{IsDuty}
use Rattle.swarm_model.proofs.Laws.OneEach.{IsAlike, IsOfKind, job-alike, previous-kind}
use Rattle.swarm_model.proofs.Moves.Rows.{RisesBetween}
use Rattle.swarm_objects.specs.Changes.{with_tables}
use Rattle.swarm_objects.specs.Kinds.{bit}
use Rattle.swarm_objects.specs.Loops.Update.{after_fail, back_at, fail_run, may_roll_back, new_run, with_run}
use Rattle.swarm_objects.specs.Rows.{Has, is_some_and, service_id}
use Rattle.swarm_objects.specs.Services.Ports.{is_unnumbered, ports_of}
use Rattle.swarm_objects.specs.Services.Runs.{has_open_run, is_under_way}
use Rattle.swarm_objects.specs.Services.Words.{is_job}
use Rattle.swarm_objects.specs.World.{Tables, World}
use Rattle.swarm_objects.specs.declared.duties.Duty.TheVariants as duty
use Rattle.swarm_objects.specs.declared.services.RunStatus.TheVariants as status
use Rattle.swarm_objects.specs.declared.services.Service.{Service}
use Rattle.swarm_objects.specs.declared.services.ServiceSpec.{ServiceSpec}
use Rattle.swarm_objects.specs.declared.services.UpdateRun.{UpdateRun}

goes-back : (m version : ℕ) (t : Tables) (s : Service) (spec : ServiceSpec) (run : UpdateRun) →
    s.previous ≡ Some spec → is_job s.spec.mode ≡ false → IsAlike spec.mode s.spec.mode → s.run ≡ Some run →
    is_under_way run ≡ true →
    Settles m s (with_run version (new_run t (back_at version spec s) status.RollbackStarted) (back_at version spec s))
goes-back m version t s spec run previous no_job alike at going =
    let next = new_run t (back_at version spec s) status.RollbackStarted in
    let v = with_run version next (back_at version spec s) in
    record {
      coming = λ u. coming-back m version next u s spec previous no_job alike;
      less = omega (
        arith,
        ap (runs_left s) no_job,
        ap (runs_left v) (job-alike spec.mode s.spec.mode alike ∙ no_job),
        ap bit (ap (is_some_and is_under_way) at ∙ going),
        ap (λ (o : Option ServiceSpec). bit (is_some o)) previous,
        ap (λ (b : Bool). bit (not b)) (same-version version),
        bit-most (has_open_run v),
        ports-back version next s spec,
        unnumbered-was,
      );
    }
  where
    unnumbered-was : unnumbered_before s ≡ length (filter (is_unnumbered s) spec.ports)
    unnumbered-was = ap (λ (o : Option ServiceSpec). length (filter (is_unnumbered s) (ports_of o))) previous

pub falls-fail : (m version : ℕ) (w : World) (id : ℕ) → RisesBetween service_id 1 w.tables.next_id w.tables.services →
    ((s : Service) → Has w.tables.services s → IsOfKind s) → IsDuty w (duty.Fail id) →
    measure m (with_tables w (after_fail version w.tables id)) + 1 ≤ measure m w
falls-fail m version w id rises kinds of =
    let t = w.tables in
    let r = found t id _ (λ v. fail_run version t v (may_roll_back v) v.previous) rises of in
    subst (λ u. measure m (with_tables w u) + 1 ≤ measure m w) (sym r.is)
    (go r.row (may_roll_back r.row) r.row.previous refl r.there r.fact.0 r.fact.1.0 r.fact.1.1 r.fact.1.2)
  where
    go : (s : Service) (b : Bool) (o : Option ServiceSpec) → s.previous ≡ o → Has w.tables.services s →
        is_job s.spec.mode ≡ false → (run : UpdateRun) → s.run ≡ Some run → is_under_way run ≡ true →
        measure m (with_tables w (fail_run version w.tables s b o)) + 1 ≤ measure m w
    go s true (Some spec) previous there no_job run at going =
        falls-settle m w s
        (λ old. with_run version (new_run w.tables (back_at version spec s) status.RollbackStarted) (back_at version spec s))
        rises there
        (goes-back m version w.tables s spec run previous no_job (previous-kind s spec (kinds s there) previous) at going)
    go s true None previous there no_job run at going = falls-paused m version w s run rises there no_job at going
    go s false o previous there no_job run at going = falls-paused m version w s run rises there no_job at going
