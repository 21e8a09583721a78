-- A service's template, and the one of its run, are of entries that were made, the run's of none later.
use Rattle.std.proofs.Common.{Bool, None, Option, Some, ap, arith, cond, false, sym, true, ℕ, ◌+◌, ◌∙◌, ◌≡◌, ◌≤◌}
use Rattle.swarm_settle.proofs.Shapes.{DutyStep, OpStep, Respecifies, RunStep, begins, closes, comes, creates, drops, ends, goes, goes_back, leaves, raises, removes, renews, respecifies, runs, shuts, starts_first, stays, still, stops_first, swaps}
use Rattle.swarm_model.proofs.Laws.Timely.{each-changed, each-pushed}
use Rattle.swarm_objects.proofs.RowLemmas.{Has-filter_cases}
use Rattle.swarm_objects.specs.Rows.{Has, service_id}
use Rattle.swarm_objects.specs.Same.{same_template}
use Rattle.swarm_objects.specs.World.{Tables}
use Rattle.swarm_objects.specs.declared.services.Service.{Service}
use Rattle.swarm_objects.specs.declared.services.ServiceSpec.{ServiceSpec}
use Rattle.swarm_objects.specs.declared.services.UpdateRun.{UpdateRun}
use Rattle.swarm_objects.specs.declared.tasks.Closed.{Closed}

-- low is the number of entries that are made; high is that, or the number of the one that is being made
pub record IsVersioned (low high : ℕ) (s : Service) : Type 0 where
  pub template : s.template_version ≤ high
  pub run : (r : UpdateRun) → s.run ≡ Some r → (r.version ≤ s.template_version) × (r.version ≤ low)

abbrev pub Versions : ℕ → ℕ → Tables → Type 0
Versions low high t = (s : Service) → Has t.services s → IsVersioned low high s

pub later-versions : (low high low_too high_too : ℕ) (t : Tables) → low ≤ low_too → high ≤ high_too →
    Versions low high t → Versions low_too high_too t
later-versions low high low_too high_too t up more is s h =
    let old = is s h in
    record {
      template = omega (arith, old.template, more);
      run = λ r e. let both = old.run r e in (both.0, omega (arith, both.1, up));
    }

same-run : (x y : UpdateRun) (o : Option UpdateRun) → o ≡ Some x → o ≡ Some y → x.version ≡ y.version
same-run x y o e f =
    let is : Some x ≡ Some y = sym e ∙ f in let same : x ≡ y = cc in ap (λ (r : UpdateRun). r.version) same

run-step : (n : ℕ) (t : Tables) (s v : Service) → RunStep (n + 1) t s v → IsVersioned n n s →
    IsVersioned (n + 1) (n + 1) v
run-step n t s v (begins run but at version way) is = record {
  template = omega (arith, is.template, but.template_version);
  run = λ r e.
      let same = same-run r run v.run e at in
      (omega (arith, same, version, but.template_version), omega (arith, same, version, is.template));
}
run-step n t s v (ends old run but at to version none) is = record {
  template = omega (arith, is.template, but.template_version);
  run = λ r e.
      let same = same-run r run v.run e to in
      let before = is.run old at in
      (omega (arith, same, version, before.0, but.template_version), omega (arith, same, version, before.1));
}
run-step n t s v (goes_back spec run id previous spec_is alike iteration template at version way) is = record {
  template = omega (arith, template);
  run = λ r e.
      let same = same-run r run v.run e at in
      (omega (arith, same, version, template), omega (arith, same, version));
}

pub versions-duty : (n : ℕ) (t u : Tables) (set : Option (ℕ × Closed)) → DutyStep (n + 1) t set u → Versions n n t →
    Versions (n + 1) (n + 1) u
versions-duty n t u set (runs s v h job step) is =
    each-changed (IsVersioned (n + 1) (n + 1)) service_id s.id (λ old. v) t.services
    (later-versions n n (n + 1) (n + 1) t (omega arith) (omega arith) is)
    (λ x k e. run-step n t s v step (is s h))
versions-duty n t u set stays is = later-versions n n (n + 1) (n + 1) t (omega arith) (omega arith) is
versions-duty n t u set (raises x h w) is = later-versions n n (n + 1) (n + 1) t (omega arith) (omega arith) is
versions-duty n t u set (goes x h none) is = later-versions n n (n + 1) (n + 1) t (omega arith) (omega arith) is
versions-duty n t u set (shuts x s r other) is = later-versions n n (n + 1) (n + 1) t (omega arith) (omega arith) is
versions-duty n t u set (renews x y s r none new) is =
    later-versions n n (n + 1) (n + 1) t (omega arith) (omega arith) is
versions-duty n t u set (closes x y s cause r none newest) is =
    later-versions n n (n + 1) (n + 1) t (omega arith) (omega arith) is
versions-duty n t u set (swaps s run k r) is = later-versions n n (n + 1) (n + 1) t (omega arith) (omega arith) is
versions-duty n t u set (removes s k h) is = later-versions n n (n + 1) (n + 1) t (omega arith) (omega arith) is
versions-duty n t u set (creates s k y h unheld room new) is =
    later-versions n n (n + 1) (n + 1) t (omega arith) (omega arith) is
versions-duty n t u set (drops x h dead old) is = later-versions n n (n + 1) (n + 1) t (omega arith) (omega arith) is
versions-duty n t u set (stops_first s run k y r new) is =
    later-versions n n (n + 1) (n + 1) t (omega arith) (omega arith) is
versions-duty n t u set (starts_first s run k y r new) is =
    later-versions n n (n + 1) (n + 1) t (omega arith) (omega arith) is

op-step : (n : ℕ) (s v : Service) (spec : ServiceSpec) → Respecifies (n + 1) spec s v → IsVersioned n (n + 1) s →
    IsVersioned n (n + 1) v
op-step n s v spec r is = go (same_template spec.template s.spec.template) r.template_version
  where
    go : (b : Bool) → v.template_version ≡ cond b s.template_version (n + 1) → IsVersioned n (n + 1) v
    go true e = record {
      template = omega (arith, e, is.template);
      run = λ q at. let old = is.run q (sym r.run ∙ at) in (omega (arith, e, old.0), old.1);
    }
    go false e = record {
      template = omega (arith, e);
      run = λ q at. let old = is.run q (sym r.run ∙ at) in (omega (arith, e, old.1), old.1);
    }

pub versions-op : (n : ℕ) (t u : Tables) → OpStep (n + 1) t u → Versions n (n + 1) t → Versions n (n + 1) u
versions-op n t u still is = is
versions-op n t u (respecifies s v spec h r) is =
    each-changed (IsVersioned n (n + 1)) service_id s.id (λ old. v) t.services is
    (λ x k e. op-step n s v spec r (is s h))
versions-op n t u (comes s none run at) is =
    each-pushed (IsVersioned n (n + 1)) t.services s is
    (record {
      template = omega (arith, at);
      run = λ r e. let wrong : None ≡ Some r = sym run ∙ e in absurd cc;
    })
versions-op n t u (leaves id) is = λ s h. is s (Has-filter_cases _ t.services s h).0
