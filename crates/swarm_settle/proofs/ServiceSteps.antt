-- What a step leaves of a service's places: the same ones, or none.
use Rattle.std.proofs.Common.{Bool, ap, arith, false, not, refl, true, ℕ, ◌+◌, ◌∙◌, ◌≡◌}
use Rattle.std.proofs.lemmas.Bool.Decides.{nat_tests}
use Rattle.std.specs.Prelude.{◌&&◌, ◌==◌, ◌||◌}
use Rattle.swarm_settle.proofs.PlaceLists.{SamePlaces, counts-of}
use Rattle.swarm_settle.proofs.Shapes.{Base, Respecifies, RunStep, SameButRun, begins, ends, goes_back}
use Rattle.swarm_model.proofs.Laws.OneEach.{job-alike}
use Rattle.swarm_objects.specs.NewRows.{next_iteration}
use Rattle.swarm_objects.proofs.Tests.{false_from_ne_true, never-both}
use Rattle.swarm_objects.specs.Rows.{Has}
use Rattle.swarm_objects.specs.Services.Words.{is_job}
use Rattle.swarm_objects.specs.Tasks.Places.{counts_for}
use Rattle.swarm_objects.specs.World.{Tables}
use Rattle.swarm_objects.specs.declared.services.Mode.TheVariants as mode
use Rattle.swarm_objects.specs.declared.services.Mode.{Mode}
use Rattle.swarm_objects.specs.declared.services.Service.{Service}
use Rattle.swarm_objects.specs.declared.services.ServiceSpec.{ServiceSpec}
use Rattle.swarm_objects.specs.declared.tasks.Task.{Task}

but-run-places : (s v : Service) → SameButRun s v → SamePlaces s v
but-run-places s v but =
    record { id = but.id; job = ap (λ (q : ServiceSpec). is_job q.mode) but.spec; now = λ j. but.iteration }

-- a step of a run keeps the places
pub run-places : (e : ℕ) (t : Tables) (s v : Service) → RunStep e t s v → SamePlaces s v
run-places e t s v (begins run but at version way) = but-run-places s v but
run-places e t s v (ends old run but at to version none) = but-run-places s v but
run-places e t s v (goes_back spec run id previous is alike iteration template at version way) = record {
  id = id;
  job = ap (λ (q : ServiceSpec). is_job q.mode) is ∙ job-alike spec.mode s.spec.mode alike;
  now = λ j. iteration;
}

next-more : (m : Mode) (k : ℕ) → is_job m ≡ true → next_iteration m k ≡ k + 1
next-more (mode.Replicated n) k e = absurd cc
next-more mode.Global k e = absurd cc
next-more (mode.Job c n) k e = refl

-- a new specification keeps the places of a service that is no job
pub respecified-places : (e : ℕ) (spec : ServiceSpec) (s v : Service) → Respecifies e spec s v →
    is_job s.spec.mode ≡ false → SamePlaces s v
respecified-places e spec s v r no_job = record {
  id = r.id;
  job = ap (λ (q : ServiceSpec). is_job q.mode) r.spec_is ∙ job-alike spec.mode s.spec.mode r.alike;
  now = λ j. never-both (is_job s.spec.mode) no_job j;
}

-- and no task counts for a job with a new one
pub respecified-none : (e : ℕ) (t : Tables) (spec : ServiceSpec) (s v : Service) → Base t → Has t.services s →
    Respecifies e spec s v → is_job s.spec.mode ≡ true → (x : Task) → Has t.tasks x → counts_for v x ≡ false
respecified-none e t spec s v base there r job x h =
    false_from_ne_true (counts_for v x)
    (λ counts.
    let most = base.most x s h there (counts-of v x counts ∙ r.id) in
    let later : v.iteration ≡ s.iteration + 1 = r.iteration ∙ next-more s.spec.mode s.iteration job in
    let job_too : is_job v.spec.mode ≡ true =
    ap (λ (q : ServiceSpec). is_job q.mode) r.spec_is ∙ job-alike spec.mode s.spec.mode r.alike ∙ job in
    let now : x.iteration ≡ v.iteration = iteration-of v x counts job_too in
    omega (arith, most, later, now))
  where
    iteration-of : (u : Service) (y : Task) → counts_for u y ≡ true → is_job u.spec.mode ≡ true →
        y.iteration ≡ u.iteration
    iteration-of u y e j = go (y.service == u.id) (is_job u.spec.mode) (y.iteration == u.iteration) refl e j
      where
        go : (a b c : Bool) → (y.iteration == u.iteration) ≡ c → (a && (not b || c)) ≡ true → b ≡ true →
            y.iteration ≡ u.iteration
        go true true true f k l = grind (arith, nat_tests, f)
        go true true false f k l = absurd cc
        go true false c f k l = absurd cc
        go false b c f k l = absurd cc
