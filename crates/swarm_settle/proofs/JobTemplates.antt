-- A job's task of its iteration has its template.
use Rattle.std.proofs.Common.{Bool, List, Option, ap, false, refl, sym, true, ℕ, ◌∙◌, ◌≡◌}
use Rattle.std.specs.Prelude.{map}
use Rattle.swarm_settle.proofs.PlaceLists.{touch, counts-of, each-touched, one-service}
use Rattle.swarm_settle.proofs.ServiceSteps.{respecified-none, respecified-places, run-places}
use Rattle.swarm_settle.proofs.Shapes.{Base, Comes, DutyStep, OpStep, closes, comes, creates, drops, goes, leaves, raises, removes, renews, respecifies, runs, shuts, starts_first, stays, still, stops_first, swaps}
use Rattle.swarm_model.proofs.Laws.Timely.{each-changed, each-pushed}
use Rattle.swarm_objects.proofs.RowLemmas.{Has-filter_cases}
use Rattle.swarm_objects.proofs.Tests.{never-both}
use Rattle.swarm_objects.specs.Changes.{wanted}
use Rattle.swarm_objects.specs.Loops.Restart.{closed_by, raised}
use Rattle.swarm_objects.specs.Rows.{Has, service_id}
use Rattle.swarm_objects.specs.Services.Words.{is_job}
use Rattle.swarm_objects.specs.Tasks.Places.{counts_for}
use Rattle.swarm_objects.specs.World.{Tables}
use Rattle.swarm_objects.specs.declared.services.Service.{Service}
use Rattle.swarm_objects.specs.declared.tasks.Closed.{Closed}
use Rattle.swarm_objects.specs.declared.tasks.Desired.TheVariants as desired
use Rattle.swarm_objects.specs.declared.tasks.Place.{Place}
use Rattle.swarm_objects.specs.declared.tasks.Task.{Task}

abbrev pub HasTemplate : List Service → Task → Type 0
HasTemplate services x =
    (s : Service) → Has services s → is_job s.spec.mode ≡ true → counts_for s x ≡ true → x.template ≡ s.spec.template

abbrev pub JobTemplates : Tables → Type 0
JobTemplates t = (x : Task) → Has t.tasks x → HasTemplate t.services x

new-template : (t : Tables) (s : Service) (p : Place) (y : Task) → Base t → Has t.services s → Comes t s p y →
    HasTemplate t.services y
new-template t s p y base h new v k job counts =
    let same = one-service t base s v h k (sym new.service ∙ counts-of v y counts) in
    new.template ∙ ap (λ (z : Service). z.spec.template) same

abbrev Touches : Tables → (Task → Task) → Type 0
Touches t f = (test : Task → Bool) (y : Task) → Has (map (touch test f) t.tasks) y → HasTemplate t.services y

touched : (t : Tables) (f : Task → Task) → ((x : Task) → HasTemplate t.services x → HasTemplate t.services (f x)) →
    JobTemplates t → Touches t f
touched t f keeps is test = each-touched (HasTemplate t.services) test f t.tasks is (λ x h e. keeps x (is x h))

pub templates-duty : (e : ℕ) (t u : Tables) (set : Option (ℕ × Closed)) → Base t → DutyStep e t set u →
    JobTemplates t → JobTemplates u
templates-duty e t u set base stays is = is
templates-duty e t u set base (raises x h w) is = touched t (raised 0) (λ x k. k) is _
templates-duty e t u set base (goes x h none) is = touched t (wanted 0 desired.Remove) (λ x k. k) is _
templates-duty e t u set base (shuts x s r other) is = touched t (wanted 0 desired.Shutdown) (λ x k. k) is _
templates-duty e t u set base (renews x y s r none new) is =
    each-pushed (HasTemplate t.services) _ y (touched t (wanted 0 desired.Shutdown) (λ x k. k) is _)
    (new-template t s x.place y base r.of new)
templates-duty e t u set base (closes x y s cause r none newest) is =
    each-touched (HasTemplate t.services) _ (closed_by 0 cause) _
    (touched t (wanted 0 desired.Shutdown) (λ x k. k) is _)
    (λ z h c. touched t (wanted 0 desired.Shutdown) (λ x k. k) is _ z h)
templates-duty e t u set base (swaps s run k r) is = touched t (wanted 0 desired.Shutdown) (λ x k. k) is _
templates-duty e t u set base (removes s k h) is = touched t (wanted 0 desired.Remove) (λ x k. k) is _
templates-duty e t u set base (creates s k y h unheld room new) is =
    each-pushed (HasTemplate t.services) t.tasks y is (new-template t s _ y base h new)
templates-duty e t u set base (drops x h dead old) is = λ y k. is y (Has-filter_cases _ t.tasks y k).0
templates-duty e t u set base (stops_first s run k y r new) is =
    each-pushed (HasTemplate t.services) _ y (touched t (wanted 0 desired.Shutdown) (λ x k. k) is _)
    (new-template t s _ y base r.of new)
templates-duty e t u set base (starts_first s run k y r new) is =
    each-pushed (HasTemplate t.services) t.tasks y is (new-template t s _ y base r.of new)
templates-duty e t u set base (runs s v h no_job step) is = λ x k.
    each-changed (λ (z : Service). is_job z.spec.mode ≡ true → counts_for z x ≡ true → x.template ≡ z.spec.template)
    service_id s.id (λ old. v) t.services (is x k)
    (λ z there same job counts. never-both (is_job v.spec.mode) ((run-places e t s v step).job ∙ no_job) job)

pub templates-op : (e : ℕ) (t u : Tables) → Base t → OpStep e t u → JobTemplates t → JobTemplates u
templates-op e t u base still is = is
templates-op e t u base (respecifies s v spec h r) is = λ x k.
    each-changed (λ (z : Service). is_job z.spec.mode ≡ true → counts_for z x ≡ true → x.template ≡ z.spec.template)
    service_id s.id (λ old. v) t.services (is x k)
    (λ z there same job counts. go x k job counts (is_job s.spec.mode) refl)
  where
    go : (x : Task) → Has t.tasks x → is_job v.spec.mode ≡ true → counts_for v x ≡ true → (b : Bool) →
        is_job s.spec.mode ≡ b → x.template ≡ v.spec.template
    go x k job counts true old =
        never-both (counts_for v x) (respecified-none e t spec s v base h r old x k) counts
    go x k job counts false old =
        never-both (is_job v.spec.mode) ((respecified-places e spec s v r old).job ∙ old) job
templates-op e t u base (comes s none run at) is = λ x k.
    each-pushed (λ (z : Service). is_job z.spec.mode ≡ true → counts_for z x ≡ true → x.template ≡ z.spec.template)
    t.services s (is x k) (λ job counts. absurd (none x k (counts-of s x counts)))
templates-op e t u base (leaves id) is = λ x k s h. is x k s (Has-filter_cases _ t.services s h).0
