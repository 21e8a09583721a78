-- A task with a cause has an entry that set it.
use Rattle.std.proofs.Common.{Bool, List, None, Option, Some, ap, arith, sym, ℕ, ◌∙◌, ◌≡◌}
use Rattle.std.proofs.lemmas.Bool.Decides.{nat_tests}
use Rattle.std.specs.Prelude.{map, ◌==◌}
use Rattle.swarm_settle.proofs.PlaceLists.{each-touched, each-touched-by, touch}
use Rattle.swarm_settle.proofs.Shapes.{Closings, Comes, DutyStep, IsLater, OpStep, closes, comes, creates, drops, goes, leaves, raises, removes, renews, respecifies, runs, shuts, starts_first, stays, still, stops_first, swaps}
use Rattle.swarm_settle.proofs.Wholes.{number-is}
use Rattle.swarm_model.proofs.Laws.Timely.{each-pushed}
use Rattle.swarm_objects.proofs.RowLemmas.{Has-filter_cases}
use Rattle.swarm_objects.proofs.Tests.{never-both}
use Rattle.swarm_objects.specs.Changes.{wanted}
use Rattle.swarm_objects.specs.Loops.Restart.{closed_by, raised, shut}
use Rattle.swarm_objects.specs.Rows.{Has, task_id}
use Rattle.swarm_objects.specs.World.{Tables}
use Rattle.swarm_objects.specs.declared.services.Service.{Service}
use Rattle.swarm_objects.specs.declared.tasks.Closed.{Closed}
use Rattle.swarm_objects.specs.declared.tasks.Desired.TheVariants as desired
use Rattle.swarm_objects.specs.declared.tasks.Place.{Place}
use Rattle.swarm_objects.specs.declared.tasks.Task.{Task}

abbrev pub IsRecorded : Closings → Task → Type 0
IsRecorded c x =
    (cause : Closed) → x.closed ≡ Some cause → (n : ℕ) × (c x.id ≡ Some (record { entry = n; cause = cause }))

abbrev pub HasClosings : Closings → Tables → Type 0
HasClosings c t = (x : Task) → Has t.tasks x → IsRecorded c x

-- what the causes are read from may be another function that gives the same
pub closings-read : (c d : Closings) (t : Tables) → ((id : ℕ) → d id ≡ c id) → HasClosings c t → HasClosings d t
closings-read c d t same is x h cause e = let old = is x h cause e in (old.0, same x.id ∙ old.1)

read-in : (c d : Closings) (xs : List Task) → ((id : ℕ) → d id ≡ c id) → ((x : Task) → Has xs x → IsRecorded c x) →
    (x : Task) → Has xs x → IsRecorded d x
read-in c d xs same is x h cause e = let old = is x h cause e in (old.0, same x.id ∙ old.1)

unclosed : (c : Closings) (t : Tables) (s : Service) (p : Place) (y : Task) → Comes t s p y → IsRecorded c y
unclosed c t s p y new cause e = let wrong : None ≡ Some cause = sym new.closed ∙ e in absurd cc

touched : (c : Closings) (t : Tables) (test : Task → Bool) (f : Task → Task) →
    ((x : Task) → IsRecorded c x → IsRecorded c (f x)) → HasClosings c t → (y : Task) →
    Has (map (touch test f) t.tasks) y → IsRecorded c y
touched c t test f keeps is = each-touched (IsRecorded c) test f t.tasks is (λ x h e. keeps x (is x h))

closed-now : (e : ℕ) (c d : Closings) (y : Task) (cause : Closed) (xs : List Task) →
    IsLater e (Some (y.id, cause)) c d → ((x : Task) → Has xs x → IsRecorded c x) → (z : Task) →
    Has (map (touch (λ x. task_id x == y.id) (closed_by 0 cause)) xs) z → IsRecorded d z
closed-now e c d y cause xs later is =
    each-touched-by (IsRecorded d) (λ x. task_id x == y.id) (closed_by 0 cause) xs
    (λ x h other why is_so.
    let old = is x h why is_so in
    (old.0, later.1 x.id (λ same. never-both (task_id x == y.id) other (grind (arith, nat_tests, same))) ∙ old.1))
    (λ x h same why is_so.
    let cause_is : cause ≡ why = cc in (
      e,
      ap (λ (k : ℕ). d k) (number-is x.id y.id same) ∙ later.0
          ∙ ap (λ (k : Closed). Some (record { entry = e; cause = k })) cause_is,
    ))

pub closings-duty : (e : ℕ) (c d : Closings) (t u : Tables) (set : Option (ℕ × Closed)) → DutyStep e t set u →
    IsLater e set c d → HasClosings c t → HasClosings d u
closings-duty e c d t u set stays later is = closings-read c d t later is
closings-duty e c d t u set (raises x h w) later is =
    read-in c d _ later (touched c t _ (raised 0) (λ x k. k) is)
closings-duty e c d t u set (goes x h none) later is =
    read-in c d _ later (touched c t _ (wanted 0 desired.Remove) (λ x k. k) is)
closings-duty e c d t u set (shuts x s r other) later is =
    read-in c d _ later (touched c t _ (wanted 0 desired.Shutdown) (λ x k. k) is)
closings-duty e c d t u set (renews x y s r none new) later is =
    read-in c d _ later
    (each-pushed (IsRecorded c) _ y (touched c t _ (wanted 0 desired.Shutdown) (λ x k. k) is)
    (unclosed c t s x.place y new))
closings-duty e c d t u set (closes x y s cause r none last) later is =
    closed-now e c d y cause (shut 0 x.id t).tasks later
    (touched c t _ (wanted 0 desired.Shutdown) (λ x k. k) is)
closings-duty e c d t u set (swaps s run k r) later is =
    read-in c d _ later (touched c t _ (wanted 0 desired.Shutdown) (λ x k. k) is)
closings-duty e c d t u set (removes s k h) later is =
    read-in c d _ later (touched c t _ (wanted 0 desired.Remove) (λ x k. k) is)
closings-duty e c d t u set (creates s k y h unheld room new) later is =
    read-in c d _ later (each-pushed (IsRecorded c) t.tasks y is (unclosed c t s _ y new))
closings-duty e c d t u set (drops x h dead old) later is =
    read-in c d _ later (λ y k. is y (Has-filter_cases _ t.tasks y k).0)
closings-duty e c d t u set (stops_first s run k y r new) later is =
    read-in c d _ later
    (each-pushed (IsRecorded c) _ y (touched c t _ (wanted 0 desired.Shutdown) (λ x k. k) is)
    (unclosed c t s _ y new))
closings-duty e c d t u set (starts_first s run k y r new) later is =
    read-in c d _ later (each-pushed (IsRecorded c) t.tasks y is (unclosed c t s _ y new))
closings-duty e c d t u set (runs s v h job step) later is = read-in c d _ later is

pub closings-op : (e : ℕ) (c : Closings) (t u : Tables) → OpStep e t u → HasClosings c t → HasClosings c u
closings-op e c t u still is = is
closings-op e c t u (respecifies s v spec h r) is = is
closings-op e c t u (comes s none run at) is = is
closings-op e c t u (leaves id) is = is
