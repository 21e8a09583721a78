-- A task's goal is RUNNING or COMPLETE; what is wanted of it is READY, its goal, SHUTDOWN or REMOVE.
use Rattle.std.proofs.Common.{Bool, List, Option, inl, inr, refl, ℕ, ◌∙◌, ◌≡◌, ◌⊎◌}
use Rattle.std.specs.Prelude.{map}
use Rattle.swarm_settle.proofs.PlaceLists.{touch, each-touched, goal-kinds}
use Rattle.swarm_settle.proofs.Shapes.{Comes, DutyStep, OpStep, closes, comes, creates, drops, goes, leaves, raises, removes, renews, respecifies, runs, shuts, starts_first, stays, still, stops_first, swaps}
use Rattle.swarm_model.proofs.Laws.Timely.{each-pushed}
use Rattle.swarm_objects.proofs.RowLemmas.{Has-filter_cases}
use Rattle.swarm_objects.specs.Changes.{wanted}
use Rattle.swarm_objects.specs.Loops.Restart.{closed_by, raised}
use Rattle.swarm_objects.specs.Rows.{Has}
use Rattle.swarm_objects.specs.Tasks.New.{goal_of}
use Rattle.swarm_objects.specs.World.{Tables}
use Rattle.swarm_objects.specs.declared.services.Service.{Service}
use Rattle.swarm_objects.specs.declared.tasks.Closed.{Closed}
use Rattle.swarm_objects.specs.declared.tasks.Desired.TheVariants as desired
use Rattle.swarm_objects.specs.declared.tasks.Desired.{Desired}
use Rattle.swarm_objects.specs.declared.tasks.Place.{Place}
use Rattle.swarm_objects.specs.declared.tasks.Task.{Task}

-- what is wanted is one of these four
abbrev pub IsAim : Desired → Desired → Type 0
IsAim d goal = (d ≡ desired.Ready) ⊎ ((d ≡ goal) ⊎ ((d ≡ desired.Shutdown) ⊎ (d ≡ desired.Remove)))

pub record HasGoal (x : Task) : Type 0 where
  pub goal : (x.goal ≡ desired.Running) ⊎ (x.goal ≡ desired.Complete)
  pub aim : IsAim x.desired x.goal

abbrev pub Goals : Tables → Type 0
Goals t = (x : Task) → Has t.tasks x → HasGoal x

to-stop : (x : Task) → HasGoal x → HasGoal (wanted 0 desired.Shutdown x)
to-stop x is = record { goal = is.goal; aim = inr (inr (inl refl)) }

to-go : (x : Task) → HasGoal x → HasGoal (wanted 0 desired.Remove x)
to-go x is = record { goal = is.goal; aim = inr (inr (inr refl)) }

to-rise : (x : Task) → HasGoal x → HasGoal (raised 0 x)
to-rise x is = record { goal = is.goal; aim = inr (inl refl) }

to-close : (cause : Closed) (x : Task) → HasGoal x → HasGoal (closed_by 0 cause x)
to-close cause x is = record { goal = is.goal; aim = is.aim }

new-goal : (t : Tables) (s : Service) (p : Place) (y : Task) → Comes t s p y → HasGoal y
new-goal t s p y new = record { goal = go (goal-kinds s.spec.mode); aim = aim new.wanted }
  where
    go : (goal_of s.spec.mode ≡ desired.Running) ⊎ (goal_of s.spec.mode ≡ desired.Complete) →
        (y.goal ≡ desired.Running) ⊎ (y.goal ≡ desired.Complete)
    go (inl e) = inl (new.goal ∙ e)
    go (inr e) = inr (new.goal ∙ e)

    aim : (y.desired ≡ desired.Ready) ⊎ (y.desired ≡ y.goal) → IsAim y.desired y.goal
    aim (inl e) = inl e
    aim (inr e) = inr (inl e)

touched : (test : Task → Bool) (f : Task → Task) (xs : List Task) → ((x : Task) → HasGoal x → HasGoal (f x)) →
    ((x : Task) → Has xs x → HasGoal x) → (y : Task) → Has (map (touch test f) xs) y → HasGoal y
touched test f xs keeps all = each-touched HasGoal test f xs all (λ x h e. keeps x (all x h))

pub goals-duty : (e : ℕ) (t u : Tables) (set : Option (ℕ × Closed)) → DutyStep e t set u → Goals t → Goals u
goals-duty e t u set stays is = is
goals-duty e t u set (raises x h w) is = touched _ (raised 0) t.tasks to-rise is
goals-duty e t u set (goes x h none) is = touched _ (wanted 0 desired.Remove) t.tasks to-go is
goals-duty e t u set (shuts x s r other) is = touched _ (wanted 0 desired.Shutdown) t.tasks to-stop is
goals-duty e t u set (renews x y s r none new) is =
    each-pushed HasGoal _ y (touched _ (wanted 0 desired.Shutdown) t.tasks to-stop is) (new-goal t s x.place y new)
goals-duty e t u set (closes x y s cause r none newest) is =
    touched _ (closed_by 0 cause) _ (to-close cause) (touched _ (wanted 0 desired.Shutdown) t.tasks to-stop is)
goals-duty e t u set (swaps s run k r) is = touched _ (wanted 0 desired.Shutdown) t.tasks to-stop is
goals-duty e t u set (removes s k h) is = touched _ (wanted 0 desired.Remove) t.tasks to-go is
goals-duty e t u set (creates s k y h unheld room new) is = each-pushed HasGoal t.tasks y is (new-goal t s _ y new)
goals-duty e t u set (drops x h dead old) is = λ y k. is y (Has-filter_cases _ t.tasks y k).0
goals-duty e t u set (stops_first s run k y r new) is =
    each-pushed HasGoal _ y (touched _ (wanted 0 desired.Shutdown) t.tasks to-stop is) (new-goal t s _ y new)
goals-duty e t u set (starts_first s run k y r new) is = each-pushed HasGoal t.tasks y is (new-goal t s _ y new)
goals-duty e t u set (runs s v h job step) is = is

pub goals-op : (e : ℕ) (t u : Tables) → OpStep e t u → Goals t → Goals u
goals-op e t u still is = is
goals-op e t u (respecifies s v spec h r) is = is
goals-op e t u (comes s none run at) is = is
goals-op e t u (leaves id) is = is
