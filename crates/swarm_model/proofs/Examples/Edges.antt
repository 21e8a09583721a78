-- Numbers of scripts and workers.
use Rattle.std.specs.Prelude.{[], refl, ◌∷◌, ◌≡◌}
use Rattle.swarm_model.specs.Script.{full_stretch, share}
use Rattle.swarm_objects.specs.declared.loops.Role.TheVariants as role

-- as many duties as a settle line makes
stretch : full_stretch ≡ 100000
stretch = refl

-- The roles of a worker among so many, in the order in which it takes its turns.

first_of_two : share 1 2
    ≡ role.Dispatcher ∷ role.Restart ∷ role.Replicated ∷ role.Job ∷ role.Scheduler ∷ role.Agents ∷ []
first_of_two = refl

second_of_two : share 2 2 ≡ role.Enforcer ∷ role.Update ∷ role.Global ∷ role.Allocator ∷ role.Reaper ∷ []
second_of_two = refl

-- there are eleven roles, and a twelfth worker shares the first one's
last_of_twelve : share 12 12 ≡ role.Dispatcher ∷ []
last_of_twelve = refl
