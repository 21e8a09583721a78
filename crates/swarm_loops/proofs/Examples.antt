-- Shares in full.
use Rattle.std.proofs.Common.{◌≡◌, [], ◌∷◌, refl}
use Rattle.swarm_model.specs.Script.{share}
use Rattle.swarm_objects.specs.declared.loops.Role.TheVariants as role

of_two : share 1 2 ≡ role.Dispatcher ∷ role.Restart ∷ role.Replicated ∷ role.Job ∷ role.Scheduler ∷ role.Agents ∷ []
of_two = refl

of_twelve : share 12 12 ≡ role.Dispatcher ∷ []
of_twelve = refl
