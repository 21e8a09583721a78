-- All duties before each entry: every node.
use Rattle.std.specs.Prelude.{List, [], refl, take, ◌∷◌, ◌≡◌}
use Rattle.swarm_model.proofs.Examples.Along.{duties_along}
use Rattle.swarm_model.proofs.Examples.Journals.EveryNode as every_node
use Rattle.swarm_objects.specs.World.{empty_world}
use Rattle.swarm_objects.specs.declared.duties.Duty.{Duty}
use Rattle.swarm_objects.specs.declared.duties.Duty.TheVariants as duty

abbrev due : List (List Duty)
due =
    []
    ∷ (duty.Register 1 ∷ [])
    ∷ (duty.Register 1 ∷ duty.Register 2 ∷ [])
    ∷ (duty.Pull 1 ∷ duty.Register 2 ∷ [])
    ∷ (duty.Apply 1 ∷ duty.Register 2 ∷ [])
    ∷ (duty.Register 2 ∷ [])
    ∷ (duty.Pull 2 ∷ [])
    ∷ (duty.Apply 2 ∷ [])
    ∷ []
    ∷ []
    ∷ (duty.GlobalCreate 5 1 ∷ [])
    ∷ (duty.Address 6 ∷ [])
    ∷ (duty.Place 6 1 ∷ [])
    ∷ (duty.Pull 1 ∷ [])
    ∷ (duty.Apply 1 ∷ [])
    ∷ (duty.Exec 1 6 ∷ duty.Report 1 6 ∷ [])
    ∷ (duty.Report 1 6 ∷ [])
    ∷ []
    ∷ (duty.Exec 1 6 ∷ [])
    ∷ (duty.Exec 1 6 ∷ duty.Report 1 6 ∷ [])
    ∷ (duty.Report 1 6 ∷ [])
    ∷ []
    ∷ (duty.Exec 1 6 ∷ [])
    ∷ (duty.Report 1 6 ∷ [])
    ∷ []
    ∷ []
    ∷ []
    ∷ (duty.GlobalCreate 5 2 ∷ [])
    ∷ (duty.Address 7 ∷ [])
    ∷ (duty.Place 7 2 ∷ [])
    ∷ (duty.Pull 2 ∷ [])
    ∷ (duty.Apply 2 ∷ [])
    ∷ (duty.Exec 2 7 ∷ duty.Report 2 7 ∷ [])
    ∷ (duty.Report 2 7 ∷ [])
    ∷ []
    ∷ (duty.Exec 2 7 ∷ [])
    ∷ (duty.Exec 2 7 ∷ duty.Report 2 7 ∷ [])
    ∷ (duty.Report 2 7 ∷ [])
    ∷ []
    ∷ (duty.Exec 2 7 ∷ [])
    ∷ (duty.Report 2 7 ∷ [])
    ∷ []
    ∷ []
    ∷ []
    ∷ []

all_are_due : duties_along empty_world (take 44 every_node.history) ≡ due
all_are_due = refl
