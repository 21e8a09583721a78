-- All duties before each entry: lost node.
use Rattle.std.specs.Prelude.{List, [], refl, take, ◌∷◌, ◌≡◌}
use Rattle.swarm_model.proofs.Examples.Along.{duties_along}
use Rattle.swarm_model.proofs.Examples.Journals.LostNode as lost_node
use Rattle.swarm_objects.specs.World.{empty_world}
use Rattle.swarm_objects.specs.declared.duties.Duty.{Duty}
use Rattle.swarm_objects.specs.declared.duties.Duty.TheVariants as duty

abbrev due : List (List Duty)
due =
    []
    ∷ (duty.Register 1 ∷ [])
    ∷ (duty.Register 1 ∷ duty.Register 2 ∷ [])
    ∷ (duty.ReplicatedCreate 3 1 ∷ duty.Register 1 ∷ duty.Register 2 ∷ [])
    ∷ (duty.Address 4 ∷ duty.Register 1 ∷ duty.Register 2 ∷ [])
    ∷ (duty.Explain 4 ∷ duty.Register 1 ∷ duty.Register 2 ∷ [])
    ∷ (duty.Register 1 ∷ duty.Register 2 ∷ [])
    ∷ (duty.Place 4 1 ∷ duty.Pull 1 ∷ duty.Register 2 ∷ [])
    ∷ (duty.Pull 1 ∷ duty.Register 2 ∷ [])
    ∷ (duty.Apply 1 ∷ duty.Register 2 ∷ [])
    ∷ (duty.Exec 1 4 ∷ duty.Report 1 4 ∷ duty.Register 2 ∷ [])
    ∷ (duty.Report 1 4 ∷ duty.Register 2 ∷ [])
    ∷ (duty.Register 2 ∷ [])
    ∷ (duty.Pull 2 ∷ [])
    ∷ (duty.Apply 2 ∷ [])
    ∷ []
    ∷ (duty.Exec 1 4 ∷ [])
    ∷ (duty.Exec 1 4 ∷ duty.Report 1 4 ∷ [])
    ∷ (duty.Report 1 4 ∷ [])
    ∷ []
    ∷ (duty.Exec 1 4 ∷ [])
    ∷ (duty.Report 1 4 ∷ [])
    ∷ []
    ∷ []
    ∷ []
    ∷ []
    ∷ []
    ∷ []
    ∷ []
    ∷ []
    ∷ (duty.Beat 2 ∷ [])
    ∷ []
    ∷ []
    ∷ []
    ∷ []
    ∷ []
    ∷ (duty.Beat 2 ∷ [])
    ∷ []
    ∷ []
    ∷ []
    ∷ []
    ∷ []
    ∷ (duty.Expire 1 ∷ [])
    ∷ (duty.Restart 4 ∷ [])
    ∷ (duty.Address 7 ∷ [])
    ∷ (duty.Place 7 2 ∷ [])
    ∷ (duty.Pull 2 ∷ [])
    ∷ (duty.Apply 2 ∷ [])
    ∷ (duty.Exec 2 7 ∷ duty.Report 2 7 ∷ [])
    ∷ (duty.Report 2 7 ∷ [])
    ∷ []
    ∷ (duty.Exec 2 7 ∷ [])
    ∷ (duty.Report 2 7 ∷ [])
    ∷ []
    ∷ (duty.Beat 2 ∷ [])
    ∷ []
    ∷ []
    ∷ []
    ∷ []
    ∷ []

all_are_due : duties_along empty_world (take 59 lost_node.history) ≡ due
all_are_due = refl
