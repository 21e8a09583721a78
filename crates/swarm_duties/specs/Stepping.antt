-- One entry of a history, done on the world.
use Rattle.std.specs.Prelude.{◌≡◌, true, false, Result, Ok, Err}
use Rattle.swarm_duties.specs.declared.steps.StepFault.{StepFault}
use Rattle.swarm_duties.specs.declared.steps.StepFault.TheVariants.{Illegal, NoMemory}
use Rattle.swarm_model.specs.History.{may_follow, step}
use Rattle.swarm_model.specs.Outcome.{Gives}
use Rattle.swarm_objects.specs.World.{World}
use Rattle.swarm_objects.specs.declared.calls.What.{What}
use Rattle.swarm_objects.specs.declared.replies.Reply.{Reply}

-- an entry that may follow was done, or memory was wanting for it; or it is one that may not. A fault changes nothing
abbrev pub DoesStep : World → What → Result Reply StepFault → World → Type 0
DoesStep before what (Ok reply) after = (may_follow before what ≡ true) × Gives (step before what) reply after
DoesStep before what (Err Illegal) after = (may_follow before what ≡ false) × (after ≡ before)
DoesStep before what (Err NoMemory) after = (may_follow before what ≡ true) × (after ≡ before)
