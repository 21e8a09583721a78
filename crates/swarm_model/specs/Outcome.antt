-- A reply, and the world after it.
use Rattle.std.specs.Prelude.{◌≡◌, ◌⊎◌, Err, Ok, Result, OnErr}
use Rattle.swarm_objects.specs.declared.replies.Refusal.{Refusal}
use Rattle.swarm_objects.specs.World.{World}
use Rattle.swarm_objects.specs.declared.replies.Refusal.TheVariants.{NoMemory}
use Rattle.swarm_objects.specs.declared.replies.Reply.{Reply}
use Rattle.swarm_objects.specs.declared.replies.Reply.TheVariants.{Refused}

-- a reply, and the world after it
pub record Outcome : Type 0 where
  pub reply : Reply
  pub after : World

-- the answer and the world after it are the expected ones
abbrev pub Gives : Outcome → Reply → World → Type 0
Gives expected reply after = (reply ≡ expected.reply) × (after ≡ expected.after)

-- they are the expected ones, or memory was wanting and nothing changed
abbrev pub Meets : Outcome → World → Reply → World → Type 0
Meets expected before reply after = Gives expected reply after ⊎ ((reply ≡ Refused NoMemory) × (after ≡ before))

-- an operation was done and gave this, or it was refused, as is expected; or memory was wanting
abbrev pub Reaches : {X : Type 0} → Result (World × X) Refusal → Result X Refusal → World → Type 0
Reaches expected (Ok x) after = expected ≡ Ok (after, x)
Reaches expected (Err refusal) after = (refusal ≡ NoMemory) ⊎ (expected ≡ Err refusal)

-- and a refusal changes nothing
abbrev pub Applies : {X : Type 0} → Result (World × X) Refusal → World → Result X Refusal → World → Type 0
Applies expected before result after = Reaches expected result after × OnErr result (after ≡ before)

-- a reply and the world after it, or the refusal
abbrev pub Answered : Type 0
Answered = Result (Reply × World) Refusal

-- a call was answered so; or it was refused so, or memory was wanting, and then nothing changed
abbrev pub Answers : Answered → World → Result Reply Refusal → World → Type 0
Answers expected before (Ok reply) after = expected ≡ Ok (reply, after)
Answers expected before (Err refusal) after = ((refusal ≡ NoMemory) ⊎ (expected ≡ Err refusal)) × (after ≡ before)

-- the expected one, or memory was wanting
abbrev pub Gets : {X : Type 0} → Result X Refusal → Result X Refusal → Type 0
Gets expected (Ok x) = expected ≡ Ok x
Gets expected (Err r) = (r ≡ NoMemory) ⊎ (expected ≡ Err r)
