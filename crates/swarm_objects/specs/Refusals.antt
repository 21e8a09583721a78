-- Tests that may refuse; each is none, or the refusal.
use Rattle.std.specs.Prelude.{List, None, Option, Some, [], ◌∷◌, Err, Ok, Result, Bool, false, true}
use Rattle.swarm_objects.specs.declared.replies.Refusal.{Refusal}
use Rattle.swarm_objects.specs.declared.replies.Refusal.TheVariants as refusal

-- the first of these that is one
abbrev pub first_refusal : List (Option Refusal) → Option Refusal
first_refusal [] = None
first_refusal (None ∷ rest) = first_refusal rest
first_refusal (Some r ∷ rest) = Some r

-- the outcome, where nothing refuses it
abbrev pub unless : {X : Type 0} → Option Refusal → X → Result X Refusal
unless None done = Ok done
unless (Some r) done = Err r

abbrev pub refuse : Bool → Refusal → Option Refusal
refuse true r = Some r
refuse false r = None
