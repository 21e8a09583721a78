-- What the answer of parsing says of a text.
use Rattle.std.specs.Prelude.{◌≡◌, ℕ, List, Option, Some, None, Result, Ok, Err}
use Rattle.swarm_objects.specs.declared.templates.Constraint.{Constraint}
use Rattle.swarm_filters.specs.Grammar.{IsFault}
use Rattle.swarm_filters.specs.declared.constraint.ParseFault.{ParseFault}
use Rattle.swarm_filters.specs.declared.constraint.ParseFault.TheVariants.{BadConstraint, NoMemory}

-- the text is no constraint from this place on; or memory was wanting
abbrev pub IsParseFault : List ℕ → ParseFault → Type 0
IsParseFault text (BadConstraint place) = IsFault text place
IsParseFault text NoMemory = Unit {0}

-- the constraint that is meant, or none where none is; or memory was wanting
abbrev pub IsAnswer : Option Constraint → Result Constraint ParseFault → Type 0
IsAnswer meant (Ok c) = meant ≡ Some c
IsAnswer meant (Err (BadConstraint place)) = meant ≡ None
IsAnswer meant (Err NoMemory) = Unit {0}
