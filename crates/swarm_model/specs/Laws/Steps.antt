-- What a law says of each step or of each world of a history.
use Rattle.std.specs.Prelude.{List, [], ⊤, ◌∷◌}
use Rattle.swarm_model.specs.History.{step_world}
use Rattle.swarm_objects.specs.World.{World}
use Rattle.swarm_objects.specs.declared.calls.Entry.{Entry}
use Rattle.swarm_objects.specs.declared.calls.What.{What}

-- The laws.

-- each step of the entries is so
abbrev pub EachStep : (World → What → World → Type 0) → World → List Entry → Type 0
EachStep S w [] = ⊤
EachStep S w (e ∷ es) = S w e.what (step_world w e) × EachStep S (step_world w e) es

-- each world from this one on is so
abbrev pub EachWorld : (World → Type 0) → World → List Entry → Type 0
EachWorld P w [] = P w
EachWorld P w (e ∷ es) = P w × EachWorld P (step_world w e) es
