-- Which nodes a constraint admits.
use Rattle.std.specs.Prelude.{ℕ, List, [], ◌∷◌, if◌then◌else◌, decimal, Bool}
use Rattle.std.specs.Str.{bytes_eq, str_eq_ignore_ascii_case}
use Rattle.swarm_objects.specs.Same.{same_bool}
use Rattle.swarm_objects.specs.Values.Texts.{role_text}
use Rattle.swarm_objects.specs.declared.nodes.Node.{Node}
use Rattle.swarm_objects.specs.declared.templates.Constraint.{Constraint}
use Rattle.swarm_objects.specs.declared.templates.Key.{Key}
use Rattle.swarm_objects.specs.declared.templates.Key.TheVariants as key

-- the value of the first label with this key; a missing one is empty
abbrev pub label_value : List (List ℕ × List ℕ) → List ℕ → List ℕ
label_value [] name = []
label_value (label ∷ labels) name = if bytes_eq label.0 name then label.1 else label_value labels name

-- the text that a node has for a key
abbrev pub key_value : Node → Key → List ℕ
key_value n key.NodeId = decimal n.id
key_value n key.Hostname = n.name
key_value n key.Role = role_text n.role
key_value n key.Os = n.os
key_value n key.Arch = n.arch
key_value n (key.Label name) = label_value n.labels name
key_value n (key.Engine name) = label_value n.engine name

-- the node has this text for the key, in letters of either case
abbrev pub has_value : Node → Key → List ℕ → Bool
has_value n k value = str_eq_ignore_ascii_case (key_value n k) value

-- the node meets the constraint
abbrev pub meets : Constraint → Node → Bool
meets c n = same_bool (has_value n c.key c.value) c.equal
