-- Keys and constraints as they are written: in small letters, and without spaces.
use Rattle.std.specs.Prelude.{List, ℕ, ◌++◌, codes, Bool, true, ◌&&◌}
use Rattle.swarm_objects.specs.declared.templates.Key.{Key}
use Rattle.swarm_objects.specs.declared.templates.Key.TheVariants as key
use Rattle.swarm_objects.specs.declared.templates.Constraint.{Constraint}
use Rattle.swarm_filters.specs.Grammar.{sign_of}
use Rattle.swarm_objects.specs.Names.{is_name, is_value}

abbrev pub key_text : Key → List ℕ
key_text key.NodeId = codes "node.id"
key_text key.Hostname = codes "node.hostname"
key_text key.Role = codes "node.role"
key_text key.Os = codes "node.platform.os"
key_text key.Arch = codes "node.platform.arch"
key_text (key.Label name) = codes "node.labels." ++ name
key_text (key.Engine name) = codes "engine.labels." ++ name

abbrev pub constraint_text : Constraint → List ℕ
constraint_text c = key_text c.key ++ (sign_of c.equal ++ c.value)

-- a label's name is one, so that what is written is read as this key
abbrev pub key_has_text : Key → Bool
key_has_text (key.Label name) = is_name name
key_has_text (key.Engine name) = is_name name
key_has_text _ = true

abbrev pub constraint_has_text : Constraint → Bool
constraint_has_text c = key_has_text c.key && is_value c.value
