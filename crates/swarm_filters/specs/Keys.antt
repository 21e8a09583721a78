-- The key that a text is.
use Rattle.std.specs.Prelude.{List, ℕ, codes, drop, length, nat_eq, ◌&&◌, if◌then◌else◌, Option, Some, None}
use Rattle.std.specs.List.{starts_with}
use Rattle.std.specs.Option.{option_map, option_or}
use Rattle.std.specs.Str.{bytes_eq, str_to_ascii_lowercase}
use Rattle.swarm_objects.specs.declared.templates.Key.{Key}
use Rattle.swarm_objects.specs.declared.templates.Key.TheVariants as key
use Rattle.swarm_objects.specs.Names.{is_name}

-- the key that a word in small letters is, of those without a name
abbrev pub fixed_key : List ℕ → Option Key
fixed_key low =
    if bytes_eq (codes "node.id") low then Some key.NodeId
    else (if bytes_eq (codes "node.hostname") low then Some key.Hostname
    else (if bytes_eq (codes "node.role") low then Some key.Role
    else (if bytes_eq (codes "node.platform.os") low then Some key.Os
    else (if bytes_eq (codes "node.platform.arch") low then Some key.Arch
    else None))))

-- the name behind the prefix, where the text is that prefix, in letters of either case, and then a name
abbrev pub name_behind : List ℕ → List ℕ → Option (List ℕ)
name_behind prefix text =
    if starts_with nat_eq (str_to_ascii_lowercase text) prefix && is_name (drop (length prefix) text)
    then Some (drop (length prefix) text)
    else None

-- the label that a text is
abbrev pub label_of : List ℕ → Option Key
label_of text =
    option_or
    (option_map key.Label (name_behind (codes "node.labels.") text))
    (option_map key.Engine (name_behind (codes "engine.labels.") text))

-- the key that a text is, where it is one
abbrev pub key_of : List ℕ → Option Key
key_of text = option_or (fixed_key (str_to_ascii_lowercase text)) (label_of text)
