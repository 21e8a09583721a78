-- Closed examples of texts that are keys and constraints, and of others.
use Rattle.std.proofs.Common.{◌≡◌, codes, true, false, Some, None, refl}
use Rattle.swarm_objects.specs.declared.templates.Key.TheVariants as key
use Rattle.swarm_filters.specs.Machine.{constraint_of, constraint_with}
use Rattle.swarm_filters.specs.Keys.{key_of}
use Rattle.swarm_filters.specs.Spellings.{constraint_text}

role_of_any_case : constraint_of (codes "Node.Role==Worker") ≡ Some (constraint_with key.Role true (codes "Worker"))
role_of_any_case = refl

spaces_at_the_ends_and_round_the_sign : constraint_of (codes " node.labels.Zone  !=  eu-1 ") ≡ Some (constraint_with (key.Label (codes "Zone")) false (codes "eu-1"))
spaces_at_the_ends_and_round_the_sign = refl

half_of_a_sign : constraint_of (codes "node.role=worker") ≡ None
half_of_a_sign = refl

written_without_spaces : constraint_text (constraint_with (key.Engine (codes "Disk")) false (codes "SSD")) ≡ codes "engine.labels.Disk!=SSD"
written_without_spaces = refl

engine_label : key_of (codes "ENGINE.labels.Disk") ≡ Some (key.Engine (codes "Disk"))
engine_label = refl

space_behind_a_key : key_of (codes "node.role ") ≡ None
space_behind_a_key = refl

nameless_label : key_of (codes "node.labels.") ≡ None
nameless_label = refl
