-- What inspections show has no float.
use Rattle.std.proofs.Common.{◌≡◌, ◌||◌, ℕ, List, [], ◌∷◌, Bool, true, false, refl, map, Option, Some, None, nat_cmp, Ordering, Less, Equal, Greater}
use Rattle.std.specs.Cmp.Lexicographic.{slice_cmp}
use Rattle.std.specs.Ordering.{match_ordering}
use Rattle.serde_json.specs.Data.{Data, string, Members, no_members, member, put}
use Rattle.serde_json.specs.View.{items_of}
use Rattle.serde_json.specs.Written.{has_float, items_have_float, members_have_float}
use Rattle.swarm_objects.specs.declared.views.NodeDetail.{NodeDetail}
use Rattle.swarm_objects.specs.declared.views.ServiceDetail.{ServiceDetail}
use Rattle.swarm_objects.specs.declared.views.TaskDetail.{TaskDetail}
use Rattle.swarm_objects.specs.declared.templates.Port.{Port}
use Rattle.swarm_print.specs.Details.{address_data, label_members, node_data, optional_count, port_data, service_data, task_data}

both_false : (a b : Bool) → (a || b) ≡ false → (a ≡ false) × (b ≡ false)
both_false false false e = (refl, refl)
both_false false true e = cc
both_false true b e = cc

at_order : (o : Ordering) (k v l : List ℕ) (d : Data) (ms : Members) → members_have_float (member l d ms) ≡ false → members_have_float (put k (string v) ms) ≡ false
    → members_have_float (match_ordering o (member k (string v) (member l d ms)) (member l (string v) ms) (member l d (put k (string v) ms))) ≡ false
at_order Less k v l d ms none later = none
at_order Equal k v l d ms none later = (both_false (has_float d) (members_have_float ms) none).1
at_order Greater k v l d ms none later = rw ((both_false (has_float d) (members_have_float ms) none).0, later) refl

no_float-put : (k v : List ℕ) (ms : Members) → members_have_float ms ≡ false → members_have_float (put k (string v) ms) ≡ false
no_float-put k v no_members none = refl
no_float-put k v (member l d ms) none = at_order (slice_cmp nat_cmp k l) k v l d ms none (no_float-put k v ms (both_false (has_float d) (members_have_float ms) none).1)

no_float-labels : (labels : List (List ℕ × List ℕ)) → members_have_float (label_members labels) ≡ false
no_float-labels [] = refl
no_float-labels (label ∷ labels) = no_float-put label.0 label.1 (label_members labels) (no_float-labels labels)

pub no_float-optional : (n : Option ℕ) → has_float (optional_count n) ≡ false
no_float-optional None = refl
no_float-optional (Some n) = refl

no_float-ports : (ports : List Port) → items_have_float (items_of (map port_data ports)) ≡ false
no_float-ports [] = refl
no_float-ports (port ∷ ports) = rw (no_float-optional port.number, no_float-ports ports) refl

no_float-addresses : (addresses : List ℕ) → items_have_float (items_of (map address_data addresses)) ≡ false
no_float-addresses [] = refl
no_float-addresses (a ∷ addresses) = no_float-addresses addresses

pub no_float-node : (n : NodeDetail) → has_float (node_data n) ≡ false
no_float-node n = rw (no_float-labels n.labels) refl

pub no_float-service : (s : ServiceDetail) → has_float (service_data s) ≡ false
no_float-service s = rw (no_float-ports s.ports) refl

pub no_float-task : (t : TaskDetail) → has_float (task_data t) ≡ false
no_float-task t = rw (no_float-addresses t.addresses, no_float-optional t.node) refl
