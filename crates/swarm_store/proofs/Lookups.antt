-- Rows by their keys.
use Rattle.std.proofs.Common.{◌<◌, ◌≤◌, ◌+◌, arith, eqb, ltb, ◌≡◌, ℕ, Bool, true, false, cond, List, [], ◌∷◌, Option, Some, None, refl, subst, sym, ap, ◌∙◌}
use Rattle.std.specs.Borrow.{Bor}
use Rattle.std.specs.Prelude.{◌==◌, ◌&&◌, IfSome, filter, find}
use Rattle.std.proofs.lemmas.Bool.Decides.{nat_tests}
use Rattle.std.specs.Option.{option_eq, option_map}
use Rattle.swarm_index.specs.Keys.{Num, Pair, Text, has_key, same_key}
use Rattle.swarm_model.specs.Calls.Refusals.{network_name, node_name, row_named, service_name}
use Rattle.swarm_index.specs.Rows.{host_key, network_key, node_key, service_key, slot_key, task_key}
use Rattle.swarm_objects.proofs.RowLemmas.{row_at-None_below}
use Rattle.swarm_objects.specs.Rows.{RisesFrom, is_some_and, network_id, node_id, row_above, row_at, rows_named, service_id, task_id}
use Rattle.swarm_objects.specs.declared.networks.Network.{Network}
use Rattle.swarm_objects.specs.declared.nodes.Node.{Node}
use Rattle.swarm_objects.specs.declared.services.Service.{Service}
use Rattle.swarm_objects.specs.Same.{same_number, same_place}
use Rattle.swarm_objects.specs.Tasks.Words.{is_at, is_of, is_on}
use Rattle.swarm_objects.specs.declared.tasks.Place.{Place}
use Rattle.swarm_objects.specs.declared.tasks.Place.TheVariants.{Slot, On}
use Rattle.swarm_objects.specs.declared.tasks.Task.{Task}

pub filter-same : {X : Type 0} (p q : X → Bool) (xs : List X) → ((x : X) → p x ≡ q x) → filter p xs ≡ filter q xs
filter-same p q [] same = refl
filter-same p q (x ∷ xs) same =
    ap (λ b. cond b (x ∷ filter p xs) (filter p xs)) (same x) ∙ ap (λ ys. cond (q x) (x ∷ ys) ys) (filter-same p q xs same)

pub of_service : (service : ℕ) (tasks : List Task) → filter (has_key task_key 0 (Num service)) tasks ≡ filter (is_of service) tasks
of_service service tasks = filter-same _ _ tasks (λ (t : Task). refl)

nowhere : (b : Bool) → false ≡ (b && false)
nowhere true = refl
nowhere false = refl

pub same-slot : (service slot : ℕ) (t : Task) → has_key task_key 2 (Pair service slot) t ≡ is_at service (Slot slot) t
same-slot service slot t = go t.place
  where
    go : (place : Place) → is_some_and (λ k. same_key k (Pair service slot)) (slot_key t.service place) ≡
        (t.service == service && same_place place (Slot slot))
    go (Slot n) = refl
    go (On n) = nowhere (t.service == service)

pub same-host : (service node : ℕ) (t : Task) → has_key task_key 3 (Pair service node) t ≡ is_at service (On node) t
same-host service node t = go t.place
  where
    go : (place : Place) → is_some_and (λ k. same_key k (Pair service node)) (host_key t.service place) ≡
        (t.service == service && same_place place (On node))
    go (Slot n) = nowhere (t.service == service)
    go (On n) = refl

pub at_slot : (service slot : ℕ) (tasks : List Task) →
    filter (has_key task_key 2 (Pair service slot)) tasks ≡ filter (is_at service (Slot slot)) tasks
at_slot service slot tasks = filter-same _ _ tasks (same-slot service slot)

pub at_host : (service node : ℕ) (tasks : List Task) →
    filter (has_key task_key 3 (Pair service node)) tasks ≡ filter (is_at service (On node)) tasks
at_host service node tasks = filter-same _ _ tasks (same-host service node)

pub same-node : (node : ℕ) (given : Option ℕ) → is_some_and (λ k. same_key k (Num node)) (option_map Num given) ≡
    option_eq same_number given (Some node)
same-node node None = refl
same-node node (Some n) = refl

pub ruleset same_keys = (same-slot, same-host, same-node)

pub on_node : (node : ℕ) (tasks : List Task) → filter (has_key task_key 1 (Num node)) tasks ≡ filter (is_on node) tasks
on_node node tasks = filter-same _ _ tasks (λ (t : Task). same-node node t.node)

-- what ids name of rows with a property is so of those with one that is the same
named_alike : (p q : Task → Bool) (ids : List ℕ) (tasks : List Task) → ((x : Task) → p x ≡ q x) →
    filter p (rows_named task_id ids tasks) ≡ filter p tasks → filter q (rows_named task_id ids tasks) ≡ filter q tasks
named_alike p q ids tasks same e =
    sym (filter-same p q (rows_named task_id ids tasks) same) ∙ e ∙ filter-same p q tasks same

pub ids_alike : (p q : Task → Bool) (tasks : List Task) (ids : Option (Bor (List ℕ))) → ((x : Task) → p x ≡ q x) →
    IfSome ids (λ given. filter p (rows_named task_id given.now tasks) ≡ filter p tasks) →
    IfSome ids (λ given. filter q (rows_named task_id given.now tasks) ≡ filter q tasks)
ids_alike p q tasks None same e = tt
ids_alike p q tasks (Some given) same e = named_alike p q given.now tasks same e

-- The row with the next number.

behind-missed : {X : Type 0} (key : X → ℕ) (after : ℕ) (y x : X) (rows : List X) (found : Option X) → RisesFrom key (key y) rows →
    eqb (key y) (after + 1) ≡ false → row_at key (after + 1) rows ≡ Some x → found ≡ Some x → (b : Bool) →
    ltb after (key y) ≡ b → cond b (Some y) found ≡ Some x
behind-missed key after y x rows found r other at is false lt = is
behind-missed key after y x rows found r other at is true lt =
    let le : after + 1 ≤ key y = grind (arith, nat_tests, lt) in
    let none = row_at-None_below key (key y) (after + 1) rows r le in cc

-- the row with the next number is the one with the least id behind, of all with a property that it has
pub behind_is_least : {X : Type 0} (key : X → ℕ) (n after : ℕ) (rows : List X) (x : X) → RisesFrom key n rows →
    row_at key (after + 1) rows ≡ Some x → (p : X → Bool) → p x ≡ true → row_above key after (filter p rows) ≡ Some x
behind_is_least key n after [] x r at p t = cc
behind_is_least key n after (y ∷ rows) x r at p t =
    go (eqb (key y) (after + 1)) refl (p y) refl (λ later. behind_is_least key (key y) after rows x r.1 later p t) at
  where
    go : (same : Bool) → eqb (key y) (after + 1) ≡ same → (yes : Bool) → p y ≡ yes →
        (row_at key (after + 1) rows ≡ Some x → row_above key after (filter p rows) ≡ Some x) →
        cond same (Some y) (row_at key (after + 1) rows) ≡ Some x →
        row_above key after (cond yes (y ∷ filter p rows) (filter p rows)) ≡ Some x
    go true is true py below e = let lt : ltb after (key y) ≡ true = grind (arith, nat_tests, is) in rw lt e
    go true is false py below e = let same : y ≡ x = cc in cc
    go false is false py below e = below e
    go false is true py below e = behind-missed key after y x rows _ r.1 is e (below e) (ltb after (key y)) refl

keeps-all : {X : Type 0} (rows : List X) → filter (λ _. true) rows ≡ rows
keeps-all [] = refl
keeps-all (x ∷ rows) = ap (λ l. x ∷ l) (keeps-all rows)

pub behind_is_next : {X : Type 0} (key : X → ℕ) (n after : ℕ) (rows : List X) (x : X) → RisesFrom key n rows →
    row_at key (after + 1) rows ≡ Some x → row_above key after rows ≡ Some x
behind_is_next key n after rows x r at =
    subst (λ l. row_above key after l ≡ Some x) (keeps-all rows) (behind_is_least key n after rows x r at (λ _. true) refl)

-- Rows by name.

above-nothing : {X : Type 0} (key : X → ℕ) (n : ℕ) (p : X → Bool) (rows : List X) → RisesFrom key n rows →
    row_above key 0 (filter p rows) ≡ find p rows
above-nothing key n p [] r = refl
above-nothing key n p (x ∷ rows) r = go (p x) (above-nothing key (key x) p rows r.1)
  where
    go : (b : Bool) → row_above key 0 (filter p rows) ≡ find p rows →
        row_above key 0 (cond b (x ∷ filter p rows) (filter p rows)) ≡ cond b (Some x) (find p rows)
    go true below =
        let lt : n < key x = r.0 in
        let above : ltb 0 (key x) ≡ true = grind (arith, nat_tests, lt) in
        ap (λ b. cond b (Some x) (row_above key 0 (filter p rows))) above
    go false below = below

pub named_node : (name : List ℕ) (nodes : List Node) → RisesFrom node_id 0 nodes →
    row_above node_id 0 (filter (has_key node_key 0 (Text name)) nodes) ≡ row_named node_name name nodes
named_node name nodes r = above-nothing node_id 0 _ nodes r

pub named_service : (name : List ℕ) (services : List Service) → RisesFrom service_id 0 services →
    row_above service_id 0 (filter (has_key service_key 0 (Text name)) services) ≡ row_named service_name name services
named_service name services r = above-nothing service_id 0 _ services r

pub named_network : (name : List ℕ) (networks : List Network) → RisesFrom network_id 0 networks →
    row_above network_id 0 (filter (has_key network_key 0 (Text name)) networks) ≡ row_named network_name name networks
named_network name networks r = above-nothing network_id 0 _ networks r
