-- The changes between two worlds.
use Rattle.std.proofs.Common.{◌≡◌, ℕ, Bool, true, cond, List, [], ◌∷◌, ◌++◌, refl, ap, sym, ◌∙◌, Option, Some, None, ◌⊎◌, inl, inr}
use Rattle.std.specs.Prelude.{flat_map, map}
use Rattle.swarm_model.proofs.Watching.Content.{network-itself, node-itself, service-itself, task-itself}
use Rattle.swarm_model.specs.Changed.{changes_between, event, events_of, row_events, verb_of}
use Rattle.swarm_model.specs.Content.{same_network, same_node, same_service, same_task}
use Rattle.swarm_objects.proofs.RowLemmas.{Has-append_cases, Has-flat_map_cases, Has-map_cases}
use Rattle.swarm_objects.specs.Rows.{Has, network_id, node_id, rising, row_at, service_id, task_id}
use Rattle.swarm_objects.specs.World.{Tables}
use Rattle.swarm_objects.specs.declared.ids.Kind.{Kind}
use Rattle.swarm_objects.specs.declared.ids.Kind.TheVariants as kind
use Rattle.swarm_objects.specs.declared.watches.Event.{Event}
use Rattle.swarm_objects.specs.declared.watches.Verb.TheVariants as verb

-- The events of each kind.

abbrev pub node_events : ℕ → Tables → Tables → List Event
node_events n t u = events_of n kind.Node node_id same_node t.nodes u.nodes

abbrev pub service_events : ℕ → Tables → Tables → List Event
service_events n t u = events_of n kind.Service service_id same_service t.services u.services

abbrev pub task_events : ℕ → Tables → Tables → List Event
task_events n t u = events_of n kind.Task task_id same_task t.tasks u.tasks

abbrev pub network_events : ℕ → Tables → Tables → List Event
network_events n t u = events_of n kind.Network network_id same_network t.networks u.networks

-- They are of the entry with that number.

events-at : {X : Type 0} (n : ℕ) (k : Kind) (key : X → ℕ) (same : X → X → Bool) (old new : List X) (e : Event) →
    Has (events_of n k key same old new) e → e.entry ≡ n
events-at n k key same old new e h =
    let r = Has-flat_map_cases (row_events n k key same old new) (rising (map key (old ++ new))) e h in
    let v = Has-map_cases (event n k r.0) (verb_of same (row_at key r.0 old) (row_at key r.0 new)) e r.2 in
    ap (λ (z : Event). z.entry) (sym v.2)

-- what holds of each of four lists holds of all of them
pub in_four : {X : Type 0} (P : X → Type 0) (ps qs rs ss : List X) (x : X) → Has (ps ++ qs ++ rs ++ ss) x → (Has ps x → P x) →
    (Has qs x → P x) → (Has rs x → P x) → (Has ss x → P x) → P x
in_four P ps qs rs ss x h a b c d = last (Has-append_cases (ps ++ qs ++ rs) ss x h)
  where
    second : Has ps x ⊎ Has qs x → P x
    second (inl k) = a k
    second (inr k) = b k

    third : Has (ps ++ qs) x ⊎ Has rs x → P x
    third (inl k) = second (Has-append_cases ps qs x k)
    third (inr k) = c k

    last : Has (ps ++ qs ++ rs) x ⊎ Has ss x → P x
    last (inl k) = third (Has-append_cases (ps ++ qs) rs x k)
    last (inr k) = d k

pub changes-at : (n : ℕ) (t u : Tables) (e : Event) → Has (changes_between n t u) e → e.entry ≡ n
changes-at n t u e h =
    in_four (λ (z : Event). z.entry ≡ n)
    (node_events n t u) (service_events n t u) (task_events n t u) (network_events n t u) e h
    (events-at n kind.Node node_id same_node t.nodes u.nodes e)
    (events-at n kind.Service service_id same_service t.services u.services e)
    (events-at n kind.Task task_id same_task t.tasks u.tasks e)
    (events-at n kind.Network network_id same_network t.networks u.networks e)

-- Where nothing was done there are none.

verb-none : {X : Type 0} (same : X → X → Bool) → ((x : X) → same x x ≡ true) → (row : Option X) → verb_of same row row ≡ []
verb-none same itself None = refl
verb-none same itself (Some x) = ap (λ b. cond b [] (verb.Updated ∷ [])) (itself x)

flat_map-none : {X Y : Type 0} (f : X → List Y) (xs : List X) → ((x : X) → f x ≡ []) → flat_map f xs ≡ []
flat_map-none f [] none = refl
flat_map-none f (x ∷ xs) none = ap (λ ys. ys ++ flat_map f xs) (none x) ∙ flat_map-none f xs none

events-none : {X : Type 0} (n : ℕ) (k : Kind) (key : X → ℕ) (same : X → X → Bool) → ((x : X) → same x x ≡ true) → (rows : List X) →
    events_of n k key same rows rows ≡ []
events-none n k key same itself rows =
    flat_map-none (row_events n k key same rows rows) (rising (map key (rows ++ rows)))
    (λ id. ap (map (event n k id)) (verb-none same itself (row_at key id rows)))

-- four lists with nothing in them
four-none : {X : Type 0} (ps qs rs ss : List X) → ps ≡ [] → qs ≡ [] → rs ≡ [] → ss ≡ [] → ps ++ qs ++ rs ++ ss ≡ []
four-none ps qs rs ss a b c d = rw (a, b, c, d) refl

pub changes-none : (n : ℕ) (t : Tables) → changes_between n t t ≡ []
changes-none n t =
    four-none (node_events n t t) (service_events n t t) (task_events n t t) (network_events n t t)
    (events-none n kind.Node node_id same_node node-itself t.nodes)
    (events-none n kind.Service service_id same_service service-itself t.services)
    (events-none n kind.Task task_id same_task task-itself t.tasks)
    (events-none n kind.Network network_id same_network network-itself t.networks)
