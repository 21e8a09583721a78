-- The events between two worlds are exactly the changes of their rows.
use Rattle.std.proofs.Common.{◌≡◌, ◌≢◌, ℕ, Bool, true, false, cond, List, [], ◌∷◌, ◌++◌, refl, ap, sym, ◌∙◌, subst, Option, Some, None, ◌⊎◌, inl, inr}
use Rattle.std.specs.Prelude.{map}
use Rattle.std.specs.Bool.{Decides}
use Rattle.swarm_model.proofs.Watching.Changes.{in_four, network_events, node_events, service_events, task_events}
use Rattle.swarm_model.proofs.Watching.Content.{Decides-same_network, Decides-same_node, Decides-same_service, Decides-same_task}
use Rattle.swarm_model.specs.Changed.{changes_between, event, events_of, row_events, verb_of}
use Rattle.swarm_model.specs.Content.{same_network, same_node, same_service, same_task}
use Rattle.swarm_model.specs.Events.{ChangesLaw, IsChange, IsVerb}
use Rattle.swarm_objects.proofs.Rising.{rising-has}
use Rattle.swarm_objects.proofs.RowLemmas.{Has-append_left, Has-append_right, Has-flat_map, Has-flat_map_cases, Has-from_row_at, Has-map, Has-map_cases}
use Rattle.swarm_objects.specs.Rows.{Has, network_id, node_id, rising, row_at, service_id, task_id}
use Rattle.swarm_objects.specs.World.{Tables}
use Rattle.swarm_objects.specs.declared.ids.Kind.{Kind}
use Rattle.swarm_objects.specs.declared.ids.Kind.TheVariants as kind
use Rattle.swarm_objects.specs.declared.watches.Event.{Event}
use Rattle.swarm_objects.specs.declared.watches.Verb.{Verb}
use Rattle.swarm_objects.specs.declared.watches.Verb.TheVariants as verb

-- One row.

abbrev DecidesRows : {X : Type 0} → (X → ℕ) → (X → X → Bool) → Type 0
DecidesRows {X} key same = (x y : X) → key x ≡ key y → Decides (same x y) (x ≡ y)

-- rows that are there have one key, the one that was asked for
one_key : {X : Type 0} (key : X → ℕ) (id : ℕ) (old new : List X) (x y : X) → row_at key id old ≡ Some x → row_at key id new ≡ Some y →
    key x ≡ key y
one_key key id old new x y e f = (Has-from_row_at key id old x e).1 ∙ sym (Has-from_row_at key id new y f).1

only : {X : Type 0} (P : X → Type 0) (x y : X) → P x → Has (x ∷ []) y → P y
only P x y p (inl e) = subst P e p
only P x y p (inr h) = absurd h

updated-is : {X : Type 0} (b : Bool) (x y : X) (v : Verb) → (x ≡ y → b ≡ true) → Has (cond b [] (verb.Updated ∷ [])) v →
    IsVerb (Some x) (Some y) v
updated-is true x y v decides h = absurd h
updated-is false x y v decides h =
    only (IsVerb (Some x) (Some y)) verb.Updated v (λ e. let no_way : false ≡ true = decides e in absurd cc) h

verb-is : {X : Type 0} (same : X → X → Bool) (old new : Option X) (v : Verb) →
    ((x y : X) → old ≡ Some x → new ≡ Some y → Decides (same x y) (x ≡ y)) → Has (verb_of same old new) v → IsVerb old new v
verb-is same None None v decides h = absurd h
verb-is same None (Some y) v decides h = only (IsVerb None (Some y)) verb.Created v tt h
verb-is same (Some x) None v decides h = only (IsVerb (Some x) None) verb.Deleted v tt h
verb-is same (Some x) (Some y) v decides h = updated-is (same x y) x y v (decides x y refl refl).1 h

updated-has : {X : Type 0} (b : Bool) (x y : X) → (b ≡ true → x ≡ y) → x ≢ y → Has (cond b [] (verb.Updated ∷ [])) verb.Updated
updated-has true x y decides differ = absurd (differ (decides refl))
updated-has false x y decides differ = inl refl

verb-has : {X : Type 0} (same : X → X → Bool) (old new : Option X) (v : Verb) →
    ((x y : X) → old ≡ Some x → new ≡ Some y → Decides (same x y) (x ≡ y)) → IsVerb old new v → Has (verb_of same old new) v
verb-has same None None v decides is = absurd is
verb-has same None (Some y) verb.Created decides is = inl refl
verb-has same None (Some y) verb.Updated decides is = absurd is
verb-has same None (Some y) verb.Deleted decides is = absurd is
verb-has same (Some x) None verb.Created decides is = absurd is
verb-has same (Some x) None verb.Updated decides is = absurd is
verb-has same (Some x) None verb.Deleted decides is = inl refl
verb-has same (Some x) (Some y) verb.Created decides is = absurd is
verb-has same (Some x) (Some y) verb.Updated decides is = updated-has (same x y) x y (decides x y refl refl).0 is
verb-has same (Some x) (Some y) verb.Deleted decides is = absurd is

-- something happened only to a row that was there or is
there : {X : Type 0} (old new : Option X) (v : Verb) → IsVerb old new v →
    ((x : X) × (old ≡ Some x)) ⊎ ((x : X) × (new ≡ Some x))
there None None v is = absurd is
there None (Some y) v is = inr (y, refl)
there (Some x) new v is = inl (x, refl)

-- All rows of a kind.

key-has : {X : Type 0} (key : X → ℕ) (id : ℕ) (rows : List X) (x : X) → row_at key id rows ≡ Some x → Has (map key rows) id
key-has key id rows x e =
    let r = Has-from_row_at key id rows x e in
    subst (Has (map key rows)) r.1 (Has-map key rows x r.0)

keys-append : {X : Type 0} (key : X → ℕ) (old new : List X) (id : ℕ) → Has (map key old) id ⊎ Has (map key new) id →
    Has (map key (old ++ new)) id
keys-append key [] new id (inl h) = absurd h
keys-append key [] new id (inr h) = h
keys-append key (x ∷ old) new id (inl (inl e)) = inl e
keys-append key (x ∷ old) new id (inl (inr h)) = inr (keys-append key old new id (inl h))
keys-append key (x ∷ old) new id (inr h) = inr (keys-append key old new id (inr h))

id-has : {X : Type 0} (key : X → ℕ) (old new : List X) (id : ℕ) (v : Verb) → IsVerb (row_at key id old) (row_at key id new) v →
    Has (rising (map key (old ++ new))) id
id-has key old new id v is =
    rising-has (map key (old ++ new)) id (keys-append key old new id (go (there _ _ v is)))
  where
    go : ((x : _) × (row_at key id old ≡ Some x)) ⊎ ((x : _) × (row_at key id new ≡ Some x)) →
        Has (map key old) id ⊎ Has (map key new) id
    go (inl r) = inl (key-has key id old r.0 r.1)
    go (inr r) = inr (key-has key id new r.0 r.1)

events-has : {X : Type 0} (n : ℕ) (k : Kind) (key : X → ℕ) (same : X → X → Bool) (old new : List X) (id : ℕ) (v : Verb) →
    DecidesRows key same → IsVerb (row_at key id old) (row_at key id new) v → Has (events_of n k key same old new) (event n k id v)
events-has n k key same old new id v decides is =
    Has-flat_map (row_events n k key same old new) (rising (map key (old ++ new))) id (event n k id v)
    (id-has key old new id v is)
    (Has-map (event n k id) (verb_of same (row_at key id old) (row_at key id new)) v
    (verb-has same (row_at key id old) (row_at key id new) v
    (λ x y e f. decides x y (one_key key id old new x y e f)) is))

-- what holds of each change of a row holds of its event
events-are : {X : Type 0} (n : ℕ) (k : Kind) (key : X → ℕ) (same : X → X → Bool) (old new : List X) (e : Event) (P : Event → Type 0) →
    DecidesRows key same → ((id : ℕ) (v : Verb) → IsVerb (row_at key id old) (row_at key id new) v → P (event n k id v)) →
    Has (events_of n k key same old new) e → P e
events-are n k key same old new e P decides each h =
    let r = Has-flat_map_cases (row_events n k key same old new) (rising (map key (old ++ new))) e h in
    let v = Has-map_cases (event n k r.0) (verb_of same (row_at key r.0 old) (row_at key r.0 new)) e r.2 in
    subst P v.2 (each r.0 v.0
    (verb-is same (row_at key r.0 old) (row_at key r.0 new) v.0
    (λ x y f g. decides x y (one_key key r.0 old new x y f g)) v.1))

-- The law.

abbrev Is : ℕ → Tables → Tables → Event → Type 0
Is n t u e = (e.entry ≡ n) × IsChange t u e.kind e.id e.verb

change-is : (n : ℕ) (t u : Tables) (e : Event) → Has (changes_between n t u) e → Is n t u e
change-is n t u e h =
    in_four (Is n t u)
    (node_events n t u) (service_events n t u) (task_events n t u) (network_events n t u) e h
    (events-are n kind.Node node_id same_node t.nodes u.nodes e (Is n t u) Decides-same_node (λ id v is. (refl, is)))
    (events-are n kind.Service service_id same_service t.services u.services e (Is n t u) Decides-same_service (λ id v is. (refl, is)))
    (events-are n kind.Task task_id same_task t.tasks u.tasks e (Is n t u) Decides-same_task (λ id v is. (refl, is)))
    (events-are n kind.Network network_id same_network t.networks u.networks e (Is n t u) Decides-same_network (λ id v is. (refl, is)))

-- an item of one of four lists is one of them all
of_four : {X : Type 0} (ps qs rs ss : List X) (x : X) → Has ps x ⊎ (Has qs x ⊎ (Has rs x ⊎ Has ss x)) → Has (ps ++ qs ++ rs ++ ss) x
of_four ps qs rs ss x (inl h) =
    Has-append_left (ps ++ qs ++ rs) ss x (Has-append_left (ps ++ qs) rs x (Has-append_left ps qs x h))
of_four ps qs rs ss x (inr (inl h)) =
    Has-append_left (ps ++ qs ++ rs) ss x (Has-append_left (ps ++ qs) rs x (Has-append_right ps qs x h))
of_four ps qs rs ss x (inr (inr (inl h))) =
    Has-append_left (ps ++ qs ++ rs) ss x (Has-append_right (ps ++ qs) rs x h)
of_four ps qs rs ss x (inr (inr (inr h))) = Has-append_right (ps ++ qs ++ rs) ss x h

change-has : (n : ℕ) (t u : Tables) (k : Kind) (id : ℕ) (v : Verb) → IsChange t u k id v →
    Has (changes_between n t u) (event n k id v)
change-has n t u kind.Node id v is =
    of_four (node_events n t u) (service_events n t u) (task_events n t u) (network_events n t u) (event n kind.Node id v)
    (inl (events-has n kind.Node node_id same_node t.nodes u.nodes id v Decides-same_node is))
change-has n t u kind.Service id v is =
    of_four (node_events n t u) (service_events n t u) (task_events n t u) (network_events n t u) (event n kind.Service id v)
    (inr (inl (events-has n kind.Service service_id same_service t.services u.services id v Decides-same_service is)))
change-has n t u kind.Task id v is =
    of_four (node_events n t u) (service_events n t u) (task_events n t u) (network_events n t u) (event n kind.Task id v)
    (inr (inr (inl (events-has n kind.Task task_id same_task t.tasks u.tasks id v Decides-same_task is))))
change-has n t u kind.Network id v is =
    of_four (node_events n t u) (service_events n t u) (task_events n t u) (network_events n t u) (event n kind.Network id v)
    (inr (inr (inr (events-has n kind.Network network_id same_network t.networks u.networks id v Decides-same_network is))))
change-has n t u kind.Watcher id v is = absurd is

pub all-changes : ChangesLaw
all-changes n t u e = (
  change-is n t u e,
  λ is.
      subst (Has (changes_between n t u)) (ap (λ m. event m e.kind e.id e.verb) (sym is.0)) (change-has n t u e.kind e.id e.verb is.1),
)
