-- The events between two worlds stand by kind and id, each once.
use Rattle.std.proofs.Common.{Bool, List, None, Option, Some, [], ap, arith, cond, false, inl, inr, sym, true, ℕ, ◌+◌, ◌++◌, ◌≤◌, ◌∙◌, ◌∷◌, ◌≡◌}
use Rattle.std.specs.Prelude.{flat_map, map}
use Rattle.swarm_model.proofs.Base.Pairs.{Follow, follow-append, pairs-follow}
use Rattle.swarm_model.proofs.Watching.Changes.{network_events, node_events, service_events, task_events}
use Rattle.swarm_model.specs.Changed.{changes_between, event, events_of, row_events, verb_of}
use Rattle.swarm_model.specs.Content.{same_network, same_node, same_service, same_task}
use Rattle.swarm_model.specs.Events.{ComesBefore, EventOrderLaw, kind_rank}
use Rattle.swarm_objects.proofs.Rising.{rising-rises}
use Rattle.swarm_objects.proofs.RowChanges.{rising_from}
use Rattle.swarm_objects.proofs.RowLemmas.{Has-append_cases, Has-flat_map_cases, Has-map_cases, number_above}
use Rattle.swarm_objects.specs.Rows.{Has, IsRising, itself, network_id, node_id, rising, row_at, service_id, task_id}
use Rattle.swarm_objects.specs.declared.ids.Kind.TheVariants as kind
use Rattle.swarm_objects.specs.declared.ids.Kind.{Kind}
use Rattle.swarm_objects.specs.declared.watches.Event.{Event}
use Rattle.swarm_objects.specs.declared.watches.Verb.TheVariants as verb
use Rattle.swarm_objects.specs.declared.watches.Verb.{Verb}

-- One kind.

-- a row has one event at most
one-follows : {X Y : Type 0} (R : Y → Y → Type 0) (f : Verb → Y) (same : X → X → Bool) (old new : Option X) →
    Follow R (map f (verb_of same old new))
one-follows R f same None None = tt
one-follows R f same None (Some y) = (λ z h. absurd h, tt)
one-follows R f same (Some x) None = (λ z h. absurd h, tt)
one-follows R f same (Some x) (Some y) = go (same x y)
  where
    go : (b : Bool) → Follow R (map f (cond b [] (verb.Updated ∷ [])))
    go true = tt
    go false = (λ z h. absurd h, tt)

row-is : {X : Type 0} (n : ℕ) (k : Kind) (key : X → ℕ) (same : X → X → Bool) (old new : List X) (id : ℕ) (e : Event) →
    Has (row_events n k key same old new id) e → (e.kind ≡ k) × (e.id ≡ id)
row-is n k key same old new id e h =
    let m = Has-map_cases (event n k id) (verb_of same (row_at key id old) (row_at key id new)) e h in
    (ap (λ (z : Event). z.kind) (sym m.2), ap (λ (z : Event). z.id) (sym m.2))

rows-follow : {X : Type 0} (n : ℕ) (k : Kind) (key : X → ℕ) (same : X → X → Bool) (old new : List X) (ids : List ℕ) →
    IsRising itself ids → Follow ComesBefore (flat_map (row_events n k key same old new) ids)
rows-follow n k key same old new [] rises = tt
rows-follow n k key same old new (id ∷ ids) rises =
    follow-append ComesBefore (row_events n k key same old new id) (flat_map (row_events n k key same old new) ids)
    (one-follows ComesBefore (event n k id) same (row_at key id old) (row_at key id new))
    (rows-follow n k key same old new ids (rising_from itself id ids rises)) before
  where
    before : (d e : Event) → Has (row_events n k key same old new id) d →
        Has (flat_map (row_events n k key same old new) ids) e → ComesBefore d e
    before d e h g =
        let first = row-is n k key same old new id d h in
        let r = Has-flat_map_cases (row_events n k key same old new) ids e g in
        let later = row-is n k key same old new r.0 e r.2 in
        let above = number_above itself id ids r.0 rises r.1 in
        inr (first.0 ∙ sym later.0, omega (arith, first.1, later.1, above))

kind-follows : {X : Type 0} (n : ℕ) (k : Kind) (key : X → ℕ) (same : X → X → Bool) (old new : List X) →
    Follow ComesBefore (events_of n k key same old new)
kind-follows n k key same old new =
    rows-follow n k key same old new (rising (map key (old ++ new))) (rising-rises (map key (old ++ new)))

kind-is : {X : Type 0} (n : ℕ) (k : Kind) (key : X → ℕ) (same : X → X → Bool) (old new : List X) (e : Event) →
    Has (events_of n k key same old new) e → kind_rank e.kind ≡ kind_rank k
kind-is n k key same old new e h =
    let r = Has-flat_map_cases (row_events n k key same old new) (rising (map key (old ++ new))) e h in
    ap kind_rank (row-is n k key same old new r.0 e r.2).0

-- All four.

abbrev AreOf : ℕ → List Event → Type 0
AreOf k events = (e : Event) → Has events e → kind_rank e.kind ≡ k

abbrev AreUpTo : ℕ → List Event → Type 0
AreUpTo k events = (e : Event) → Has events e → kind_rank e.kind ≤ k

up-to-append : (k : ℕ) (ds es : List Event) → AreUpTo k ds → AreOf (k + 1) es → AreUpTo (k + 1) (ds ++ es)
up-to-append k ds es up are e h = elim (Has-append_cases ds es e h) [
  | inl d ↦ omega (arith, up e d)
  | inr g ↦ omega (arith, are e g)
]

-- events of the next kind come behind all so far
next-kind : (k : ℕ) (ds es : List Event) → AreUpTo k ds → AreOf (k + 1) es → Follow ComesBefore ds → Follow ComesBefore es →
    Follow ComesBefore (ds ++ es)
next-kind k ds es up are f g = follow-append ComesBefore ds es f g (λ d e h i. inl (omega (arith, up d h, are e i)))

four-follow : (ps qs rs ss : List Event) → AreOf 0 ps → AreOf 1 qs → AreOf 2 rs → AreOf 3 ss → Follow ComesBefore ps →
    Follow ComesBefore qs → Follow ComesBefore rs → Follow ComesBefore ss → Follow ComesBefore (ps ++ qs ++ rs ++ ss)
four-follow ps qs rs ss p q r s f g h i =
    let none : AreUpTo 0 ps = λ e k. omega (arith, p e k) in
    let one : AreUpTo 1 (ps ++ qs) = up-to-append 0 ps qs none q in
    let two : AreUpTo 2 (ps ++ qs ++ rs) = up-to-append 1 (ps ++ qs) rs one r in
    next-kind 2 (ps ++ qs ++ rs) ss two s (next-kind 1 (ps ++ qs) rs one r (next-kind 0 ps qs none q f g) h) i

pub all-in-order : EventOrderLaw
all-in-order n t u =
    pairs-follow ComesBefore (changes_between n t u)
    (four-follow (node_events n t u) (service_events n t u) (task_events n t u) (network_events n t u)
    (kind-is n kind.Node node_id same_node t.nodes u.nodes)
    (kind-is n kind.Service service_id same_service t.services u.services)
    (kind-is n kind.Task task_id same_task t.tasks u.tasks)
    (kind-is n kind.Network network_id same_network t.networks u.networks)
    (kind-follows n kind.Node node_id same_node t.nodes u.nodes)
    (kind-follows n kind.Service service_id same_service t.services u.services)
    (kind-follows n kind.Task task_id same_task t.tasks u.tasks)
    (kind-follows n kind.Network network_id same_network t.networks u.networks))
